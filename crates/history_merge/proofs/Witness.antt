-- Such a catalogue, and such opens, can be: those of a run of the world.
use Rattle.history_merge.proofs.Words.{◌≡◌, ℕ, zero, suc, ◌+◌, ◌<◌, List, [], ◌∷◌, ◌++◌, take, get_or, Some, Ok, refl, sym, ap, ◌∙◌, subst, arith, append-nil, append_assoc, slice_get, All, All-from_recursion, Fate, GenerationState, ArePublishable, CatalogueState, IsHistory, IsEntered, entry_after, trees_of, Entry, ReaderView, OpenEntry, Drawing, state_of, drawings_of, AreAnswered, AMergeIsReady, AreNumbers, AreParts}
use Rattle.ts_packet.specs.declared.Fate.TheVariants.{Keep, Lose, Flip}
use Rattle.ddb_block.specs.Message.{message_at}
use Rattle.ddb_block.specs.Blocks.{block_at}
use Rattle.oc_bytes.specs.Cursor.{each_at, sized_at}
use Rattle.oc_bytes.specs.Grammar.{read}
use Rattle.dsi_dii.specs.Controls.{dii_at, dsi_at}
use Rattle.biop_object.specs.ObjectReading.{object_at}
use Rattle.path_resolver.specs.declared.answer.Answer.TheVariants as answers
use Rattle.module_packer.specs.Kept as placement
use Rattle.cycle_planner.specs.Cycle as cycles
use Rattle.cycle_planner.specs.declared.Item.TheVariants.{Dsi, Dii, Block}
use Rattle.generation_catalogue.specs.declared.entry.Entry.TheVariants as entries
use Rattle.cycle_planner.proofs.CallerLemmas.{are_ones}
use Rattle.carousel_world.specs.Runs.{ones, RunIsPremised, the_path, puts}
use Rattle.carousel_world.proofs.CallerLemmas.{generation_with}

abbrev those : List Entry
those = entries.Commit 0 (puts (1 ∷ 2 ∷ 3 ∷ [])) (Ok 1) ∷ entries.Draw 1048576 1 0 3 ∷ entries.Commit 1 (puts (4 ∷ 5 ∷ 6 ∷ [])) (Ok 2)
    ∷ entries.Draw 1048576 2 0 3 ∷ entries.Draw 1048576 2 0 3 ∷ []

abbrev kept : CatalogueState
kept = state_of 1 ones those

abbrev all_fates : List (List Fate)
all_fates = (Flip 800 ∷ Keep ∷ Lose ∷ []) ∷ (Keep ∷ Flip 800 ∷ Keep ∷ []) ∷ [] ∷ []

abbrev first_opens : List OpenEntry
first_opens = record { shot = 1; draws = 1; label = Some 1; path = the_path; answer = answers.NoCarousel }
    ∷ record { shot = 2; draws = 2; label = Some 2; path = the_path; answer = answers.NotYet 1 } ∷ []

abbrev second_opens : List OpenEntry
second_opens = record { shot = 3; draws = 3; label = Some 2; path = the_path; answer = answers.File (4 ∷ 5 ∷ 6 ∷ []) } ∷ []

-- a reader with these opens; of its view a merge reads no more than these and its number
abbrev reader_with : ℕ → List OpenEntry → ReaderView
reader_with reader opens = record {
  reader = reader;
  room = 2;
  board = record { number = 0; log_name = 0; cells_name = 0 };
  most = 3;
  known = [];
  told = [];
  opens = opens;
  cached = 0;
}

abbrev readers : List ReaderView
readers = reader_with 1 first_opens ∷ reader_with 2 second_opens ∷ []

-- each entry is what the rules give after those before it
abbrev AreGiven : (before es : List Entry) → Type 0
AreGiven before [] = Unit {0}
AreGiven before (e ∷ es) = (e ≡ entry_after (state_of 1 ones before) e) × AreGiven (before ++ e ∷ []) es

given : AreGiven [] those
unfolding placement.kept_modules placement.least_with cycles.groups_from
given = (refl, (refl, (refl, (refl, (refl, tt)))))

each_given : (before es : List Entry) → AreGiven before es → (k : ℕ) (e : Entry) → slice_get es k ≡ Some e → e ≡ entry_after (state_of 1 ones (before ++ take k es)) e
each_given before [] h k e at = absurd (cc)
each_given before (x ∷ xs) h zero e at = let same : x ≡ e = cc in
    subst (λ y. y ≡ entry_after (state_of 1 ones (before ++ [])) y) same (h.0 ∙ ap (λ l. entry_after (state_of 1 ones l) x) (sym (append-nil before)))
each_given before (x ∷ xs) h (suc k) e at = each_given (before ++ x ∷ []) xs h.1 k e at ∙ ap (λ l. entry_after (state_of 1 ones l) e) (append_assoc before (x ∷ []) (take k xs))

entered : All IsEntered those
entered = All-from_recursion IsEntered those (refl, ((omega arith, omega arith), (refl, ((omega arith, omega arith), ((omega arith, omega arith), tt)))))

history : ArePublishable 1 (trees_of kept) → IsHistory kept
history published = record { weights = are_ones; entered = entered; each = each_given [] those given; draws = omega arith; published = published }

abbrev numbers : List ℕ
numbers = 1 ∷ 2 ∷ []

number_at : (i : ℕ) → i < 2 → get_or numbers i 0 ≡ i + 1
number_at zero h = refl
number_at (suc zero) h = refl
number_at (suc (suc i)) h = absurd (omega arith)

are_numbers : AreNumbers numbers
are_numbers = record {
  some = λ i h. (let e = number_at i h in omega arith);
  most = λ i h. (let e = number_at i h in omega arith);
  apart = λ i j h k same. (let e = number_at i h in let f = number_at j k in omega arith);
}

parts : AreParts those all_fates numbers readers
parts = record {
  drawn = refl;
  placed = (omega arith, (tt, (omega arith, (tt, (tt, tt)))));
  in_order = (
    record { some = omega arith; most = omega arith; rising = (omega arith, omega arith, (omega arith, omega arith, tt)) },
    (record { some = omega arith; most = omega arith; rising = (omega arith, omega arith, tt) }, tt),
  );
  apart = ((λ e. absurd (omega arith), tt), (tt, tt));
}

-- the draws, with their generations written out
abbrev cycle_drawn : GenerationState → List Fate → Drawing
cycle_drawn g fates = record { generation = g; items = Dsi ∷ Dii 1 ∷ Block 1 0 ∷ []; fates = fates }

abbrev drawn : List Drawing
drawn = cycle_drawn (generation_with 1 (1 ∷ 2 ∷ 3 ∷ []) 1) (Flip 800 ∷ Keep ∷ Lose ∷ [])
    ∷ cycle_drawn (generation_with 2 (4 ∷ 5 ∷ 6 ∷ []) 2) (Keep ∷ Flip 800 ∷ Keep ∷ []) ∷ cycle_drawn (generation_with 2 (4 ∷ 5 ∷ 6 ∷ []) 2) [] ∷ []

drawn_is : drawn ≡ drawings_of kept all_fates
unfolding placement.kept_modules placement.least_with cycles.groups_from
drawn_is = refl

answered : AreAnswered drawn readers
unfolding read message_at block_at each_at dii_at dsi_at object_at sized_at
answered = (((refl, refl), ((refl, refl), tt)), (((refl, refl), tt), tt))

pub ready : RunIsPremised → AMergeIsReady
ready run = (
  kept,
  numbers,
  all_fates,
  readers,
  record {
    history = history run.published;
    parts = parts;
    numbers = are_numbers;
    answered = subst (λ ds. AreAnswered ds readers) drawn_is answered;
  },
  refl,
)
