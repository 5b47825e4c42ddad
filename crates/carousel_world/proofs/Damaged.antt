-- A reception with a loss, a repeat and damage that meets the premises.
use Rattle.std.proofs.Common.{◌≡◌, ℕ, zero, suc, ◌<◌, true, false, List, [], ◌∷◌, take, Some, refl, ap, sym, ◌∙◌, subst, slice_get, slice_index_or, IsTrue, arith, lit<, lit≤}
use Rattle.std.specs.List.{Contains}
use Rattle.std.specs.Option.{unwrap_or}
use Rattle.std.proofs.lemmas.Option.{same_Some}
use Rattle.std.proofs.lemmas.List.Elements.{All-nil, All-cons}
use Rattle.path_tree.specs.Paths.{Bytes}
use Rattle.path_tree.specs.Trees.{Tree}
use Rattle.biop_object.specs.Names.{module_in}
use Rattle.cycle_planner.specs.Cycle.{groups_from}
use Rattle.cycle_planner.specs.declared.Item.{Item}
use Rattle.cycle_planner.specs.declared.Item.TheVariants.{Dsi, Dii, Block}
use Rattle.ddb_block.specs.Message.{message_at}
use Rattle.ddb_block.specs.Blocks.{block_at}
use Rattle.oc_bytes.specs.Cursor.{each_at, sized_at}
use Rattle.oc_bytes.specs.Grammar.{read}
use Rattle.dsi_dii.specs.Controls.{dii_at, dsi_at}
use Rattle.biop_object.specs.ObjectReading.{object_at}
use Rattle.generation.specs.Kept.{LayoutsAreLawful}
use Rattle.generation.specs.Lawful.{ArePublishable, IsPublishable, layout_at, section_in}
use Rattle.path_resolver.specs.declared.answer.Answer.TheVariants as answers
use Rattle.section_stream.specs.Cuts.{candidates}
use Rattle.tuner_core.specs.Heard.{is_accepted}
use Rattle.carousel_world.specs.Broadcasts.{Broadcast, IsAscribed}
use Rattle.carousel_world.specs.Premises.{AcceptedAreSent, IsWhole}
use Rattle.carousel_world.specs.Instances.{tree_of, cycles_with, Reception, damaged_of, changed_file, IsPremised, Tells, DamageIsPremised}
use Rattle.carousel_world.proofs.Instances.{first_content, second_content, first_publishable, second_publishable}
use Rattle.carousel_world.proofs.Premised.{cycles_given, never_back_by, heard_by, its_blocks, one_round}
use Rattle.carousel_world.proofs.Laid.{laid, changed_laid}

abbrev pub trees : List Tree
trees = tree_of first_content ∷ tree_of second_content ∷ []

abbrev pub generations : List ℕ
generations = 1 ∷ 2 ∷ 2 ∷ []

-- what is sent, with the layouts and the items of a cycle written out
abbrev pub given : Broadcast
given = cycles_given (laid first_content second_content) trees generations (Dsi ∷ Dii 1 ∷ Block 1 0 ∷ [])

are_cycles : cycles_with (laid first_content second_content) trees generations ≡ given
unfolding groups_from
are_cycles = refl

same : given ≡ changed_file
same = sym are_cycles ∙ ap (λ ls. cycles_with ls trees generations) (sym changed_laid)

abbrev pub received : Reception
received = damaged_of given

abbrev pub section : ℕ → Item → Bytes
section g item = section_in 1 given.layouts g item

abbrev pub all : List Bytes
all = candidates 256 received.packets

-- ---- each accepted candidate was sent

abbrev pub From : ℕ → ℕ → Type 0
From i k = IsAscribed given 256 received.packets (slice_get received.numbers) i k

first_fails : is_accepted (slice_index_or all 0 []) ≡ false
first_fails = refl

of_first_dii : From 1 1
of_first_dii = record { cut = record { packet = 0; offset = 120; bytes = section 1 (Dii 1) }; is = refl; packet = 0; came = refl; begins = refl }

of_dsi : From 2 3
of_dsi = record { cut = record { packet = 3; offset = 5; bytes = section 2 Dsi }; is = refl; packet = 3; came = refl; begins = refl }

of_dii : From 3 4
of_dii = record { cut = record { packet = 3; offset = 120; bytes = section 2 (Dii 1) }; is = refl; packet = 3; came = refl; begins = refl }

of_last_dsi : From 5 6
of_last_dsi = record { cut = record { packet = 6; offset = 5; bytes = section 2 Dsi }; is = refl; packet = 6; came = refl; begins = refl }

of_last_dii : From 6 7
of_last_dii = record { cut = record { packet = 6; offset = 120; bytes = section 2 (Dii 1) }; is = refl; packet = 6; came = refl; begins = refl }

of_block : From 7 8
of_block = record { cut = record { packet = 7; offset = 12; bytes = section 2 (Block 1 0) }; is = refl; packet = 7; came = refl; begins = refl }

fails : is_accepted (slice_index_or all 4 []) ≡ false
fails = refl

refused : (i : ℕ) (bytes : Bytes) → is_accepted (slice_index_or all i []) ≡ false → slice_index_or all i [] ≡ bytes → IsTrue (is_accepted bytes) → ⊥
refused i bytes none is accepted = let bad : false ≡ true = subst IsTrue none (subst (λ y. IsTrue (is_accepted y)) (sym is) accepted) in cc

accepted_are_sent : AcceptedAreSent given all From
accepted_are_sent zero bytes e accepted = absurd (refused 0 bytes first_fails (same_Some (slice_index_or all 0 []) bytes e) accepted)
accepted_are_sent (suc zero) bytes e accepted = (1, of_first_dii, e)
accepted_are_sent (suc (suc zero)) bytes e accepted = (3, of_dsi, e)
accepted_are_sent (suc (suc (suc zero))) bytes e accepted = (4, of_dii, e)
accepted_are_sent (suc (suc (suc (suc zero)))) bytes e accepted = absurd (refused 4 bytes fails (same_Some (slice_index_or all 4 []) bytes e) accepted)
accepted_are_sent (suc (suc (suc (suc (suc zero))))) bytes e accepted = (6, of_last_dsi, e)
accepted_are_sent (suc (suc (suc (suc (suc (suc zero)))))) bytes e accepted = (7, of_last_dii, e)
accepted_are_sent (suc (suc (suc (suc (suc (suc (suc zero))))))) bytes e accepted = (8, of_block, e)
accepted_are_sent (suc (suc (suc (suc (suc (suc (suc (suc i)))))))) bytes e accepted = cc

-- ---- a whole cycle

abbrev module_bytes : Bytes
module_bytes = unwrap_or (module_in (layout_at given.layouts 2) 1) []

the_block : (b : ℕ) → b < 1 → Contains (section 2 (Block 1 0) ∷ []) (section 2 (Block 1 b))
the_block zero lt = (0, lit< tt, refl)
the_block (suc b) lt = absurd (omega (arith, lt))

whole : IsWhole 1 given.layouts 2 all
whole = record {
  generation = lit< tt;
  gateway = (2, lit< tt, refl);
  rounds = one_round 1 given.layouts 2 all module_bytes refl (record {
    before = take 6 all;
    after = section 2 (Block 1 0) ∷ [];
    place = refl;
    blocks = λ m b own item. its_blocks given.layouts 2 module_bytes (section 2 (Block 1 0) ∷ []) 1 1 refl refl the_block m b item;
  });
  no_later = λ h j above below own has. let few : h < 3 = below in absurd (omega (arith, above, few));
}

both : ArePublishable 1 (tree_of first_content ∷ tree_of second_content ∷ [])
both = record {
  carousel_id = lit< tt;
  few = lit≤ tt;
  each = All-cons IsPublishable (tree_of first_content) (tree_of second_content ∷ []) first_publishable
      (All-cons IsPublishable (tree_of second_content) [] second_publishable (All-nil IsPublishable));
}

premised : LayoutsAreLawful → IsPremised received 2
premised lawful = record {
  never_back = never_back_by received.numbers refl;
  heard = heard_by lawful (laid first_content second_content) trees generations given all From changed_laid both refl are_cycles refl refl accepted_are_sent;
  whole = whole;
}

-- ---- what is answered

before : Tells received 3 (Some 1) answers.NoCarousel
unfolding read message_at block_at each_at dii_at dsi_at object_at sized_at
before = record { label_is = refl; answer_is = refl }

between : Tells received 6 (Some 2) (answers.NotYet 1)
unfolding read message_at block_at each_at dii_at dsi_at object_at sized_at
between = record { label_is = refl; answer_is = refl }

after : Tells received 9 (Some 2) (answers.File second_content)
unfolding read message_at block_at each_at dii_at dsi_at object_at sized_at
after = record { label_is = refl; answer_is = refl }

pub damage : LayoutsAreLawful → DamageIsPremised
damage lawful = record {
  premised = subst (λ b. IsPremised (damaged_of b) 2) same (premised lawful);
  before = subst (λ b. Tells (damaged_of b) 3 (Some 1) answers.NoCarousel) same before;
  damaged_block = subst (λ b. Tells (damaged_of b) 6 (Some 2) (answers.NotYet 1)) same between;
  after = subst (λ b. Tells (damaged_of b) 9 (Some 2) (answers.File second_content)) same after;
}
