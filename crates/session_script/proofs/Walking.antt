-- The lines of a text, read one after another.
use Rattle.session_script.proofs.Imports.{◌≡◌, ℕ, ◌+◌, ◌<◌, ◌≤◌, Bool, true, false, List, [], ◌∷◌, ◌++◌, length, get_or, take, drop, Option, Some, None, Result, Ok, Err, ap, arith, ◌∙◌, sym, Bor, YieldsList-at, YieldsList-turn, YieldsList-end, take_more, drop_more, take_all, take-append-drop, Gives, Bytes, Reading, LineCause, Parts, cause, script_of_parts, Saying, Passed, Starts, Does, Ends, part_of, line_by, is_feed, lines_in, or_bad_line, sayings, script_of, meaning_of, ◌>>=◌, is_kept, line_asks, AsksForMemory, StandsFor, script_read, SaysSomething, Reads, Suits, as_before, script_after, subst, length-map, ◌||◌, ◌&&◌, cond, eqb, Keyword, Part, Order, keyword_of, said_by, may_stand, in_order, in_words, words_in, has_path, reaches_path, asks_in_order, asks_in_words, append-nil, append_assoc}
use Rattle.std.specs.Slice.Iter as slice
use Rattle.std.specs.Fn.{CalledAt}
use Rattle.std.specs.Iterator.{Yields}
use denote.Param.Members.{Mut}
use Rattle.std.proofs.lemmas.Iterator.Splits.{YieldsList-from_slice_split}
use Rattle.session_script.specs.declared.script.ScriptFault.{ScriptFault}
use Rattle.session_script.specs.declared.script.ScriptFault.TheVariants as faults
use Rattle.session_script.proofs.Growing.{grown}

-- ---- a line that fits and does something asks for memory

kept_by : (r : Result Saying LineCause) (other : Bool) → is_kept r ≡ true → (is_kept r || other) ≡ true
kept_by r other h = ap (λ b. b || other) h

in_part : (b : Bool) (r : Result Saying LineCause) (other : Bool) → is_kept (cond b r (Err Order)) ≡ true → cond b (is_kept r || other) false ≡ true
in_part true r other h = kept_by r other h
in_part false r other h = h

order_kept : (part : Part) (words : List Bytes) (o : Option Keyword) → is_kept (in_order part words o) ≡ true → asks_in_order part words o ≡ true
order_kept part words None h = h
order_kept part words (Some keyword) h = in_part (may_stand part keyword) (said_by keyword words) (has_path keyword && reaches_path words) h

words_kept : (part : Part) (words : List Bytes) → is_kept (in_words part words) ≡ true → asks_in_words part words ≡ true
words_kept part [] h = h
words_kept part (word ∷ words) h = order_kept part words (keyword_of word) h

line_kept : (part : Part) (b : Bool) (words : List Bytes) → is_kept (cond b (Ok Passed) (in_words part words)) ≡ true → cond b false (asks_in_words part words) ≡ true
line_kept part true words h = h
line_kept part false words h = words_kept part words h

pub kept_asks : (part : Part) (line : Bytes) → is_kept (line_by part line) ≡ true → line_asks part line ≡ true
kept_asks part [] h = h
kept_asks part (c ∷ cs) h = line_kept part (eqb c 35) (words_in (c ∷ cs)) h

-- ---- what is known once n lines were read

pub record Walked (text : Bytes) (n : ℕ) (r : Reading) : Type 0 where
  pub said : List Saying
  pub fits : (below : List Bytes) → sayings [] (take n (lines_in text) ++ below) ≡ sayings said below
  pub stands : StandsFor r said
  pub asked : SaysSomething (script_of said) → AsksForMemory text

-- the next line of a text is this one
pub record IsNext (text : Bytes) (n : ℕ) (line : Bytes) : Type 0 where
  pub within : n < length (lines_in text)
  pub at : line ≡ get_or (lines_in text) n line

module _ (text : Bytes) (n : ℕ) (r : Reading) (line : Bytes) (w : Walked text n r) (next : IsNext text n line) where
  line_take : take (n + 1) (lines_in text) ≡ take n (lines_in text) ++ line ∷ []
  line_take = take_more (lines_in text) n line next.within ∙ ap (λ x. take n (lines_in text) ++ x ∷ []) (sym next.at)

  cut_at_line : lines_in text ≡ take n (lines_in text) ++ line ∷ drop (n + 1) (lines_in text)
  cut_at_line = sym (take-append-drop n (lines_in text)) ∙ ap (λ xs. take n (lines_in text) ++ xs)
      (drop_more (lines_in text) n line next.within ∙ ap (λ x. x ∷ drop (n + 1) (lines_in text)) (sym next.at))

  pub asks_here : line_asks (part_of w.said) line ≡ true → AsksForMemory text
  asks_here h = record {
    above = take n (lines_in text);
    line = line;
    below = drop (n + 1) (lines_in text);
    cut = cut_at_line;
    said = w.said;
    fits = ap (sayings []) (sym (append-nil (take n (lines_in text)))) ∙ w.fits [];
    asks = h;
  }

  -- a line that does something asks for memory
  asked_more : (s : Saying) → line_by (part_of w.said) line ≡ Ok s → Suits (part_of w.said) s → SaysSomething (script_of (w.said ++ s ∷ [])) → AsksForMemory text
  asked_more Passed h suits some = w.asked (subst SaysSomething (grown w.said Passed suits) some)
  asked_more Starts h suits some = let l = length-map (script_of w.said).lines as_before in
      let more : SaysSomething (script_after 0 Starts (script_of w.said)) = subst SaysSomething (grown w.said Starts suits) some in w.asked (omega (arith, l, more))
  asked_more (Does act) h suits some = asks_here (kept_asks (part_of w.said) line (ap is_kept h))
  asked_more (Ends act) h suits some = asks_here (kept_asks (part_of w.said) line (ap is_kept h))

  -- one line more that fits
  pub walks : (new : Reading) → ((s : Saying) × (line_by (part_of w.said) line ≡ Ok s) × Suits (part_of w.said) s × StandsFor new (w.said ++ s ∷ [])) → Walked text (n + 1) new
  walks new reads = record {
    said = w.said ++ reads.0 ∷ [];
    fits = λ below. ap (λ xs. sayings [] (xs ++ below)) line_take ∙ ap (sayings []) (append_assoc (take n (lines_in text)) (line ∷ []) below)
        ∙ w.fits (line ∷ below) ∙ ap (or_bad_line (length w.said + 1) (λ s. sayings (w.said ++ s ∷ []) below)) reads.1;
    stands = reads.3;
    asked = asked_more reads.0 reads.1 reads.2;
  }

  -- a line that was refused is the first that doesn't fit, and the refusal names it
  pub refused : (X : Type 0) (new : Reading) (e : ScriptFault) → Reads {X = X} (Err e) w.said line new → Gives {X = Parts} script_of_parts cause (Err e) (meaning_of text)
  refused X new (faults.BadLine number fault) h = ap (λ all. all >>= λ all. Ok (script_of all))
      (ap (sayings []) cut_at_line ∙ w.fits (line ∷ drop (n + 1) (lines_in text))
      ∙ ap (or_bad_line (length w.said + 1) (λ s. sayings (w.said ++ s ∷ []) (drop (n + 1) (lines_in text)))) h.1 ∙ ap (λ m. Err (m, fault)) (sym h.0))
  refused X new faults.NoMemory h = tt

-- all lines fit
pub ends : (text : Bytes) (n : ℕ) (r : Reading) (w : Walked text n r) → length (lines_in text) ≤ n → meaning_of text ≡ Ok (script_read r)
ends text n r w l =
    ap (λ all. all >>= λ all. Ok (script_of all)) (ap (sayings []) (sym (take_all n (lines_in text) l) ∙ sym (append-nil (take n (lines_in text)))) ∙ w.fits [])
    ∙ ap Ok (sym w.stands.script)

-- ---- the lines that `split` gives

module _ {F : Type 0} (g : Mut F (Bor ℕ × Unit {0}) Bool) (text : Bytes) {f : F} (begun s t u : _) (same : s ≡ begun) (rest : slice.split_rest begun ≡ text) (more : slice.split_done begun ≡ false) (closure : slice.split_callee begun ≡ f)
    (xs : List (Bor (List ℕ))) (y : Yields (slice.split_steps g) s xs t) (r : Option (Bor (List ℕ))) (steps : slice.split_steps g t r u) (tests : (x : ℕ) (b : Bool) (q : F) → CalledAt g f x b q → (q ≡ f) × (b ≡ is_feed x)) where
  pub next_line : (x : Bor (List ℕ)) → r ≡ Some x → IsNext text (length xs) x.now
  next_line x e = let road = YieldsList-at same (YieldsList-from_slice_split g is_feed text rest more closure tests) in
      let turn = YieldsList-turn road xs t y r u x e steps in record { within = turn.0; at = turn.1 }

  pub no_more_lines : r ≡ None → length (lines_in text) ≤ length xs
  no_more_lines e = let road = YieldsList-at same (YieldsList-from_slice_split g is_feed text rest more closure tests) in
      let end = YieldsList-end road xs t y r u e steps in omega arith
