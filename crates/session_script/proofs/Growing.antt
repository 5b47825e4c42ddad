-- What all that is said is, with one line more, and what a reading stands for then.
use Rattle.session_script.proofs.Imports.{◌≡◌, ℕ, ◌+◌, ◌-◌, ◌^◌, min, Bool, true, false, ◌||◌, cond, List, [], ◌∷◌, ◌++◌, length, map, Option, None, refl, ap, arith, ◌∙◌, sym, subst, length-append, append-nil, list_any, cap_at_u32, Part, Opening, Running, Closing, Before, During, Act, TaskLine, Finale, task_line, lines_of, Reading, Saying, Passed, Starts, Does, Ends, is_start, part_after, part_of, who, editor_of, reader_of, with_actor, actors, stage_above, lines_from, script_of, as_before, script_after, IsShaped, StandsFor, Adds, Suits, SaysInRange, IsInRanges, AreListed, is_end, first_mentions, eqb-true, Some}
use Rattle.std.proofs.Common.{filter, not, filter_map, ◌==◌}
use Rattle.std.proofs.lemmas.Bool.{cond-true}
use Rattle.std.proofs.lemmas.List.Elements.{filter-append, filter_map-append}
use Rattle.std.specs.List.{cons_option}
use Rattle.std.proofs.lemmas.List.Folds.{list_any-append}
use Rattle.session_script.proofs.Ranging.{ranges_after, listed_after}

part_by : (e s : Bool) (saying : Saying) → cond (e || (is_end saying || false)) Closing (cond (s || (is_start saying || false)) Running Opening)
    ≡ part_after (cond e Closing (cond s Running Opening)) saying
part_by true s Passed = refl
part_by true s Starts = refl
part_by true s (Does act) = refl
part_by true s (Ends act) = refl
part_by false true Passed = refl
part_by false true Starts = refl
part_by false true (Does act) = refl
part_by false true (Ends act) = refl
part_by false false Passed = refl
part_by false false Starts = refl
part_by false false (Does act) = refl
part_by false false (Ends act) = refl

part_more : (above : List Saying) (saying : Saying) → part_of (above ++ saying ∷ []) ≡ part_after (part_of above) saying
part_more above saying = rw (list_any-append is_end above (saying ∷ []), list_any-append is_start above (saying ∷ []))
    (part_by (list_any is_end above) (list_any is_start above) saying)

-- ---- the actors

abbrev has : ℕ → List ℕ → Bool
has m xs = list_any (λ k. m == k) xs

abbrev others : ℕ → List ℕ → List ℕ
others n xs = filter (λ k. not (k == n)) xs

cons_eq : (n : ℕ) {xs ys : List ℕ} → xs ≡ ys → n ∷ xs ≡ n ∷ ys
cons_eq n e = ap (λ l. n ∷ l) e

-- a number other than n is among some numbers where it is among those that aren't n
other_by : (m n x : ℕ) (rest kept : List ℕ) → (m == n) ≡ false → has m kept ≡ has m rest
    → (b : Bool) → (x == n) ≡ b → has m (cond (not b) (x ∷ kept) kept) ≡ ((m == x) || has m rest)
other_by m n x rest kept h e true t = e ∙ sym (ap (λ b. b || has m rest) (ap (λ k. m == k) (eqb-true x n t) ∙ h))
other_by m n x rest kept h e false t = ap (λ b. (m == x) || b) e

other : (m n : ℕ) (xs : List ℕ) → (m == n) ≡ false → has m (others n xs) ≡ has m xs
other m n [] h = refl
other m n (x ∷ xs) h = other_by m n x xs (others n xs) h (other m n xs h) (x == n) refl

-- leaving out n, with m put last where it isn't there
same_put : (m n : ℕ) (xs : List ℕ) → (m == n) ≡ true → (b : Bool) → others n (cond b xs (xs ++ m ∷ [])) ≡ others n xs
same_put m n xs h true = refl
same_put m n xs h false = filter-append (λ k. not (k == n)) xs (m ∷ []) ∙ ap (λ b. others n xs ++ cond (not b) (m ∷ []) []) h ∙ append-nil _

other_put : (m n : ℕ) (xs : List ℕ) → (m == n) ≡ false → (b : Bool) → others n (cond b xs (xs ++ m ∷ [])) ≡ cond b (others n xs) (others n xs ++ m ∷ [])
other_put m n xs h true = refl
other_put m n xs h false = filter-append (λ k. not (k == n)) xs (m ∷ []) ∙ ap (λ b. others n xs ++ cond (not b) (m ∷ []) []) h

put_under : (n m : ℕ) (xs : List ℕ) (b : Bool) → n ∷ cond b xs (xs ++ m ∷ []) ≡ cond b (n ∷ xs) ((n ∷ xs) ++ m ∷ [])
put_under n m xs true = refl
put_under n m xs false = refl

first_by : (m n : ℕ) (xs : List ℕ) (b : Bool) → (m == n) ≡ b → n ∷ others n (with_actor xs (Some m)) ≡ with_actor (n ∷ others n xs) (Some m)
first_by m n xs true h =
    cons_eq n (same_put m n xs h (has m xs)) ∙ sym (cond-true ((m == n) || has m (others n xs)) _ _ (ap (λ b. b || has m (others n xs)) h))
first_by m n xs false h = cons_eq n (other_put m n xs h (has m xs)) ∙ put_under n m _ (has m xs)
    ∙ sym (ap (λ b. cond b (n ∷ others n xs) ((n ∷ others n xs) ++ m ∷ [])) (ap (λ b. b || has m (others n xs)) h ∙ other m n xs h))

first_more : (ns : List ℕ) (m : ℕ) → first_mentions (ns ++ m ∷ []) ≡ with_actor (first_mentions ns) (Some m)
first_more [] m = refl
first_more (n ∷ ns) m = cons_eq n (ap (others n) (first_more ns m)) ∙ first_by m n (first_mentions ns) (m == n) refl

mention_by : (ns : List ℕ) (o : Option ℕ) → first_mentions (ns ++ cons_option o []) ≡ with_actor (first_mentions ns) o
mention_by ns (Some m) = first_more ns m
mention_by ns None = ap first_mentions (append-nil ns)

actors_more : (actor : Act → Option ℕ) (above : List Saying) (saying : Saying)
    → actors actor (above ++ saying ∷ []) ≡ with_actor (actors actor above) (who actor saying)
actors_more actor above saying =
    ap first_mentions (filter_map-append (who actor) above (saying ∷ [])) ∙ mention_by (filter_map (who actor) above) (who actor saying)

-- ---- the lines that do something

stage_by : (above here : Bool) → cond (above || (here || false)) Before During ≡ cond here Before (cond above Before During)
stage_by true true = refl
stage_by true false = refl
stage_by false true = refl
stage_by false false = refl

stage_more : (below : List Saying) (saying : Saying) → stage_above (below ++ saying ∷ []) ≡ cond (is_start saying) Before (stage_above below)
stage_more below saying =
    ap (λ b. cond b Before During) (list_any-append is_start below (saying ∷ [])) ∙ stage_by (list_any is_start below) (is_start saying)

-- a line that isn't `start` goes last
lines_more : (n m : ℕ) (above : List Saying) (saying : Saying) → is_start saying ≡ false → m ≡ n + length above
    → lines_from n (above ++ saying ∷ []) ≡ lines_from n above ++ lines_from m (saying ∷ [])
lines_more n m [] saying h at = let same : n ≡ m = omega arith in ap (λ k. lines_from k (saying ∷ [])) same
lines_more n m (Passed ∷ below) saying h at = lines_more (n + 1) m below saying h (omega (arith, at))
lines_more n m (Starts ∷ below) saying h at = lines_more (n + 1) m below saying h (omega (arith, at))
lines_more n m (Does act ∷ below) saying h at =
    rw (stage_more below saying, h, lines_more (n + 1) m below saying h (omega (arith, at))) refl
lines_more n m (Ends act ∷ below) saying h at = rw (lines_more (n + 1) m below saying h (omega (arith, at))) refl

no_end : (e s : Bool) → cond e Closing (cond s Running Opening) ≡ Opening → e ≡ false
no_end true s h = cc
no_end false s h = refl

-- `start` makes all lines above it lines of the first stage
started : (n : ℕ) (above : List Saying) → list_any is_end above ≡ false → lines_from n (above ++ Starts ∷ []) ≡ map as_before (lines_from n above)
started n [] h = refl
started n (Passed ∷ below) h = started (n + 1) below h
started n (Starts ∷ below) h = started (n + 1) below h
started n (Does act ∷ below) h = rw (stage_more below Starts, started (n + 1) below h) refl
started n (Ends act ∷ below) h = cc

-- ---- the whole

pub grown : (above : List Saying) (saying : Saying) → Suits (part_of above) saying
    → script_of (above ++ saying ∷ []) ≡ script_after (cap_at_u32 (length above + 1)) saying (script_of above)
grown above saying suits = by saying suits
  where
    all : (s : Saying) {ls : _} → lines_from 1 (above ++ s ∷ []) ≡ ls → script_of (above ++ s ∷ [])
        ≡ record { editors = with_actor (actors editor_of above) (who editor_of s); readers = with_actor (actors reader_of above) (who reader_of s); lines = ls }
    all s e = λ i. record { editors = actors_more editor_of above s i; readers = actors_more reader_of above s i; lines = e i }

    by : (s : Saying) → Suits (part_of above) s → script_of (above ++ s ∷ []) ≡ script_after (cap_at_u32 (length above + 1)) s (script_of above)
    by Passed h = all Passed (lines_more 1 (length above + 1) above Passed refl (omega arith) ∙ append-nil _)
    by Starts h = all Starts (started 1 above (no_end (list_any is_end above) (list_any is_start above) h))
    by (Does act) h = all (Does act) (lines_more 1 (length above + 1) above (Does act) refl (omega arith))
    by (Ends act) h = all (Ends act) (lines_more 1 (length above + 1) above (Ends act) refl (omega arith))

pub grows : (old new : Reading) (n : ℕ) (above : List Saying) (saying : Saying) → StandsFor old above → n ≡ min (old.number + 1) (2 ^ 32 - 1)
    → Suits (part_of above) saying → SaysInRange saying → Adds (record old { number = n }) new saying → StandsFor new (above ++ saying ∷ [])
grows old new n above saying stands is suits range adds =
    let capped : n ≡ cap_at_u32 (length above + 1) = let h = stands.number in omega (arith, h, is) in
    let grown_so = grown above saying suits in record {
      number = let l = length-append above (saying ∷ []) in let h = adds.number in omega (arith, l, h, capped);
      part = adds.part ∙ ap (λ part. part_after part saying) stands.part ∙ sym (part_more above saying);
      script = adds.script ∙ (λ i. script_after (capped i) saying (stands.script i)) ∙ sym grown_so;
      ranges = subst IsInRanges (sym grown_so) (ranges_after _ saying (script_of above) range stands.ranges);
      listed = subst AreListed (sym grown_so) (listed_after _ saying (script_of above) stands.listed);
      shape = adds.shape;
    }

-- ---- a reading, with `start`

-- the tasks below `start` become those above it
moved : (xs : List TaskLine) → map (task_line Before) xs ≡ map as_before (map (task_line During) xs)
moved [] = refl
moved (x ∷ xs) = ap (λ ls. task_line Before x ∷ ls) (moved xs)

lines_start : (before during new_before new_during : List TaskLine) (settle : Option ℕ) (finales : List Finale) → before ≡ [] → settle ≡ None → finales ≡ []
    → new_before ≡ during → new_during ≡ [] → lines_of new_before new_during settle finales ≡ map as_before (lines_of before during settle finales)
lines_start before during new_before new_during settle finales none settles ends moves left = rw (none, settles, ends, moves, left)
    (append-nil (map (task_line Before) during) ∙ moved during ∙ ap (map as_before) (sym (append-nil (map (task_line During) during))))

opening_stays : (part : Part) → part ≡ Opening → part ≡ Closing → ⊥
opening_stays part e f = let both : Opening ≡ Closing = sym e ∙ f in cc

pub adds_start : (old new : Reading) (saying : Saying) → saying ≡ Starts → Suits old.part saying → IsShaped old → new.number ≡ old.number
    → new.part ≡ Running → new.editors ≡ old.editors → new.readers ≡ old.readers
    → new.before.items ≡ old.during.items → new.during.items ≡ [] → new.settle ≡ old.settle
    → new.finales ≡ old.finales → Adds old new saying
adds_start old new saying is suits shape number part editors readers moves left settle finales =
    let opening : old.part ≡ Opening = subst (Suits old.part) is suits in
    let none = shape.no_settle (opening_stays old.part opening) in
    let nothing = shape.no_finales (opening_stays old.part opening) in
    let lines = (λ i. lines_of new.before.items new.during.items (settle i) (finales i).items)
    ∙ lines_start old.before.items old.during.items new.before.items new.during.items old.settle old.finales.items
    (shape.before_start opening) none nothing moves left in
    let adds : Adds old new Starts = record {
      number = number;
      part = rw opening part;
      script = λ i. record { editors = (editors i).keys; readers = (readers i).keys; lines = lines i };
      shape = record {
        before_start = λ e. let both : Running ≡ Opening = sym part ∙ e in absurd (cc);
        no_settle = λ _. settle ∙ none;
        no_finales = λ _. ap (λ fs. fs.items) finales ∙ nothing;
      };
    } in subst (Adds old new) (sym is) adds
