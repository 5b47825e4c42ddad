-- The two passes, object by object.
use Rattle.std.proofs.Common.{◌≡◌, ℕ, ◌+◌, ◌<◌, ◌≤◌, Bool, true, false, ◌&&◌, List, [], ◌∷◌, ◌++◌, length, Option, Some, None, refl, ap, sym, ◌∙◌, subst, arith, get_or, leb, take, ◌-◌, drop, Vec, Global, MatchOption, Result, Ok, Err, cond, set, append_assoc, append-nil}
use Rattle.std.specs.Prelude.{IfOk}
use Rattle.std.proofs.lemmas.List.{at_drop_more, at_drop_all, take_rest}
use Rattle.std.proofs.lemmas.List.Sums.{AllPass-from_list_all, list_all-from_AllPass}
use Rattle.std.proofs.lemmas.List.Elements.{All-push, All-take, All-drop}
use Rattle.std.proofs.lemmas.Bool.Decides.{nat_tests}
use Rattle.module_groups.specs.declared.TheConstants.{GREATEST_ID}
use Rattle.module_packer.specs.Kept.{Placed, Filled, if_stays, filled_with, first_pass, first_filled, settled_in, filled_after, second_pass, two_passes, within, kept_modules, sizes_in, WereWithin, AreObjects}
use Rattle.module_packer.specs.Inner.Sums.{Tells, sum_at}
use Rattle.module_packer.specs.Placement.{fresh, IsPlacement}
use Rattle.module_packer.proofs.Kept.{old_after, kept_is}
use Rattle.module_packer.proofs.Telling.{put_told}

abbrev none_there : Placed
none_there = (0, None)

-- ---- old modules

pub were_others : (limit n : ℕ) (objects : List Placed) → WereWithin limit objects → WereWithin limit (take n (drop 1 objects))
were_others limit n objects old =
    let P : Placed → Type 0 = λ o. (m : ℕ) → o.1 ≡ Some m → (1 ≤ m) × (m ≤ limit) in All-take P n (drop 1 objects) (All-drop P 1 objects old)

pub stayed_within : (limit : ℕ) (objects others stayed : List Placed) (start : Filled) → stayed ≡ others → others ≡ first_pass start objects → WereWithin limit objects → WereWithin limit stayed
stayed_within limit objects others stayed start e f old = subst (WereWithin limit) (sym (e ∙ f)) (old_after (λ m. (1 ≤ m) × (m ≤ limit)) objects start old)

-- ---- the first pass

pub record Staying (limit : ℕ) (start : Filled) (sums : List (Option ℕ)) (stayed objects : List Placed) (i : ℕ) : Type 0 where
  pub now : Filled
  pub tells : Tells limit sums now
  pub passed : stayed ++ first_pass now (drop i objects) ≡ first_pass start objects
  pub filled : first_filled now (drop i objects) ≡ first_filled start objects

pub staying_first : (limit : ℕ) (start : Filled) (sums : List (Option ℕ)) (stayed objects : List Placed) → stayed ≡ [] → Tells limit sums start → Staying limit start sums stayed objects 0
staying_first limit start sums stayed objects e tells = record { now = start; tells = tells; passed = ap (λ xs. xs ++ first_pass start objects) e; filled = refl }

pub staying_next : (limit : ℕ) (start : Filled) (sums after : List (Option ℕ)) (stayed more objects : List Placed) (i : ℕ) (m : Option ℕ) → i < length objects
    → ((g : Filled) → Tells limit sums g → m ≡ if_stays g (get_or objects i none_there).0 (get_or objects i none_there).1)
    → ((g : Filled) → Tells limit sums g → Tells limit after (filled_with g (if_stays g (get_or objects i none_there).0 (get_or objects i none_there).1) (get_or objects i none_there).0))
    → more ≡ stayed ++ ((get_or objects i none_there).0, m) ∷ []
    → Staying limit start sums stayed objects i → Staying limit start after more objects (i + 1)
staying_next limit start sums after stayed more objects i m lt answer next e s =
    let o : Placed = get_or objects i none_there in
    let later : Filled = filled_with s.now (if_stays s.now o.0 o.1) o.0 in
    let rest : List Placed = first_pass later (drop (i + 1) objects) in
    record {
      now = later;
      tells = next s.now s.tells;
      passed = ap (λ xs. xs ++ rest) e ∙ (append_assoc stayed ((o.0, m) ∷ []) rest ∙ (ap (λ k. stayed ++ ((o.0, k) ∷ rest)) (answer s.now s.tells)
          ∙ (sym (ap (λ xs. stayed ++ xs) (at_drop_more (first_pass s.now) objects i none_there lt)) ∙ s.passed)));
      filled = sym (at_drop_more (first_filled s.now) objects i none_there lt) ∙ s.filled;
    }

pub staying_passed : (limit : ℕ) (start : Filled) (sums : List (Option ℕ)) (stayed objects : List Placed) (i : ℕ) → length objects ≤ i → Staying limit start sums stayed objects i → stayed ≡ first_pass start objects
staying_passed limit start sums stayed objects i le s = sym (append-nil stayed) ∙ (ap (λ xs. stayed ++ xs) (sym (at_drop_all (first_pass s.now) objects i le)) ∙ s.passed)

pub staying_filled : (limit : ℕ) (start : Filled) (sums : List (Option ℕ)) (stayed objects : List Placed) (i : ℕ) → length objects ≤ i → Staying limit start sums stayed objects i → Tells limit sums (first_filled start objects)
staying_filled limit start sums stayed objects i le s = subst (Tells limit sums) (sym (at_drop_all (first_filled s.now) objects i le) ∙ s.filled) s.tells

-- ---- the second pass

pub record Settling (limit : ℕ) (start : Filled) (sums : List (Option ℕ)) (modules : List ℕ) (others : List Placed) (i : ℕ) : Type 0 where
  pub now : Filled
  pub tells : Tells limit sums now
  pub rest : modules ++ second_pass limit now (drop i others) ≡ 1 ∷ second_pass limit start others
  pub low : within limit modules ≡ true

within_more : (limit m : ℕ) (xs : List ℕ) → within limit xs ≡ true → m ≤ limit → within limit (xs ++ m ∷ []) ≡ true
within_more limit m xs low le =
    let last : leb m limit ≡ true = grind (arith, nat_tests) in
    list_all-from_AllPass (λ n. leb n limit) (xs ++ m ∷ []) (All-push (λ n. leb n limit ≡ true) xs m (AllPass-from_list_all (λ n. leb n limit) xs low) last)

within_not : (limit m : ℕ) (xs ys : List ℕ) → limit < m → within limit (xs ++ m ∷ ys) ≡ false
within_not limit m [] ys lt = let high : leb m limit ≡ false = grind (arith, nat_tests) in rw high refl
within_not limit m (x ∷ xs) ys lt = go (leb x limit) (within_not limit m xs ys lt) where
  go : (b : Bool) → within limit (xs ++ m ∷ ys) ≡ false → (b && within limit (xs ++ m ∷ ys)) ≡ false
  go true h = h
  go false h = refl

pub settling_first : (limit : ℕ) (start : Filled) (sums : List (Option ℕ)) (modules : List ℕ) (others : List Placed) → 1 ≤ limit → modules ≡ 1 ∷ [] → Tells limit sums start → Settling limit start sums modules others 0
settling_first limit start sums modules others le e tells = record {
  now = start;
  tells = tells;
  rest = ap (λ xs. xs ++ second_pass limit start others) e;
  low = ap (within limit) e ∙ within_more limit 1 [] refl le;
}

pub settling_next : (limit : ℕ) (start : Filled) (sums after : List (Option ℕ)) (modules more : List ℕ) (others : List Placed) (i m : ℕ) → i < length others
    → ((g : Filled) → Tells limit sums g → (m ≡ settled_in limit g (get_or others i none_there).0 (get_or others i none_there).1) × (m ≤ limit))
    → ((g : Filled) → Tells limit sums g → Tells limit after (filled_after limit g (get_or others i none_there).0 (get_or others i none_there).1))
    → more ≡ modules ++ m ∷ []
    → Settling limit start sums modules others i → Settling limit start after more others (i + 1)
settling_next limit start sums after modules more others i m lt answer next e s =
    let o : Placed = get_or others i none_there in
    let later : Filled = filled_after limit s.now o.0 o.1 in
    let rest : List ℕ = second_pass limit later (drop (i + 1) others) in
    let is = answer s.now s.tells in
    record {
      now = later;
      tells = next s.now s.tells;
      rest = ap (λ xs. xs ++ rest) e ∙ (append_assoc modules (m ∷ []) rest ∙ (ap (λ k. modules ++ (k ∷ rest)) is.0
          ∙ (sym (ap (λ xs. modules ++ xs) (at_drop_more (second_pass limit s.now) others i none_there lt)) ∙ s.rest)));
      low = ap (within limit) e ∙ within_more limit m modules s.low is.1;
    }

pub settling_stops : (limit : ℕ) (start : Filled) (sums : List (Option ℕ)) (modules : List ℕ) (others : List Placed) (i : ℕ) → i < length others
    → ((g : Filled) → Tells limit sums g → limit < settled_in limit g (get_or others i none_there).0 (get_or others i none_there).1)
    → Settling limit start sums modules others i → within limit (1 ∷ second_pass limit start others) ≡ false
settling_stops limit start sums modules others i lt high s =
    let o : Placed = get_or others i none_there in
    let m : ℕ = settled_in limit s.now o.0 o.1 in
    let rest : List ℕ = second_pass limit (filled_after limit s.now o.0 o.1) (drop (i + 1) others) in
    let whole : modules ++ (m ∷ rest) ≡ 1 ∷ second_pass limit start others = sym (ap (λ xs. modules ++ xs) (at_drop_more (second_pass limit s.now) others i none_there lt)) ∙ s.rest in
    ap (within limit) (sym whole) ∙ within_not limit m modules rest (high s.now s.tells)

pub settling_all : (limit : ℕ) (start : Filled) (sums : List (Option ℕ)) (modules : List ℕ) (others : List Placed) (i : ℕ) → length others ≤ i → Settling limit start sums modules others i
    → (modules ≡ 1 ∷ second_pass limit start others) × (within limit modules ≡ true)
settling_all limit start sums modules others i le s =
    (sym (append-nil modules) ∙ (ap (λ xs. modules ++ xs) (sym (at_drop_all (second_pass limit s.now) others i le)) ∙ s.rest), s.low)

-- ---- both passes

abbrev first_size : List Placed → ℕ
first_size objects = (get_or objects 0 none_there).0

abbrev others_of : List Placed → List Placed
others_of objects = take (length objects - 1) (drop 1 objects)

-- what is placed when the first object is
abbrev pub started : List Placed → Filled
started objects = (1, first_size objects) ∷ []

pub start_told : (limit : ℕ) (sums after : List (Option ℕ)) (objects : List Placed) → 1 ≤ limit → Tells limit sums []
    → after ≡ set sums 0 (Some (sum_at sums 0 + first_size objects)) → Tells limit after (started objects)
start_told limit sums after objects le tells e = subst (λ s. Tells limit s (started objects)) (sym e) (put_told limit sums [] (first_size objects) 1 tells (omega arith) le)

tried_is : (limit : ℕ) (objects : List Placed) → 0 < length objects
    → 1 ∷ second_pass limit (first_filled (started objects) (others_of objects)) (first_pass (started objects) (others_of objects)) ≡ two_passes limit objects
tried_is limit [] some = absurd (omega (arith, some))
tried_is limit (o ∷ os) some =
    ap (λ others. 1 ∷ second_pass limit (first_filled ((1, o.0) ∷ []) others) (first_pass ((1, o.0) ∷ []) others)) (take_rest (o ∷ os) 1)

pub kept_by : (limit : ℕ) (objects others stayed : List Placed) (answer : Option (Vec ℕ Global)) → 0 < length objects → stayed ≡ others → others ≡ first_pass (started objects) (others_of objects)
    → MatchOption answer (within limit (1 ∷ second_pass limit (first_filled (started objects) (others_of objects)) stayed) ≡ false)
    (λ ms. (ms.items ≡ 1 ∷ second_pass limit (first_filled (started objects) (others_of objects)) stayed) × (within limit ms.items ≡ true))
    → MatchOption answer (fresh (sizes_in objects) ≡ kept_modules limit objects) (λ ms. ms.items ≡ kept_modules limit objects)
unfolding kept_modules
kept_by limit objects others stayed answer some e f is = go answer is where
  whole : 1 ∷ second_pass limit (first_filled (started objects) (others_of objects)) stayed ≡ two_passes limit objects
  whole = ap (λ os. 1 ∷ second_pass limit (first_filled (started objects) (others_of objects)) os) (e ∙ f) ∙ tried_is limit objects some

  go : (a : Option (Vec ℕ Global))
      → MatchOption a (within limit (1 ∷ second_pass limit (first_filled (started objects) (others_of objects)) stayed) ≡ false)
      (λ ms. (ms.items ≡ 1 ∷ second_pass limit (first_filled (started objects) (others_of objects)) stayed) × (within limit ms.items ≡ true))
      → MatchOption a (fresh (sizes_in objects) ≡ cond (within limit (two_passes limit objects)) (two_passes limit objects) (fresh (sizes_in objects)))
      (λ ms. ms.items ≡ cond (within limit (two_passes limit objects)) (two_passes limit objects) (fresh (sizes_in objects)))
  go None high = let not_within : within limit (two_passes limit objects) ≡ false = ap (within limit) (sym whole) ∙ high in rw not_within refl
  go (Some ms) low =
      let same : ms.items ≡ two_passes limit objects = low.0 ∙ whole in
      let is_within : within limit (two_passes limit objects) ≡ true = ap (within limit) (sym same) ∙ low.1 in rw is_within same

-- the answers of the functions that make up the placement
pub kept_from : (limit : ℕ) (objects others stayed : List Placed) (sums after later : List (Option ℕ)) (answer : Option (Vec ℕ Global)) → 0 < length objects → 1 ≤ limit
    → Tells limit sums [] → after ≡ set sums 0 (Some (sum_at sums 0 + first_size objects)) → stayed ≡ others
    → ((f : Filled) → Tells limit after f → others ≡ first_pass f (others_of objects))
    → ((f : Filled) → Tells limit after f → Tells limit later (first_filled f (others_of objects)))
    → ((f : Filled) → Tells limit later f → MatchOption answer (within limit (1 ∷ second_pass limit f stayed) ≡ false) (λ ms. (ms.items ≡ 1 ∷ second_pass limit f stayed) × (within limit ms.items ≡ true)))
    → MatchOption answer (fresh (sizes_in objects) ≡ kept_modules limit objects) (λ ms. ms.items ≡ kept_modules limit objects)
kept_from limit objects others stayed sums after later answer some le none put e passed filled answers =
    let tells = start_told limit sums after objects le none put in
    kept_by limit objects others stayed answer some e (passed (started objects) tells) (answers (first_filled (started objects) (others_of objects)) (filled (started objects) tells))

pub afresh_is : {E : Type 0} (r : Result (Vec ℕ Global) E) (objects : List Placed) (ks : List ℕ) → fresh (sizes_in objects) ≡ ks → IfOk r (λ ms. ms.items ≡ fresh (sizes_in objects)) → IfOk r (λ ms. ms.items ≡ ks)
afresh_is (Ok ms) objects ks e is = is ∙ e
afresh_is (Err x) objects ks e is = is

pub placed_is : {E : Type 0} (r : Result (Vec ℕ Global) E) (objects : List Placed) → AreObjects GREATEST_ID objects → IfOk r (λ ms. ms.items ≡ kept_modules GREATEST_ID objects) → IfOk r (λ ms. IsPlacement GREATEST_ID (sizes_in objects) ms.items)
placed_is (Ok ms) objects are is = subst (λ (ks : List ℕ). IsPlacement GREATEST_ID (sizes_in objects) ks) (sym is) (kept_is GREATEST_ID objects are)
placed_is (Err x) objects are is = is
