-- The sums by module against the objects that are placed.
use Rattle.std.proofs.Common.{◌≡◌, ◌≢◌, ℕ, zero, suc, ◌+◌, ◌-◌, ◌<◌, ◌≤◌, Bool, true, false, cond, not, ◌&&◌, ◌||◌, List, [], ◌∷◌, ◌++◌, length, Option, Some, None, refl, ap, sym, ◌∙◌, subst, arith, get_or, set, eqb, ltb, leb, add-zero, zero-add, ◌⊎◌, inl, inr, MatchOption, replicate}
use Rattle.std.specs.List.{position, position_or_len}
use Rattle.std.specs.Option.{unwrap_or, option_map, is_none}
use Rattle.std.specs.Prelude.{IfSome}
use Rattle.std.proofs.lemmas.List.{get_or-set_same, get_or-set_other, length-set, length-replicate, get_or-replicate}
use Rattle.std.proofs.lemmas.List.Quantifiers.{position-Some}
use Rattle.std.proofs.lemmas.List.Sums.{sum_by-cons, sum_by_push}
use Rattle.std.proofs.lemmas.Bool.{cases_eq, eq-eqb, ne_eqb, leb-true}
use Rattle.std.proofs.lemmas.Bool.Decides.{nat_tests}
use Rattle.module_packer.specs.declared.packing.TheConstants.{ROOM}
use Rattle.module_packer.specs.Placement.{sum_in}
use Rattle.module_packer.specs.Kept.{Filled, in_use, has_room, stays, if_stays, filled_with, least_with, shared_by, or_new, moved_to, settled_in, filled_after}
use Rattle.module_packer.specs.Inner.Sums.{known_sum, Tells, sum_at, stays_by, takes_more, number_at, shared_of, or_unused, moved_by}

-- ---- one module

pub none_summed : (filled : Filled) (m : ℕ) → in_use filled m ≡ false → sum_in filled m ≡ 0
none_summed [] m e = refl
none_summed (x ∷ xs) m e = go (eqb x.0 m) refl e (λ f. none_summed xs m f) where
  go : (b : Bool) → eqb x.0 m ≡ b → (b || in_use xs m) ≡ false → (in_use xs m ≡ false → sum_in xs m ≡ 0) → sum_in (x ∷ xs) m ≡ 0
  go true h f rest = cc
  go false h f rest =
      let none : cond (eqb x.0 m) x.1 0 ≡ 0 = rw h refl in
      omega (arith, none, rest f, sum_by-cons (λ (e : ℕ × ℕ). cond (eqb e.0 m) e.1 0) x xs)

-- the sum of a module is what is told of it, or nothing
told_sum : (filled : Filled) (m : ℕ) → unwrap_or (known_sum filled m) 0 ≡ sum_in filled m
told_sum filled m = go (in_use filled m) refl where
  go : (b : Bool) → in_use filled m ≡ b → unwrap_or (cond b (Some (sum_in filled m)) None) 0 ≡ sum_in filled m
  go true e = refl
  go false e = sym (none_summed filled m e)

told_none : (filled : Filled) (m : ℕ) → is_none (known_sum filled m) ≡ not (in_use filled m)
told_none filled m = go (in_use filled m) where
  go : (b : Bool) → is_none (cond b (Some (sum_in filled m)) None) ≡ not b
  go true = refl
  go false = refl

told_takes : (filled : Filled) (size m : ℕ) → takes_more size (known_sum filled m) ≡ (in_use filled m && has_room filled size m)
told_takes filled size m = go (in_use filled m) where
  go : (b : Bool) → takes_more size (cond b (Some (sum_in filled m)) None) ≡ (b && has_room filled size m)
  go true = refl
  go false = refl

told_stays : (filled : Filled) (size m : ℕ) → stays_by size (known_sum filled m) ≡ stays filled size m
told_stays filled size m = go (leb size ROOM) where
  go : (b : Bool) → cond b (leb (unwrap_or (known_sum filled m) 0 + size) ROOM) (is_none (known_sum filled m)) ≡ cond b (has_room filled size m) (not (in_use filled m))
  go true = ap (λ n. leb (n + size) ROOM) (told_sum filled m)
  go false = told_none filled m

told_at : (limit : ℕ) (sums : List (Option ℕ)) (filled : Filled) (m : ℕ) → Tells limit sums filled → 1 ≤ m → m ≤ limit → get_or sums (m - 1) None ≡ known_sum filled m
told_at limit sums filled m tells one most =
    let back : m - 1 + 1 ≡ m = omega arith in
    tells.each (m - 1) (omega arith) ∙ ap (known_sum filled) back

pub stays_told : (limit : ℕ) (sums : List (Option ℕ)) (filled : Filled) (size m : ℕ) → Tells limit sums filled → 1 ≤ m → m ≤ limit → stays_by size (get_or sums (m - 1) None) ≡ stays filled size m
stays_told limit sums filled size m tells one most = ap (stays_by size) (told_at limit sums filled m tells one most) ∙ told_stays filled size m

-- ---- one object more

pub used_push : (filled : Filled) (n size m : ℕ) → in_use (filled ++ (n, size) ∷ []) m ≡ (in_use filled m || eqb n m)
used_push [] n size m = go (eqb n m) where
  go : (b : Bool) → (b || false) ≡ b
  go true = refl
  go false = refl
used_push (x ∷ xs) n size m = go (eqb x.0 m) (used_push xs n size m) where
  go : (b : Bool) → in_use (xs ++ (n, size) ∷ []) m ≡ (in_use xs m || eqb n m) → (b || in_use (xs ++ (n, size) ∷ []) m) ≡ ((b || in_use xs m) || eqb n m)
  go true rest = refl
  go false rest = rest

told_here : (filled : Filled) (m size : ℕ) → known_sum (filled ++ (m, size) ∷ []) m ≡ Some (sum_in filled m + size)
told_here filled m size =
    let same : eqb m m ≡ true = eq-eqb m m refl in
    let used : in_use (filled ++ (m, size) ∷ []) m ≡ true = used_push filled m size m ∙ rw same (or_true (in_use filled m)) in
    let summed : sum_in (filled ++ (m, size) ∷ []) m ≡ sum_in filled m + cond (eqb m m) size 0 = sum_by_push (λ (e : ℕ × ℕ). cond (eqb e.0 m) e.1 0) filled (m, size) in
    let all : cond (eqb m m) size 0 ≡ size = rw same refl in
    rw (used, summed ∙ ap (λ n. sum_in filled m + n) all) refl where
      or_true : (b : Bool) → (b || true) ≡ true
      or_true true = refl
      or_true false = refl

told_there : (filled : Filled) (n m size : ℕ) → n ≢ m → known_sum (filled ++ (n, size) ∷ []) m ≡ known_sum filled m
told_there filled n m size e =
    let other : eqb n m ≡ false = ne_eqb n m e in
    let used : in_use (filled ++ (n, size) ∷ []) m ≡ in_use filled m = used_push filled n size m ∙ rw other (or_false (in_use filled m)) in
    let summed : sum_in (filled ++ (n, size) ∷ []) m ≡ sum_in filled m + cond (eqb n m) size 0 = sum_by_push (λ (e : ℕ × ℕ). cond (eqb e.0 m) e.1 0) filled (n, size) in
    let none : cond (eqb n m) size 0 ≡ 0 = rw other refl in
    rw (used, summed ∙ (ap (λ k. sum_in filled m + k) none ∙ add-zero (sum_in filled m))) refl where
      or_false : (b : Bool) → (b || false) ≡ b
      or_false true = refl
      or_false false = refl

pub put_told : (limit : ℕ) (sums : List (Option ℕ)) (filled : Filled) (size m : ℕ) → Tells limit sums filled → 1 ≤ m → m ≤ limit
    → Tells limit (set sums (m - 1) (Some (sum_at sums (m - 1) + size))) (filled ++ (m, size) ∷ [])
put_told limit sums filled size m tells one most = record {
  all = length-set sums (m - 1) (Some (sum_at sums (m - 1) + size)) ∙ tells.all;
  each = λ k lt. by_place k lt (cases_eq k (m - 1));
} where
  sum : sum_at sums (m - 1) ≡ sum_in filled m
  sum = ap (λ o. unwrap_or o 0) (told_at limit sums filled m tells one most) ∙ told_sum filled m

  by_place : (k : ℕ) → k < limit → (k ≡ m - 1) ⊎ (k ≡ m - 1 → ⊥) → get_or (set sums (m - 1) (Some (sum_at sums (m - 1) + size))) k None ≡ known_sum (filled ++ (m, size) ∷ []) (k + 1)
  by_place k lt (inl e) =
      let at : k + 1 ≡ m = omega (arith, e, one) in
      let within : m - 1 < length sums = omega (arith, tells.all, one, most) in
      let put : get_or (set sums (m - 1) (Some (sum_at sums (m - 1) + size))) k None ≡ Some (sum_at sums (m - 1) + size) =
      ap (λ j. get_or (set sums (m - 1) (Some (sum_at sums (m - 1) + size))) j None) e ∙ get_or-set_same sums (m - 1) (Some (sum_at sums (m - 1) + size)) None within in
      put ∙ (ap (λ n. Some (n + size)) sum ∙ (sym (told_here filled m size) ∙ ap (known_sum (filled ++ (m, size) ∷ [])) (sym at)))
  by_place k lt (inr e) =
      let other : m ≢ k + 1 = λ same. e (omega (arith, same)) in
      get_or-set_other sums (m - 1) k (Some (sum_at sums (m - 1) + size)) None e ∙ (tells.each k lt ∙ sym (told_there filled m (k + 1) size other))

-- ---- the least module that passes a test

position-cons : {A : Type 0} (p : A → Bool) (x : A) (xs : List A) → position p (x ∷ xs) ≡ cond (p x) (Some 0) (option_map suc (position p xs))
position-cons p x xs = go (p x) (ltb (position_or_len p xs) (length xs)) refl where
  n : ℕ
  n = position_or_len p xs

  go : (b c : Bool) → ltb n (length xs) ≡ c
      → cond (ltb (cond (not b) (1 + n) 0) (suc (length xs))) (Some (cond (not b) (1 + n) 0)) None ≡ cond b (Some 0) (option_map suc (cond c (Some n) None))
  go true c e = let t : ltb 0 (suc (length xs)) ≡ true = grind (arith, nat_tests) in rw t refl
  go false true e = let t : ltb (1 + n) (suc (length xs)) ≡ true = grind (arith, nat_tests, e) in let s : 1 + n ≡ suc n = omega arith in rw t (ap (λ k. Some k) s)
  go false false e = let t : ltb (1 + n) (suc (length xs)) ≡ false = grind (arith, nat_tests, e) in rw t refl

-- a number further on
shifted : ℕ → Option ℕ → Option ℕ
shifted a o = option_map (λ k. k + a) o

shift_suc : (a : ℕ) (o : Option ℕ) → shifted a (option_map suc o) ≡ shifted (a + 1) o
unfolding shifted
shift_suc a None = refl
shift_suc a (Some k) = let e : suc k + a ≡ k + (a + 1) = omega arith in ap (λ n. Some n) e

least_is : (test : Option ℕ → Bool) (passes : ℕ → Bool) (sums : List (Option ℕ)) (n a : ℕ) → length sums ≡ n → ((k : ℕ) → k < n → test (get_or sums k None) ≡ passes (k + a))
    → shifted a (position test sums) ≡ least_with passes n a
unfolding least_with shifted
least_is test passes [] zero a e same = refl
least_is test passes [] (suc n) a e same = absurd (omega (arith, e))
least_is test passes (x ∷ xs) zero a e same = absurd (omega (arith, e))
least_is test passes (x ∷ xs) (suc n) a e same =
    let here : test x ≡ passes a = same 0 (omega arith) ∙ ap passes (zero-add a) in
    let rest = least_is test passes xs n (a + 1) (omega (arith, e)) (λ k lt. let j : suc k + a ≡ k + (a + 1) = omega arith in same (suc k) (omega (arith, lt)) ∙ ap passes j) in
    ap (shifted a) (position-cons test x xs) ∙ (go (test x) ∙ (ap (λ o. cond (test x) (Some a) o) rest ∙ ap (λ b. cond b (Some a) (least_with passes n (a + 1))) here)) where
      go : (b : Bool) → shifted a (cond b (Some 0) (option_map suc (position test xs))) ≡ cond b (Some a) (shifted (a + 1) (position test xs))
      go true = ap (λ n. Some n) (zero-add a)
      go false = shift_suc a (position test xs)

shared_told : (limit : ℕ) (sums : List (Option ℕ)) (filled : Filled) (size : ℕ) → Tells limit sums filled → shared_of size sums ≡ shared_by limit filled size
unfolding shifted
shared_told limit sums filled size tells =
    ap (λ o. cond (leb size ROOM) o None)
    (least_is (takes_more size) (λ m. in_use filled m && has_room filled size m) sums limit 1 tells.all (λ k lt. ap (takes_more size) (tells.each k lt) ∙ told_takes filled size (k + 1)))

unused_told : (limit : ℕ) (sums : List (Option ℕ)) (filled : Filled) → Tells limit sums filled → number_at (position is_none sums) ≡ least_with (λ m. not (in_use filled m)) limit 1
unfolding shifted
unused_told limit sums filled tells =
    least_is is_none (λ m. not (in_use filled m)) sums limit 1 tells.all (λ k lt. ap is_none (tells.each k lt) ∙ told_none filled (k + 1))

-- where an object goes by the sums is where it goes
moved_told : (limit : ℕ) (sums : List (Option ℕ)) (filled : Filled) (size : ℕ) → Tells limit sums filled → unwrap_or (moved_by size sums) (limit + 1) ≡ moved_to limit filled size
moved_told limit sums filled size tells = go (shared_of size sums) (shared_told limit sums filled size tells) where
  go : (o : Option ℕ) → o ≡ shared_by limit filled size → unwrap_or (or_unused o sums) (limit + 1) ≡ or_new limit filled (shared_by limit filled size)
  go (Some m) e = ap (or_new limit filled) e
  go None e = ap (λ o. unwrap_or o (limit + 1)) (unused_told limit sums filled tells) ∙ ap (or_new limit filled) e

-- ---- there is room in the sums

pub stays_fit : (size : ℕ) (sum : Option ℕ) → size < 4294967296 → stays_by size sum ≡ true → unwrap_or sum 0 + size < 4294967296
stays_fit size sum small e = go (leb size ROOM) e where
  nothing : (o : Option ℕ) → is_none o ≡ true → unwrap_or o 0 + size < 4294967296
  nothing None f = omega (arith, small)
  nothing (Some n) f = cc

  go : (b : Bool) → cond b (leb (unwrap_or sum 0 + size) ROOM) (is_none sum) ≡ true → unwrap_or sum 0 + size < 4294967296
  go true f = omega (arith, leb-true (unwrap_or sum 0 + size) ROOM f)
  go false f = nothing sum f

-- a module that is found has a place, and its sum has room
abbrev pub Has : ℕ → List (Option ℕ) → ℕ → Type 0
Has size sums m = (1 ≤ m) × (m ≤ length sums) × (sum_at sums (m - 1) + size < 4294967296)

found : (test : Option ℕ → Bool) (size : ℕ) (sums : List (Option ℕ)) → ((o : Option ℕ) → test o ≡ true → unwrap_or o 0 + size < 4294967296) → IfSome (number_at (position test sums)) (Has size sums)
found test size sums fits = go (position test sums) refl where
  go : (o : Option ℕ) → position test sums ≡ o → IfSome (number_at o) (Has size sums)
  go None e = tt
  go (Some k) e =
      let is = position-Some test sums k None e in
      let back : k + 1 - 1 ≡ k = omega arith in
      (omega arith, omega (arith, is.0), subst (λ j. sum_at sums j + size < 4294967296) (sym back) (fits (get_or sums k None) is.1))

pub moved_fits : (size : ℕ) (sums : List (Option ℕ)) → size < 4294967296 → IfSome (moved_by size sums) (Has size sums)
moved_fits size sums small = by_shared (shared_of size sums) (shared (leb size ROOM)) where
  takes : (o : Option ℕ) → takes_more size o ≡ true → unwrap_or o 0 + size < 4294967296
  takes None f = cc
  takes (Some n) f = omega (arith, leb-true (n + size) ROOM f)

  nothing : (o : Option ℕ) → is_none o ≡ true → unwrap_or o 0 + size < 4294967296
  nothing None f = omega (arith, small)
  nothing (Some n) f = cc

  shared : (b : Bool) → IfSome (cond b (number_at (position (takes_more size) sums)) None) (Has size sums)
  shared true = found (takes_more size) size sums takes
  shared false = tt

  by_shared : (o : Option ℕ) → IfSome o (Has size sums) → IfSome (or_unused o sums) (Has size sums)
  by_shared (Some m) h = h
  by_shared None h = found is_none size sums nothing

-- ---- the answers of one step

pub kept_answer : (limit : ℕ) (sums : List (Option ℕ)) (filled : Filled) (size : ℕ) (old : Option ℕ) (m : ℕ) → old ≡ Some m → stays_by size (get_or sums (m - 1) None) ≡ true → 1 ≤ m → m ≤ limit
    → Tells limit sums filled → Some m ≡ if_stays filled size old
kept_answer limit sums filled size old m is stay one most tells =
    let h : stays filled size m ≡ true = sym (stays_told limit sums filled size m tells one most) ∙ stay in rw (is, h) refl

pub kept_after : (limit : ℕ) (sums after : List (Option ℕ)) (filled : Filled) (size : ℕ) (old : Option ℕ) (m : ℕ) → old ≡ Some m → stays_by size (get_or sums (m - 1) None) ≡ true → 1 ≤ m → m ≤ limit
    → after ≡ set sums (m - 1) (Some (sum_at sums (m - 1) + size)) → Tells limit sums filled → Tells limit after (filled_with filled (if_stays filled size old) size)
kept_after limit sums after filled size old m is stay one most e tells =
    subst (λ o. Tells limit after (filled_with filled o size)) (kept_answer limit sums filled size old m is stay one most tells)
    (subst (λ s. Tells limit s (filled ++ (m, size) ∷ [])) (sym e) (put_told limit sums filled size m tells one most))

pub settled_number : (limit : ℕ) (sums : List (Option ℕ)) (filled : Filled) (size : ℕ) (stays answer : Option ℕ) → size < 4294967296 → stays ≡ None → answer ≡ moved_by size sums
    → Tells limit sums filled → MatchOption answer (limit < settled_in limit filled size stays) (λ m. (m ≡ settled_in limit filled size stays) × (m ≤ limit))
settled_number limit sums filled size stays answer small none is tells =
    subst (λ o. MatchOption answer (limit < settled_in limit filled size o) (λ m. (m ≡ settled_in limit filled size o) × (m ≤ limit))) (sym none)
    (go answer (ap (λ o. unwrap_or o (limit + 1)) is ∙ moved_told limit sums filled size tells) (subst (λ o. IfSome o (Has size sums)) (sym is) (moved_fits size sums small))) where
      go : (o : Option ℕ) → unwrap_or o (limit + 1) ≡ moved_to limit filled size → IfSome o (Has size sums) → MatchOption o (limit < moved_to limit filled size) (λ m. (m ≡ moved_to limit filled size) × (m ≤ limit))
      go None e has = omega (arith, e)
      go (Some m) e has = (e, omega (arith, has.1, tells.all))

pub moved_has : (size m : ℕ) (sums : List (Option ℕ)) → size < 4294967296 → Some m ≡ moved_by size sums → Has size sums m
moved_has size m sums small e = subst (λ o. IfSome o (Has size sums)) (sym e) (moved_fits size sums small)

pub moved_after : (limit : ℕ) (sums after : List (Option ℕ)) (filled : Filled) (size m : ℕ) → size < 4294967296 → Some m ≡ moved_by size sums
    → after ≡ set sums (m - 1) (Some (sum_at sums (m - 1) + size)) → Tells limit sums filled → Tells limit after (filled_after limit filled size None)
moved_after limit sums after filled size m small is e tells =
    let has = moved_has size m sums small is in
    let at : m ≡ moved_to limit filled size = ap (λ o. unwrap_or o (limit + 1)) is ∙ moved_told limit sums filled size tells in
    subst (λ s. Tells limit s (filled_after limit filled size None)) (sym e)
    (subst (λ n. Tells limit (set sums (m - 1) (Some (sum_at sums (m - 1) + size))) (filled ++ (n, size) ∷ [])) at
    (put_told limit sums filled size m tells has.0 (omega (arith, has.1, tells.all))))

pub none_told : (limit : ℕ) → Tells limit (replicate limit None) []
none_told limit = record { all = length-replicate limit None; each = λ k lt. get_or-replicate limit k None None lt }
