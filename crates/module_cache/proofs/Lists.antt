-- Lists that are mapped, filtered and sought in, lists made of a range, and lists with one element more.
use Rattle.std.proofs.Common.{ℕ, zero, suc, ◌≡◌, ◌≢◌, ◌+◌, ◌<◌, ◌≤◌, Bool, true, false, cond, ◌&&◌, ◌||◌, List, [], ◌∷◌, ◌++◌, length, get_or, map, replicate, Option, Some, None, refl, sym, ap, subst, ◌∙◌, arith, add-zero}
use Rattle.std.proofs.Math.ListN.{set}
use Rattle.std.proofs.lemmas.Bool.{cond-true, cond-false, or_parts}
use Rattle.std.proofs.lemmas.Option.{same_Some}
use Rattle.std.specs.List.{filter, filter_map, find, list_any, range_with_len, cons_option}
use Rattle.std.specs.Option.{option_map, option_zip}
use Rattle.block_assembler.specs.Blocks.{Bytes, first_of, join_all}

-- ---- functions that are alike

pub map_like : {X Y : Type 0} (f g : X → Y) (xs : List X) → ((x : X) → f x ≡ g x) → map f xs ≡ map g xs
map_like f g xs h = λ i. map (λ x. h x i) xs

pub filter_like : {X : Type 0} (p q : X → Bool) (xs : List X) → ((x : X) → p x ≡ q x) → filter p xs ≡ filter q xs
filter_like p q xs h = λ i. filter (λ x. h x i) xs

pub filter_map_like : {X Y : Type 0} (f g : X → Option Y) (xs : List X) → ((x : X) → f x ≡ g x) → filter_map f xs ≡ filter_map g xs
filter_map_like f g xs h = λ i. filter_map (λ x. h x i) xs

pub find_like : {X : Type 0} (p q : X → Bool) (xs : List X) → ((x : X) → p x ≡ q x) → find p xs ≡ find q xs
find_like p q xs h = λ i. find (λ x. h x i) xs

pub any_like : {X : Type 0} (p q : X → Bool) (xs : List X) → ((x : X) → p x ≡ q x) → list_any p xs ≡ list_any q xs
any_like p q xs h = λ i. list_any (λ x. h x i) xs

-- ---- lists that are mapped

pub any_map : {X Y : Type 0} (f : X → Y) (p : Y → Bool) (xs : List X) → list_any p (map f xs) ≡ list_any (λ x. p (f x)) xs
any_map f p [] = refl
any_map f p (x ∷ xs) = ap (λ t. p (f x) || t) (any_map f p xs)

pub map_map : {X Y Z : Type 0} (f : X → Y) (g : Y → Z) (xs : List X) → map g (map f xs) ≡ map (λ x. g (f x)) xs
map_map f g [] = refl
map_map f g (x ∷ xs) = ap (λ ys. g (f x) ∷ ys) (map_map f g xs)

-- each element is got back
pub map_back : {X Y : Type 0} (f : X → Y) (g : Y → X) → ((x : X) → g (f x) ≡ x) → (xs : List X) → map g (map f xs) ≡ xs
map_back f g same [] = refl
map_back f g same (x ∷ xs) = ap (λ y. y ∷ map g (map f xs)) (same x) ∙ ap (λ ys. x ∷ ys) (map_back f g same xs)

pub find_map : {X Y : Type 0} (f : X → Y) (p : Y → Bool) (xs : List X) → find p (map f xs) ≡ option_map f (find (λ x. p (f x)) xs)
find_map f p [] = refl
find_map f p (x ∷ xs) = go (p (f x)) (find_map f p xs) where
  go : (b : Bool) → find p (map f xs) ≡ option_map f (find (λ x. p (f x)) xs) → cond b (Some (f x)) (find p (map f xs)) ≡ option_map f (cond b (Some x) (find (λ x. p (f x)) xs))
  go true rest = refl
  go false rest = rest

-- ---- what is found

-- what is found passes the test
pub found_passes : {X : Type 0} (p : X → Bool) (xs : List X) (x : X) → find p xs ≡ Some x → p x ≡ true
found_passes p [] x e = cc
found_passes p (y ∷ ys) x e = go (p y) refl (found_passes p ys x) where
  go : (b : Bool) → p y ≡ b → (find p ys ≡ Some x → p x ≡ true) → p x ≡ true
  go true t rest = let is : Some y ≡ Some x = sym (cond-true (p y) (Some y) (find p ys) t) ∙ e in sym (ap p (same_Some y x is)) ∙ t
  go false t rest = rest (sym (cond-false (p y) (Some y) (find p ys) t) ∙ e)

pub found_there : {X : Type 0} (p : X → Bool) (xs ys : List X) → list_any p xs ≡ true → find p (xs ++ ys) ≡ find p xs
found_there p [] ys e = cc
found_there p (x ∷ xs) ys e = go (p x) refl (found_there p xs ys) where
  go : (t : Bool) → p x ≡ t → (list_any p xs ≡ true → find p (xs ++ ys) ≡ find p xs) → find p (x ∷ (xs ++ ys)) ≡ find p (x ∷ xs)
  go true f rest = cond-true _ _ _ f ∙ sym (cond-true _ _ _ f)
  go false f rest = cond-false _ _ _ f ∙ rest (rw f at e) ∙ sym (cond-false _ _ _ f)

pub found_later : {X : Type 0} (p : X → Bool) (xs ys : List X) → list_any p xs ≡ false → find p (xs ++ ys) ≡ find p ys
found_later p [] ys e = refl
found_later p (x ∷ xs) ys e = let q = or_parts _ _ e in cond-false _ _ _ q.0 ∙ found_later p xs ys q.1

pub find_past : {X : Type 0} (p : X → Bool) (xs ys : List X) → find p xs ≡ None → find p (xs ++ ys) ≡ find p ys
find_past p [] ys e = refl
find_past p (x ∷ xs) ys e = go (p x) refl (find_past p xs ys) where
  go : (b : Bool) → p x ≡ b → (find p xs ≡ None → find p (xs ++ ys) ≡ find p ys) → find p (x ∷ (xs ++ ys)) ≡ find p ys
  go true f rest = let bad : Some x ≡ None = sym (cond-true _ _ _ f) ∙ e in cc
  go false f rest = cond-false _ _ _ f ∙ rest (sym (cond-false _ _ _ f) ∙ e)

pub find_front : {X : Type 0} (p : X → Bool) (xs ys : List X) (x : X) → find p xs ≡ Some x → find p (xs ++ ys) ≡ Some x
find_front p [] ys x e = cc
find_front p (y ∷ xs) ys x e = go (p y) refl (find_front p xs ys x) where
  go : (b : Bool) → p y ≡ b → (find p xs ≡ Some x → find p (xs ++ ys) ≡ Some x) → find p (y ∷ (xs ++ ys)) ≡ Some x
  go true f rest = cond-true _ _ _ f ∙ sym (cond-true _ _ _ f) ∙ e
  go false f rest = cond-false _ _ _ f ∙ rest (sym (cond-false _ _ _ f) ∙ e)

-- ---- lists that are filtered

pub filter_both : {X : Type 0} (p q : X → Bool) (xs : List X) → filter q (filter p xs) ≡ filter (λ x. p x && q x) xs
filter_both p q [] = refl
filter_both p q (x ∷ xs) = go (p x) (filter_both p q xs) where
  go : (t : Bool) → filter q (filter p xs) ≡ filter (λ x. p x && q x) xs → filter q (cond t (x ∷ filter p xs) (filter p xs)) ≡ cond (t && q x) (x ∷ filter (λ x. p x && q x) xs) (filter (λ x. p x && q x) xs)
  go true rest = ap (λ ys. cond (q x) (x ∷ ys) ys) rest
  go false rest = rest

-- what is sought isn't filtered out
pub find_filter : {X : Type 0} (p q : X → Bool) (xs : List X) → ((x : X) → p x ≡ true → q x ≡ true) → find p (filter q xs) ≡ find p xs
find_filter p q [] h = refl
find_filter p q (x ∷ xs) h = go (p x) (q x) refl refl (find_filter p q xs h) where
  go : (s t : Bool) → p x ≡ s → q x ≡ t → find p (filter q xs) ≡ find p xs → find p (cond (q x) (x ∷ filter q xs) (filter q xs)) ≡ cond (p x) (Some x) (find p xs)
  go true t e f rest = ap (find p) (cond-true _ _ _ (h x e)) ∙ cond-true _ _ _ e ∙ sym (cond-true _ _ _ e)
  go false true e f rest = ap (find p) (cond-true _ _ _ f) ∙ cond-false _ _ _ e ∙ rest ∙ sym (cond-false _ _ _ e)
  go false false e f rest = ap (find p) (cond-false _ _ _ f) ∙ rest ∙ sym (cond-false _ _ _ e)

-- ---- ranges

range_same : {Y : Type 0} (f g : ℕ → Y) (a n : ℕ) → ((b : ℕ) → a ≤ b → g b ≡ f b) → map g (range_with_len a n) ≡ map f (range_with_len a n)
range_same f g a zero h = refl
range_same f g a (suc n) h = ap (λ y. y ∷ map g (range_with_len (a + 1) n)) (h a (omega arith)) ∙ ap (λ ys. f a ∷ ys) (range_same f g (a + 1) n (λ b le. h b (omega arith)))

range_set_from : {Y : Type 0} (f g : ℕ → Y) (y : Y) (a i n : ℕ) → i < n → ((b : ℕ) → b ≢ a + i → g b ≡ f b) → g (a + i) ≡ y
    → map g (range_with_len a n) ≡ set (map f (range_with_len a n)) i y
range_set_from f g y a i zero h others e = absurd (omega arith)
range_set_from f g y a zero (suc n) h others e =
    let here : g a ≡ y = subst (λ k. g k ≡ y) (add-zero a) e in
    ap (λ z. z ∷ map g (range_with_len (a + 1) n)) here
    ∙ ap (λ ys. y ∷ ys) (range_same f g (a + 1) n (λ b le. others b (λ same. omega arith)))
range_set_from f g y a (suc i) (suc n) h others e =
    let next : (a + 1) + i ≡ a + suc i = omega arith in
    ap (λ z. z ∷ map g (range_with_len (a + 1) n)) (others a (λ same. omega arith))
    ∙ ap (λ ys. f a ∷ ys) (range_set_from f g y (a + 1) i n (omega arith)
    (λ b other. others b (λ same. other (same ∙ sym next)))
    (ap g next ∙ e))

-- one place of a range that is made otherwise
pub range_set : {Y : Type 0} (f g : ℕ → Y) (y : Y) (i n : ℕ) → i < n → ((b : ℕ) → b ≢ i → g b ≡ f b) → g i ≡ y
    → map g (range_with_len 0 n) ≡ set (map f (range_with_len 0 n)) i y
range_set f g y i n h others e =
    let same : 0 + i ≡ i = omega arith in
    range_set_from f g y 0 i n h (λ b other. others b (λ e. other (e ∙ sym same))) (ap g same ∙ e)

range_at_from : {Y : Type 0} (f : ℕ → Y) (d : Y) (a i n : ℕ) → i < n → get_or (map f (range_with_len a n)) i d ≡ f (a + i)
range_at_from f d a i zero h = absurd (omega arith)
range_at_from f d a zero (suc n) h = ap f (sym (add-zero a))
range_at_from f d a (suc i) (suc n) h = let next : (a + 1) + i ≡ a + suc i = omega arith in range_at_from f d (a + 1) i n (omega arith) ∙ ap f next

pub range_at : {Y : Type 0} (f : ℕ → Y) (d : Y) (i n : ℕ) → i < n → get_or (map f (range_with_len 0 n)) i d ≡ f i
range_at f d i n h = let same : 0 + i ≡ i = omega arith in range_at_from f d 0 i n h ∙ ap f same

pub range_length : {Y : Type 0} (f : ℕ → Y) (a n : ℕ) → length (map f (range_with_len a n)) ≡ n
range_length f a zero = refl
range_length f a (suc n) = ap suc (range_length f (a + 1) n)

pub range_replicate : {Y : Type 0} (y : Y) (a n : ℕ) → map (λ b. y) (range_with_len a n) ≡ replicate n y
range_replicate y a zero = refl
range_replicate y a (suc n) = ap (λ ys. y ∷ ys) (range_replicate y (a + 1) n)

-- ---- one element more

abbrev pub or_else : {A : Type 0} → Option A → Option A → Option A
or_else (Some x) later = Some x
or_else None later = later

pub or_none : {A : Type 0} (o : Option A) → or_else o None ≡ o
or_none (Some x) = refl
or_none None = refl

pub first_more : {H : Type 0} (f : H → Option Bytes) (xs : List H) (h : H) → first_of (filter_map f (xs ++ h ∷ [])) ≡ or_else (first_of (filter_map f xs)) (f h)
first_more f [] h = alone (f h) where
  alone : (o : Option Bytes) → first_of (cons_option o []) ≡ o
  alone (Some x) = refl
  alone None = refl
first_more f (x ∷ xs) h = ahead (f x) (first_more f xs h) where
  ahead : (o : Option Bytes) → first_of (filter_map f (xs ++ h ∷ [])) ≡ or_else (first_of (filter_map f xs)) (f h)
      → first_of (cons_option o (filter_map f (xs ++ h ∷ []))) ≡ or_else (first_of (cons_option o (filter_map f xs))) (f h)
  ahead (Some y) e = refl
  ahead None e = e

-- ---- blocks that are all there

pub all_there : (xs : List (Option Bytes)) (bytes : Bytes) (i : ℕ) → join_all xs ≡ Some bytes → i < length xs → get_or xs i None ≡ None → ⊥
all_there [] bytes i e h n = omega arith
all_there (None ∷ xs) bytes i e h n = cc
all_there (Some x ∷ xs) bytes zero e h n = cc
all_there (Some x ∷ xs) bytes (suc i) e h n = rest (join_all xs) refl (λ b f. all_there xs b i f (omega arith) n) where
  rest : (o : Option Bytes) → join_all xs ≡ o → ((b : Bytes) → join_all xs ≡ Some b → ⊥) → ⊥
  rest (Some b) f g = g b f
  rest None f g = nothing (join_all xs) f e where
    nothing : (o : Option Bytes) → o ≡ None → option_map (λ (p : Bytes × Bytes). p.0 ++ p.1) (option_zip (Some x) o) ≡ Some bytes → ⊥
    nothing None f e = cc
    nothing (Some b) f e = cc
