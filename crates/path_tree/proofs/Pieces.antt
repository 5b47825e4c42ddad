-- A text cut at its slashes.
use Rattle.std.proofs.Common.{◌≡◌, ℕ, suc, ◌+◌, ◌-◌, ◌<◌, ◌≤◌, Bool, true, false, not, cond, nat_lt, List, [], ◌∷◌, length, take, drop, Some, None, refl, ap, subst, arith, position, length-drop}
use Rattle.std.specs.List.{slice_split, position_or_len, onto_first}
use borrow.Author.Tests.{ltb-true, ltb-false}
use Rattle.std.proofs.lemmas.List.Splits.{slice_split_first, length-slice_split}
use Rattle.std.proofs.lemmas.List.{take_all, length-take-le}
use Rattle.std.proofs.lemmas.List.Quantifiers.{position-Some}

whole_from : {X : Type 0} (p : X → Bool) (x : X) (xs : List X) → (length xs ≤ position_or_len p xs → slice_split p xs ≡ xs ∷ []) → (b : Bool) → suc (length xs) ≤ cond (not b) (1 + position_or_len p xs) 0 → cond b ([] ∷ slice_split p xs) (onto_first x (slice_split p xs)) ≡ (x ∷ xs) ∷ []
whole_from p x xs rest true l = absurd (omega arith)
whole_from p x xs rest false l = ap (onto_first x) (rest (omega arith))

-- where nothing passes, the list is the one part
whole : {X : Type 0} (p : X → Bool) (xs : List X) → length xs ≤ position_or_len p xs → slice_split p xs ≡ xs ∷ []
whole p [] l = refl
whole p (x ∷ xs) l = whole_from p x xs (whole p xs) (p x) l

none_from : {X : Type 0} (p : X → Bool) (xs : List X) (b : Bool) → nat_lt (position_or_len p xs) (length xs) ≡ b → cond b (Some (position_or_len p xs)) None ≡ None → slice_split p xs ≡ xs ∷ []
none_from p xs true t e = cc
none_from p xs false t e = whole p xs (omega (arith, ltb-false))

pub cut_none : {X : Type 0} (p : X → Bool) (xs : List X) → position p xs ≡ None → slice_split p xs ≡ xs ∷ []
cut_none p xs e = none_from p xs (nat_lt (position_or_len p xs) (length xs)) refl e

some_from : {X : Type 0} (p : X → Bool) (xs : List X) (d : X) (end : ℕ) (b : Bool) → nat_lt (position_or_len p xs) (length xs) ≡ b → cond b (Some (position_or_len p xs)) None ≡ Some end → slice_split p xs ≡ take end xs ∷ slice_split p (drop (end + 1) xs)
some_from p xs d end true t e =
    let same : position_or_len p xs ≡ end = cc in
    let P : ℕ → Type 0 = λ n. slice_split p xs ≡ take n xs ∷ slice_split p (drop (n + 1) xs) in
    subst P same (slice_split_first p xs d (omega (arith, ltb-true)))
some_from p xs d end false t e = cc

pub cut_some : {X : Type 0} (p : X → Bool) (xs : List X) (d : X) (end : ℕ) → position p xs ≡ Some end → slice_split p xs ≡ take end xs ∷ slice_split p (drop (end + 1) xs)
cut_some p xs d end e = some_from p xs d end (nat_lt (position_or_len p xs) (length xs)) refl e

-- both parts of a text with a slash, as the code cuts them out
pub cut_at : (p : ℕ → Bool) (xs : List ℕ) (end : ℕ) → position p xs ≡ Some end → (slice_split p xs ≡ take end xs ∷ slice_split p (take (length xs - (end + 1)) (drop (end + 1) xs))) × (length xs ≡ length (take end xs) + 1 + length (take (length xs - (end + 1)) (drop (end + 1) xs)))
cut_at p xs end e =
    let within : end < length xs = (position-Some p xs end 0 e).0 in
    let rest : take (length xs - (end + 1)) (drop (end + 1) xs) ≡ drop (end + 1) xs = take_all (length xs - (end + 1)) (drop (end + 1) xs) (omega (arith, length-drop (end + 1) xs)) in
    rw rest (cut_some p xs 0 end e, omega (arith, length-drop (end + 1) xs, length-take-le end xs (omega arith)))

pub slice_split-nonempty : (p : ℕ → Bool) (xs : List ℕ) → 0 < length (slice_split p xs)
slice_split-nonempty p xs = omega (arith, length-slice_split p xs)
