-- Reading values one after another, as a loop does.
use Rattle.std.proofs.Common.{◌≡◌, ℕ, suc, ◌-◌, ◌+◌, ◌≤◌, ◌<◌, List, [], ◌∷◌, ◌++◌, Option, Some, None, MatchOption, Ok, Err, refl, sym, ap, ◌∙◌, append_assoc, arith}
use Rattle.std.specs.Prelude.{⊤}
use Rattle.std.proofs.lemmas.List.{append-nil}
use Rattle.oc_bytes.specs.Cursor.{Cursor, Reading, ◌>>=◌, each_at, skip_reading}

-- what was read before, and what is still read
abbrev pub with_front : {A : Type 0} → List A → Reading (List A) → Reading (List A)
with_front front read = read >>= λ x. Ok (front ++ x.0, x.1)

regroup : {A : Type 0} (front : List A) (a : A) (read : Reading (List A)) → with_front front (read >>= λ x. Ok (a ∷ x.0, x.1)) ≡ with_front (front ++ a ∷ []) read
regroup {A} front a (Ok x) = ap (λ (xs : List A). Ok (xs, x.1)) (simp append_assoc)
regroup front a (Err place) = refl

pub goes_on : {A : Type 0} (read : Cursor → Reading A) (front : List A) (count i : ℕ) (c d : Cursor) (a : A) (total : Reading (List A)) → i < count → read c ≡ Ok (a, d)
    → with_front front (each_at read (count - i) c) ≡ total → with_front (front ++ a ∷ []) (each_at read (count - (i + 1)) d) ≡ total
unfolding each_at
goes_on read front count i c d a total lt h so_far =
    let k : count - i ≡ suc (count - (i + 1)) = omega arith in
    rw (k, h, regroup front a (each_at read (count - (i + 1)) d)) at so_far

pub ends : {A : Type 0} (read : Cursor → Reading A) (o : Option ℕ) (front : List A) (count i : ℕ) (c : Cursor) (total : Reading (List A)) → i < count → MatchOption o ⊤ (λ place. read c ≡ Err place)
    → with_front front (each_at read (count - i) c) ≡ total → MatchOption o ⊤ (λ place. total ≡ Err place)
unfolding each_at
ends read None front count i c total lt h so_far = tt
ends read (Some place) front count i c total lt h so_far =
    let k : count - i ≡ suc (count - (i + 1)) = omega arith in
    sym (rw (k, h) at so_far)

pub is_done : {A : Type 0} (read : Cursor → Reading A) (front : List A) (count i : ℕ) (c : Cursor) (total : Reading (List A)) → count ≤ i → with_front front (each_at read (count - i) c) ≡ total → total ≡ Ok (front, c)
unfolding each_at
is_done read front count i c total le so_far =
    let k : count - i ≡ 0 = omega arith in
    sym (rw (k, append-nil front) at so_far)

unchanged : {A : Type 0} (r : Reading (List A)) → with_front [] r ≡ r
unchanged (Ok x) = refl
unchanged (Err place) = refl

pub begins : {A : Type 0} (read : Cursor → Reading A) (count : ℕ) (c : Cursor) → with_front [] (each_at read (count - 0) c) ≡ each_at read count c
begins read count c = let k : count - 0 ≡ count = omega arith in rw k (unchanged (each_at read count c))

-- ---- values passed over

pass_others : {A : Type 0} (x : A) (m : Reading (List A)) → skip_reading (m >>= λ others. Ok (x ∷ others.0, others.1)) ≡ skip_reading m
pass_others x (Ok y) = refl
pass_others x (Err p) = refl

pass_step : {A : Type 0} (read : Cursor → Reading A) (k : ℕ) (m : Reading A) → skip_reading (m >>= λ first. each_at read k first.1 >>= λ others. Ok (first.0 ∷ others.0, others.1)) ≡ (skip_reading m >>= λ u. skip_reading (each_at read k u.1))
pass_step read k (Ok x) = pass_others x.0 (each_at read k x.1)
pass_step read k (Err p) = refl

pub pass_on : {A : Type 0} (read : Cursor → Reading A) (count i : ℕ) (c d : Cursor) (total : Reading (Unit {0})) → i < count → skip_reading (read c) ≡ Ok (tt, d)
    → skip_reading (each_at read (count - i) c) ≡ total → skip_reading (each_at read (count - (i + 1)) d) ≡ total
unfolding each_at
pass_on read count i c d total lt h so_far =
    let k : count - i ≡ suc (count - (i + 1)) = omega arith in
    rw (k, pass_step read (count - (i + 1)) (read c), h) at so_far

pub pass_ends : {A : Type 0} (read : Cursor → Reading A) (o : Option ℕ) (count i : ℕ) (c : Cursor) (total : Reading (Unit {0})) → i < count → MatchOption o ⊤ (λ p. skip_reading (read c) ≡ Err p)
    → skip_reading (each_at read (count - i) c) ≡ total → MatchOption o ⊤ (λ p. total ≡ Err p)
unfolding each_at
pass_ends read None count i c total lt h so_far = tt
pass_ends read (Some p) count i c total lt h so_far =
    let k : count - i ≡ suc (count - (i + 1)) = omega arith in
    sym (rw (k, pass_step read (count - (i + 1)) (read c), h) at so_far)

pub pass_done : {A : Type 0} (read : Cursor → Reading A) (count i : ℕ) (c : Cursor) (total : Reading (Unit {0})) → count ≤ i → skip_reading (each_at read (count - i) c) ≡ total → total ≡ Ok (tt, c)
unfolding each_at
pass_done read count i c total le so_far =
    let k : count - i ≡ 0 = omega arith in
    sym (rw k at so_far)

pub pass_begins : {A : Type 0} (read : Cursor → Reading A) (count : ℕ) (c : Cursor) → skip_reading (each_at read (count - 0) c) ≡ skip_reading (each_at read count c)
pass_begins read count c = let k : count - 0 ≡ count = omega arith in rw k refl
