-- Lists of which each element gives one thing or nothing, and the blocks of a module.
use Rattle.std.proofs.Common.{◌≡◌, ℕ, zero, suc, ◌+◌, ◌*◌, ◌<◌, ◌⊎◌, inl, inr, Bool, true, false, cond, ◌||◌, List, [], ◌∷◌, ◌++◌, map, length, take, drop, get_or, Option, Some, None, refl, ap, sym, ◌∙◌, subst, arith, take-add, take_all, drop-drop, zero-mul, suc-mul, add-mul, one-mul}
use Rattle.std.proofs.lemmas.Grind.{div_ceil_times}
use Rattle.std.proofs.lemmas.List.Elements.{All-head, All-tail}
use Rattle.std.specs.List.{All, filter_map, cons_option, last_or, list_any, range_with_len}
use Rattle.std.specs.Option.{option_map, option_zip}
use Rattle.block_assembler.specs.Blocks.{Bytes, join_all, first_of}
use Rattle.ddb_block.specs.Blocks.{block_count_of, block_of}

-- ---- blocks

-- nothing, or this one
abbrev pub MaybeIs : {A : Type 0} → Option A → A → Type 0
MaybeIs o x = (o ≡ Some x) ⊎ (o ≡ None)

next_blocks : (bytes : Bytes) (k a n : ℕ) → take (suc n * k) (drop (a * k) bytes) ≡ block_of bytes k a ++ take (n * k) (drop ((a + 1) * k) bytes)
next_blocks bytes k a n =
    let next : drop ((a + 1) * k) bytes ≡ drop k (drop (a * k) bytes) = ap (λ (m : ℕ). drop m bytes) (omega (arith, add-mul a 1 k, one-mul k)) ∙ sym (drop-drop k (a * k) bytes) in
    let more : suc n * k ≡ k + n * k = omega (arith, suc-mul n k) in
    rw (next, more) (take-add k (n * k) (drop (a * k) bytes))

joined_all_from : (f : ℕ → Option Bytes) (bytes : Bytes) (k a n : ℕ) → ((b : ℕ) → b < a + n → f b ≡ Some (block_of bytes k b))
    → join_all (map f (range_with_len a n)) ≡ Some (take (n * k) (drop (a * k) bytes))
joined_all_from f bytes k a zero h = rw (zero-mul k) refl
joined_all_from f bytes k a (suc n) h =
    let rest = joined_all_from f bytes k (a + 1) n (λ b lt. h b (omega arith)) in
    let here : f a ≡ Some (block_of bytes k a) = h a (omega arith) in
    rw (here, rest) (ap (λ (x : Bytes). Some x) (sym (next_blocks bytes k a n)))

onto_maybe : (o p : Option Bytes) (x y : Bytes) → MaybeIs o x → MaybeIs p y → MaybeIs (option_map (λ (q : Bytes × Bytes). q.0 ++ q.1) (option_zip o p)) (x ++ y)
onto_maybe o p x y (inl e) (inl h) = inl (rw (e, h) refl)
onto_maybe o p x y (inl e) (inr h) = inr (rw (e, h) refl)
onto_maybe o p x y (inr e) h = inr (rw e refl)

joined_maybe_from : (f : ℕ → Option Bytes) (bytes : Bytes) (k a n : ℕ) → ((b : ℕ) → MaybeIs (f b) (block_of bytes k b))
    → MaybeIs (join_all (map f (range_with_len a n))) (take (n * k) (drop (a * k) bytes))
joined_maybe_from f bytes k a zero h = inl (rw (zero-mul k) refl)
joined_maybe_from f bytes k a (suc n) h =
    rw (next_blocks bytes k a n)
    (onto_maybe (f a) (join_all (map f (range_with_len (a + 1) n))) (block_of bytes k a) (take (n * k) (drop ((a + 1) * k) bytes))
    (h a) (joined_maybe_from f bytes k (a + 1) n h))

all_blocks : (bytes : Bytes) (k : ℕ) → 0 < k → take (block_count_of (length bytes) k * k) (drop (0 * k) bytes) ≡ bytes
all_blocks bytes k positive = rw (zero-mul k) (take_all (block_count_of (length bytes) k * k) bytes (div_ceil_times (length bytes) k positive).0)

-- a module whose blocks are each there or not is there or not
pub joined_maybe : (f : ℕ → Option Bytes) (bytes : Bytes) (k : ℕ) → 0 < k → ((b : ℕ) → MaybeIs (f b) (block_of bytes k b))
    → MaybeIs (join_all (map f (range_with_len 0 (block_count_of (length bytes) k)))) bytes
joined_maybe f bytes k positive h =
    subst (λ x. MaybeIs (join_all (map f (range_with_len 0 (block_count_of (length bytes) k)))) x) (all_blocks bytes k positive)
    (joined_maybe_from f bytes k 0 (block_count_of (length bytes) k) h)

-- a module whose blocks are all there is there
pub joined_all : (f : ℕ → Option Bytes) (bytes : Bytes) (k : ℕ) → 0 < k → ((b : ℕ) → b < block_count_of (length bytes) k → f b ≡ Some (block_of bytes k b))
    → join_all (map f (range_with_len 0 (block_count_of (length bytes) k))) ≡ Some bytes
joined_all f bytes k positive h =
    joined_all_from f bytes k 0 (block_count_of (length bytes) k) (λ b lt. h b (omega arith))
    ∙ ap (λ (x : Bytes). Some x) (all_blocks bytes k positive)

-- ---- the first and the last

pub first_maybe : {H : Type 0} (f : H → Option Bytes) (x : Bytes) (hs : List H) → All (λ h. MaybeIs (f h) x) hs → MaybeIs (first_of (filter_map f hs)) x
first_maybe f x [] all = inr refl
first_maybe f x (h ∷ hs) all = by (f h) (All-head (λ h. MaybeIs (f h) x) h hs all) (first_maybe f x hs (All-tail (λ h. MaybeIs (f h) x) h hs all)) where
  by : (o : Option Bytes) → MaybeIs o x → MaybeIs (first_of (filter_map f hs)) x → MaybeIs (first_of (cons_option o (filter_map f hs))) x
  by o (inl e) rest = rw e (inl refl)
  by o (inr e) rest = rw e rest

pub first_there : {H : Type 0} (f : H → Option Bytes) (x : Bytes) (hs : List H) (k : ℕ) (d : H) → All (λ h. MaybeIs (f h) x) hs
    → k < length hs → f (get_or hs k d) ≡ Some x → first_of (filter_map f hs) ≡ Some x
first_there f x [] k d all lt e = absurd (omega (arith, lt))
first_there f x (h ∷ hs) zero d all lt e = rw e refl
first_there f x (h ∷ hs) (suc k) d all lt e = by (f h) (All-head (λ h. MaybeIs (f h) x) h hs all) (first_there f x hs k d (All-tail (λ h. MaybeIs (f h) x) h hs all) (omega (arith, lt)) e) where
  by : (o : Option Bytes) → MaybeIs o x → first_of (filter_map f hs) ≡ Some x → first_of (cons_option o (filter_map f hs)) ≡ Some x
  by o (inl e) rest = rw e refl
  by o (inr e) rest = rw e rest

-- what the elements of a test give is all one, and the others give nothing
pub last_if : {H A : Type 0} (f : H → Option A) (test : H → Bool) (r : A) (o : Option A) (hs : List H) → All (λ h. f h ≡ cond (test h) (Some r) None) hs
    → last_or o (filter_map f hs) ≡ cond (list_any test hs) (Some r) o
last_if f test r o [] all = refl
last_if {A = A} f test r o (h ∷ hs) all = by (f h) (test h) (All-head (λ h. f h ≡ cond (test h) (Some r) None) h hs all) (λ p. last_if f test r p hs (All-tail (λ h. f h ≡ cond (test h) (Some r) None) h hs all)) where
  same : (t : Bool) → cond t (Some r) (Some r) ≡ Some r
  same true = refl
  same false = refl

  by : (q : Option A) (t : Bool) → q ≡ cond t (Some r) None → ((p : Option A) → last_or p (filter_map f hs) ≡ cond (list_any test hs) (Some r) p)
      → last_or o (cons_option q (filter_map f hs)) ≡ cond (t || list_any test hs) (Some r) o
  by q true e rest = rw e (rest (Some r) ∙ same (list_any test hs))
  by q false e rest = rw e (rest o)
