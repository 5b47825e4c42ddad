-- When the blocks make the module, and which one is missing first.
use Rattle.std.proofs.Common.{◌≡◌, ◌≢◌, ℕ, zero, suc, ◌+◌, ◌*◌, ◌<◌, ◌≤◌, Bool, true, false, not, cond, List, [], ◌∷◌, length, take, drop, replicate, map, Option, Some, None, refl, ap, sym, ◌∙◌, subst, arith, get_or, take-add, zero-mul, suc-mul, add-mul, one-mul}
use Rattle.std.specs.List.{count_by, position, position_or_len, range_with_len}
use Rattle.std.specs.Option.{is_none}
use Rattle.std.proofs.lemmas.List.{drop-drop, take_all}
use Rattle.std.proofs.lemmas.List.Sums.{sum_by-cons, position_or_len_is}
use Rattle.std.proofs.lemmas.Grind.{div_ceil_times}
use Rattle.std.proofs.lemmas.Bool.{lt-ltb, le-ltb}
use Rattle.ddb_block.specs.Blocks.{block_count_of, block_of}
use Rattle.block_assembler.specs.Blocks.{Bytes, AssemblerState, join_all, empty_of, refilled}
use Rattle.block_assembler.specs.Kept.{blocks_from}
use Rattle.block_assembler.specs.Inner.Kept.{IsKept}
use Rattle.block_assembler.specs.declared.kept.Assembler.TheInside.{Inside}
use Rattle.block_assembler.proofs.Places.{viewed, length_blocks, block_there}

abbrev with_blocks : ℕ → ℕ → List (Option Bytes) → AssemblerState
with_blocks size k blocks = record { size = size; block_size = k; blocks = blocks }

count_cons : (t : Bool) (ts : List Bool) → count_by not (t ∷ ts) ≡ cond (not t) 1 0 + count_by not ts
count_cons t ts = sum_by-cons (λ (x : Bool). cond (not x) 1 0) t ts

joined_if_all : (bytes : Bytes) (k b : ℕ) (ts : List Bool) → count_by not ts ≡ 0 → join_all (blocks_from bytes k b ts) ≡ Some (take (length ts * k) (drop (b * k) bytes))
joined_if_all bytes k b [] e = rw (zero-mul k) refl
joined_if_all bytes k b (false ∷ ts) e = absurd (omega (arith, count_cons false ts))
joined_if_all bytes k b (true ∷ ts) e =
    let rest : join_all (blocks_from bytes k (b + 1) ts) ≡ Some (take (length ts * k) (drop ((b + 1) * k) bytes)) =
    joined_if_all bytes k (b + 1) ts (omega (arith, count_cons true ts)) in
    let next : drop ((b + 1) * k) bytes ≡ drop k (drop (b * k) bytes) =
    ap (λ (n : ℕ). drop n bytes) (omega (arith, add-mul b 1 k, one-mul k)) ∙ sym (drop-drop k (b * k) bytes) in
    let more : suc (length ts) * k ≡ k + length ts * k = omega (arith, suc-mul (length ts) k) in
    rw rest (rw (next, more) (ap (λ (x : Bytes). Some x) (sym (take-add k (length ts * k) (drop (b * k) bytes)))))

joined_if_not : (bytes : Bytes) (k b : ℕ) (ts : List Bool) → count_by not ts ≢ 0 → join_all (blocks_from bytes k b ts) ≡ None
joined_if_not bytes k b [] e = absurd (e refl)
joined_if_not bytes k b (false ∷ ts) e = refl
joined_if_not bytes k b (true ∷ ts) e =
    rw (joined_if_not bytes k (b + 1) ts (λ g. e (omega (arith, count_cons true ts, g)))) refl

all_marked : (ts : List Bool) (i : ℕ) → count_by not ts ≡ 0 → i < length ts → get_or ts i false ≡ true
all_marked [] i e h = absurd (omega arith)
all_marked (false ∷ ts) i e h = absurd (omega (arith, count_cons false ts))
all_marked (true ∷ ts) zero e h = refl
all_marked (true ∷ ts) (suc i) e h = all_marked ts i (omega (arith, count_cons true ts)) (omega arith)

-- where the last block is there, the bytes reach to the module's end
pub all_came : (a : Inside) → IsKept a → count_by not a.there.items ≡ 0 → length a.bytes.items ≡ a.size
all_came a kept e = by_number (block_count_of a.size a.block_size) kept.marks refl where
  by_number : (n : ℕ) → length a.there.items ≡ n → block_count_of a.size a.block_size ≡ n → length a.bytes.items ≡ a.size
  by_number zero h g = omega (arith, div_ceil_times a.size a.block_size kept.sizes.some_block_size, kept.bytes, zero-mul a.block_size, ap (λ (n : ℕ). n * a.block_size) g)
  by_number (suc b) h g =
      omega (
        arith,
        kept.bytes,
        kept.reach b (all_marked a.there.items b e (omega arith)),
        div_ceil_times a.size a.block_size kept.sizes.some_block_size,
        ap (λ (n : ℕ). n * a.block_size) g,
        suc-mul b a.block_size,
      )

pub is_whole : (size k : ℕ) (bytes : Bytes) (ts : List Bool) → 0 < k → length bytes ≡ size → length ts ≡ block_count_of size k → count_by not ts ≡ 0
    → join_all (viewed size k bytes ts).blocks ≡ Some bytes
is_whole size k bytes ts positive n l e =
    let all : length bytes ≤ length ts * k = rw (n, l) (div_ceil_times size k positive).0 in
    joined_if_all bytes k 0 ts e ∙ rw (zero-mul k) (ap (λ (x : Bytes). Some x) (take_all (length ts * k) bytes all))

pub is_not_whole : (size k : ℕ) (bytes : Bytes) (ts : List Bool) → count_by not ts ≢ 0 → join_all (viewed size k bytes ts).blocks ≡ None
is_not_whole size k bytes ts e = joined_if_not bytes k 0 ts e

-- each block is marked: the blocks are the bytes, cut
all_cut : (bytes : Bytes) (k b : ℕ) (ts : List Bool) → count_by not ts ≡ 0 → blocks_from bytes k b ts ≡ map (λ n. Some (block_of bytes k n)) (range_with_len b (length ts))
all_cut bytes k b [] e = refl
all_cut bytes k b (false ∷ ts) e = absurd (omega (arith, count_cons false ts))
all_cut bytes k b (true ∷ ts) e = ap (λ (xs : List (Option Bytes)). Some (block_of bytes k b) ∷ xs) (all_cut bytes k (b + 1) ts (omega (arith, count_cons true ts)))

pub is_refilled : (size k : ℕ) (bytes : Bytes) (ts : List Bool) → length ts ≡ block_count_of size k → count_by not ts ≡ 0
    → viewed size k bytes ts ≡ refilled (record { size = size; block_size = k }) bytes
is_refilled size k bytes ts l e =
    ap (λ (xs : List (Option Bytes)). with_blocks size k xs)
    (all_cut bytes k 0 ts e ∙ ap (λ (n : ℕ). map (λ b. Some (block_of bytes k b)) (range_with_len 0 n)) l)

-- ---- the first that is missing

none_at : (bytes : Bytes) (k : ℕ) (ts : List Bool) (i : ℕ) (t : Bool) → get_or ts i false ≡ t → is_none (get_or (blocks_from bytes k 0 ts) i None) ≡ not t
none_at bytes k ts i true e =
    let there : get_or (blocks_from bytes k 0 ts) i None ≡ Some (block_of bytes k i) = block_there bytes k ts i ∙ rw e refl in
    rw there refl
none_at bytes k ts i false e =
    let there : get_or (blocks_from bytes k 0 ts) i None ≡ None = block_there bytes k ts i ∙ rw e refl in
    rw there refl

place_is : (bytes : Bytes) (k : ℕ) (ts : List Bool) (p : ℕ) → p ≤ length ts → ((i : ℕ) → i < p → get_or ts i false ≡ true) → (p < length ts → get_or ts p false ≡ false)
    → position_or_len is_none (blocks_from bytes k 0 ts) ≡ p
place_is bytes k ts p h before here =
    position_or_len_is is_none (blocks_from bytes k 0 ts) p None (omega (arith, length_blocks bytes k 0 ts))
    (λ i l. none_at bytes k ts i true (before i l))
    (λ l. none_at bytes k ts p false (here (omega (arith, length_blocks bytes k 0 ts))))

pub missing_here : (size k : ℕ) (bytes : Bytes) (ts seen : List Bool) (p : ℕ) → seen ≡ ts → p < length seen → ((i : ℕ) → i < p → get_or seen i false ≡ true) → get_or seen p false ≡ false
    → Some p ≡ position is_none (viewed size k bytes ts).blocks
missing_here size k bytes ts seen p e h before here =
    let P : List Bool → Type 0 = λ xs. Some p ≡ position is_none (viewed size k bytes xs).blocks in
    let inside : p < length (blocks_from bytes k 0 seen) = omega (arith, length_blocks bytes k 0 seen) in
    let place : position_or_len is_none (blocks_from bytes k 0 seen) ≡ p = place_is bytes k seen p (omega arith) before (λ _. here) in
    let there : P seen = sym (rw (place, lt-ltb p (length (blocks_from bytes k 0 seen)) inside) refl) in
    subst P e there

pub none_missing : (size k : ℕ) (bytes : Bytes) (ts seen : List Bool) (p : ℕ) → seen ≡ ts → length seen ≤ p → ((i : ℕ) → i < p → get_or seen i false ≡ true)
    → None ≡ position is_none (viewed size k bytes ts).blocks
none_missing size k bytes ts seen p e h before =
    let P : List Bool → Type 0 = λ xs. None ≡ position is_none (viewed size k bytes xs).blocks in
    let all : (i : ℕ) → i < length seen → get_or seen i false ≡ true = λ i l. before i (omega arith) in
    let place : position_or_len is_none (blocks_from bytes k 0 seen) ≡ length seen = place_is bytes k seen (length seen) (omega arith) all (λ l. absurd (omega arith)) in
    let there : P seen = sym (rw (place, le-ltb (length seen) (length (blocks_from bytes k 0 seen)) (omega (arith, length_blocks bytes k 0 seen))) refl) in
    subst P e there

-- ---- a new assembler

unset_blocks : (bytes : Bytes) (k b n : ℕ) → blocks_from bytes k b (replicate n false) ≡ replicate n None
unset_blocks bytes k b zero = refl
unset_blocks bytes k b (suc n) = ap (λ (xs : List (Option Bytes)). None ∷ xs) (unset_blocks bytes k (b + 1) n)

pub made_empty : (size k n : ℕ) (bytes : Bytes) (ts : List Bool) → ts ≡ replicate n false → n ≡ block_count_of size k → viewed size k bytes ts ≡ empty_of size k
made_empty size k n bytes ts e h =
    ap (viewed size k bytes) (e ∙ ap (λ (m : ℕ). replicate m false) h)
    ∙ ap (λ (xs : List (Option Bytes)). with_blocks size k xs) (unset_blocks bytes k 0 (block_count_of size k))
