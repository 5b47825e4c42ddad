-- The blocks of a buffer, and what a write or a mark changes.
use Rattle.std.proofs.Common.{◌≡◌, ◌≢◌, ℕ, zero, suc, ◌+◌, ◌-◌, ◌*◌, ◌<◌, ◌≤◌, min, Bool, true, false, cond, List, [], ◌∷◌, ◌++◌, length, take, drop, replicate, Option, Some, None, is_some, if◌then◌else◌, refl, ap, sym, ◌∙◌, subst, arith, get_or, set, get_or-set_other, get_or-set_same, length-append, length-drop, mul-le-mul_left, suc-mul, mul_comm, ◌⊎◌, inl, inr}
use Rattle.std.proofs.Math.ListN.{get_or-eq_default}
use Rattle.std.proofs.lemmas.List.{drop-append-le, drop-drop, drop_all, drop_at, take_at, take_all, take-append-le, take-append-drop, append_assoc, length-set, length-take, length-replicate, ext_get_or, set-get_or, get_or_read, append-nil}
use Rattle.std.proofs.lemmas.Bool.{eq-eqb, ne_eqb, lt-ltb, le-ltb, cases_eq, cases_order}
use Rattle.std.proofs.lemmas.Grind.{div_ceil_times}
use Rattle.ddb_block.specs.Blocks.{block_count_of, block_span_of, block_of}
use Rattle.block_assembler.specs.Blocks.{Bytes, AssemblerState, block_in, offer_of, is_new, after_forget, after_offer}
use Rattle.block_assembler.specs.declared.Offer.{Offer}
use Rattle.block_assembler.specs.declared.Offer.TheVariants.{WrongPlace, WrongLength, Again, New}
use Rattle.block_assembler.specs.Kept.{blocks_from, view_assembler}
use Rattle.block_assembler.specs.Inner.Kept.{written, IsKept}
use Rattle.block_assembler.specs.declared.kept.Assembler.TheInside.{Inside}

-- ---- block by block

pub length_blocks : (bytes : Bytes) (k b : ℕ) (ts : List Bool) → length (blocks_from bytes k b ts) ≡ length ts
length_blocks bytes k b [] = refl
length_blocks bytes k b (t ∷ ts) = ap suc (length_blocks bytes k (b + 1) ts)

block_at_place : (bytes : Bytes) (k b : ℕ) (ts : List Bool) (i : ℕ) → get_or (blocks_from bytes k b ts) i None ≡ cond (get_or ts i false) (Some (block_of bytes k (b + i))) None
block_at_place bytes k b [] i = refl
block_at_place bytes k b (t ∷ ts) zero =
    let e : b + 0 ≡ b = omega arith in
    ap (λ (n : ℕ). cond t (Some (block_of bytes k n)) None) (sym e)
block_at_place bytes k b (t ∷ ts) (suc i) =
    let e : b + 1 + i ≡ b + suc i = omega arith in
    block_at_place bytes k (b + 1) ts i ∙ ap (λ (n : ℕ). cond (get_or ts i false) (Some (block_of bytes k n)) None) e

pub block_there : (bytes : Bytes) (k : ℕ) (ts : List Bool) (i : ℕ) → get_or (blocks_from bytes k 0 ts) i None ≡ cond (get_or ts i false) (Some (block_of bytes k i)) None
block_there bytes k ts i =
    let e : 0 + i ≡ i = omega arith in
    block_at_place bytes k 0 ts i ∙ ap (λ (n : ℕ). cond (get_or ts i false) (Some (block_of bytes k n)) None) e

if_marked : (t : Bool) (x y : Bytes) → (t ≡ true → x ≡ y) → cond t (Some x) None ≡ cond t (Some y) None
if_marked false x y e = refl
if_marked true x y e = ap (λ (z : Bytes). Some z) (e refl)

-- one place's mark and block are new, and the other blocks that are marked are the same
mark_set : (old new : Bytes) (k : ℕ) (ts : List Bool) (i : ℕ) (t : Bool) (o : Option Bytes) → i < length ts
    → cond t (Some (block_of new k i)) None ≡ o
    → ((j : ℕ) → j ≢ i → get_or ts j false ≡ true → block_of new k j ≡ block_of old k j)
    → blocks_from new k 0 (set ts i t) ≡ set (blocks_from old k 0 ts) i o
mark_set old new k ts i t o h e others =
    ext_get_or None (blocks_from new k 0 (set ts i t)) (set (blocks_from old k 0 ts) i o)
    (length_blocks new k 0 (set ts i t) ∙ length-set ts i t ∙ sym (length-set (blocks_from old k 0 ts) i o ∙ length_blocks old k 0 ts))
    (λ j _. by_place j (cases_eq j i))
  where
    by_place : (j : ℕ) → (j ≡ i) ⊎ (j ≡ i → ⊥) → get_or (blocks_from new k 0 (set ts i t)) j None ≡ get_or (set (blocks_from old k 0 ts) i o) j None
    by_place j (inl same) =
        let inside : i < length (blocks_from old k 0 ts) = omega (arith, length_blocks old k 0 ts) in
        rw same (block_there new k (set ts i t) i
        ∙ ap (λ (x : Bool). cond x (Some (block_of new k i)) None) (get_or-set_same ts i t false h)
        ∙ e
        ∙ sym (get_or-set_same (blocks_from old k 0 ts) i o None inside))
    by_place j (inr other) =
        block_there new k (set ts i t) j
        ∙ ap (λ (x : Bool). cond x (Some (block_of new k j)) None) (get_or-set_other ts i j t false other)
        ∙ if_marked (get_or ts j false) (block_of new k j) (block_of old k j) (others j other)
        ∙ sym (block_there old k ts j)
        ∙ sym (get_or-set_other (blocks_from old k 0 ts) i j o None other)

mark_unset : (bytes : Bytes) (k : ℕ) (ts : List Bool) (i : ℕ) → i < length ts → blocks_from bytes k 0 (set ts i false) ≡ set (blocks_from bytes k 0 ts) i None
mark_unset bytes k ts i h = mark_set bytes bytes k ts i false None h refl (λ j _ _. refl)

-- a place that isn't marked has no block
already_unset : (bytes : Bytes) (k : ℕ) (ts : List Bool) (i : ℕ) → i < length ts → get_or ts i false ≡ false → blocks_from bytes k 0 ts ≡ set (blocks_from bytes k 0 ts) i None
already_unset bytes k ts i h e =
    let same : set ts i false ≡ ts = ap (set ts i) (sym e) ∙ set-get_or ts i false in
    ap (blocks_from bytes k 0) (sym same) ∙ mark_unset bytes k ts i h

-- ---- the whole state

abbrev pub viewed : ℕ → ℕ → Bytes → List Bool → AssemblerState
viewed size k bytes ts = record { size = size; block_size = k; blocks = blocks_from bytes k 0 ts }

with_blocks : ℕ → ℕ → List (Option Bytes) → AssemblerState
with_blocks size k blocks = record { size = size; block_size = k; blocks = blocks }

pub forgotten : (size k : ℕ) (bytes : Bytes) (ts : List Bool) (place b : ℕ) → place ≡ b → b < length ts → viewed size k bytes (set ts place false) ≡ after_forget (viewed size k bytes ts) b
unfolding with_blocks
forgotten size k bytes ts place b e h =
    ap (λ (i : ℕ). viewed size k bytes (set ts i false)) e ∙ ap (with_blocks size k) (mark_unset bytes k ts b h)

pub nothing_to_forget : (size k : ℕ) (bytes : Bytes) (ts : List Bool) (place b : ℕ) (mark : Bool) → place ≡ b → b < length ts → mark ≡ get_or ts place mark → mark ≡ false → viewed size k bytes ts ≡ after_forget (viewed size k bytes ts) b
unfolding with_blocks
nothing_to_forget size k bytes ts place b mark e h m f =
    let unset : get_or ts b false ≡ false = ap (λ (i : ℕ). get_or ts i false) (sym e) ∙ sym (get_or_read ts place mark (omega arith) m false) ∙ f in
    ap (with_blocks size k) (already_unset bytes k ts b h unset)

pub below_marks : (size k : ℕ) (bytes : Bytes) (ts : List Bool) (v : AssemblerState) (b : ℕ) → viewed size k bytes ts ≡ v → length ts ≡ block_count_of size k → b < block_count_of v.size v.block_size → b < length ts
below_marks size k bytes ts v b e n h =
    let here : b < block_count_of size k = subst (λ (w : AssemblerState). b < block_count_of w.size w.block_size) (sym e) h in
    omega (arith, n)

-- ---- a write of one block

length_front : (n : ℕ) (bytes : Bytes) → length (take n bytes ++ replicate (n - length bytes) 0) ≡ n
length_front n bytes = omega (arith, length-append (take n bytes) (replicate (n - length bytes) 0), length-take n bytes, length-replicate {A = ℕ} (n - length bytes) 0)

short_front : (k b size n : ℕ) → b * k < size → n ≡ min k (size - b * k) → n ≢ k → b * k + n ≡ size
short_front k b size n h e ne = omega arith

block_written : (size k b : ℕ) (old new : Bytes) → length old ≤ size → b * k < size → length new ≡ block_span_of size k b → block_of (written (b * k) new old) k b ≡ new
block_written size k b old new short h e =
    ap (take k) (ap (drop (b * k)) (append_assoc front new rest) ∙ drop_at front (new ++ rest) (b * k) (length_front (b * k) old))
    ∙ by_length (cases_eq (length new) k)
  where
    front : Bytes
    front = take (b * k) old ++ replicate (b * k - length old) 0

    rest : Bytes
    rest = drop (b * k + length new) old

    by_length : (length new ≡ k) ⊎ (length new ≡ k → ⊥) → take k (new ++ rest) ≡ new
    by_length (inl same) = take_at new rest k same
    by_length (inr other) =
        let none : rest ≡ [] = drop_all (b * k + length new) old (omega (arith, short_front k b size (length new) h e other)) in
        rw none (rw append-nil (take_all k new (omega (arith, e))))

fronts_alike : (p q r : Bytes) (k n : ℕ) → n + k ≤ length p → take k (drop n (p ++ q)) ≡ take k (drop n (p ++ r))
fronts_alike p q r k n h =
    rw (drop-append-le n p q (omega arith), drop-append-le n p r (omega arith))
    (rw (take-append-le k (drop n p) q (omega (arith, length-drop n p)), take-append-le k (drop n p) r (omega (arith, length-drop n p))) refl)

drop_past : (p q : Bytes) (n m : ℕ) → length p + m ≡ n → drop n (p ++ q) ≡ drop m q
drop_past p q n m e = rw (← e) (sym (drop-drop m (length p) (p ++ q)) ∙ ap (drop m) (drop_at p q (length p) refl))

up_to : (j b k : ℕ) → j < b → j * k + k ≤ b * k
up_to j b k h = omega (arith, mul-le-mul_left k h, suc-mul j k, mul_comm j k, mul_comm b k, mul_comm (suc j) k)

-- another block, to whose end the bytes reached
block_kept : (size k b j : ℕ) (old new : Bytes) → min size (j * k + k) ≤ length old → b * k < size → length new ≡ block_span_of size k b → j ≢ b
    → block_of (written (b * k) new old) k j ≡ block_of old k j
block_kept size k b j old new reach h e ne = by_order (cases_order j b) where
  front : Bytes
  front = take (b * k) old

  zeros : Bytes
  zeros = replicate (b * k - length old) 0

  end : ℕ
  end = b * k + length new

  by_order : (j ≡ b) ⊎ ((j < b) ⊎ (b < j)) → block_of (written (b * k) new old) k j ≡ block_of old k j
  by_order (inl same) = absurd (ne same)
  by_order (inr (inl less)) =
      ap (λ (x : Bytes). take k (drop (j * k) x)) (append_assoc (front ++ zeros) new (drop end old) ∙ append_assoc front zeros (new ++ drop end old))
      ∙ fronts_alike front (zeros ++ (new ++ drop end old)) (drop (b * k) old) k (j * k) (omega (arith, up_to j b k less, length-take (b * k) old))
      ∙ ap (λ (x : Bytes). take k (drop (j * k) x)) (take-append-drop (b * k) old)
  by_order (inr (inr more)) =
      ap (take k) (
      drop_past (front ++ zeros ++ new) (drop end old) (j * k) (j * k - end) (omega (arith, up_to b j k more, e, length_front (b * k) old, length-append (front ++ zeros) new))
      ∙ drop-drop (j * k - end) end old
      ∙ ap (λ (n : ℕ). drop n old) (omega (arith, up_to b j k more, e)))

-- ---- an offer

judged : (a : AssemblerState) (b : ℕ) (new : Bytes) → b < block_count_of a.size a.block_size → length new ≡ block_span_of a.size a.block_size b
    → offer_of a b new ≡ (if is_some (block_in a.blocks b) then Again else New)
judged a b new h e = rw (lt-ltb b (block_count_of a.size a.block_size) h, eq-eqb (length new) (block_span_of a.size a.block_size b) e) refl

block_if : (bytes : Bytes) (k : ℕ) (ts : List Bool) (place b : ℕ) (mark : Bool) → place ≡ b → b < length ts → mark ≡ get_or ts place mark
    → block_in (blocks_from bytes k 0 ts) b ≡ cond mark (Some (block_of bytes k b)) None
block_if bytes k ts place b mark e h m =
    let is : get_or ts b false ≡ mark = ap (λ (i : ℕ). get_or ts i false) (sym e) ∙ sym (get_or_read ts place mark (omega arith) m false) in
    block_there bytes k ts b ∙ ap (λ (x : Bool). cond x (Some (block_of bytes k b)) None) is

pub is_again : (size k : ℕ) (bytes : Bytes) (ts : List Bool) (place b : ℕ) (mark : Bool) (new : Bytes) → place ≡ b → b < length ts → mark ≡ get_or ts place mark → mark ≡ true
    → length ts ≡ block_count_of size k → length new ≡ block_span_of size k b → Again ≡ offer_of (viewed size k bytes ts) b new
is_again size k bytes ts place b mark new e h m t n l =
    let there : block_in (blocks_from bytes k 0 ts) b ≡ Some (block_of bytes k b) = block_if bytes k ts place b mark e h m ∙ rw t refl in
    sym (judged (viewed size k bytes ts) b new (omega (arith, n)) l ∙ rw there refl)

pub is_new_block : (size k : ℕ) (bytes : Bytes) (ts : List Bool) (place b : ℕ) (mark : Bool) (new : Bytes) → place ≡ b → b < length ts → mark ≡ get_or ts place mark → mark ≡ false
    → length ts ≡ block_count_of size k → length new ≡ block_span_of size k b → New ≡ offer_of (viewed size k bytes ts) b new
is_new_block size k bytes ts place b mark new e h m t n l =
    let there : block_in (blocks_from bytes k 0 ts) b ≡ None = block_if bytes k ts place b mark e h m ∙ rw t refl in
    sym (judged (viewed size k bytes ts) b new (omega (arith, n)) l ∙ rw there refl)

pub is_wrong_place : (size k : ℕ) (bytes : Bytes) (ts : List Bool) (b : ℕ) (new : Bytes) → length ts ≤ b → length ts ≡ block_count_of size k → WrongPlace ≡ offer_of (viewed size k bytes ts) b new
is_wrong_place size k bytes ts b new h n =
    let above : block_count_of size k ≤ b = omega (arith, n) in
    sym (rw (le-ltb b (block_count_of size k) above) refl)

pub is_wrong_length : (size k : ℕ) (bytes : Bytes) (ts : List Bool) (b : ℕ) (new : Bytes) → b < length ts → length ts ≡ block_count_of size k → length new ≢ block_span_of size k b → WrongLength ≡ offer_of (viewed size k bytes ts) b new
is_wrong_length size k bytes ts b new h n ne =
    let below : b < block_count_of size k = omega (arith, n) in
    sym (rw (lt-ltb b (block_count_of size k) below, ne_eqb (length new) (block_span_of size k b) ne) refl)

-- whether a block is there
pub is_marked : (size k : ℕ) (bytes : Bytes) (ts : List Bool) (place b : ℕ) (mark : Bool) → place ≡ b → b < length ts → mark ≡ get_or ts place mark → mark ≡ is_some (block_in (viewed size k bytes ts).blocks b)
is_marked size k bytes ts place b mark e h m = by mark (block_if bytes k ts place b mark e h m)
  where
    by : (t : Bool) → block_in (blocks_from bytes k 0 ts) b ≡ cond t (Some (block_of bytes k b)) None → t ≡ is_some (block_in (blocks_from bytes k 0 ts) b)
    by true there = rw there refl
    by false there = rw there refl

pub is_above : (size k : ℕ) (bytes : Bytes) (ts : List Bool) (b : ℕ) → length ts ≤ b → false ≡ is_some (block_in (viewed size k bytes ts).blocks b)
is_above size k bytes ts b h =
    let none : block_in (blocks_from bytes k 0 ts) b ≡ None = get_or-eq_default (blocks_from bytes k 0 ts) None (omega (arith, h, length_blocks bytes k 0 ts)) in
    rw none refl

-- an offer that isn't taken leaves the state
pub not_taken : (a : AssemblerState) (b : ℕ) (new : Bytes) (o : Offer) → o ≡ offer_of a b new → is_new o ≡ false → a ≡ after_offer a b new
not_taken a b new o e n = rw (← e, n) refl

inside_size : (size k b : ℕ) → 0 < k → b < block_count_of size k → b * k < size
inside_size size k b positive h = omega (arith, div_ceil_times size k positive, mul-le-mul_left k h, suc-mul b k, mul_comm (suc b) k, mul_comm k (suc b), mul_comm k (block_count_of size k))

pub taken : (a : Inside) → IsKept a → (b place start : ℕ) (new after : Bytes) → b < length a.there.items → place ≡ b → start ≡ place * a.block_size
    → length new ≡ block_span_of a.size a.block_size b → New ≡ offer_of (view_assembler a) b new → after ≡ written start new a.bytes.items
    → viewed a.size a.block_size after (set a.there.items place true) ≡ after_offer (view_assembler a) b new
unfolding with_blocks
taken a kept b place start new after h e s l o p =
    let here : start ≡ b * a.block_size = s ∙ ap (λ (i : ℕ). i * a.block_size) e in
    let inside : b * a.block_size < a.size = inside_size a.size a.block_size b kept.sizes.some_block_size (omega (arith, kept.marks)) in
    rw (← o, p, here, e)
    (ap (with_blocks a.size a.block_size)
    (mark_set a.bytes.items (written (b * a.block_size) new a.bytes.items) a.block_size a.there.items b true (Some new) h
    (ap (λ (x : Bytes). Some x) (block_written a.size a.block_size b a.bytes.items new kept.bytes inside l))
    (λ j ne m. block_kept a.size a.block_size b j a.bytes.items new (kept.reach j m) inside l ne)))
