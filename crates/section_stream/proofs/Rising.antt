-- Sections of groups begin one after another: in a later packet, or at a later byte of the same.
use Rattle.std.proofs.Common.{◌⊎◌, inl, inr, ◌≡◌, ℕ, zero, suc, ◌+◌, ◌-◌, ◌<◌, ◌≤◌, Bool, true, false, ◌&&◌, ◌||◌, ◌==◌, nat_le, nat_lt, List, [], ◌∷◌, ◌++◌, length, map, take, drop, Option, None, if◌then◌else◌, refl, sym, subst, arith, append_assoc}
use Rattle.std.specs.List.{All, sum_by}
use Rattle.section_stream.specs.Cuts.{Bytes}
use Rattle.section_stream.specs.Rules.{nothing_counted}
use Rattle.section_stream.specs.Packing.{IsSectionLike, is_none}
use Rattle.section_stream.specs.Groups.{Filling, fill, Laid, with_start, lay_packet, is_done, layout_from, layout_of, places_in, starts_from, starts, Rise}
use Rattle.section_stream.proofs.Grouped.{IsUnderWay, Leaves, does, laid_leaves}

-- offsets that rise from `low` on
abbrev pub Offsets : ℕ → List ℕ → Type 0
Offsets low [] = Unit {0}
Offsets low (o ∷ os) = (low ≤ o) × Offsets (o + 1) os

offsets_from : (low high : ℕ) (os : List ℕ) → low ≤ high → Offsets high os → Offsets low os
offsets_from low high [] h i = tt
offsets_from low high (o ∷ os) h i = let j : high ≤ o = i.0 in (omega (arith, h, j), i.1)

fill_rises : (at room : ℕ) (ss : List Bytes) → All IsSectionLike ss → Offsets at (fill at room ss).offsets
fill_rises at room [] all = tt
fill_rises at room (s ∷ ss) all = go (λ i. fill_rises (at + length s) i ss (λ k d b. all (suc k) d (omega (arith, b)))) (room == 0) refl where
  Claim : Filling → Type 0
  Claim f = Offsets at f.offsets

  Next : Type 0
  Next = (i : ℕ) → Offsets (at + length s) (fill (at + length s) i ss).offsets

  one : IsSectionLike s
  one = all 0 s (omega arith)

  fits : Next → (room == 0) ≡ false → (t : Bool) → nat_le (length s) room ≡ t → Claim (fill at room (s ∷ ss))
  fits next z true e = let long : 12 ≤ length s = one.size.0 in rw (z, e) (omega arith, offsets_from (at + 1) (at + length s) _ (omega (arith, long)) (next (room - length s)))
  fits next z false e = rw (z, e) (omega arith, tt)

  go : Next → (t : Bool) → (room == 0) ≡ t → Claim (fill at room (s ∷ ss))
  go next true z = rw z tt
  go next false z = fits next z (nat_le (length s) room) refl

laid_rises : (begun : Bytes) (rest : List Bytes) → All IsSectionLike rest → Offsets 0 (lay_packet begun rest).offsets
laid_rises begun rest all = go (nat_le 184 (length begun)) ((length begun == 183) || (nat_lt 0 (length begun) && is_none rest)) where
  go : (t b : Bool) → Offsets 0 (if t then record { start = false; bytes = take 184 begun; begun = drop 184 begun; rest = rest; offsets = [] }
      else (if b then record { start = false; bytes = begun; begun = []; rest = rest; offsets = [] }
      else with_start begun (fill (5 + length begun) (183 - length begun) rest))).offsets
  go true b = tt
  go false true = tt
  go false false = offsets_from 0 (5 + length begun) _ (omega arith) (fill_rises (5 + length begun) (183 - length begun) rest all)

-- what rises from the next packet on rises from any byte of this one
rise_later : (n k o : ℕ) (ps : List (ℕ × ℕ)) → n < k → Rise k 0 ps → Rise n o ps
rise_later n k o [] i h = tt
rise_later n k o (p ∷ ps) i h = (inl (later h.0), h.1) where
  later : (k < p.0) ⊎ ((p.0 ≡ k) × (0 ≤ p.1)) → n < p.0
  later (inl j) = omega (arith, i, j)
  later (inr j) = let same : p.0 ≡ k = j.0 in omega (arith, i, same)

rise_packet : (n o : ℕ) (os : List ℕ) (more : List (ℕ × ℕ)) → Offsets o os → Rise (n + 1) 0 more → Rise n o (map (λ x. (n, x)) os ++ more)
rise_packet n o [] more h i = rise_later n (n + 1) o more (omega arith) i
rise_packet n o (x ∷ os) more h i = (inr (refl, h.0), rise_packet n (x + 1) os more h.1 i)

same_packet : (n k : ℕ) (more : List (ℕ × ℕ)) → k ≡ n → Rise k 0 more → Rise n 0 more
same_packet n k more e h = subst (λ j. Rise j 0 more) e h

layout_rises : (steps n : ℕ) (o : Option Bytes) (begun : Bytes) (rest : List Bytes) (more : List (ℕ × ℕ)) → IsUnderWay o begun → All IsSectionLike rest
    → Rise (n + length (layout_from steps begun rest)) 0 more → Rise n 0 (places_in n (layout_from steps begun rest) ++ more)
layout_rises zero n o begun rest more h all i = same_packet n (n + 0) more (omega arith) i
layout_rises (suc steps) n o begun rest more h all i = go (λ p b ss u v w. layout_rises steps (n + 1) p b ss more u v w) (is_done begun rest) refl i where
  l : Laid
  l = lay_packet begun rest

  ls : List Laid
  ls = layout_from steps l.begun l.rest

  Claim : List Laid → Type 0
  Claim ms = Rise (n + length ms) 0 more → Rise n 0 (places_in n ms ++ more)

  Next : Type 0
  Next = (p : Option Bytes) (b : Bytes) (ss : List Bytes) → IsUnderWay p b → All IsSectionLike ss → Rise (n + 1 + length (layout_from steps b ss)) 0 more → Rise (n + 1) 0 (places_in (n + 1) (layout_from steps b ss) ++ more)

  one : Next → is_done begun rest ≡ false → Claim (l ∷ ls)
  one again d j =
      let is : Leaves o begun rest (does o nothing_counted l) l = laid_leaves o begun rest nothing_counted h all d in
      let behind : Rise (n + 1) 0 (places_in (n + 1) ls ++ more) =
      again (does o nothing_counted l).opened l.begun l.rest is.under is.all (same_packet (n + 1 + length ls) (n + length (l ∷ ls)) more (omega arith) j) in
      subst (λ ps. Rise n 0 ps) (sym (append_assoc (map (λ x. (n, x)) l.offsets) (places_in (n + 1) ls) more)) (rise_packet n 0 l.offsets _ (laid_rises begun rest all) behind)

  go : Next → (b : Bool) → is_done begun rest ≡ b → Claim (if is_done begun rest then [] else l ∷ ls)
  go again true d = subst (λ b. Claim (if b then [] else l ∷ ls)) (sym d) (λ j. same_packet n (n + 0) more (omega arith) j)
  go again false d = subst (λ b. Claim (if b then [] else l ∷ ls)) (sym d) (one again d)

groups_rise : (n : ℕ) (groups : List (List Bytes)) → All (All IsSectionLike) groups → Rise n 0 (starts_from n groups)
groups_rise n [] all = tt
groups_rise n (g ∷ gs) all =
    layout_rises (sum_by length g) n None [] g (starts_from (n + length (layout_of g)) gs) refl (all 0 g (omega arith))
    (groups_rise (n + length (layout_of g)) gs (λ i d b. all (suc i) d (omega (arith, b))))

pub starts-rise : (groups : List (List Bytes)) → All (All IsSectionLike) groups → Rise 0 0 (starts groups)
starts-rise groups all = groups_rise 0 groups all
