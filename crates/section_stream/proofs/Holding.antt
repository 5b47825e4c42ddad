-- Section by section the packets of a group come as the layout of the whole has them.
use Rattle.std.proofs.Common.{◌≡◌, ℕ, zero, suc, ◌+◌, ◌-◌, ◌<◌, ◌≤◌, Bool, true, false, ◌&&◌, ◌||◌, ◌==◌, nat_le, nat_lt, List, [], ◌∷◌, ◌++◌, length, map, take, drop, if◌then◌else◌, refl, sym, ◌∙◌, ap, subst, arith, append_assoc, append-nil, length-drop, length-append}
use Rattle.std.specs.List.{All, sum_by}
use Rattle.std.proofs.lemmas.List.{take_all, drop_all}
use Rattle.std.proofs.lemmas.List.Sums.{sum_by-cons}
use Rattle.std.proofs.lemmas.Bool.{leb-true, ltb-true, ltb-false, le-leb}
use Rattle.section_stream.specs.Cuts.{Bytes}
use Rattle.section_stream.specs.Packing.{IsSectionLike, is_none, Held, give, send_begun, sent_of, put, end_packets}
use Rattle.section_stream.specs.Groups.{Filling, fill, Laid, with_start, lay_packet, is_done, layout_from, layout_of}
use Rattle.section_stream.proofs.Grouped.{fill_takes, fill_sizes}

-- a packet: whether a section begins in it, and its bytes before the stuffing
abbrev pub shape : Laid → Bool × Bytes
shape l = (l.start, l.bytes)

-- all packets of the sections to come and of what is held back
abbrev pub packed : Bytes → Bytes → List Bytes → List (Bool × Bytes)
packed tail body [] = end_packets tail body
packed tail body (s ∷ ss) = (put tail body s).given ++ packed (put tail body s).tail (put tail body s).body ss

-- ---- one packet of the layout

abbrev pub shapes : List Laid → List (Bool × Bytes)
shapes ls = map shape ls

pub some_left : (begun : Bytes) (rest : List Bytes) → 0 < length begun → is_done begun rest ≡ false
some_left [] rest h = absurd (omega (arith, h))
some_left (y ∷ ys) rest h = refl

pub some_behind : (begun s : Bytes) (ss : List Bytes) → is_done begun (s ∷ ss) ≡ false
some_behind [] s ss = refl
some_behind (y ∷ ys) s ss = refl

pub layout_step : (fuel : ℕ) (begun : Bytes) (rest : List Bytes) (l : Laid) → is_done begun rest ≡ false → lay_packet begun rest ≡ l → layout_from (suc fuel) begun rest ≡ l ∷ layout_from fuel l.begun l.rest
layout_step fuel begun rest l d e =
    ap (λ b. if b then [] else lay_packet begun rest ∷ layout_from fuel (lay_packet begun rest).begun (lay_packet begun rest).rest) d ∙ ap (λ x. x ∷ layout_from fuel x.begun x.rest) e

pub nothing_laid : (fuel : ℕ) → layout_from fuel [] [] ≡ []
nothing_laid zero = refl
nothing_laid (suc fuel) = refl

-- the packet, by the outcomes of the tests
abbrev pub laid_by : Bytes → List Bytes → Bool → Bool → Laid
laid_by begun rest t b =
    if t then record { start = false; bytes = take 184 begun; begun = drop 184 begun; rest = rest; offsets = [] }
    else (if b then record { start = false; bytes = begun; begun = []; rest = rest; offsets = [] }
    else with_start begun (fill (5 + length begun) (183 - length begun) rest))

pub laid_long : (begun : Bytes) (rest : List Bytes) → nat_le 184 (length begun) ≡ true → lay_packet begun rest ≡ record { start = false; bytes = take 184 begun; begun = drop 184 begun; rest = rest; offsets = [] }
laid_long begun rest t = ap (λ x. laid_by begun rest x ((length begun == 183) || (nat_lt 0 (length begun) && is_none rest))) t

pub laid_last : (begun : Bytes) (rest : List Bytes) → nat_le 184 (length begun) ≡ false → ((length begun == 183) || (nat_lt 0 (length begun) && is_none rest)) ≡ true
    → lay_packet begun rest ≡ record { start = false; bytes = begun; begun = []; rest = rest; offsets = [] }
laid_last begun rest t b = ap (λ x. laid_by begun rest x ((length begun == 183) || (nat_lt 0 (length begun) && is_none rest))) t ∙ ap (laid_by begun rest false) b

pub laid_start : (begun s : Bytes) (ss : List Bytes) → length begun < 183 → lay_packet begun (s ∷ ss) ≡ with_start begun (fill (5 + length begun) (183 - length begun) (s ∷ ss))
laid_start begun s ss h =
    let t : nat_le 184 (length begun) ≡ false = grind (arith, h) in
    let b : ((length begun == 183) || (nat_lt 0 (length begun) && false)) ≡ false = grind (arith, h) in
    ap (λ x. laid_by begun (s ∷ ss) x ((length begun == 183) || (nat_lt 0 (length begun) && false))) t ∙ ap (laid_by begun (s ∷ ss) false) b

-- ---- what the two orders have in common

abbrev pub formed : Bytes → Bytes → Filling → ℕ → List (Bool × Bytes)
formed tail body f fuel = (true, length tail ∷ (tail ++ (body ++ f.bytes))) ∷ shapes (layout_from fuel f.begun f.rest)

abbrev pub Tails : List Bytes → Type 0
Tails ss = (tail : Bytes) (fuel : ℕ) → length tail < 183 → length tail + sum_by length ss ≤ fuel → packed tail [] ss ≡ shapes (layout_from fuel tail ss)

abbrev pub Fills : List Bytes → Bytes → Type 0
Fills ss body = (tail : Bytes) (at room fuel : ℕ) → length tail + length body + room ≡ 183 → 0 < room → length (fill at room ss).begun + sum_by length (fill at room ss).rest ≤ fuel
    → packed tail body ss ≡ formed tail body (fill at room ss) fuel

-- what is left of a begun section, and then the sections after it
sent_is : (steps fuel : ℕ) (begun : Bytes) (ss : List Bytes) → length begun < steps → length begun + sum_by length ss ≤ fuel → Tails ss
    → (send_begun steps begun).given ++ packed (send_begun steps begun).tail (send_begun steps begun).body ss ≡ shapes (layout_from fuel begun ss)
sent_is zero fuel begun ss below fits next = absurd (omega (arith, below))
sent_is (suc steps) zero begun ss below fits next =
    let none : length begun ≡ 0 = omega (arith, fits) in
    let t : nat_le 184 (length begun) ≡ false = grind (arith, none) in
    let u : (length begun == 183) ≡ false = grind (arith, none) in
    rw (t, u) (next begun zero (omega (arith, none)) fits)
sent_is (suc steps) (suc fuel) begun ss below fits next = go (λ i j. sent_is steps fuel (drop 184 begun) ss i j next) (nat_le 184 (length begun)) refl where
  Claim : Held → Type 0
  Claim h = h.given ++ packed h.tail h.body ss ≡ shapes (layout_from (suc fuel) begun ss)

  by : Bool → Bool → Held
  by t u =
      if t then give (false, take 184 begun) (send_begun steps (drop 184 begun))
      else (if u then record { given = (false, begun) ∷ []; tail = []; body = [] } else record { given = []; tail = begun; body = [] })

  last : nat_le 184 (length begun) ≡ false → (u : Bool) → (length begun == 183) ≡ u → Claim (by false u)
  last t true u =
      let size : length begun ≡ 183 = grind (arith, u) in
      let b : ((length begun == 183) || (nat_lt 0 (length begun) && is_none ss)) ≡ true = ap (λ x. x || (nat_lt 0 (length begun) && is_none ss)) u in
      ap (λ x. (false, begun) ∷ x) (next [] fuel (omega arith) (omega (arith, size, fits)))
      ∙ sym (ap shapes (layout_step fuel begun ss _ (some_left begun ss (omega (arith, size))) (laid_last begun ss t b)))
  last t false u = next begun (suc fuel) (grind (arith, t, u)) fits

  go : ((i : length (drop 184 begun) < steps) → length (drop 184 begun) + sum_by length ss ≤ fuel
      → (send_begun steps (drop 184 begun)).given ++ packed (send_begun steps (drop 184 begun)).tail (send_begun steps (drop 184 begun)).body ss ≡ shapes (layout_from fuel (drop 184 begun) ss))
      → (t : Bool) → nat_le 184 (length begun) ≡ t → Claim (send_begun (suc steps) begun)
  go again true t =
      let i : 184 ≤ length begun = leb-true 184 (length begun) t in
      subst (λ x. Claim (by x (length begun == 183))) (sym t)
      (ap (λ x. (false, take 184 begun) ∷ x) (again (omega (arith, length-drop 184 begun, i, below)) (omega (arith, length-drop 184 begun, i, fits)))
      ∙ sym (ap shapes (layout_step fuel begun ss _ (some_left begun ss (omega (arith, i))) (laid_long begun ss t))))
  go again false t = subst (λ x. Claim (by x (length begun == 183))) (sym t) (last t (length begun == 183) refl)

-- ---- a section more

fill_none : (at : ℕ) (ss : List Bytes) → fill at 0 ss ≡ record { bytes = []; begun = []; rest = ss; offsets = [] }
fill_none at [] = refl
fill_none at (s ∷ ss) = refl

abbrev pub fill_by : ℕ → ℕ → Bytes → List Bytes → Bool → Filling
fill_by at room s ss t =
    if t then record { bytes = s ++ (fill (at + length s) (room - length s) ss).bytes; begun = (fill (at + length s) (room - length s) ss).begun; rest = (fill (at + length s) (room - length s) ss).rest; offsets = at ∷ (fill (at + length s) (room - length s) ss).offsets }
    else record { bytes = take room s; begun = drop room s; rest = ss; offsets = at ∷ [] }

pub fill_some : (at room : ℕ) (s : Bytes) (ss : List Bytes) → 0 < room → fill at room (s ∷ ss) ≡ fill_by at room s ss (nat_le (length s) room)
fill_some at room s ss h = let z : (room == 0) ≡ false = grind (arith, h) in rw z (by (nat_le (length s) room) refl) where
  by : (t : Bool) → nat_le (length s) room ≡ t
      → (if nat_le (length s) room then record { bytes = s ++ (fill (at + length s) (room - length s) ss).bytes; begun = (fill (at + length s) (room - length s) ss).begun; rest = (fill (at + length s) (room - length s) ss).rest; offsets = at ∷ (fill (at + length s) (room - length s) ss).offsets }
      else record { bytes = take room s; begun = drop room s; rest = ss; offsets = at ∷ [] }) ≡ fill_by at room s ss (nat_le (length s) room)
  by t e = refl

-- a section that fills the room, what is left of it, and the sections after it
pub record Filled (f : Filling) (room : ℕ) (s : Bytes) (ss : List Bytes) : Type 0 where
  pub bytes : f.bytes ≡ take room s
  pub begun : f.begun ≡ drop room s
  pub rest : f.rest ≡ ss

pub fill_full : (at room : ℕ) (s : Bytes) (ss : List Bytes) → 0 < room → room ≤ length s → Filled (fill at room (s ∷ ss)) room s ss
fill_full at room s ss h i = subst (λ f. Filled f room s ss) (sym (fill_some at room s ss h)) (go (nat_le (length s) room) refl) where
  go : (t : Bool) → nat_le (length s) room ≡ t → Filled (fill_by at room s ss t) room s ss
  go false t = record { bytes = refl; begun = refl; rest = refl }
  go true t =
      let j : length s ≤ room = leb-true (length s) room t in
      let none : room - length s ≡ 0 = omega (arith, j) in
      let f : fill (at + length s) (room - length s) ss ≡ record { bytes = []; begun = []; rest = ss; offsets = [] } = ap (λ k. fill (at + length s) k ss) none ∙ fill_none (at + length s) ss in
      record {
        bytes = ap (λ (x : Filling). s ++ x.bytes) f ∙ append-nil s ∙ sym (take_all room s j);
        begun = ap (λ (x : Filling). x.begun) f ∙ sym (drop_all room s j);
        rest = ap (λ (x : Filling). x.rest) f;
      }

abbrev put_by : ℕ → Bytes → Bytes → Bytes → Bool → Held
put_by room tail body s t =
    if t then record { given = []; tail = tail; body = body ++ s }
    else give (true, length tail ∷ (tail ++ (body ++ take room s))) (sent_of (drop room s))

one_more : (s : Bytes) (ss : List Bytes) → IsSectionLike s → Tails ss → ((body : Bytes) → 0 < length body → Fills ss body) → (body : Bytes) → Fills (s ∷ ss) body
unfolding sent_of
one_more s ss h tails fills body tail at room fuel size some fits =
    let is : 183 - (length tail + length body) ≡ room = omega (arith, size) in
    ap (λ (x : Held). x.given ++ packed x.tail x.body ss) (ap (λ k. put_by k tail body s (nat_lt (length s) k)) is) ∙ go (nat_lt (length s) room) refl where
      Claim : Held → Type 0
      Claim x = x.given ++ packed x.tail x.body ss ≡ formed tail body (fill at room (s ∷ ss)) fuel

      long : 12 ≤ length s
      long = h.size.0

      go : (t : Bool) → nat_lt (length s) room ≡ t → Claim (put_by room tail body s (nat_lt (length s) room))
      go true t =
          let i : length s < room = ltb-true (length s) room t in
          let in_room : nat_le (length s) room ≡ true = le-leb (length s) room (omega (arith, i)) in
          let f : fill at room (s ∷ ss) ≡ fill_by at room s ss true = fill_some at room s ss some ∙ ap (fill_by at room s ss) in_room in
          let left : length (fill (at + length s) (room - length s) ss).begun + sum_by length (fill (at + length s) (room - length s) ss).rest ≤ fuel =
          subst (λ (x : Filling). length x.begun + sum_by length x.rest ≤ fuel) f fits in
          let sizes : length tail + length (body ++ s) + (room - length s) ≡ 183 = omega (arith, size, i, length-append body s) in
          let more : 0 < length (body ++ s) = omega (arith, length-append body s, long) in
          subst (λ x. Claim (put_by room tail body s x)) (sym t)
          (fills (body ++ s) more tail (at + length s) (room - length s) fuel sizes (omega (arith, i)) left
          ∙ ap (λ x. (true, length tail ∷ (tail ++ x)) ∷ shapes (layout_from fuel (fill (at + length s) (room - length s) ss).begun (fill (at + length s) (room - length s) ss).rest)) (append_assoc body s (fill (at + length s) (room - length s) ss).bytes)
          ∙ ap (λ x. formed tail body x fuel) (sym f))
      go false t =
          let i : room ≤ length s = ltb-false (length s) room t in
          let f : Filled (fill at room (s ∷ ss)) room s ss = fill_full at room s ss some i in
          let left : length (drop room s) + sum_by length ss ≤ fuel = subst (λ x. length (drop room s) + sum_by length x ≤ fuel) f.rest (subst (λ (x : Bytes). length x + sum_by length (fill at room (s ∷ ss)).rest ≤ fuel) f.begun fits) in
          let below : length (drop room s) < suc (length (drop room s)) = omega arith in
          subst (λ x. Claim (put_by room tail body s x)) (sym t)
          (ap (λ x. (true, length tail ∷ (tail ++ (body ++ take room s))) ∷ x) (sent_is (suc (length (drop room s))) fuel (drop room s) ss below left tails)
          ∙ ap (λ x. (true, length tail ∷ (tail ++ (body ++ take room s))) ∷ shapes (layout_from fuel x ss)) (sym f.begun)
          ∙ ap (λ x. (true, length tail ∷ (tail ++ (body ++ take room s))) ∷ shapes (layout_from fuel (fill at room (s ∷ ss)).begun x)) (sym f.rest)
          ∙ ap (λ x. (true, length tail ∷ (tail ++ (body ++ x))) ∷ shapes (layout_from fuel (fill at room (s ∷ ss)).begun (fill at room (s ∷ ss)).rest)) (sym f.bytes))

tails_end : Tails []
tails_end [] fuel i fits = sym (ap shapes (nothing_laid fuel))
tails_end (y ∷ ys) zero i fits = absurd (omega (arith, fits))
tails_end (y ∷ ys) (suc fuel) i fits =
    let t : nat_le 184 (length (y ∷ ys)) ≡ false = grind (arith, i) in
    let b : ((length (y ∷ ys) == 183) || (nat_lt 0 (length (y ∷ ys)) && true)) ≡ true = grind (arith, i) in
    sym (ap shapes (layout_step fuel (y ∷ ys) [] _ refl (laid_last (y ∷ ys) [] t b)) ∙ ap (λ ls. (false, y ∷ ys) ∷ shapes ls) (nothing_laid fuel))

fills_end : (body : Bytes) → 0 < length body → Fills [] body
fills_end [] some tail at room fuel size h fits = absurd (omega (arith, some))
fills_end (y ∷ ys) some tail at room fuel size h fits =
    ap (λ x. (true, length tail ∷ (tail ++ x)) ∷ []) (sym (append-nil (y ∷ ys))) ∙ ap (λ ls. (true, length tail ∷ (tail ++ ((y ∷ ys) ++ []))) ∷ shapes ls) (sym (nothing_laid fuel))

tails_more : (s : Bytes) (ss : List Bytes) → IsSectionLike s → Fills (s ∷ ss) [] → Tails (s ∷ ss)
tails_more s ss h fills tail zero i fits = let long : 12 ≤ length s = h.size.0 in absurd (omega (arith, long, fits, sum_by-cons length s ss))
tails_more s ss h fills tail (suc fuel) i fits =
    let at : ℕ = 5 + length tail in
    let room : ℕ = 183 - length tail in
    let long : 12 ≤ length s = h.size.0 in
    let some : 0 < length (fill at room (s ∷ ss)).bytes = fill_takes at room s ss (omega (arith, i)) (omega (arith, long)) in
    let sizes : length (fill at room (s ∷ ss)).bytes + (length (fill at room (s ∷ ss)).begun + sum_by length (fill at room (s ∷ ss)).rest) ≡ sum_by length (s ∷ ss) = fill_sizes at room (s ∷ ss) in
    fills tail at room fuel (omega (arith, i)) (omega (arith, i)) (omega (arith, some, sizes, fits))
    ∙ sym (ap shapes (layout_step fuel tail (s ∷ ss) _ (some_behind tail s ss) (laid_start tail s ss i)))

packs : (ss : List Bytes) → All IsSectionLike ss → Tails ss × ((body : Bytes) → 0 < length body → Fills ss body)
packs [] all = (tails_end, fills_end)
packs (s ∷ ss) all =
    let h : IsSectionLike s = all 0 s (omega arith) in
    let next : Tails ss × ((body : Bytes) → 0 < length body → Fills ss body) = packs ss (λ i d b. all (suc i) d (omega (arith, b))) in
    let fills : (body : Bytes) → Fills (s ∷ ss) body = one_more s ss h next.0 next.1 in
    (tails_more s ss h (fills []), λ body some. fills body)

pub packed-is-layout : (group : List Bytes) → All IsSectionLike group → packed [] [] group ≡ map shape (layout_of group)
packed-is-layout group all = (packs group all).0 [] (sum_by length group) (omega arith) (omega arith)
