-- The packets of groups of sections that stand back to back are cut into these sections again.
use Rattle.std.proofs.Common.{◌⊎◌, inl, inr, ◌≡◌, ℕ, zero, suc, ◌+◌, ◌-◌, ◌%◌, ◌<◌, ◌≤◌, Bool, true, false, ◌&&◌, ◌||◌, ◌==◌, nat_le, nat_lt, List, [], ◌∷◌, ◌++◌, length, take, drop, replicate, slice_index, Option, Some, None, if◌then◌else◌, refl, sym, ◌∙◌, ap, subst, arith, append_assoc, append-nil, add-zero, length-drop, length-append}
use mathlib.Core.Bool.{true≢false}
use Rattle.std.specs.List.{All, flat_map, sum_by}
use Rattle.std.proofs.lemmas.Grind.{common_steps}
use Rattle.std.proofs.lemmas.List.{take_all, drop_all, take-append-drop, length-take-le}
use Rattle.std.proofs.lemmas.List.Sums.{sum_by-cons}
use Rattle.std.proofs.lemmas.Bool.{cases_lt, leb-true, leb-false}
use Rattle.std.proofs.Math.Seq.{take-append_seam, drop-append_seam}
use Rattle.carousel_profile.specs.declared.TheConstants.{PACKET_LENGTH}
use Rattle.section_stream.specs.declared.counts.Counts.{Counts}
use Rattle.section_stream.specs.Cuts.{Bytes, Received, without_repeats, cuts_of, candidates}
use Rattle.section_stream.specs.Rules.{After, Growing, Whole, as_grown, with_out, open_on, after_append, goes_on, closes, starts, up, nothing_counted}
use Rattle.section_stream.specs.Packing.{MuxState, IsSectionLike, with_stuffing, is_none}
use Rattle.section_stream.specs.Groups.{Filling, fill, Laid, with_start, lay_packet, is_done, layout_from, layout_of, packets_from, past_group, packets_of_groups}
use Rattle.section_stream.proofs.Cutting.{bytes_of, run_from, run_is_cuts, act, kept, onto}
use Rattle.section_stream.proofs.Outputs.{received_from}
use Rattle.section_stream.proofs.Packed.{kept_built, Follow, all_stay, counter_past, counter_past_is}

-- ---- the section under way

-- the section of which these bytes came, and of which `begun` isn't sent yet
abbrev pub under_way : Option Bytes → Bytes → List Bytes
under_way None begun = []
under_way (Some front) begun = (front ++ begun) ∷ []

abbrev pub IsUnderWay : Option Bytes → Bytes → Type 0
IsUnderWay None begun = begun ≡ []
IsUnderWay (Some front) begun = IsSectionLike (front ++ begun) × (0 < length begun)

part_grows : (front begun : Bytes) → IsSectionLike (front ++ begun) → 0 < length begun → as_grown front ≡ Growing
part_grows front begun h some = grind (arith, common_steps, h.size.0, h.size.1, h.length_field)

whole_grows : (s more : Bytes) → IsSectionLike s → as_grown (s ++ more) ≡ Whole (length s)
whole_grows s more h = grind (arith, common_steps, h.size.0, h.size.1, h.length_field)

pub begins_one : (front begun : Bytes) → IsSectionLike (front ++ begun) → 0 < length front → ((length front == 0) || (slice_index front 0 == 0xFF)) ≡ false
begins_one front begun h some = grind (arith, common_steps, h.size.0, h.first)

appended_whole : (closing : Bool) (s more : Bytes) (k : Counts) → IsSectionLike s → after_append closing (s ++ more) k ≡ record { opened = None; out = s ∷ []; counts = k }
appended_whole closing s more k h = rw (whole_grows s more h, take-append_seam) refl

appended_part : (front begun : Bytes) (k : Counts) → IsSectionLike (front ++ begun) → 0 < length begun → after_append false front k ≡ record { opened = Some front; out = []; counts = k }
appended_part front begun k h some = rw (part_grows front begun h some) refl

-- ---- one packet

-- what is left after a packet: a section under way, its bytes so far open, and the sections after it; nothing else is lost or added
pub record Leaves (o : Option Bytes) (begun : Bytes) (rest : List Bytes) (after : After) (l : Laid) : Type 0 where
  pub under : IsUnderWay after.opened l.begun
  pub out : after.out ++ (under_way after.opened l.begun ++ l.rest) ≡ under_way o begun ++ rest
  pub all : All IsSectionLike l.rest
  pub fewer : length l.begun + sum_by length l.rest < length begun + sum_by length rest

-- a section's last bytes, with anything after them
goes_whole : (front part more : Bytes) (rest : List Bytes) (k : Counts) (l : Laid) → IsSectionLike (front ++ part) → 0 < length part → All IsSectionLike rest → l.begun ≡ [] → l.rest ≡ rest
    → Leaves (Some front) part rest (goes_on (Some front) (part ++ more) k) l
goes_whole front part more rest k l h some all b r =
    let is : goes_on (Some front) (part ++ more) k ≡ record { opened = None; out = (front ++ part) ∷ []; counts = k } =
    ap (λ x. after_append false x k) (sym (append_assoc front part more)) ∙ appended_whole false (front ++ part) more k h in
    rw is (record { under = b; out = rw r refl; all = rw r all; fewer = rw (b, r) (omega (arith, some)) })

-- 184 bytes of a section that goes on after them
goes_part : (front part begun : Bytes) (rest : List Bytes) (k : Counts) (l : Laid) → IsSectionLike (front ++ (part ++ begun)) → 0 < length begun → 0 < length part → All IsSectionLike rest → l.begun ≡ begun → l.rest ≡ rest
    → Leaves (Some front) (part ++ begun) rest (goes_on (Some front) part k) l
goes_part front part begun rest k l h some more all b r =
    let whole : IsSectionLike ((front ++ part) ++ begun) = rw append_assoc h in
    let is : goes_on (Some front) part k ≡ record { opened = Some (front ++ part); out = []; counts = k } = appended_part (front ++ part) begun k whole some in
    rw is (record {
      under = rw b (whole, some);
      out = rw (b, r, append_assoc) refl;
      all = rw r all;
      fewer = rw (b, r) (omega (arith, more, length-append part begun));
    })

-- what a start packet's payload does, part by part
abbrev pub behind : Bytes → After → After
behind tail first = with_out first.out (open_on PACKET_LENGTH tail first.counts)

starts_at : (o : Option Bytes) (p : ℕ) (bytes : Bytes) (k : Counts) → nat_lt p (length (p ∷ bytes)) ≡ true → starts o (p ∷ bytes) k ≡ behind (drop p bytes) (closes o (take p bytes) k)
starts_at o p bytes k e =
    let next : 1 + p ≡ suc p = omega arith in
    ap (λ t. if t then behind (drop (1 + p) (p ∷ bytes)) (closes o (take p bytes) k) else record { opened = None; out = []; counts = record k { bad_pointer = up k.bad_pointer } }) e
    ∙ ap (λ n. behind (drop n (p ∷ bytes)) (closes o (take p bytes) k)) next

starts_is : (o : Option Bytes) (begun tail : Bytes) (k : Counts) → starts o (length begun ∷ (begun ++ tail)) k ≡ behind tail (closes o begun k)
starts_is o begun tail k =
    starts_at o (length begun) (begun ++ tail) k within ∙ ap (λ x. behind x (closes o (take (length begun) (begun ++ tail)) k)) (drop-append_seam begun tail)
    ∙ ap (λ x. behind tail (closes o x k)) (take-append_seam begun tail) where
      within : nat_lt (length begun) (length (length begun ∷ (begun ++ tail))) ≡ true
      within = grind (arith, length-append begun tail)

-- the section under way is closed by its last bytes
closes_is : (o : Option Bytes) (begun : Bytes) (k : Counts) → IsUnderWay o begun → ((closes o begun k).out ≡ under_way o begun) × ((closes o begun k).counts ≡ k)
closes_is None begun k h = (refl, refl)
closes_is (Some front) begun k h =
    let is : after_append true (front ++ begun) k ≡ record { opened = None; out = (front ++ begun) ∷ []; counts = k } =
    ap (λ x. after_append true x k) (sym (append-nil (front ++ begun))) ∙ appended_whole true (front ++ begun) [] k h.0 in
    (ap (λ a. a.out) is, ap (λ a. a.counts) is)

-- the sections that are opened one after another, with n bytes of stuffing where the room isn't filled
pub record Opens (ss : List Bytes) (after : After) (f : Filling) : Type 0 where
  pub under : IsUnderWay after.opened f.begun
  pub out : after.out ++ (under_way after.opened f.begun ++ f.rest) ≡ ss
  pub all : All IsSectionLike f.rest

pub fill_length : (at room : ℕ) (ss : List Bytes) → length (fill at room ss).bytes ≤ room
fill_length at room [] = omega arith
fill_length at room (s ∷ ss) = go (λ i. fill_length (at + length s) i ss) (room == 0) refl where
  Claim : Type 0
  Claim = length (fill at room (s ∷ ss)).bytes ≤ room

  Next : Type 0
  Next = (i : ℕ) → length (fill (at + length s) i ss).bytes ≤ i

  fits : Next → (room == 0) ≡ false → (t : Bool) → nat_le (length s) room ≡ t → Claim
  fits next z true e =
      let i : length s ≤ room = leb-true (length s) room e in
      rw (z, e, length-append) (omega (arith, i, next (room - length s)))
  fits next z false e =
      let i : room < length s = leb-false (length s) room e in
      rw (z, e) (omega (arith, length-take-le room s (omega (arith, i))))

  go : Next → (t : Bool) → (room == 0) ≡ t → Claim
  go next true z = rw z (omega arith)
  go next false z = fits next z (nat_le (length s) room) refl

pub begins_whole : (s more : Bytes) → IsSectionLike s → ((length (s ++ more) == 0) || (slice_index (s ++ more) 0 == 0xFF)) ≡ false
begins_whole s more h = grind (arith, common_steps, h.size.0, h.first)

open_whole : (steps : ℕ) (s more : Bytes) (k : Counts) → IsSectionLike s → open_on (suc steps) (s ++ more) k ≡ with_out (s ∷ []) (open_on steps more k)
open_whole steps s more k h = rw (begins_whole s more h, whole_grows s more h, take-append_seam, drop-append_seam) refl

open_part : (steps : ℕ) (front begun : Bytes) (k : Counts) → IsSectionLike (front ++ begun) → 0 < length front → 0 < length begun → open_on (suc steps) front k ≡ record { opened = Some front; out = []; counts = k }
open_part steps front begun k h some more = rw (begins_one front begun h some, part_grows front begun h more) refl

open_stuffing : (steps n : ℕ) (k : Counts) → open_on steps (replicate n 0xFF) k ≡ record { opened = None; out = []; counts = k }
open_stuffing zero n k = refl
open_stuffing (suc steps) zero k = refl
open_stuffing (suc steps) (suc n) k = rw (or_true (suc (length {A = ℕ} (replicate n 0xFF)) == 0)) refl where
  or_true : (b : Bool) → (b || true) ≡ true
  or_true true = refl
  or_true false = refl

fill_opens : (steps at room n : ℕ) (ss : List Bytes) (k : Counts) → room < steps → All IsSectionLike ss → length (fill at room ss).bytes + n ≡ room
    → Opens ss (open_on steps ((fill at room ss).bytes ++ replicate n 0xFF) k) (fill at room ss)
fill_opens zero at room n ss k below all full = absurd (omega (arith, below))
fill_opens (suc steps) at room n [] k below all full = rw (open_stuffing (suc steps) n k) (record { under = refl; out = refl; all = all })
fill_opens (suc steps) at room n (s ∷ ss) k below all full = go (λ i j u. fill_opens steps (at + length s) i n ss k j (λ x d b. all (suc x) d (omega (arith, b))) u) (room == 0) refl full where
  h : IsSectionLike s
  h = all 0 s (omega arith)

  Claim : Filling → Type 0
  Claim f = length f.bytes + n ≡ room → Opens (s ∷ ss) (open_on (suc steps) (f.bytes ++ replicate n 0xFF) k) f

  Next : Type 0
  Next = (i : ℕ) → i < steps → length (fill (at + length s) i ss).bytes + n ≡ i → Opens ss (open_on steps ((fill (at + length s) i ss).bytes ++ replicate n 0xFF) k) (fill (at + length s) i ss)

  no_room : Claim (record { bytes = []; begun = []; rest = s ∷ ss; offsets = [] })
  no_room u = rw (open_stuffing (suc steps) n k) (record { under = refl; out = refl; all = all })

  whole : Next → length s ≤ room
      → Claim (record { bytes = s ++ (fill (at + length s) (room - length s) ss).bytes; begun = (fill (at + length s) (room - length s) ss).begun; rest = (fill (at + length s) (room - length s) ss).rest; offsets = at ∷ (fill (at + length s) (room - length s) ss).offsets })
  whole next i u =
      let f : Filling = fill (at + length s) (room - length s) ss in
      let some : 12 ≤ length s = h.size.0 in
      let left : length f.bytes + n ≡ room - length s = omega (arith, u, i, length-append s f.bytes) in
      let rest : Opens ss (open_on steps (f.bytes ++ replicate n 0xFF) k) f = next (room - length s) (omega (arith, some, i, below)) left in
      rw (append_assoc, open_whole steps s (f.bytes ++ replicate n 0xFF) k h) (record { under = rest.under; out = ap (λ x. s ∷ x) rest.out; all = rest.all })

  part : 0 < room → room < length s → Claim (record { bytes = take room s; begun = drop room s; rest = ss; offsets = at ∷ [] })
  part some i u =
      let taken : length (take room s) ≡ room = length-take-le room s (omega (arith, i)) in
      let none : n ≡ 0 = omega (arith, u, taken) in
      let one : IsSectionLike (take room s ++ drop room s) = rw take-append-drop h in
      let more : 0 < length (drop room s) = omega (arith, length-drop room s, i) in
      rw (none, append-nil, open_part steps (take room s) (drop room s) k one (omega (arith, taken, some)) more)
      (record { under = (one, more); out = ap (λ x. x ∷ ss) (take-append-drop room s); all = λ x d b. all (suc x) d (omega (arith, b)) })

  fits : Next → (room == 0) ≡ false → (t : Bool) → nat_le (length s) room ≡ t → Claim (fill at room (s ∷ ss))
  fits next z true e = rw (z, e) (whole next (leb-true (length s) room e))
  fits next z false e = rw (z, e) (part (grind (arith, z)) (leb-false (length s) room e))

  go : Next → (t : Bool) → (room == 0) ≡ t → Claim (fill at room (s ∷ ss))
  go next true z = rw z no_room
  go next false z = fits next z (nat_le (length s) room) refl

pub fill_sizes : (at room : ℕ) (ss : List Bytes) → length (fill at room ss).bytes + (length (fill at room ss).begun + sum_by length (fill at room ss).rest) ≡ sum_by length ss
fill_sizes at room [] = refl
fill_sizes at room (s ∷ ss) = go (λ i. fill_sizes (at + length s) i ss) (room == 0) refl where
  Claim : Type 0
  Claim = length (fill at room (s ∷ ss)).bytes + (length (fill at room (s ∷ ss)).begun + sum_by length (fill at room (s ∷ ss)).rest) ≡ sum_by length (s ∷ ss)

  Next : Type 0
  Next = (i : ℕ) → length (fill (at + length s) i ss).bytes + (length (fill (at + length s) i ss).begun + sum_by length (fill (at + length s) i ss).rest) ≡ sum_by length ss

  fits : Next → (room == 0) ≡ false → (t : Bool) → nat_le (length s) room ≡ t → Claim
  fits next z true e = rw (z, e, length-append) (omega (arith, next (room - length s), sum_by-cons length s ss))
  fits next z false e =
      let i : room < length s = leb-false (length s) room e in
      rw (z, e) (omega (arith, i, length-take-le room s (omega (arith, i)), length-drop room s, sum_by-cons length s ss))

  go : Next → (t : Bool) → (room == 0) ≡ t → Claim
  go next true z = rw z (omega arith)
  go next false z = fits next z (nat_le (length s) room) refl

pub fill_takes : (at room : ℕ) (s : Bytes) (ss : List Bytes) → 0 < room → 0 < length s → 0 < length (fill at room (s ∷ ss)).bytes
fill_takes at room s ss some h = go (nat_le (length s) room) refl where
  z : (room == 0) ≡ false
  z = grind (arith, some)

  go : (t : Bool) → nat_le (length s) room ≡ t → 0 < length (fill at room (s ∷ ss)).bytes
  go true e = rw (z, e, length-append) (omega (arith, h))
  go false e =
      let i : room < length s = leb-false (length s) room e in
      rw (z, e) (omega (arith, some, length-take-le room s (omega (arith, i))))

-- what a packet's payload does to the open section
abbrev pub does : Option Bytes → Counts → Laid → After
does o k l = if l.start then starts o (with_stuffing l.bytes) k else goes_on o (with_stuffing l.bytes) k

leaves_long : (o : Option Bytes) (begun : Bytes) (rest : List Bytes) (k : Counts) → IsUnderWay o begun → All IsSectionLike rest → 184 ≤ length begun
    → Leaves o begun rest (goes_on o (with_stuffing (take 184 begun)) k) (record { start = false; bytes = take 184 begun; begun = drop 184 begun; rest = rest; offsets = [] })
leaves_long None begun rest k h all i = let z : length begun ≡ 0 = ap (λ (x : Bytes). length x) h in absurd (omega (arith, z, i))
leaves_long (Some front) begun rest k h all i = go (cases_lt 184 (length begun)) where
  l : Laid
  l = record { start = false; bytes = take 184 begun; begun = drop 184 begun; rest = rest; offsets = [] }

  taken : length (take 184 begun) ≡ 184
  taken = length-take-le 184 begun i

  full : with_stuffing (take 184 begun) ≡ take 184 begun
  full = let none : 184 - length (take 184 begun) ≡ 0 = omega (arith, taken) in rw (none, append-nil) refl

  go : (184 < length begun) ⊎ (length begun ≤ 184) → Leaves (Some front) begun rest (goes_on (Some front) (with_stuffing (take 184 begun)) k) l
  go (inl j) =
      let parts : take 184 begun ++ drop 184 begun ≡ begun = take-append-drop 184 begun in
      let is : Leaves (Some front) (take 184 begun ++ drop 184 begun) rest (goes_on (Some front) (take 184 begun) k) l =
      goes_part front (take 184 begun) (drop 184 begun) rest k l (subst (λ x. IsSectionLike (front ++ x)) (sym parts) h.0) (omega (arith, length-drop 184 begun, j)) (omega (arith, taken)) all refl refl in
      subst (λ x. Leaves (Some front) begun rest (goes_on (Some front) x k) l) (sym full) (subst (λ x. Leaves (Some front) x rest (goes_on (Some front) (take 184 begun) k) l) parts is)
  go (inr j) =
      let whole : take 184 begun ≡ begun = take_all 184 begun j in
      let is : Leaves (Some front) begun rest (goes_on (Some front) (begun ++ []) k) l = goes_whole front begun [] rest k l h.0 h.1 all (drop_all 184 begun j) refl in
      subst (λ x. Leaves (Some front) begun rest (goes_on (Some front) x k) l) (append-nil begun ∙ sym whole ∙ sym full) is

leaves_last : (o : Option Bytes) (begun : Bytes) (rest : List Bytes) (k : Counts) → IsUnderWay o begun → All IsSectionLike rest → 0 < length begun
    → Leaves o begun rest (goes_on o (with_stuffing begun) k) (record { start = false; bytes = begun; begun = []; rest = rest; offsets = [] })
leaves_last None begun rest k h all i = let z : length begun ≡ 0 = ap (λ (x : Bytes). length x) h in absurd (omega (arith, z, i))
leaves_last (Some front) begun rest k h all i = goes_whole front begun (replicate (184 - length begun) 0xFF) rest k (record { start = false; bytes = begun; begun = []; rest = rest; offsets = [] }) h.0 h.1 all refl refl

-- what comes before the sections that a packet opens
abbrev pub behind_out : List Bytes → Counts → Bytes → After
behind_out out k tail = with_out out (open_on PACKET_LENGTH tail k)

start_does : (o : Option Bytes) (begun bytes : Bytes) (n : ℕ) (k : Counts) → IsUnderWay o begun
    → starts o (length begun ∷ ((begun ++ bytes) ++ replicate n 0xFF)) k ≡ behind_out (under_way o begun) k (bytes ++ replicate n 0xFF)
start_does o begun bytes n k h =
    ap (λ x. starts o (length begun ∷ x) k) (append_assoc begun bytes (replicate n 0xFF)) ∙ starts_is o begun (bytes ++ replicate n 0xFF) k
    ∙ ap (λ x. behind_out x (closes o begun k).counts (bytes ++ replicate n 0xFF)) (closes_is o begun k h).0
    ∙ ap (λ x. behind_out (under_way o begun) x (bytes ++ replicate n 0xFF)) (closes_is o begun k h).1

leaves_start : (o : Option Bytes) (begun s : Bytes) (ss : List Bytes) (k : Counts) → IsUnderWay o begun → All IsSectionLike (s ∷ ss) → length begun < 183
    → Leaves o begun (s ∷ ss) (does o k (with_start begun (fill (5 + length begun) (183 - length begun) (s ∷ ss)))) (with_start begun (fill (5 + length begun) (183 - length begun) (s ∷ ss)))
leaves_start o begun s ss k h all i = go (fill (5 + length begun) (183 - length begun) (s ∷ ss)) refl where
  at : ℕ
  at = 5 + length begun

  room : ℕ
  room = 183 - length begun

  one : IsSectionLike s
  one = all 0 s (omega arith)

  go : (f : Filling) → f ≡ fill at room (s ∷ ss) → Leaves o begun (s ∷ ss) (does o k (with_start begun f)) (with_start begun f)
  go f e =
      let n : ℕ = 184 - length (length begun ∷ (begun ++ f.bytes)) in
      let within : length f.bytes ≤ room = rw e (fill_length at room (s ∷ ss)) in
      let full : length f.bytes + n ≡ room = omega (arith, within, i, length-append begun f.bytes) in
      let opens : Opens (s ∷ ss) (open_on PACKET_LENGTH (f.bytes ++ replicate n 0xFF) k) f =
      subst (λ (g : Filling). length g.bytes + n ≡ room → Opens (s ∷ ss) (open_on PACKET_LENGTH (g.bytes ++ replicate n 0xFF) k) g) (sym e) (fill_opens PACKET_LENGTH at room n (s ∷ ss) k (omega arith) all) full in
      let long : 12 ≤ length s = one.size.0 in
      let some : 0 < length f.bytes = rw e (fill_takes at room s ss (omega (arith, i)) (omega (arith, long))) in
      let sizes : length f.bytes + (length f.begun + sum_by length f.rest) ≡ sum_by length (s ∷ ss) = rw e (fill_sizes at room (s ∷ ss)) in
      let is : starts o (length begun ∷ ((begun ++ f.bytes) ++ replicate n 0xFF)) k ≡ behind_out (under_way o begun) k (f.bytes ++ replicate n 0xFF) = start_does o begun f.bytes n k h in
      subst (λ a. Leaves o begun (s ∷ ss) a (with_start begun f)) (sym is) (record {
        under = opens.under;
        out = append_assoc (under_way o begun) (open_on PACKET_LENGTH (f.bytes ++ replicate n 0xFF) k).out _ ∙ ap (λ x. under_way o begun ++ x) opens.out;
        all = opens.all;
        fewer = omega (arith, some, sizes);
      })

-- a packet of a group leaves the section under way and those after it
pub laid_leaves : (o : Option Bytes) (begun : Bytes) (rest : List Bytes) (k : Counts) → IsUnderWay o begun → All IsSectionLike rest → is_done begun rest ≡ false
    → Leaves o begun rest (does o k (lay_packet begun rest)) (lay_packet begun rest)
laid_leaves o begun rest k h all left = long (nat_le 184 (length begun)) refl where
  Claim : Laid → Type 0
  Claim l = Leaves o begun rest (does o k l) l

  test : Bool
  test = (length begun == 183) || (nat_lt 0 (length begun) && is_none rest)

  -- the packet, by the outcomes of the tests
  one : Bool → Bool → Laid
  one a b =
      if a then record { start = false; bytes = take 184 begun; begun = drop 184 begun; rest = rest; offsets = [] }
      else (if b then record { start = false; bytes = begun; begun = []; rest = rest; offsets = [] }
      else with_start begun (fill (5 + length begun) (183 - length begun) rest))

  start : (ss : List Bytes) → ss ≡ rest → length begun < 183 → test ≡ false → Claim (one false false)
  start [] e i t = absurd (nothing begun refl) where
    nothing : (x : Bytes) → x ≡ begun → ⊥
    nothing [] f = let d : is_done [] [] ≡ false = subst (λ r. is_done [] r ≡ false) (sym e) (subst (λ x. is_done x rest ≡ false) (sym f) left) in absurd (true≢false d)
    nothing (y ∷ ys) f =
        let d : ((length (y ∷ ys) == 183) || (nat_lt 0 (length (y ∷ ys)) && is_none {A = Bytes} [])) ≡ false =
        subst (λ r. ((length (y ∷ ys) == 183) || (nat_lt 0 (length (y ∷ ys)) && is_none r)) ≡ false) (sym e) (subst (λ x. ((length x == 183) || (nat_lt 0 (length x) && is_none rest)) ≡ false) (sym f) t) in
        grind (arith, d)
  start (s ∷ ss) e i t =
      subst (λ r. Leaves o begun r (does o k (with_start begun (fill (5 + length begun) (183 - length begun) r))) (with_start begun (fill (5 + length begun) (183 - length begun) r)))
      e (leaves_start o begun s ss k h (subst (λ r. All IsSectionLike r) (sym e) all) i)

  last : length begun < 184 → (b : Bool) → test ≡ b → Claim (one false b)
  last i true t = leaves_last o begun rest k h all (grind (arith, t))
  last i false t = start rest refl (grind (arith, t, i)) t

  long : (a : Bool) → nat_le 184 (length begun) ≡ a → Claim (lay_packet begun rest)
  long true a = subst (λ x. Claim (one x test)) (sym a) (leaves_long o begun rest k h all (leb-true 184 (length begun) a))
  long false a = subst (λ x. Claim (one x test)) (sym a) (last (leb-false 184 (length begun) a) test refl)

-- ---- a group

-- the packets of a layout, as they are received
abbrev pub layout_taken : ℕ → ℕ → List Laid → List Received
layout_taken n c [] = []
layout_taken n c (l ∷ ls) = record { number = n; start = l.start; counter = c; payload = with_stuffing l.bytes } ∷ layout_taken (n + 1) ((c + 1) % 16) ls

-- a packet and those after it, from this open section on
abbrev pub run_with : Option Bytes → Counts → Received → List Received → List Bytes
run_with o k q qs = (act o k q).out ++ run_from (act o k q).opened (act o k q).counts q.counter qs

done_is : (begun : Bytes) (rest : List Bytes) → is_done begun rest ≡ true → (begun ≡ []) × (rest ≡ [])
done_is [] [] e = (refl, refl)
done_is [] (s ∷ ss) e = cc
done_is (b ∷ bs) rest e = cc

nothing_left : (begun : Bytes) (rest : List Bytes) → All IsSectionLike rest → length begun + sum_by length rest ≤ 0 → is_done begun rest ≡ true
nothing_left [] [] all h = refl
nothing_left [] (s ∷ ss) all h =
    let one : IsSectionLike s = all 0 s (omega arith) in
    let long : 12 ≤ length s = one.size.0 in
    absurd (omega (arith, long, h, sum_by-cons length s ss))
nothing_left (b ∷ bs) rest all h = absurd (omega (arith, h))

-- where nothing of the group is left, no section is open
done_runs : (o : Option Bytes) (k : Counts) (c : ℕ) (begun : Bytes) (rest : List Bytes) (later : List Received) (x : List Bytes) → IsUnderWay o begun → is_done begun rest ≡ true
    → ((l : Counts) (d : ℕ) → run_from None l d later ≡ x) → run_from o k c later ≡ under_way o begun ++ (rest ++ x)
done_runs None k c begun rest later x h d next = next k c ∙ ap (λ ss. ss ++ x) (sym (done_is begun rest d).1)
done_runs (Some front) k c begun rest later x h d next =
    let none : begun ≡ [] = (done_is begun rest d).0 in
    let z : length begun ≡ 0 = ap (λ (y : Bytes). length y) none in
    let some : 0 < length begun = h.1 in
    absurd (omega (arith, z, some))

-- from a section under way on, the packets of what is left of a group give that section, those after it, and then what comes after the group
group_runs : (steps n c : ℕ) (o : Option Bytes) (k : Counts) (begun : Bytes) (rest : List Bytes) (later : List Received) (x : List Bytes) → IsUnderWay o begun → All IsSectionLike rest
    → length begun + sum_by length rest ≤ steps → ((l : Counts) (d : ℕ) → run_from None l d later ≡ x)
    → run_from o k c (layout_taken n ((c + 1) % 16) (layout_from steps begun rest) ++ later) ≡ under_way o begun ++ (rest ++ x)
group_runs zero n c o k begun rest later x h all fits next = done_runs o k c begun rest later x h (nothing_left begun rest all fits) next
group_runs (suc steps) n c o k begun rest later x h all fits next =
    go (λ p l b ss i j f. group_runs steps (n + 1) ((c + 1) % 16) p l b ss later x i j f next) (is_done begun rest) refl where
      l : Laid
      l = lay_packet begun rest

      q : Received
      q = record { number = n; start = l.start; counter = (c + 1) % 16; payload = with_stuffing l.bytes }

      qs : List Received
      qs = layout_taken (n + 1) (((c + 1) % 16 + 1) % 16) (layout_from steps l.begun l.rest) ++ later

      Claim : Bool → Type 0
      Claim b = run_from o k c (layout_taken n ((c + 1) % 16) (if b then [] else l ∷ layout_from steps l.begun l.rest) ++ later) ≡ under_way o begun ++ (rest ++ x)

      Next : Type 0
      Next = (p : Option Bytes) (m : Counts) (b : Bytes) (ss : List Bytes) → IsUnderWay p b → All IsSectionLike ss → length b + sum_by length ss ≤ steps
          → run_from p m ((c + 1) % 16) (layout_taken (n + 1) (((c + 1) % 16 + 1) % 16) (layout_from steps b ss) ++ later) ≡ under_way p b ++ (ss ++ x)

      follows : kept o c q ≡ o
      follows = let same : ((c + 1) % 16 == (c + 1) % 16) ≡ true = grind arith in ap (λ b. if b then o else None) same

      one : Next → is_done begun rest ≡ false → Claim false
      one again d =
          let is : Leaves o begun rest (does o k l) l = laid_leaves o begun rest k h all d in
          let smaller : length l.begun + sum_by length l.rest < length begun + sum_by length rest = is.fewer in
          let behind_it : run_from (does o k l).opened (does o k l).counts ((c + 1) % 16) qs ≡ under_way (does o k l).opened l.begun ++ (l.rest ++ x) =
          again (does o k l).opened (does o k l).counts l.begun l.rest is.under is.all (omega (arith, smaller, fits)) in
          ap (λ p. run_with p k q qs) follows
          ∙ ap (λ ys. (does o k l).out ++ ys) (behind_it ∙ sym (append_assoc (under_way (does o k l).opened l.begun) l.rest x))
          ∙ onto (does o k l).out (under_way (does o k l).opened l.begun ++ l.rest) (under_way o begun) rest x is.out

      go : Next → (b : Bool) → is_done begun rest ≡ b → Claim (is_done begun rest)
      go again true d = subst Claim (sym d) (done_runs o k c begun rest later x h d next)
      go again false d = subst Claim (sym d) (one again d)

-- ---- all groups

-- where no section is open, it doesn't matter which counter came before
run_any : (k : Counts) (a b : ℕ) (qs : List Received) → run_from None k a qs ≡ run_from None k b qs
run_any k a b [] = refl
run_any k a b (q ∷ qs) = ap (λ o. run_with o k q qs) (none_kept (q.counter == (a + 1) % 16) ∙ sym (none_kept (q.counter == (b + 1) % 16))) where
  none_kept : (t : Bool) → ◌≡◌ {A = Option Bytes} (if t then None else None) None
  none_kept true = refl
  none_kept false = refl

abbrev pub groups_taken : ℕ → ℕ → List (List Bytes) → List Received
groups_taken n c [] = []
groups_taken n c (g ∷ gs) = layout_taken n c (layout_of g) ++ groups_taken (n + length (layout_of g)) ((c + length (layout_of g)) % 16) gs

pub groups_run : (n c a : ℕ) (k : Counts) (groups : List (List Bytes)) → c < 16 → All (All IsSectionLike) groups → run_from None k a (groups_taken n c groups) ≡ flat_map (λ g. g) groups
groups_run n c a k [] h all = refl
groups_run n c a k (g ∷ gs) h all =
    let later : List Received = groups_taken (n + length (layout_of g)) ((c + length (layout_of g)) % 16) gs in
    let again : (l : Counts) (d : ℕ) → run_from None l d later ≡ flat_map (λ g. g) gs =
    λ l d. groups_run (n + length (layout_of g)) ((c + length (layout_of g)) % 16) d l gs (omega arith) (λ i e b. all (suc i) e (omega (arith, b))) in
    let at : (c + 15 + 1) % 16 ≡ c = omega (arith, h) in
    run_any k a (c + 15) (layout_taken n c (layout_of g) ++ later)
    ∙ ap (λ d. run_from None k (c + 15) (layout_taken n d (layout_of g) ++ later)) (sym at)
    ∙ group_runs (sum_by length g) n (c + 15) None k [] g later (flat_map (λ g. g) gs) refl (all 0 g (omega arith)) (omega arith) again

-- ---- what is received

layout_received : (pid n c : ℕ) (ls : List Laid) (rest : List Bytes) → pid < 8192 → c < 16
    → received_from pid n (packets_from pid c ls ++ rest) ≡ layout_taken n c ls ++ received_from pid (n + length ls) rest
layout_received pid n c [] rest h i = ap (λ x. received_from pid x rest) (sym (add-zero n))
layout_received pid n c (l ∷ ls) rest h i =
    rw (kept_built pid n l.start c l.bytes h i)
    (ap (λ rs. record { number = n; start = l.start; counter = c; payload = with_stuffing l.bytes } ∷ rs)
    (layout_received pid (n + 1) ((c + 1) % 16) ls rest h (omega arith)
    ∙ ap (λ x. layout_taken (n + 1) ((c + 1) % 16) ls ++ received_from pid x rest) (omega arith)))

pub groups_received : (n : ℕ) (m : MuxState) (groups : List (List Bytes)) → m.pid < 8192 → m.counter < 16 → received_from m.pid n (packets_of_groups m groups) ≡ groups_taken n m.counter groups
groups_received n m [] h i = refl
groups_received n m (g ∷ gs) h i =
    layout_received m.pid n m.counter (layout_of g) (packets_of_groups (past_group m g) gs) h i
    ∙ ap (λ rs. layout_taken n m.counter (layout_of g) ++ rs) (groups_received (n + length (layout_of g)) (past_group m g) gs h (omega arith))

layout_follows : (n c : ℕ) (ls : List Laid) (rest : List Received) → Follow (counter_past (length ls) c) rest → Follow c (layout_taken n c ls ++ rest)
layout_follows n c [] rest f = f
layout_follows n c (l ∷ ls) rest f = (refl, layout_follows (n + 1) ((c + 1) % 16) ls rest f)

pub groups_follow : (n c : ℕ) (groups : List (List Bytes)) → c < 16 → Follow c (groups_taken n c groups)
groups_follow n c [] h = tt
groups_follow n c (g ∷ gs) h =
    layout_follows n c (layout_of g) (groups_taken (n + length (layout_of g)) ((c + length (layout_of g)) % 16) gs)
    (subst (λ d. Follow d (groups_taken (n + length (layout_of g)) ((c + length (layout_of g)) % 16) gs)) (sym (counter_past_is (length (layout_of g)) c h))
    (groups_follow (n + length (layout_of g)) ((c + length (layout_of g)) % 16) gs (omega arith)))

pub groups-cut : (m : MuxState) (groups : List (List Bytes)) → m.pid < 8192 → m.counter < 16 → All (All IsSectionLike) groups
    → candidates m.pid (packets_of_groups m groups) ≡ flat_map (λ g. g) groups
groups-cut m groups h i all =
    ap (λ rs. bytes_of (cuts_of (without_repeats rs))) (groups_received 0 m groups h i)
    ∙ ap (λ rs. bytes_of (cuts_of rs)) (all_stay (groups_taken 0 m.counter groups) m.counter (groups_follow 0 m.counter groups i))
    ∙ sym (run_is_cuts None nothing_counted 0 (groups_taken 0 m.counter groups) tt)
    ∙ groups_run 0 m.counter 0 nothing_counted groups i all
