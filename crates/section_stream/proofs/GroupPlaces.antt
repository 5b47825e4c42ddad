-- The cuts of the packets of groups of sections open where these sections begin.
use Rattle.std.proofs.Common.{◌≡◌, ℕ, zero, suc, ◌+◌, ◌-◌, ◌%◌, ◌<◌, ◌≤◌, Bool, true, false, not, ◌&&◌, ◌||◌, ◌==◌, nat_le, nat_lt, List, [], ◌∷◌, ◌++◌, length, map, take, drop, replicate, slice_index, Option, Some, None, if◌then◌else◌, refl, sym, ◌∙◌, ap, subst, arith, append_assoc, append-nil, length-drop, length-append}
use Rattle.std.specs.List.{All, sum_by}
use Rattle.std.proofs.lemmas.Grind.{common_steps}
use Rattle.std.proofs.lemmas.List.{take-append-drop, length-take-le, map-append}
use Rattle.std.proofs.lemmas.Bool.{leb-true, leb-false}
use Rattle.std.proofs.Math.Seq.{take-append_seam, drop-append_seam}
use Rattle.carousel_profile.specs.declared.TheConstants.{PACKET_LENGTH}
use Rattle.section_stream.specs.Cuts.{Bytes, Received, Cut, without_repeats, pointer_fits, going_on, whole_len, opened_in, cuts_at, cuts_of, cuts}
use Rattle.section_stream.specs.Rules.{nothing_counted}
use Rattle.section_stream.specs.Packing.{MuxState, IsSectionLike, with_stuffing, is_none}
use Rattle.section_stream.specs.Groups.{Filling, fill, Laid, with_start, lay_packet, is_done, layout_from, layout_of, packets_of_groups, places_in, starts_from, starts}
use Rattle.section_stream.proofs.Packed.{all_stay}
use Rattle.section_stream.proofs.Grouped.{IsUnderWay, Leaves, does, laid_leaves, fill_length, begins_whole, begins_one, layout_taken, groups_taken, groups_received, groups_follow}

abbrev pub places_of : List Cut → List (ℕ × ℕ)
places_of cs = map (λ c. (c.packet, c.offset)) cs

whole_is : (s more : Bytes) → IsSectionLike s → whole_len (s ++ more) ≡ Some (length s)
whole_is s more h = grind (arith, common_steps, h.size.0, h.size.1, h.length_field)

opened_stuffing : (steps number n : ℕ) (more : Bytes) → opened_in steps number (replicate n 0xFF) more ≡ []
opened_stuffing zero number n more = refl
opened_stuffing (suc steps) number zero more = refl
opened_stuffing (suc steps) number (suc n) more = rw (or_true (suc (length {A = ℕ} (replicate n 0xFF)) == 0)) refl where
  or_true : (b : Bool) → (b || true) ≡ true
  or_true true = refl
  or_true false = refl

opened_whole : (steps number : ℕ) (s rest more : Bytes) → IsSectionLike s
    → places_of (opened_in (suc steps) number (s ++ rest) more) ≡ (number, PACKET_LENGTH - length (s ++ rest)) ∷ places_of (opened_in steps number rest more)
opened_whole steps number s rest more h = rw (begins_whole s rest h, whole, within, drop-append_seam) refl where
  whole : whole_len ((s ++ rest) ++ more) ≡ Some (length s)
  whole = rw append_assoc (whole_is s (rest ++ more) h)

  within : nat_le (length s) (length (s ++ rest)) ≡ true
  within = grind (arith, length-append s rest)

opened_part : (steps number : ℕ) (front begun x : Bytes) → IsSectionLike (front ++ begun) → 0 < length front → 0 < length begun
    → places_of (opened_in (suc steps) number front (begun ++ x)) ≡ (number, PACKET_LENGTH - length front) ∷ []
opened_part steps number front begun x h some more = rw (begins_one front begun h some, whole, within) refl where
  whole : whole_len (front ++ (begun ++ x)) ≡ Some (length (front ++ begun))
  whole = rw (← append_assoc) (whole_is (front ++ begun) x h)

  within : nat_le (length (front ++ begun)) (length front) ≡ false
  within = grind (arith, length-append front begun, more)

-- the sections that a packet begins are cut at the bytes at which they stand
fill_places : (steps at room n number : ℕ) (ss : List Bytes) (x : Bytes) → room < steps → at + room ≡ PACKET_LENGTH → All IsSectionLike ss → length (fill at room ss).bytes + n ≡ room
    → places_of (opened_in steps number ((fill at room ss).bytes ++ replicate n 0xFF) ((fill at room ss).begun ++ x)) ≡ map (λ o. (number, o)) (fill at room ss).offsets
fill_places zero at room n number ss x below ends all full = absurd (omega (arith, below))
fill_places (suc steps) at room n number [] x below ends all full = rw (opened_stuffing (suc steps) number n ([] ++ x)) refl
fill_places (suc steps) at room n number (s ∷ ss) x below ends all full =
    go (λ i j e u. fill_places steps (at + length s) i n number ss x j e (λ k d b. all (suc k) d (omega (arith, b))) u) (room == 0) refl full where
      h : IsSectionLike s
      h = all 0 s (omega arith)

      Claim : Filling → Type 0
      Claim f = length f.bytes + n ≡ room → places_of (opened_in (suc steps) number (f.bytes ++ replicate n 0xFF) (f.begun ++ x)) ≡ map (λ o. (number, o)) f.offsets

      Next : Type 0
      Next = (i : ℕ) → i < steps → at + length s + i ≡ PACKET_LENGTH → length (fill (at + length s) i ss).bytes + n ≡ i
          → places_of (opened_in steps number ((fill (at + length s) i ss).bytes ++ replicate n 0xFF) ((fill (at + length s) i ss).begun ++ x)) ≡ map (λ o. (number, o)) (fill (at + length s) i ss).offsets

      no_room : Claim (record { bytes = []; begun = []; rest = s ∷ ss; offsets = [] })
      no_room u = rw (opened_stuffing (suc steps) number n ([] ++ x)) refl

      whole : Next → length s ≤ room
          → Claim (record { bytes = s ++ (fill (at + length s) (room - length s) ss).bytes; begun = (fill (at + length s) (room - length s) ss).begun; rest = (fill (at + length s) (room - length s) ss).rest; offsets = at ∷ (fill (at + length s) (room - length s) ss).offsets })
      whole next i u =
          let f : Filling = fill (at + length s) (room - length s) ss in
          let some : 12 ≤ length s = h.size.0 in
          let left : length f.bytes + n ≡ room - length s = omega (arith, u, i, length-append s f.bytes) in
          let rest : places_of (opened_in steps number (f.bytes ++ replicate n 0xFF) (f.begun ++ x)) ≡ map (λ o. (number, o)) f.offsets =
          next (room - length s) (omega (arith, some, i, below)) (omega (arith, ends, i)) left in
          let here : length (s ++ (f.bytes ++ replicate n 0xFF)) ≡ room = grind (arith, common_steps, left, i) in
          let place : PACKET_LENGTH - length (s ++ (f.bytes ++ replicate n 0xFF)) ≡ at = omega (arith, here, ends) in
          rw (append_assoc s f.bytes (replicate n 0xFF)) (opened_whole steps number s (f.bytes ++ replicate n 0xFF) (f.begun ++ x) h ∙ ap (λ o. (number, o) ∷ places_of (opened_in steps number (f.bytes ++ replicate n 0xFF) (f.begun ++ x))) place
          ∙ ap (λ ps. (number, at) ∷ ps) rest)

      part : 0 < room → room < length s → Claim (record { bytes = take room s; begun = drop room s; rest = ss; offsets = at ∷ [] })
      part some i u =
          let taken : length (take room s) ≡ room = length-take-le room s (omega (arith, i)) in
          let none : n ≡ 0 = omega (arith, u, taken) in
          let one : IsSectionLike (take room s ++ drop room s) = rw take-append-drop h in
          let more : 0 < length (drop room s) = omega (arith, length-drop room s, i) in
          let place : PACKET_LENGTH - length (take room s) ≡ at = omega (arith, taken, ends) in
          rw (none, append-nil) (opened_part steps number (take room s) (drop room s) x one (omega (arith, taken, some)) more ∙ ap (λ o. (number, o) ∷ []) place)

      fits : Next → (room == 0) ≡ false → (t : Bool) → nat_le (length s) room ≡ t → Claim (fill at room (s ∷ ss))
      fits next z true e = rw (z, e) (whole next (leb-true (length s) room e))
      fits next z false e = rw (z, e) (part (grind (arith, z)) (leb-false (length s) room e))

      go : Next → (t : Bool) → (room == 0) ≡ t → Claim (fill at room (s ∷ ss))
      go next true z = rw z no_room
      go next false z = fits next z (nat_le (length s) room) refl

-- ---- what goes on after a packet

-- the bytes that go on begin with these
abbrev pub GoesOn : Bytes → Bytes → Type 0
GoesOn begun more = (x : Bytes) × (more ≡ begun ++ x)

pointer_in : (begun bytes rest : Bytes) → nat_lt (length begun) (length (length begun ∷ ((begun ++ bytes) ++ rest))) ≡ true
pointer_in begun bytes rest = grind (arith, length-append (begun ++ bytes) rest, length-append begun bytes)

-- the first packet goes on with what isn't sent yet, where what is left then goes on after it
laid_goes : (n a : ℕ) (begun : Bytes) (rest : List Bytes) (qs : List Received) → 0 < length begun → GoesOn (lay_packet begun rest).begun (going_on ((a + 1) % 16) qs)
    → GoesOn begun (going_on a (record { number = n; start = (lay_packet begun rest).start; counter = (a + 1) % 16; payload = with_stuffing (lay_packet begun rest).bytes } ∷ qs))
laid_goes n a begun rest qs some next = long (nat_le 184 (length begun)) refl next where
  test : Bool
  test = (length begun == 183) || (nat_lt 0 (length begun) && is_none rest)

  one : Bool → Bool → Laid
  one t b =
      if t then record { start = false; bytes = take 184 begun; begun = drop 184 begun; rest = rest; offsets = [] }
      else (if b then record { start = false; bytes = begun; begun = []; rest = rest; offsets = [] }
      else with_start begun (fill (5 + length begun) (183 - length begun) rest))

  packet : Laid → Received
  packet l = record { number = n; start = l.start; counter = (a + 1) % 16; payload = with_stuffing l.bytes }

  Claim : Laid → Type 0
  Claim l = GoesOn l.begun (going_on ((a + 1) % 16) qs) → GoesOn begun (going_on a (packet l ∷ qs))

  -- what goes on with the packet, whose counter follows
  follows : (l : Laid) → going_on a (packet l ∷ qs) ≡ (if l.start then (if pointer_fits (packet l) then take (slice_index (with_stuffing l.bytes) 0) (drop 1 (with_stuffing l.bytes)) else []) else with_stuffing l.bytes ++ going_on ((a + 1) % 16) qs)
  follows l =
      let same : ((a + 1) % 16 == (a + 1) % 16) ≡ true = grind arith in
      ap (λ t. if not t then [] else (if l.start then (if pointer_fits (packet l) then take (slice_index (with_stuffing l.bytes) 0) (drop 1 (with_stuffing l.bytes)) else []) else with_stuffing l.bytes ++ going_on ((a + 1) % 16) qs)) same

  more : Bytes
  more = going_on ((a + 1) % 16) qs

  part : 184 ≤ length begun → Claim (one true test)
  part i g =
      let taken : length (take 184 begun) ≡ 184 = length-take-le 184 begun i in
      let none : 184 - length (take 184 begun) ≡ 0 = omega (arith, taken) in
      let full : with_stuffing (take 184 begun) ≡ take 184 begun = ap (λ k. take 184 begun ++ replicate k 0xFF) none ∙ append-nil (take 184 begun) in (
        g.0,
        follows (one true test) ∙ ap (λ y. y ++ more) full ∙ ap (λ y. take 184 begun ++ y) g.1 ∙ sym (append_assoc (take 184 begun) (drop 184 begun) g.0)
            ∙ ap (λ y. y ++ g.0) (take-append-drop 184 begun),
      )

  start : Claim (one false false)
  start g =
      let f : Filling = fill (5 + length begun) (183 - length begun) rest in
      let tail : Bytes = f.bytes ++ replicate (184 - length (length begun ∷ (begun ++ f.bytes))) 0xFF in
      let apart : (begun ++ f.bytes) ++ replicate (184 - length (length begun ∷ (begun ++ f.bytes))) 0xFF ≡ begun ++ tail = append_assoc begun f.bytes _ in
      let fits : pointer_fits (packet (with_start begun f)) ≡ true = pointer_in begun f.bytes (replicate (184 - length (length begun ∷ (begun ++ f.bytes))) 0xFF) in (
        [],
        follows (with_start begun f) ∙ ap (λ t. if t then take (length begun) ((begun ++ f.bytes) ++ replicate (184 - length (length begun ∷ (begun ++ f.bytes))) 0xFF) else []) fits
            ∙ ap (take (length begun)) apart ∙ take-append_seam begun tail ∙ sym (append-nil begun),
      )

  short : (b : Bool) → Claim (one false b)
  short true g = (replicate (184 - length begun) 0xFF ++ more, follows (one false true) ∙ append_assoc begun (replicate (184 - length begun) 0xFF) more)
  short false g = start g

  long : (t : Bool) → nat_le 184 (length begun) ≡ t → Claim (lay_packet begun rest)
  long true e = subst (λ x. Claim (one x test)) (sym e) (part (leb-true 184 (length begun) e))
  long false e = subst (λ x. Claim (one x test)) (sym e) (short test)

-- after a packet of a group goes on what isn't sent yet of the section under way
layout_goes : (steps n a : ℕ) (o : Option Bytes) (begun : Bytes) (rest : List Bytes) (later : List Received) → IsUnderWay o begun → All IsSectionLike rest → length begun + sum_by length rest ≤ steps
    → GoesOn begun (going_on a (layout_taken n ((a + 1) % 16) (layout_from steps begun rest) ++ later))
layout_goes steps n a o [] rest later h all fits = (going_on a (layout_taken n ((a + 1) % 16) (layout_from steps [] rest) ++ later), refl)
layout_goes zero n a o (y ∷ ys) rest later h all fits = absurd (omega (arith, fits))
layout_goes (suc steps) n a o (y ∷ ys) rest later h all fits =
    let begun : Bytes = y ∷ ys in
    let is : Leaves o (y ∷ ys) rest (does o nothing_counted (lay_packet (y ∷ ys) rest)) (lay_packet (y ∷ ys) rest) = laid_leaves o (y ∷ ys) rest nothing_counted h all refl in
    let smaller : length (lay_packet (y ∷ ys) rest).begun + sum_by length (lay_packet (y ∷ ys) rest).rest < length (y ∷ ys) + sum_by length rest = is.fewer in
    laid_goes n a (y ∷ ys) rest (layout_taken (n + 1) (((a + 1) % 16 + 1) % 16) (layout_from steps (lay_packet (y ∷ ys) rest).begun (lay_packet (y ∷ ys) rest).rest) ++ later) (omega arith)
    (layout_goes steps (n + 1) ((a + 1) % 16) (does o nothing_counted (lay_packet (y ∷ ys) rest)).opened (lay_packet (y ∷ ys) rest).begun (lay_packet (y ∷ ys) rest).rest later is.under is.all (omega (arith, smaller, fits)))

-- ---- where the cuts open

-- the cuts of a packet of a group, where what is left of the section under way goes on after it
laid_places : (n c : ℕ) (begun : Bytes) (rest : List Bytes) (qs : List Received) → All IsSectionLike rest → GoesOn (lay_packet begun rest).begun (going_on c qs)
    → places_of (cuts_at (record { number = n; start = (lay_packet begun rest).start; counter = c; payload = with_stuffing (lay_packet begun rest).bytes }) qs) ≡ map (λ o. (n, o)) (lay_packet begun rest).offsets
laid_places n c begun rest qs all next = long (nat_le 184 (length begun)) refl next where
  test : Bool
  test = (length begun == 183) || (nat_lt 0 (length begun) && is_none rest)

  one : Bool → Bool → Laid
  one t b =
      if t then record { start = false; bytes = take 184 begun; begun = drop 184 begun; rest = rest; offsets = [] }
      else (if b then record { start = false; bytes = begun; begun = []; rest = rest; offsets = [] }
      else with_start begun (fill (5 + length begun) (183 - length begun) rest))

  packet : Laid → Received
  packet l = record { number = n; start = l.start; counter = c; payload = with_stuffing l.bytes }

  Claim : Laid → Type 0
  Claim l = GoesOn l.begun (going_on c qs) → places_of (cuts_at (packet l) qs) ≡ map (λ o. (n, o)) l.offsets

  start : length begun < 184 → test ≡ false → Claim (one false false)
  start i t g =
      let f : Filling = fill (5 + length begun) (183 - length begun) rest in
      let k : ℕ = 184 - length (length begun ∷ (begun ++ f.bytes)) in
      let tail : Bytes = f.bytes ++ replicate k 0xFF in
      let payload : Bytes = length begun ∷ ((begun ++ f.bytes) ++ replicate k 0xFF) in
      let apart : (begun ++ f.bytes) ++ replicate k 0xFF ≡ begun ++ tail = append_assoc begun f.bytes _ in
      let behind : drop (1 + length begun) payload ≡ tail = ap (λ j. drop j payload) (add_one_is (length begun)) ∙ ap (drop (length begun)) apart ∙ drop-append_seam begun tail in
      let within : length f.bytes ≤ 183 - length begun = fill_length (5 + length begun) (183 - length begun) rest in
      let full : length f.bytes + k ≡ 183 - length begun = omega (arith, within, i, length-append begun f.bytes) in
      ap (λ b. places_of (if b then opened_in PACKET_LENGTH n (drop (1 + length begun) payload) (going_on c qs) else [])) (pointer_in begun f.bytes (replicate k 0xFF))
      ∙ ap (λ y. places_of (opened_in PACKET_LENGTH n y (going_on c qs))) behind
      ∙ ap (λ y. places_of (opened_in PACKET_LENGTH n tail y)) g.1
      ∙ fill_places PACKET_LENGTH (5 + length begun) (183 - length begun) k n rest g.0 (omega arith) (grind (arith, i, t)) all full where
        add_one_is : (j : ℕ) → 1 + j ≡ suc j
        add_one_is j = omega arith

  short : length begun < 184 → (b : Bool) → test ≡ b → Claim (one false b)
  short i true t g = refl
  short i false t g = start i t g

  long : (t : Bool) → nat_le 184 (length begun) ≡ t → Claim (lay_packet begun rest)
  long true e = subst (λ x. Claim (one x test)) (sym e) (λ g. refl)
  long false e = subst (λ x. Claim (one x test)) (sym e) (short (leb-false 184 (length begun) e) test refl)

layout_places : (steps n c : ℕ) (o : Option Bytes) (begun : Bytes) (rest : List Bytes) (later : List Received) → IsUnderWay o begun → All IsSectionLike rest → length begun + sum_by length rest ≤ steps
    → places_of (cuts_of (layout_taken n c (layout_from steps begun rest) ++ later)) ≡ places_in n (layout_from steps begun rest) ++ places_of (cuts_of later)
layout_places zero n c o begun rest later h all fits = refl
layout_places (suc steps) n c o begun rest later h all fits =
    go (λ p b ss i j f. layout_places steps (n + 1) ((c + 1) % 16) p b ss later i j f) (is_done begun rest) refl where
      l : Laid
      l = lay_packet begun rest

      q : Received
      q = record { number = n; start = l.start; counter = c; payload = with_stuffing l.bytes }

      qs : List Received
      qs = layout_taken (n + 1) ((c + 1) % 16) (layout_from steps l.begun l.rest) ++ later

      Claim : Bool → Type 0
      Claim b = places_of (cuts_of (layout_taken n c (if b then [] else l ∷ layout_from steps l.begun l.rest) ++ later)) ≡ places_in n (if b then [] else l ∷ layout_from steps l.begun l.rest) ++ places_of (cuts_of later)

      Next : Type 0
      Next = (p : Option Bytes) (b : Bytes) (ss : List Bytes) → IsUnderWay p b → All IsSectionLike ss → length b + sum_by length ss ≤ steps
          → places_of (cuts_of (layout_taken (n + 1) ((c + 1) % 16) (layout_from steps b ss) ++ later)) ≡ places_in (n + 1) (layout_from steps b ss) ++ places_of (cuts_of later)

      one : Next → is_done begun rest ≡ false → Claim false
      one again d =
          let is : Leaves o begun rest (does o nothing_counted l) l = laid_leaves o begun rest nothing_counted h all d in
          let smaller : length l.begun + sum_by length l.rest < length begun + sum_by length rest = is.fewer in
          let fewer : length l.begun + sum_by length l.rest ≤ steps = omega (arith, smaller, fits) in
          let here : places_of (cuts_at q qs) ≡ map (λ x. (n, x)) l.offsets =
          laid_places n c begun rest qs all (layout_goes steps (n + 1) c (does o nothing_counted l).opened l.begun l.rest later is.under is.all fewer) in
          map-append (λ x. (x.packet, x.offset)) (cuts_at q qs) (cuts_of qs) ∙ ap (λ ps. ps ++ places_of (cuts_of qs)) here
          ∙ ap (λ ps. map (λ x. (n, x)) l.offsets ++ ps) (again (does o nothing_counted l).opened l.begun l.rest is.under is.all fewer)
          ∙ sym (append_assoc (map (λ x. (n, x)) l.offsets) (places_in (n + 1) (layout_from steps l.begun l.rest)) (places_of (cuts_of later)))

      go : Next → (b : Bool) → is_done begun rest ≡ b → Claim (is_done begun rest)
      go again true d = subst Claim (sym d) refl
      go again false d = subst Claim (sym d) (one again d)

groups_places : (n c : ℕ) (groups : List (List Bytes)) → All (All IsSectionLike) groups → places_of (cuts_of (groups_taken n c groups)) ≡ starts_from n groups
groups_places n c [] all = refl
groups_places n c (g ∷ gs) all =
    layout_places (sum_by length g) n c None [] g (groups_taken (n + length (layout_of g)) ((c + length (layout_of g)) % 16) gs) refl (all 0 g (omega arith)) (omega arith)
    ∙ ap (λ ps. places_in n (layout_of g) ++ ps) (groups_places (n + length (layout_of g)) ((c + length (layout_of g)) % 16) gs (λ i d b. all (suc i) d (omega (arith, b))))

pub groups-open : (m : MuxState) (groups : List (List Bytes)) → m.pid < 8192 → m.counter < 16 → All (All IsSectionLike) groups
    → map (λ c. (c.packet, c.offset)) (cuts m.pid (packets_of_groups m groups)) ≡ starts groups
groups-open m groups h i all =
    ap (λ rs. places_of (cuts_of (without_repeats rs))) (groups_received 0 m groups h i)
    ∙ ap (λ rs. places_of (cuts_of rs)) (all_stay (groups_taken 0 m.counter groups) m.counter (groups_follow 0 m.counter groups i))
    ∙ groups_places 0 m.counter groups all
