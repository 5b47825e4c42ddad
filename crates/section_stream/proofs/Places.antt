-- Candidates come in the order of their packets and bytes, and stand where their places say.
use Rattle.std.proofs.Common.{◌≡◌, ℕ, zero, suc, ◌+◌, ◌-◌, ◌*◌, ◌<◌, ◌≤◌, ◌⊎◌, inl, inr, ◌==◌, ◌&&◌, ◌||◌, slice_index, nat_le, nat_lt, Bool, true, false, not, cond, List, [], ◌∷◌, ◌++◌, map, length, take, drop, get_or, Option, Some, None, Ok, Err, refl, ap, sym, ◌∙◌, subst, arith}
use Rattle.std.specs.Prelude.{slice_get, Result}
use Rattle.std.specs.List.{All, AllPairs, filter_map, cons_option, enumerate_from}
use Rattle.std.proofs.lemmas.Grind.{common_steps}
use Rattle.std.proofs.lemmas.Bool.{ltb-true, and_parts}
use Rattle.std.proofs.lemmas.List.{map-append, length-map, get_or-map, length-take-le}
use Rattle.std.proofs.lemmas.List.Elements.{All-nil, All-cons, All-append, All-head, All-tail}
use Rattle.std.proofs.lemmas.Option.{same_Some}
use Rattle.std.proofs.Common.{length-drop, drop-drop}
use Rattle.carousel_profile.specs.declared.TheConstants.{PACKET_LENGTH}
use Rattle.ts_packet.specs.Packets.{Fields, parse_packet}
use Rattle.ts_packet.specs.declared.PacketFault.{PacketFault}
use Rattle.std.specs.Str.{bytes_eq}
use Rattle.section_stream.specs.Cuts.{Bytes, Cut, Received, kept_of, payloads_in, without_repeats_of, without_repeats, whole_len, opened_in, cuts_at, cuts_of, cuts, going_on, pointer_fits, pointer_of}
use Rattle.section_stream.specs.Laws.{IsBefore, StandsThere, CutsComeInOrder}

-- ---- numbers that rise by e or more from each to the next

abbrev pub Rises : ℕ → ℕ → List ℕ → Type 0
Rises e lo [] = Unit {0}
Rises e lo (n ∷ ns) = (lo ≤ n) × Rises e (n + e) ns

lower : (e lo hi : ℕ) → lo ≤ hi → (ns : List ℕ) → Rises e hi ns → Rises e lo ns
lower e lo hi le [] r = tt
lower e lo hi le (n ∷ ns) r = (omega (arith, le, r.0), r.1)

above : (e lo : ℕ) (ns : List ℕ) → Rises e lo ns → (j d : ℕ) → j < length ns → lo ≤ get_or ns j d
above e lo [] r j d lt = absurd (omega (arith, lt))
above e lo (n ∷ ns) r zero d lt = r.0
above e lo (n ∷ ns) r (suc j) d lt = let up = above e (n + e) ns r.1 j d (omega (arith, lt)) in omega (arith, up, r.0)

pub rises_at : (e lo : ℕ) (ns : List ℕ) → Rises e lo ns → (i j d : ℕ) → i < j → j < length ns → get_or ns i d + e ≤ get_or ns j d
rises_at e lo [] r i j d lt inside = absurd (omega (arith, inside))
rises_at e lo (n ∷ ns) r zero zero d lt inside = absurd (omega (arith, lt))
rises_at e lo (n ∷ ns) r zero (suc j) d lt inside = above e (n + e) ns r.1 j d (omega (arith, inside))
rises_at e lo (n ∷ ns) r (suc i) zero d lt inside = absurd (omega (arith, lt))
rises_at e lo (n ∷ ns) r (suc i) (suc j) d lt inside = rises_at e (n + e) ns r.1 i j d (omega (arith, lt)) (omega (arith, inside))

-- ---- packets that were received

kept_number : (pid n : ℕ) (r : Result Fields PacketFault) (x : Received) → kept_of pid n r ≡ Some x → x.number ≡ n
kept_number pid n (Err f) x e = cc
kept_number pid n (Ok p) x e = go ((p.pid == pid) && not (length p.payload == 0)) e where
  go : (b : Bool) → cond b (Some (record { number = n; start = p.start; counter = p.counter; payload = p.payload })) None ≡ Some x → x.number ≡ n
  go true e = cc
  go false e = cc

received_rise : (pid n : ℕ) (ps : List Bytes) → Rises 1 n (map (λ r. r.number) (filter_map (λ x. kept_of pid x.0 (parse_packet x.1)) (enumerate_from n ps)))
received_rise pid n [] = tt
received_rise pid n (p ∷ ps) = go (kept_of pid n (parse_packet p)) refl (received_rise pid (n + 1) ps) where
  go : (o : Option Received) → kept_of pid n (parse_packet p) ≡ o → Rises 1 (n + 1) (map (λ r. r.number) (filter_map (λ x. kept_of pid x.0 (parse_packet x.1)) (enumerate_from (n + 1) ps)))
      → Rises 1 n (map (λ r. r.number) (cons_option o (filter_map (λ x. kept_of pid x.0 (parse_packet x.1)) (enumerate_from (n + 1) ps))))
  go None e rest = lower 1 n (n + 1) (omega arith) _ rest
  go (Some x) e rest =
      let is = kept_number pid n (parse_packet p) x e in
      (omega (arith, is), lower 1 (x.number + 1) (n + 1) (omega (arith, is)) _ rest)

once_from : (a : Received) (bs : List Received) (lo : ℕ) → Rises 1 lo (map (λ r. r.number) bs) → Rises 1 lo (map (λ r. r.number) (without_repeats_of a bs))
once_from a [] lo r = tt
once_from a (b ∷ bs) lo r = go ((a.counter == b.counter) && bytes_eq a.payload b.payload) (once_from b bs (b.number + 1) r.1) where
  go : (t : Bool) → Rises 1 (b.number + 1) (map (λ r. r.number) (without_repeats_of b bs)) → Rises 1 lo (map (λ r. r.number) (cond t (without_repeats_of b bs) (b ∷ without_repeats_of b bs)))
  go true rest = lower 1 lo (b.number + 1) (omega (arith, r.0)) _ rest
  go false rest = (r.0, rest)

once : (rs : List Received) (lo : ℕ) → Rises 1 lo (map (λ r. r.number) rs) → Rises 1 lo (map (λ r. r.number) (without_repeats rs))
once [] lo r = tt
once (a ∷ bs) lo r = (r.0, once_from a bs (a.number + 1) r.1)

-- what holds of each packet that was received holds of those that are left
kept_from : (P : Received → Type 0) (a : Received) (bs : List Received) → All P bs → All P (without_repeats_of a bs)
kept_from P a [] all = All-nil P
kept_from P a (b ∷ bs) all = go ((a.counter == b.counter) && bytes_eq a.payload b.payload) (kept_from P b bs (All-tail P b bs all)) where
  go : (t : Bool) → All P (without_repeats_of b bs) → All P (cond t (without_repeats_of b bs) (b ∷ without_repeats_of b bs))
  go true rest = rest
  go false rest = All-cons P b (without_repeats_of b bs) (All-head P b bs all) rest

kept : (P : Received → Type 0) (rs : List Received) → All P rs → All P (without_repeats rs)
kept P [] all = all
kept P (a ∷ bs) all = All-cons P a (without_repeats_of a bs) (All-head P a bs all) (kept_from P a bs (All-tail P a bs all))

-- ---- what opens in one packet

-- the place of a candidate as one number: its packet, and its byte of at most 188
abbrev pub key : Cut → ℕ
key c = c.packet * 189 + c.offset

-- bytes rise by e where a packet has no more than 188 of them, or by nothing
abbrev pub IsStep : ℕ → ℕ → Type 0
IsStep e len = (e ≡ 0) ⊎ ((e ≡ 1) × (len ≤ PACKET_LENGTH))

fewer : (e a b : ℕ) → b ≤ a → IsStep e a → IsStep e b
fewer e a b le (inl z) = inl z
fewer e a b le (inr x) = inr (x.0, omega (arith, le, x.1))

step_most : (e len : ℕ) → IsStep e len → e ≤ 1
step_most e len (inl z) = omega (arith, z)
step_most e len (inr x) = omega (arith, x.0)

rise_by : (e len n : ℕ) → IsStep e len → 3 ≤ n → n ≤ len → PACKET_LENGTH - len + e ≤ PACKET_LENGTH - (len - n)
rise_by e len n (inl z) three le = omega (arith, z, three, le)
rise_by e len n (inr x) three le = let one : e ≡ 1 = x.0 in let short : len ≤ PACKET_LENGTH = x.1 in omega (arith, one, short, three, le)

three_at_least : (bytes : Bytes) (n : ℕ) → whole_len bytes ≡ Some n → (3 ≤ n) × (n ≤ length bytes)
three_at_least bytes n e = (grind (arith, common_steps, e), grind (arith, common_steps, e))

opened_rise : (e steps number : ℕ) (here later : Bytes) (rest : List ℕ) → IsStep e (length here) → Rises e ((number + 1) * 189) rest
    → Rises e (number * 189 + (PACKET_LENGTH - length here)) (map key (opened_in steps number here later) ++ rest)
opened_rise e zero number here later rest st r = lower e _ ((number + 1) * 189) (omega arith) rest r
opened_rise e (suc steps) number here later rest st r =
    by ((length here == 0) || (slice_index here 0 == 0xFF)) (whole_len (here ++ later)) refl refl
    (λ n. opened_rise e steps number (drop n here) later rest (fewer e (length here) (length (drop n here)) (omega (arith, length-drop n here)) st) r) where
      none : Rises e (number * 189 + (PACKET_LENGTH - length here)) rest
      none = lower e (number * 189 + (PACKET_LENGTH - length here)) ((number + 1) * 189) (omega arith) rest r

      next : (n : ℕ) (t : Bool) → nat_le n (length here) ≡ t → 3 ≤ n → Rises e (number * 189 + (PACKET_LENGTH - length (drop n here))) (map key (opened_in steps number (drop n here) later) ++ rest)
          → Rises e (number * 189 + (PACKET_LENGTH - length here) + e) (map key (cond t (opened_in steps number (drop n here) later) []) ++ rest)
      next n true h three more =
          let le : n ≤ length here = grind (arith, h) in
          let on = rise_by e (length here) n st three le in
          lower e _ (number * 189 + (PACKET_LENGTH - length (drop n here))) (omega (arith, on, length-drop n here)) _ more
      next n false h three more = let most = step_most e (length here) st in lower e _ ((number + 1) * 189) (omega (arith, most)) rest r

      by : (t : Bool) (o : Option ℕ) → ((length here == 0) || (slice_index here 0 == 0xFF)) ≡ t → whole_len (here ++ later) ≡ o
          → ((n : ℕ) → Rises e (number * 189 + (PACKET_LENGTH - length (drop n here))) (map key (opened_in steps number (drop n here) later) ++ rest))
          → Rises e (number * 189 + (PACKET_LENGTH - length here)) (map key (opened_in (suc steps) number here later) ++ rest)
      by true o t f more = rw t none
      by false None t f more = rw (t, f) none
      by false (Some n) t f more = rw (t, f) (omega arith, next n (nat_le n (length here)) refl (three_at_least (here ++ later) n f).0 (more n))

at_rise : (e : ℕ) (p : Received) (later : List Received) (rest : List ℕ) → IsStep e (length p.payload) → Rises e ((p.number + 1) * 189) rest
    → Rises e (p.number * 189) (map key (cuts_at p later) ++ rest)
at_rise e p later rest st r = go (p.start && pointer_fits p) where
  go : (t : Bool) → Rises e (p.number * 189) (map key (cond t (opened_in PACKET_LENGTH p.number (drop (1 + pointer_of p) p.payload) (going_on p.counter later)) []) ++ rest)
  go true =
      lower e (p.number * 189) _ (omega arith) _
      (opened_rise e PACKET_LENGTH p.number (drop (1 + pointer_of p) p.payload) (going_on p.counter later) rest
      (fewer e (length p.payload) (length (drop (1 + pointer_of p) p.payload)) (omega (arith, length-drop (1 + pointer_of p) p.payload)) st) r)
  go false = lower e (p.number * 189) ((p.number + 1) * 189) (omega arith) rest r

cuts_rise : (e : ℕ) (rs : List Received) (lo : ℕ) → Rises 1 lo (map (λ r. r.number) rs) → All (λ r. IsStep e (length r.payload)) rs → Rises e (lo * 189) (map key (cuts_of rs))
cuts_rise e [] lo r all = tt
cuts_rise e (p ∷ ps) lo r all =
    lower e (lo * 189) (p.number * 189) (omega (arith, r.0)) _
    (subst (Rises e (p.number * 189)) (sym (map-append key (cuts_at p ps) (cuts_of ps)))
    (at_rise e p ps (map key (cuts_of ps)) (All-head (λ r. IsStep e (length r.payload)) p ps all)
    (cuts_rise e ps (p.number + 1) r.1 (All-tail (λ r. IsStep e (length r.payload)) p ps all))))

-- ---- bytes of at most 188

opened_small : (steps number : ℕ) (here later : Bytes) → All (λ c. c.offset ≤ PACKET_LENGTH) (opened_in steps number here later)
opened_small zero number here later = All-nil (λ c. c.offset ≤ PACKET_LENGTH)
opened_small (suc steps) number here later = by ((length here == 0) || (slice_index here 0 == 0xFF)) (whole_len (here ++ later)) refl refl (λ n. opened_small steps number (drop n here) later) where
  next : (n : ℕ) (t : Bool) → All (λ c. c.offset ≤ PACKET_LENGTH) (opened_in steps number (drop n here) later) → All (λ c. c.offset ≤ PACKET_LENGTH) (cond t (opened_in steps number (drop n here) later) [])
  next n true more = more
  next n false more = All-nil (λ c. c.offset ≤ PACKET_LENGTH)

  by : (t : Bool) (o : Option ℕ) → ((length here == 0) || (slice_index here 0 == 0xFF)) ≡ t → whole_len (here ++ later) ≡ o
      → ((n : ℕ) → All (λ c. c.offset ≤ PACKET_LENGTH) (opened_in steps number (drop n here) later)) → All (λ c. c.offset ≤ PACKET_LENGTH) (opened_in (suc steps) number here later)
  by true o t f more = rw t (All-nil (λ c. c.offset ≤ PACKET_LENGTH))
  by false None t f more = rw (t, f) (All-nil (λ c. c.offset ≤ PACKET_LENGTH))
  by false (Some n) t f more = rw (t, f) (All-cons (λ c. c.offset ≤ PACKET_LENGTH) (record { packet = number; offset = PACKET_LENGTH - length here; bytes = take n (here ++ later) })
      (cond (nat_le n (length here)) (opened_in steps number (drop n here) later) []) (omega arith) (next n (nat_le n (length here)) (more n)))

cuts_small : (rs : List Received) → All (λ c. c.offset ≤ PACKET_LENGTH) (cuts_of rs)
cuts_small [] = All-nil (λ c. c.offset ≤ PACKET_LENGTH)
cuts_small (p ∷ ps) = All-append (λ c. c.offset ≤ PACKET_LENGTH) (cuts_at p ps) (cuts_of ps) (go (p.start && pointer_fits p)) (cuts_small ps) where
  go : (t : Bool) → All (λ c. c.offset ≤ PACKET_LENGTH) (cond t (opened_in PACKET_LENGTH p.number (drop (1 + pointer_of p) p.payload) (going_on p.counter ps)) [])
  go true = opened_small PACKET_LENGTH p.number (drop (1 + pointer_of p) p.payload) (going_on p.counter ps)
  go false = All-nil (λ c. c.offset ≤ PACKET_LENGTH)

-- ---- in order

keys_rise : (e pid : ℕ) (packets : List Bytes) → All (λ r. IsStep e (length r.payload)) (payloads_in pid packets) → Rises e 0 (map key (cuts pid packets))
keys_rise e pid packets all =
    cuts_rise e (without_repeats (payloads_in pid packets)) 0 (once (payloads_in pid packets) 0 (received_rise pid 0 packets)) (kept (λ r. IsStep e (length r.payload)) (payloads_in pid packets) all)

key_at : (e pid : ℕ) (packets : List Bytes) → All (λ r. IsStep e (length r.payload)) (payloads_in pid packets) → (i j : ℕ) (d : Cut) → i < j → j < length (cuts pid packets)
    → key (get_or (cuts pid packets) i d) + e ≤ key (get_or (cuts pid packets) j d)
key_at e pid packets all i j d lt inside =
    let up = rises_at e 0 (map key (cuts pid packets)) (keys_rise e pid packets all) i j (key d) lt (omega (arith, inside, length-map (cuts pid packets) key)) in
    subst (λ n. n + e ≤ key (get_or (cuts pid packets) j d)) (get_or-map key (cuts pid packets) i d (key d) (omega (arith, lt, inside)))
    (subst (λ n. get_or (map key (cuts pid packets)) i (key d) + e ≤ n) (get_or-map key (cuts pid packets) j d (key d) inside) up)

pub packets-rise : (pid : ℕ) (packets : List Bytes) → AllPairs (λ c d. c.packet ≤ d.packet) (cuts pid packets)
packets-rise pid packets i j d lt inside =
    let up = key_at 0 pid packets (λ k r below. inl refl) i j d lt inside in
    let small : (get_or (cuts pid packets) j d).offset ≤ PACKET_LENGTH = cuts_small (without_repeats (payloads_in pid packets)) j d inside in
    omega (arith, up, small)

-- ---- packets of 188 bytes

pub payload_short : (bytes : Bytes) → length bytes ≡ PACKET_LENGTH → (p : Fields) → parse_packet bytes ≡ Ok p → (p.payload ≡ drop (PACKET_LENGTH - length p.payload) bytes) × (length p.payload ≤ PACKET_LENGTH)
payload_short bytes size p e = grind (arith, common_steps, e, size)

-- a received packet is one of these, and its payload is the packet's last bytes
pub record IsOf (packets : List Bytes) (r : Received) : Type 0 where
  pub packet : Bytes
  pub there : slice_get packets r.number ≡ Some packet
  pub last : r.payload ≡ drop (PACKET_LENGTH - length r.payload) packet
  pub short : length r.payload ≤ PACKET_LENGTH

kept_is : (packets : List Bytes) (pid n : ℕ) (bytes : Bytes) → slice_get packets n ≡ Some bytes → length bytes ≡ PACKET_LENGTH → (r : Result Fields PacketFault) → parse_packet bytes ≡ r
    → (x : Received) → kept_of pid n r ≡ Some x → IsOf packets x
kept_is packets pid n bytes there size (Err f) e x k = cc
kept_is packets pid n bytes there size (Ok p) e x k = go ((p.pid == pid) && not (length p.payload == 0)) k where
  is : IsOf packets (record { number = n; start = p.start; counter = p.counter; payload = p.payload })
  is = let s = payload_short bytes size p e in record { packet = bytes; there = there; last = s.0; short = s.1 }

  go : (b : Bool) → cond b (Some (record { number = n; start = p.start; counter = p.counter; payload = p.payload })) None ≡ Some x → IsOf packets x
  go true h = subst (IsOf packets) (same_Some _ x h) is
  go false h = cc

received_of : (packets : List Bytes) (pid n : ℕ) (ps : List Bytes) → ((k : ℕ) → slice_get packets (n + k) ≡ slice_get ps k) → All (λ p. length p ≡ PACKET_LENGTH) ps
    → All (IsOf packets) (filter_map (λ x. kept_of pid x.0 (parse_packet x.1)) (enumerate_from n ps))
received_of packets pid n [] are sized = All-nil (IsOf packets)
received_of packets pid n (p ∷ ps) are sized =
    go (kept_of pid n (parse_packet p)) refl
    (received_of packets pid (n + 1) ps (λ k. ap (slice_get packets) (omega arith) ∙ are (suc k)) (All-tail (λ p. length p ≡ PACKET_LENGTH) p ps sized)) where
      here : slice_get packets n ≡ Some p
      here = ap (slice_get packets) (omega arith) ∙ are 0

      go : (o : Option Received) → kept_of pid n (parse_packet p) ≡ o → All (IsOf packets) (filter_map (λ x. kept_of pid x.0 (parse_packet x.1)) (enumerate_from (n + 1) ps))
          → All (IsOf packets) (cons_option o (filter_map (λ x. kept_of pid x.0 (parse_packet x.1)) (enumerate_from (n + 1) ps)))
      go None e rest = rest
      go (Some x) e rest = All-cons (IsOf packets) x _ (kept_is packets pid n p here (All-head (λ p. length p ≡ PACKET_LENGTH) p ps sized) (parse_packet p) refl x e) rest

-- ---- each stands where its place says

take_twice : (n : ℕ) (here later : Bytes) → take n here ≡ take (length here) (take n (here ++ later))
take_twice zero [] later = refl
take_twice (suc n) [] later = refl
take_twice zero (x ∷ xs) later = refl
take_twice (suc n) (x ∷ xs) later = ap (λ ys. x ∷ ys) (take_twice n xs later)

-- the bytes are the packet's last ones
pub record IsLastOf (packets : List Bytes) (number : ℕ) (here : Bytes) : Type 0 where
  pub packet : Bytes
  pub there : slice_get packets number ≡ Some packet
  pub last : here ≡ drop (PACKET_LENGTH - length here) packet
  pub short : length here ≤ PACKET_LENGTH

further : (packets : List Bytes) (number n : ℕ) (here : Bytes) → n ≤ length here → IsLastOf packets number here → IsLastOf packets number (drop n here)
further packets number n here le is = record {
  packet = is.packet;
  there = is.there;
  last = ap (drop n) is.last ∙ drop-drop n (PACKET_LENGTH - length here) is.packet ∙ ap (λ k. drop k is.packet) (omega (arith, le, is.short, length-drop n here));
  short = omega (arith, is.short, length-drop n here);
}

stands : (packets : List Bytes) (number n : ℕ) (here later : Bytes) → n ≤ length (here ++ later) → IsLastOf packets number here
    → StandsThere packets (record { packet = number; offset = PACKET_LENGTH - length here; bytes = take n (here ++ later) })
stands packets number n here later le is = record {
  packet = is.packet;
  there = is.there;
  begins =
      ap (λ k. take k (drop (PACKET_LENGTH - length here) is.packet)) (length-take-le n (here ++ later) le)
      ∙ ap (take n) (sym is.last)
      ∙ take_twice n here later
      ∙ ap (λ k. take k (take n (here ++ later))) (omega (arith, is.short));
}

opened_stand : (packets : List Bytes) (steps number : ℕ) (here later : Bytes) → IsLastOf packets number here → All (StandsThere packets) (opened_in steps number here later)
opened_stand packets zero number here later is = All-nil (StandsThere packets)
opened_stand packets (suc steps) number here later is =
    by ((length here == 0) || (slice_index here 0 == 0xFF)) (whole_len (here ++ later)) refl refl (λ n le. opened_stand packets steps number (drop n here) later (further packets number n here le is)) where
      next : (n : ℕ) (t : Bool) → nat_le n (length here) ≡ t → (n ≤ length here → All (StandsThere packets) (opened_in steps number (drop n here) later))
          → All (StandsThere packets) (cond t (opened_in steps number (drop n here) later) [])
      next n true h more = more (grind (arith, h))
      next n false h more = All-nil (StandsThere packets)

      by : (t : Bool) (o : Option ℕ) → ((length here == 0) || (slice_index here 0 == 0xFF)) ≡ t → whole_len (here ++ later) ≡ o
          → ((n : ℕ) → n ≤ length here → All (StandsThere packets) (opened_in steps number (drop n here) later)) → All (StandsThere packets) (opened_in (suc steps) number here later)
      by true o t f more = rw t (All-nil (StandsThere packets))
      by false None t f more = rw (t, f) (All-nil (StandsThere packets))
      by false (Some n) t f more = rw (t, f) (All-cons (StandsThere packets) (record { packet = number; offset = PACKET_LENGTH - length here; bytes = take n (here ++ later) })
          (cond (nat_le n (length here)) (opened_in steps number (drop n here) later) []) (stands packets number n here later (three_at_least (here ++ later) n f).1 is)
          (next n (nat_le n (length here)) refl (more n)))

cuts_stand : (packets : List Bytes) (rs : List Received) → All (IsOf packets) rs → All (StandsThere packets) (cuts_of rs)
cuts_stand packets [] all = All-nil (StandsThere packets)
cuts_stand packets (p ∷ ps) all =
    All-append (StandsThere packets) (cuts_at p ps) (cuts_of ps) (go (p.start && pointer_fits p) refl) (cuts_stand packets ps (All-tail (IsOf packets) p ps all)) where
      is : IsOf packets p
      is = All-head (IsOf packets) p ps all

      here : IsLastOf packets p.number p.payload
      here = record { packet = is.packet; there = is.there; last = is.last; short = is.short }

      go : (t : Bool) → (p.start && pointer_fits p) ≡ t → All (StandsThere packets) (cond t (opened_in PACKET_LENGTH p.number (drop (1 + pointer_of p) p.payload) (going_on p.counter ps)) [])
      go true e =
          let fits : pointer_of p < length p.payload = ltb-true _ _ (and_parts p.start (pointer_fits p) e).1 in
          opened_stand packets PACKET_LENGTH p.number (drop (1 + pointer_of p) p.payload) (going_on p.counter ps) (further packets p.number (1 + pointer_of p) p.payload (omega (arith, fits)) here)
      go false e = All-nil (StandsThere packets)

from_none : (packets : List Bytes) (k : ℕ) → slice_get packets (0 + k) ≡ slice_get packets k
from_none packets k = let same : 0 + k ≡ k = omega arith in ap (slice_get packets) same

short_steps : (packets : List Bytes) (rs : List Received) → All (IsOf packets) rs → All (λ r. IsStep 1 (length r.payload)) rs
short_steps packets rs all k d below = inr (refl, (all k d below).short)

in_order : (pid : ℕ) (packets : List Bytes) → All (λ p. length p ≡ PACKET_LENGTH) packets → AllPairs IsBefore (cuts pid packets)
in_order pid packets sized i j d lt inside =
    let up = key_at 1 pid packets (short_steps packets (payloads_in pid packets) (received_of packets pid 0 packets (from_none packets) sized)) i j d lt inside in
    let a : (get_or (cuts pid packets) i d).offset ≤ PACKET_LENGTH = cuts_small (without_repeats (payloads_in pid packets)) i d (omega (arith, lt, inside)) in
    let b : (get_or (cuts pid packets) j d).offset ≤ PACKET_LENGTH = cuts_small (without_repeats (payloads_in pid packets)) j d inside in
    by (get_or (cuts pid packets) i d) (get_or (cuts pid packets) j d) up a b (nat_lt (get_or (cuts pid packets) i d).packet (get_or (cuts pid packets) j d).packet) refl where
      by : (c e : Cut) → key c + 1 ≤ key e → c.offset ≤ PACKET_LENGTH → e.offset ≤ PACKET_LENGTH → (t : Bool) → nat_lt c.packet e.packet ≡ t → IsBefore c e
      by c e up a b true t = inl (ltb-true c.packet e.packet t)
      by c e up a b false t = let ge : e.packet ≤ c.packet = grind (arith, t) in inr (omega (arith, up, a, b, ge), omega (arith, up, a, b, ge))

pub cuts_in_order : CutsComeInOrder
cuts_in_order = record {
  packets_rise = packets-rise;
  rise = in_order;
  stand = λ pid packets sized.
      cuts_stand packets (without_repeats (payloads_in pid packets))
      (kept (IsOf packets) (payloads_in pid packets) (received_of packets pid 0 packets (from_none packets) sized));
}
