-- What crates above may cite of packing: the packets of groups, how many there are, and where their sections begin.
use Rattle.std.proofs.Common.{◌≡◌, ℕ, zero, suc, ◌+◌, ◌-◌, ◌*◌, ◌%◌, ◌<◌, ◌≤◌, Bool, true, false, ◌&&◌, ◌||◌, ◌==◌, nat_le, nat_lt, List, [], ◌∷◌, ◌++◌, length, map, take, drop, if◌then◌else◌, refl, sym, ◌∙◌, ap, subst, arith, append-nil, length-append, length-drop, append_assoc}
use Rattle.std.specs.List.{All, fold, sum_by}
use Rattle.std.proofs.lemmas.Bool.{leb-true, leb-false}
use Rattle.std.proofs.lemmas.List.{length-map, length-take-le}
use Rattle.std.proofs.lemmas.List.Sums.{sum_by-cons}
use Rattle.std.proofs.lemmas.List.Elements.{All-append, All-cons, All-nil}
use Rattle.section_stream.specs.Cuts.{Bytes, candidates, cuts}
use Rattle.section_stream.specs.Packing.{MuxState, IsSectionLike, Held, give, idle, is_none, send_begun, sent_of, put, end_packets, number_packets, packets_of, packets_of_all, past, last_of, after_finish}
use Rattle.section_stream.specs.Groups.{IsBetween, Filling, Laid, fill, is_done, lay_packet, with_start, layout_from, layout_of, packets_from, packets_of_group, packets_of_groups, past_group, places_in, starts_from, CallsGiveTheGroup, PacketsGiveTheGroups}
use Rattle.section_stream.proofs.Calling.{calls-give-the-group}
use Rattle.section_stream.proofs.GroupPlaces.{groups-open}
use Rattle.section_stream.proofs.Grouped.{fill_length, groups-cut}

-- ---- calls

pub calls_give : CallsGiveTheGroup
calls_give = calls-give-the-group

pub between_idle : (pid n : ℕ) → IsBetween (idle pid (n % 16))
between_idle pid n = record { tail = refl; body = refl; counter = omega arith }

-- a group of one section
pub one_given : (m : MuxState) (s : Bytes) → IsBetween m → IsSectionLike s → (packets_of m s ++ last_of (past m s) ≡ packets_of_group m (s ∷ [])) × (after_finish (past m s) ≡ past_group m (s ∷ []))
one_given m s b h =
    let g = calls-give-the-group m (s ∷ []) b (All-cons IsSectionLike s [] h (All-nil IsSectionLike)) in
    (ap (λ xs. xs ++ last_of (past m s)) (sym (append-nil (packets_of m s))) ∙ g.0, g.1)

-- the packets of one group cut its sections
pub group_cut : PacketsGiveTheGroups → (m : MuxState) (group : List Bytes) → m.pid < 8192 → m.counter < 16 → All IsSectionLike group → candidates m.pid (packets_of_group m group) ≡ group
group_cut law m group pid counter like =
    sym (ap (candidates m.pid) (append-nil (packets_of_group m group)))
    ∙ law m (group ∷ []) pid counter (All-cons (All IsSectionLike) group [] like (All-nil (All IsSectionLike))) ∙ append-nil group

-- the packets of two lists of sections are those of the first and then those of the second
pub packets_of_all-append : (m : MuxState) (first second : List Bytes) → packets_of_all m (first ++ second) ≡ packets_of_all m first ++ packets_of_all (fold past m first) second
packets_of_all-append m [] second = refl
packets_of_all-append m (s ∷ ss) second =
    ap (λ xs. packets_of m s ++ xs) (packets_of_all-append (past m s) ss second)
    ∙ sym (append_assoc (packets_of m s) (packets_of_all (past m s) ss) (packets_of_all (fold past (past m s) ss) second))

-- ---- how large they are

-- the bytes of a packet before the stuffing leave room for a pointer field, or need none
abbrev pub Fits : Laid → Type 0
Fits l = length l.bytes ≤ 184

laid_fits : (begun : Bytes) (rest : List Bytes) → Fits (lay_packet begun rest)
laid_fits begun rest = go (nat_le 184 (length begun)) refl ((length begun == 183) || (nat_lt 0 (length begun) && is_none rest)) where
  later : Filling
  later = fill (5 + length begun) (183 - length begun) rest

  by : Bool → Bool → Laid
  by t u =
      if t then record { start = false; bytes = take 184 begun; begun = drop 184 begun; rest = rest; offsets = [] }
      else (if u then record { start = false; bytes = begun; begun = []; rest = rest; offsets = [] } else with_start begun later)

  go : (t : Bool) → nat_le 184 (length begun) ≡ t → (u : Bool) → Fits (by t u)
  go true e u = let size = length-take-le 184 begun (leb-true 184 (length begun) e) in omega (arith, size)
  go false e true = let size = leb-false 184 (length begun) e in omega (arith, size)
  go false e false =
      let size = leb-false 184 (length begun) e in
      let filled = fill_length (5 + length begun) (183 - length begun) rest in
      omega (arith, size, filled, length-append begun later.bytes)

all_fit : (steps : ℕ) (begun : Bytes) (rest : List Bytes) → All Fits (layout_from steps begun rest)
all_fit zero begun rest = All-nil Fits
all_fit (suc steps) begun rest = go (all_fit steps (lay_packet begun rest).begun (lay_packet begun rest).rest) (is_done begun rest) where
  later : List Laid
  later = layout_from steps (lay_packet begun rest).begun (lay_packet begun rest).rest

  go : All Fits later → (b : Bool) → All Fits (if b then [] else lay_packet begun rest ∷ later)
  go fit true = All-nil Fits
  go fit false = All-cons Fits (lay_packet begun rest) later (laid_fits begun rest) fit

pub layout_fits : (group : List Bytes) → All Fits (layout_of group)
layout_fits group = all_fit (sum_by length group) [] group

-- ---- how many packets

numbered_count : (pid counter : ℕ) (ps : List (Bool × Bytes)) → length (number_packets pid counter ps) ≡ length ps
numbered_count pid counter [] = refl
numbered_count pid counter (p ∷ ps) = ap suc (numbered_count pid ((counter + 1) % 16) ps)

sent_count : (steps : ℕ) (begun : Bytes) → 184 * length (send_begun steps begun).given ≤ length begun + 1
sent_count zero begun = omega arith
sent_count (suc steps) begun = go (sent_count steps (drop 184 begun)) (nat_le 184 (length begun)) refl (length begun == 183) refl where
  Claim : Held → Type 0
  Claim h = 184 * length h.given ≤ length begun + 1

  by : Bool → Bool → Held
  by t u =
      if t then give (false, take 184 begun) (send_begun steps (drop 184 begun))
      else (if u then record { given = (false, begun) ∷ []; tail = []; body = [] } else record { given = []; tail = begun; body = [] })

  go : 184 * length (send_begun steps (drop 184 begun)).given ≤ length (drop 184 begun) + 1 → (t : Bool) → nat_le 184 (length begun) ≡ t → (u : Bool) → (length begun == 183) ≡ u
      → Claim (by (nat_le 184 (length begun)) (length begun == 183))
  go next true t u e =
      let i : 184 ≤ length begun = leb-true 184 (length begun) t in
      subst (λ x. Claim (by x (length begun == 183))) (sym t) (omega (arith, next, i, length-drop 184 begun))
  go next false t true e =
      let size : length begun ≡ 183 = grind (arith, e) in
      subst (λ x. Claim (by x (length begun == 183))) (sym t) (subst (λ y. Claim (by false y)) (sym e) (omega (arith, size)))
  go next false t false e = subst (λ x. Claim (by x (length begun == 183))) (sym t) (subst (λ y. Claim (by false y)) (sym e) (omega arith))

put_count : (tail body s : Bytes) → IsSectionLike s → length (put tail body s).given ≤ 23
unfolding sent_of
put_count tail body s h = go (nat_lt (length s) room) where
  room : ℕ
  room = 183 - (length tail + length body)

  by : Bool → Held
  by t = if t then record { given = []; tail = tail; body = body ++ s } else give (true, length tail ∷ (tail ++ (body ++ take room s))) (sent_of (drop room s))

  go : (t : Bool) → length (by t).given ≤ 23
  go true = omega arith
  go false = let n = sent_count (suc (length (drop room s))) (drop room s) in let most : length s ≤ 4096 = h.size.1 in omega (arith, n, most, length-drop room s)

-- a section gives at most 23 packets
pub few_packets : (m : MuxState) (s : Bytes) → IsSectionLike s → length (packets_of m s) ≤ 23
few_packets m s h = let n = numbered_count m.pid m.counter (put m.tail m.body s).given in let k = put_count m.tail m.body s h in omega (arith, n, k)

-- a group's end gives at most one
pub few_last : (m : MuxState) → length (last_of m) ≤ 1
few_last m = let n = numbered_count m.pid m.counter (end_packets m.tail m.body) in let k = go m.tail m.body in omega (arith, n, k) where
  go : (tail body : Bytes) → length (end_packets tail body) ≤ 1
  go [] [] = omega arith
  go (x ∷ xs) [] = omega arith
  go tail (y ∷ ys) = omega arith

-- ---- where sections begin

-- a place in these packets
abbrev pub IsWithin : ℕ → ℕ → ℕ × ℕ → Type 0
IsWithin low high p = (low ≤ p.0) × (p.0 < high)

within_one : (n : ℕ) (offsets : List ℕ) (high : ℕ) → n < high → All (IsWithin n high) (map (λ o. (n, o)) offsets)
within_one n [] high h = All-nil (IsWithin n high)
within_one n (o ∷ os) high h = All-cons (IsWithin n high) (n, o) (map (λ x. (n, x)) os) (omega arith, h) (within_one n os high h)

wider : (low less high more : ℕ) (ps : List (ℕ × ℕ)) → less ≤ low → high ≤ more → All (IsWithin low high) ps → All (IsWithin less more) ps
wider low less high more ps h k all i d b = let p = all i d b in let x = p.0 in let y = p.1 in (omega (arith, h, x), omega (arith, k, y))

-- the places of a group are in its packets
pub places_within : (n : ℕ) (ls : List Laid) → All (IsWithin n (n + length ls)) (places_in n ls)
places_within n [] = All-nil (IsWithin n (n + 0))
places_within n (l ∷ ls) =
    All-append (IsWithin n (n + length (l ∷ ls))) (map (λ o. (n, o)) l.offsets) (places_in (n + 1) ls) (within_one n l.offsets (n + length (l ∷ ls)) (omega arith))
    (wider (n + 1) n (n + 1 + length ls) (n + length (l ∷ ls)) (places_in (n + 1) ls) (omega arith) (omega arith) (places_within (n + 1) ls))

-- and those of groups after others in later packets
pub starts_behind : (n : ℕ) (groups : List (List Bytes)) → All (λ p. n ≤ p.0) (starts_from n groups)
starts_behind n [] = All-nil (λ (p : ℕ × ℕ). n ≤ p.0)
starts_behind n (g ∷ gs) =
    All-append (λ (p : ℕ × ℕ). n ≤ p.0) (places_in n (layout_of g)) (starts_from (n + length (layout_of g)) gs)
    (λ i d b. (places_within n (layout_of g) i d b).0)
    (λ i d b. let h = starts_behind (n + length (layout_of g)) gs i d b in omega (arith, h))

places_count_from : (n k : ℕ) (ls : List Laid) → length (places_in n ls) ≡ length (places_in k ls)
places_count_from n k [] = refl
places_count_from n k (l ∷ ls) =
    let rest = places_count_from (n + 1) (k + 1) ls in
    let here : length {A = ℕ × ℕ} (map (λ o. (n, o)) l.offsets) ≡ length l.offsets = length-map l.offsets (λ o. (n, o)) in
    let there : length {A = ℕ × ℕ} (map (λ o. (k, o)) l.offsets) ≡ length l.offsets = length-map l.offsets (λ o. (k, o)) in
    omega (arith, rest, here, there, length-append {A = ℕ × ℕ} (map (λ o. (n, o)) l.offsets) (places_in (n + 1) ls), length-append {A = ℕ × ℕ} (map (λ o. (k, o)) l.offsets) (places_in (k + 1) ls))

-- each section of a group has its place
pub places_count : (n : ℕ) (group : List Bytes) → All IsSectionLike group → length (places_in n (layout_of group)) ≡ length group
places_count n group like =
    let m : MuxState = idle 0 0 in
    let one : All (All IsSectionLike) (group ∷ []) = All-cons (All IsSectionLike) group [] like (All-nil (All IsSectionLike)) in
    let packets : List Bytes = packets_of_groups m (group ∷ []) in
    let places : map (λ c. (c.packet, c.offset)) (cuts 0 packets) ≡ places_in 0 (layout_of group) = groups-open m (group ∷ []) (omega arith) (omega arith) one ∙ append-nil (places_in 0 (layout_of group)) in
    let sections : candidates 0 packets ≡ group = groups-cut m (group ∷ []) (omega arith) (omega arith) one ∙ append-nil group in
    places_count_from n 0 (layout_of group)
    ∙ sym (ap (λ (ps : List (ℕ × ℕ)). length ps) places) ∙ length-map (cuts 0 packets) (λ c. (c.packet, c.offset))
    ∙ sym (length-map (cuts 0 packets) (λ c. c.bytes)) ∙ ap (λ (ss : List Bytes). length ss) sections

-- ---- groups one after another

-- the packets of two lists of groups are those of the first and then those of the second
pub packets_of_groups-append : (m : MuxState) (first second : List (List Bytes))
    → packets_of_groups m (first ++ second) ≡ packets_of_groups m first ++ packets_of_groups (fold past_group m first) second
packets_of_groups-append m [] second = refl
packets_of_groups-append m (g ∷ gs) second =
    ap (λ xs. packets_of_group m g ++ xs) (packets_of_groups-append (past_group m g) gs second)
    ∙ sym (append_assoc (packets_of_group m g) (packets_of_groups (past_group m g) gs) (packets_of_groups (fold past_group (past_group m g) gs) second))

-- a group of a section that isn't empty has a packet
pub some_packets : (m : MuxState) (s : Bytes) (ss : List Bytes) → 0 < length s → 0 < length (packets_of_group m (s ∷ ss))
some_packets m s ss some = go (sum_by length (s ∷ ss)) (let size = sum_by-cons (λ (x : Bytes). length x) s ss in omega (arith, some, size)) where
  go : (n : ℕ) → 0 < n → 0 < length (packets_from m.pid m.counter (layout_from n [] (s ∷ ss)))
  go zero h = absurd (omega (arith, h))
  go (suc n) h = omega arith

pub pid_stays : (m : MuxState) (groups : List (List Bytes)) → (fold past_group m groups).pid ≡ m.pid
pid_stays m [] = refl
pid_stays m (g ∷ gs) = pid_stays (past_group m g) gs

pub counter_in_range : (m : MuxState) (groups : List (List Bytes)) → m.counter < 16 → (fold past_group m groups).counter < 16
counter_in_range m [] lt = lt
counter_in_range m (g ∷ gs) lt = counter_in_range (past_group m g) gs (omega arith)
