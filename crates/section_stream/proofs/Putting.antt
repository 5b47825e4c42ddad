-- A section more, as the packer packs it.
use Rattle.std.proofs.Common.{◌≡◌, ℕ, zero, suc, ◌+◌, ◌-◌, ◌%◌, ◌<◌, ◌≤◌, Bool, true, false, ◌==◌, nat_le, nat_lt, List, [], ◌∷◌, ◌++◌, length, take, drop, if◌then◌else◌, refl, sym, ◌∙◌, ap, subst, arith, append_assoc, append-nil, length-drop, length-append}
use Rattle.std.proofs.lemmas.List.{take_all, drop_all}
use Rattle.std.proofs.lemmas.Bool.{leb-true, lt-leb}
use Rattle.ts_packet.specs.Packets.{packet_bytes}
use Rattle.section_stream.specs.Cuts.{Bytes}
use Rattle.section_stream.specs.Packing.{MuxState, Back, Held, with_stuffing, give, send_begun, sent_of, put, number_packets, past}

-- ---- what is left of a begun section

abbrev sent_by : ℕ → Bytes → Bool → Bool → Held
sent_by steps begun t u =
    if t then give (false, take 184 begun) (send_begun steps (drop 184 begun))
    else (if u then record { given = (false, begun) ∷ []; tail = []; body = [] } else record { given = []; tail = begun; body = [] })

same_steps : (m n : ℕ) (begun : Bytes) → length begun < m → length begun < n → send_begun m begun ≡ send_begun n begun
same_steps zero n begun h k = absurd (omega (arith, h))
same_steps (suc m) zero begun h k = absurd (omega (arith, k))
same_steps (suc m) (suc n) begun h k = go (λ a b. same_steps m n (drop 184 begun) a b) (nat_le 184 (length begun)) refl where
  go : (length (drop 184 begun) < m → length (drop 184 begun) < n → send_begun m (drop 184 begun) ≡ send_begun n (drop 184 begun)) → (t : Bool) → nat_le 184 (length begun) ≡ t
      → sent_by m begun (nat_le 184 (length begun)) (length begun == 183) ≡ sent_by n begun (nat_le 184 (length begun)) (length begun == 183)
  go next false t = subst (λ x. sent_by m begun x (length begun == 183) ≡ sent_by n begun x (length begun == 183)) (sym t) refl
  go next true t =
      let i : 184 ≤ length begun = leb-true 184 (length begun) t in
      subst (λ x. sent_by m begun x (length begun == 183) ≡ sent_by n begun x (length begun == 183)) (sym t)
      (ap (give (false, take 184 begun)) (next (omega (arith, length-drop 184 begun, i, h)) (omega (arith, length-drop 184 begun, i, k))))

-- a packet that it fills, or ends with one byte to spare
pub sent_more : (begun : Bytes) → 183 ≤ length begun → sent_of begun ≡ give (false, take 184 begun) (sent_of (drop 184 begun))
unfolding sent_of
sent_more begun h = go (nat_le 184 (length begun)) refl where
  Claim : Bool → Type 0
  Claim t = sent_by (length begun) begun t (length begun == 183) ≡ give (false, take 184 begun) (sent_of (drop 184 begun))

  go : (t : Bool) → nat_le 184 (length begun) ≡ t → Claim (nat_le 184 (length begun))
  go true t =
      let i : 184 ≤ length begun = leb-true 184 (length begun) t in
      subst Claim (sym t) (ap (give (false, take 184 begun)) (same_steps (length begun) (suc (length (drop 184 begun))) (drop 184 begun) (omega (arith, length-drop 184 begun, i)) (omega arith)))
  go false t =
      let size : (length begun == 183) ≡ true = grind (arith, t, h) in
      let is : length begun ≡ 183 = grind (arith, t, h) in
      subst Claim (sym t)
      (ap (sent_by (length begun) begun false) size
      ∙ ap (λ x. record { given = (false, x) ∷ []; tail = []; body = [] }) (sym (take_all 184 begun (omega (arith, is))))
      ∙ ap (λ x. give (false, take 184 begun) (sent_of x)) (sym (drop_all 184 begun (omega (arith, is)))))

-- nothing more is given
pub sent_less : (begun : Bytes) → length begun < 183 → sent_of begun ≡ record { given = []; tail = begun; body = [] }
unfolding sent_of
sent_less begun h =
    let t : nat_le 184 (length begun) ≡ false = lt-leb 184 (length begun) (omega (arith, h)) in
    let u : (length begun == 183) ≡ false = grind (arith, h) in
    ap (λ x. sent_by (length begun) begun x (length begun == 183)) t ∙ ap (sent_by (length begun) begun false) u

body_by : (steps : ℕ) (begun : Bytes) → (send_begun steps begun).body ≡ []
body_by zero begun = refl
body_by (suc steps) begun = go (body_by steps (drop 184 begun)) (nat_le 184 (length begun)) (length begun == 183) where
  go : (send_begun steps (drop 184 begun)).body ≡ [] → (t u : Bool) → (sent_by steps begun t u).body ≡ []
  go next true u = next
  go next false true = refl
  go next false false = refl

pub sent_body : (begun : Bytes) → (sent_of begun).body ≡ []
unfolding sent_of
sent_body begun = body_by (suc (length begun)) begun

-- ---- the loop over what is left

pub packets_more : (pid counter : ℕ) (rest part behind : Bytes) (out more whole : List Bytes) → 183 ≤ length rest → part ≡ take 184 rest → behind ≡ drop 184 rest
    → more ≡ out ++ packet_bytes pid false counter (with_stuffing part) ∷ [] → out ++ number_packets pid counter (sent_of rest).given ≡ whole
    → more ++ number_packets pid ((counter + 1) % 16) (sent_of behind).given ≡ whole
packets_more pid counter rest part behind out more whole h p b m w =
    ap (λ xs. xs ++ number_packets pid ((counter + 1) % 16) (sent_of behind).given) m
    ∙ append_assoc out (packet_bytes pid false counter (with_stuffing part) ∷ []) (number_packets pid ((counter + 1) % 16) (sent_of behind).given)
    ∙ ap (λ x. out ++ (packet_bytes pid false counter (with_stuffing x) ∷ number_packets pid ((counter + 1) % 16) (sent_of behind).given)) p
    ∙ ap (λ x. out ++ (packet_bytes pid false counter (with_stuffing (take 184 rest)) ∷ number_packets pid ((counter + 1) % 16) (sent_of x).given)) b
    ∙ sym (ap (λ (x : Held). out ++ number_packets pid counter x.given) (sent_more rest h)) ∙ w

pub tail_more : (rest behind : Bytes) → 183 ≤ length rest → behind ≡ drop 184 rest → (sent_of behind).tail ≡ (sent_of rest).tail
tail_more rest behind h b = ap (λ x. (sent_of x).tail) b ∙ sym (ap (λ (x : Held). x.tail) (sent_more rest h))

pub counter_more : (counter : ℕ) (rest behind : Bytes) → 183 ≤ length rest → behind ≡ drop 184 rest
    → ((counter + 1) % 16 + length (sent_of behind).given) % 16 ≡ (counter + length (sent_of rest).given) % 16
counter_more counter rest behind h b =
    let one : length (sent_of rest).given ≡ suc (length (sent_of behind).given) =
    ap (λ (x : Held). length x.given) (sent_more rest h) ∙ ap (λ x. suc (length (sent_of x).given)) (sym b) in
    omega (arith, one)

-- nothing more is given
pub packets_end : (pid counter : ℕ) (rest : Bytes) (out whole : List Bytes) → length rest < 183 → out ++ number_packets pid counter (sent_of rest).given ≡ whole → out ≡ whole
packets_end pid counter rest out whole h w = sym (ap (λ (x : Held). out ++ number_packets pid counter x.given) (sent_less rest h) ∙ append-nil out) ∙ w

pub tail_end : (rest tail : Bytes) → length rest < 183 → (sent_of rest).tail ≡ tail → rest ≡ tail
tail_end rest tail h t = sym (ap (λ (x : Held). x.tail) (sent_less rest h)) ∙ t

pub counter_end : (counter next : ℕ) (rest : Bytes) → length rest < 183 → counter < 16 → (counter + length (sent_of rest).given) % 16 ≡ next → counter ≡ next
counter_end counter next rest h b n =
    let none : length (sent_of rest).given ≡ 0 = ap (λ (x : Held). length x.given) (sent_less rest h) in
    omega (arith, none, n, b)

-- ---- a section

abbrev put_by : ℕ → Bytes → Bytes → Bytes → Bool → Held
put_by room tail body s t =
    if t then record { given = []; tail = tail; body = body ++ s }
    else give (true, length tail ∷ (tail ++ (body ++ take room s))) (sent_of (drop room s))

-- it fills the packet under way
put_large : (m : MuxState) (s : Bytes) (room : ℕ) → room ≡ 183 - (length m.tail + length m.body) → room ≤ length s
    → put m.tail m.body s ≡ give (true, length m.tail ∷ (m.tail ++ (m.body ++ take room s))) (sent_of (drop room s))
put_large m s room e h =
    let t : nat_lt (length s) room ≡ false = grind (arith, h) in
    ap (λ k. put_by k m.tail m.body s (nat_lt (length s) k)) (sym e) ∙ ap (put_by room m.tail m.body s) t

pub large_past : (m : MuxState) (s : Bytes) (room : ℕ) (behind tail : Bytes) (counter : ℕ) → room ≡ 183 - (length m.tail + length m.body) → room ≤ length s → behind ≡ drop room s
    → tail ≡ (sent_of behind).tail → counter ≡ ((m.counter + 1) % 16 + length (sent_of behind).given) % 16
    → record { pid = m.pid; counter = counter; tail = tail; body = [] } ≡ past m s
large_past m s room behind tail counter e h b t k =
    let one : counter ≡ (m.counter + suc (length (sent_of behind).given)) % 16 = omega (arith, k) in
    ap (λ c. record { pid = m.pid; counter = c; tail = tail; body = [] }) one
    ∙ ap (λ x. record { pid = m.pid; counter = (m.counter + suc (length (sent_of behind).given)) % 16; tail = x; body = [] }) t
    ∙ ap (λ x. record { pid = m.pid; counter = (m.counter + suc (length (sent_of behind).given)) % 16; tail = (sent_of behind).tail; body = x }) (sym (sent_body behind))
    ∙ ap (λ x. record { pid = m.pid; counter = (m.counter + suc (length (sent_of x).given)) % 16; tail = (sent_of x).tail; body = (sent_of x).body }) b
    ∙ sym (ap (λ (x : Held). record { pid = m.pid; counter = (m.counter + length x.given) % 16; tail = x.tail; body = x.body }) (put_large m s room e h))

-- what is held back of a section that fills the packet under way
pub large_state : (m : MuxState) (pid first : ℕ) (held kept : Back) (bytes s behind tail : Bytes) (counter : ℕ)
    → ◌≡◌ {A = MuxState} (record { pid = pid; counter = first; tail = held.tail; body = held.body }) m → bytes ≡ held.tail ++ held.body → 183 - length bytes ≤ length s
    → behind ≡ drop (183 - length bytes) s → tail ≡ (sent_of behind).tail → counter ≡ ((first + 1) % 16 + length (sent_of behind).given) % 16 → kept ≡ record { tail = tail; body = [] }
    → ◌≡◌ {A = MuxState} (record { pid = pid; counter = counter; tail = kept.tail; body = kept.body }) (past m s)
large_state m pid first held kept bytes s behind tail counter v a h b t k r =
    let size : 183 - length bytes ≡ 183 - (length held.tail + length held.body) = omega (arith, ap (λ (x : Bytes). length x) a, length-append held.tail held.body) in
    subst (λ (x : MuxState). ◌≡◌ {A = MuxState} (record { pid = pid; counter = counter; tail = kept.tail; body = kept.body }) (past x s)) v
    (ap (λ (x : Back). record { pid = pid; counter = counter; tail = x.tail; body = x.body }) r
    ∙ large_past (record { pid = pid; counter = first; tail = held.tail; body = held.body }) s (183 - length bytes) behind tail counter size h b t k)
