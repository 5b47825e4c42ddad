-- Control messages: what is read is what the relation says, and the other way round.
use Rattle.std.proofs.Common.{◌≡◌, ℕ, ◌+◌, ◌<◌, ◌==◌, Bool, true, false, cond, List, [], ◌∷◌, ◌++◌, length, get_or, take, drop, Result, Ok, Err, sym, ap, subst, ◌∙◌, refl, arith, ◌-◌}
use Rattle.std.proofs.lemmas.Bool.{ne_eqb}
use Rattle.std.proofs.lemmas.List.{take-append-drop}
use Rattle.std.specs.Prelude.{IfOk, Some}
use Rattle.oc_bytes.specs.Cursor.{Cursor, Reading, ◌>>=◌, from_start, read_from_start, value_only}
use Rattle.oc_bytes.specs.Grammar.{Grammar, read as read_by, Reads as ReadsBy}
use Rattle.oc_bytes.specs.Numbers.{IsBytes, two_bytes}
use Rattle.oc_bytes.specs.Agreement.{at}
use Rattle.oc_bytes.specs.Outcome.{Gives}
use Rattle.oc_bytes.proofs.CallerLemmas.{bytes_fit, each_fits, fits_front, fits_back, wide_2, grammar_agrees, is_found}
use Rattle.ddb_block.specs.Message.{IsMessage, message_at}
use Rattle.ddb_block.proofs.CallerLemmas.{message_is_read, read_is_message}
use Rattle.ior_tap.specs.Iors as iors
use Rattle.dsi_dii.specs.declared.Control.{Control}
use Rattle.dsi_dii.specs.declared.ControlFault.{ControlFault}
use Rattle.dsi_dii.specs.Controls.{Message, IsDsi, IsDii, DsiFields, DiiFields, dii_body, private_data, ReadsDii, ReadsDsi, IsDsiFrame, IsGateway, Reads, view, cause, dii_at, dsi_at, gateway_at, message_id_of, read}

-- ---- the messageId

pub short_is_other : (payload : List ℕ) → get_or payload 2 0 < 256 → length payload < 4
    → false ≡ (message_id_of payload == 0x1006)
short_is_other [] fits lt = refl
short_is_other (a ∷ []) fits lt = refl
short_is_other (a ∷ b ∷ []) fits lt = refl
short_is_other (a ∷ b ∷ c ∷ []) fits lt = sym (ne_eqb (0 + c) 0x1006 λ e. omega (arith, fits, e))
short_is_other (a ∷ b ∷ c ∷ d ∷ rest) fits lt = absurd (omega (arith, lt))

message_id_is : (id : ℕ) (payload : List ℕ) (transaction : ℕ) (body : List ℕ) → IsMessage payload id transaction body
    → message_id_of payload ≡ id
message_id_is id payload transaction body h = ap message_id_of h.whole ∙ wide_2.again id h.ranges.0

-- ---- what is read

-- what holds after two readings
after_both : {A B : Type 0} (m : Reading A) (f : A × Cursor → Reading B) (Q : B × Cursor → Type 0)
    → ((x : A × Cursor) → m ≡ Ok x → IfOk (f x) Q) → IfOk (m >>= f) Q
after_both (Ok x) f Q next = next x refl
after_both (Err place) f Q next = tt

of_value : {A : Type 0} (r : Reading A) (Q : A → Type 0) → IfOk r (λ x. Q x.0) → IfOk (value_only r) Q
of_value (Ok x) Q h = h
of_value (Err place) Q h = tt

-- a message whose body begins with a value
begins : {A : Type 0} (g : Grammar A) (id : ℕ) (payload : List ℕ) (t : ℕ × Cursor) (x : A × Cursor)
    → id < 65536 → IsBytes payload → message_at id (from_start payload) ≡ Ok t → read_by g t.1 ≡ Ok x
    → (front : List ℕ) × ReadsBy g front x.0 × IsMessage payload id t.0 (front ++ x.1.rest)
begins g id payload t x lt fits e f =
    let m = read_is_message payload id t (each_fits payload fits) lt e in
    let k = (grammar_agrees g).takes t.1 x (bytes_fit t.1.rest m.1) f in
    (k.front, k.reads, rw (← k.parts) m.0)

dii_found : (payload : List ℕ) → IsBytes payload → IfOk (dii_at (from_start payload)) (λ x. Reads payload x.0)
unfolding dii_at ReadsBy
dii_found payload fits =
    after_both (message_at 0x1002 (from_start payload)) _ _ λ t e.
    after_both (read_by (dii_body t.0) t.1) _ _ λ d f.
    let k = begins (dii_body t.0) 0x1002 payload t d (omega arith) fits e f in
    let same : t.0 ≡ d.0.transaction = sym (ap (λ (x : DiiFields). x.transaction) k.1.second.second.second.1) in
    record {
      front = k.0;
      trailing = d.1.rest;
      body = subst (λ (n : ℕ). ReadsBy (dii_body n) k.0 d.0) same k.1;
      message = subst (λ (n : ℕ). IsMessage payload 0x1002 n (k.0 ++ d.1.rest)) same k.2;
    }

-- the private data are bytes
private_fits : (payload : List ℕ) (transaction : ℕ) (private : List ℕ) → IsBytes payload
    → IsDsiFrame payload transaction private → IsBytes private
unfolding ReadsBy
private_fits payload transaction private fits h =
    let body = h.front ++ h.trailing in
    let t = message_is_read payload 0x1006 transaction body h.message in
    let m = read_is_message payload 0x1006 (transaction, at _ body) (each_fits payload fits) (omega arith) t in
    let front = fits_front h.front h.trailing (bytes_fit body m.1) in
    let back = fits_back h.body.front h.body.back (rw h.body.whole at front) in
    let sized = fits_back h.body.second.front h.body.second.back (rw h.body.second.whole at back) in
    fits_back (two_bytes (length private)) private (rw h.body.second.second.1 at sized)

gateway_found : (place : ℕ) (private : List ℕ) (after : Cursor) → IsBytes private
    → IfOk (gateway_at place private after) (λ x. IsGateway private x.0)
gateway_found place private after fits = go (read_from_start (read_by iors.ior (from_start private))) refl where
  go : (r : Result (iors.Fields × ℕ) ℕ) → read_from_start (read_by iors.ior (from_start private)) ≡ r
      → IfOk (gateway_at place private after) (λ x. IsGateway private x.0)
  go (Ok x) e =
      let h = is_found (grammar_agrees iors.ior) (λ y. y) Some private (Ok x) fits e in
      let whole = sym (take-append-drop x.1 private) in
      rw e (record { reference = take x.1 private; rest = drop x.1 private; whole = whole; reads = h.1 })
  go (Err at) e = rw e tt

dsi_found : (payload : List ℕ) → IsBytes payload → IfOk (dsi_at (from_start payload)) (λ x. Reads payload x.0)
unfolding dsi_at
dsi_found payload fits =
    after_both (message_at 0x1006 (from_start payload)) _ _ λ t e.
    after_both (read_by private_data t.1) _ _ λ p f.
    after_both (gateway_at (p.1.place - length p.0) p.0 p.1) _ _ λ g h.
    let k = begins private_data 0x1006 payload t p (omega arith) fits e f in
    let frame : IsDsiFrame payload t.0 p.0 = record { front = k.0; trailing = p.1.rest; body = k.1; message = k.2 } in
    let private = private_fits payload t.0 p.0 fits frame in
    record { private = p.0; frame = frame; gateway = rw h at (gateway_found (p.1.place - length p.0) p.0 p.1 private) }

read_found : (payload : List ℕ) → IsBytes payload → IfOk (read payload) (Reads payload)
read_found payload fits = go (message_id_of payload == 0x1006) where
  go : (b : Bool)
      → IfOk (value_only (cond b (dsi_at (from_start payload)) (dii_at (from_start payload)))) (Reads payload)
  go true = of_value (dsi_at (from_start payload)) _ (dsi_found payload fits)
  go false = of_value (dii_at (from_start payload)) _ (dii_found payload fits)

pub answer_found : (payload : List ℕ) (r : Result Control ControlFault) → IsBytes payload
    → Gives view cause r (read payload) → IfOk r (λ m. Reads payload (view m))
answer_found payload (Ok m) fits h = rw h at (read_found payload fits)
answer_found payload (Err e) fits h = tt

-- ---- what is read again

dii_again : (payload : List ℕ) (d : DiiFields) → ReadsDii payload d
    → value_only (dii_at (from_start payload)) ≡ Ok (IsDii d)
unfolding dii_at
dii_again payload d h =
    let t = message_is_read payload 0x1002 d.transaction (h.front ++ h.trailing) h.message in
    let body = grammar_agrees (dii_body d.transaction) in
    rw (t, body.again h.front h.trailing (12 + length h.message.adaptation) d h.body) refl

dsi_again : (payload : List ℕ) (d : DsiFields) → ReadsDsi payload d
    → value_only (dsi_at (from_start payload)) ≡ Ok (IsDsi d)
unfolding dsi_at
dsi_again payload d h =
    let f = h.frame in
    let g = h.gateway in
    let t = message_is_read payload 0x1006 d.transaction (f.front ++ f.trailing) f.message in
    let p = (grammar_agrees private_data).again f.front f.trailing (12 + length f.message.adaptation) _ f.body in
    rw (t, p, g.whole, (grammar_agrees iors.ior).again g.reference g.rest 0 d.gateway g.reads) refl

pub read_again : (payload : List ℕ) (m : Message) → Reads payload m → read payload ≡ Ok m
read_again payload (IsDsi d) h = rw (message_id_is 0x1006 payload _ _ h.frame.message) (dsi_again payload d h)
read_again payload (IsDii d) h = rw (message_id_is 0x1002 payload _ _ h.message) (dii_again payload d h)
