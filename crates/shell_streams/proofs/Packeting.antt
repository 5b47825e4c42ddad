-- Packets that are taken from the front of an input, one after another.
use Rattle.std.proofs.Common.{◌≡◌, ◌≢◌, ℕ, zero, suc, ◌+◌, ◌*◌, ◌<◌, ◌≤◌, ◌↔◌, IsTrue, Bool, true, false, nat_le, nat_lt, cond, List, [], ◌∷◌, ◌++◌, length, take, drop, Option, Some, None, Result, Ok, ◌⊎◌, inl, inr, refl, arith, ◌∙◌, sym, ap, append_assoc, append-nil, length-drop, length-append}
use Rattle.std.specs.Option.{is_some}
use Rattle.std.specs.List.{concat}
use Rattle.std.proofs.lemmas.Bool.{cond-true, cond-false, le-leb, lt-leb, lt-ltb, le-ltb, ltb-true, ltb-false, true≢false, cases_lt}
use Rattle.std.proofs.lemmas.Option.{same_Some}
use Rattle.std.proofs.lemmas.List.{take-append-drop, take_all, take_at, drop_at, drop-drop, length-take-le}
use Rattle.std.proofs.lemmas.List.Folds.{concat-append}
use Rattle.carousel_profile.specs.declared.TheConstants.{PACKET_LENGTH}
use Rattle.oc_bytes.specs.Outcome.{Known}
use Rattle.section_stream.specs.Cuts.{candidates}
use Rattle.section_stream.specs.Rules.{DemuxState, StandsFor}
use Rattle.shell_streams.specs.Cuts.{Bytes}
use Rattle.shell_streams.specs.Packets.{onto_left, Stopped, packets_in, packets_of, is_over_packets, AreSized, AreTaken, HasTaken, Stops, HasCut, Halts, HasEnded}
use Rattle.shell_streams.specs.Inner.Held.{IsDry}
use Rattle.shell_streams.specs.Inner.Packets.{AreAllTaken}
use Rattle.shell_streams.specs.declared.packets.PacketReader.{PacketReader}
use Rattle.shell_streams.specs.declared.input.InputFault.{InputFault}
use Rattle.shell_streams.specs.declared.input.InputFault.TheVariants as faults
use Rattle.shell_streams.proofs.Cutting.{dry_end, nil_by_cases}
use Rattle.shell_streams.proofs.Putting.{told_weaker, told_here}

-- ---- the packets at the front of some bytes

-- too few bytes for a packet
none_in : (steps : ℕ) (bytes : Bytes) → length bytes < PACKET_LENGTH → packets_in steps bytes ≡ []
none_in zero bytes h = refl
none_in (suc steps) bytes h = cond-false (nat_le PACKET_LENGTH (length bytes)) (take PACKET_LENGTH bytes ∷ packets_in steps (drop PACKET_LENGTH bytes)) [] (lt-leb PACKET_LENGTH (length bytes) h)

pub packet_none : (bytes : Bytes) → length bytes < PACKET_LENGTH → packets_of bytes ≡ []
packet_none bytes h = none_in (length bytes) bytes h

-- enough steps give the same packets
split_steps : (m n : ℕ) (bytes : Bytes) → length bytes ≤ m → length bytes ≤ n → packets_in m bytes ≡ packets_in n bytes
split_steps zero n bytes h k = sym (none_in n bytes (omega arith))
split_steps (suc m) zero bytes h k = none_in (suc m) bytes (omega arith)
split_steps (suc m) (suc n) bytes h k = both m n bytes h k (split_steps m n (drop PACKET_LENGTH bytes))
  where
    both : (m n : ℕ) (bytes : Bytes) → length bytes ≤ suc m → length bytes ≤ suc n
        → (length (drop PACKET_LENGTH bytes) ≤ m → length (drop PACKET_LENGTH bytes) ≤ n → packets_in m (drop PACKET_LENGTH bytes) ≡ packets_in n (drop PACKET_LENGTH bytes)) → packets_in (suc m) bytes ≡ packets_in (suc n) bytes
    both m n bytes h k rest = ap (λ t. cond (nat_le PACKET_LENGTH (length bytes)) (take PACKET_LENGTH bytes ∷ t) []) (rest (omega (arith, length-drop PACKET_LENGTH bytes)) (omega (arith, length-drop PACKET_LENGTH bytes)))

some_in : (steps : ℕ) (bytes : Bytes) → PACKET_LENGTH ≤ length bytes → packets_in (suc steps) bytes ≡ take PACKET_LENGTH bytes ∷ packets_in steps (drop PACKET_LENGTH bytes)
some_in steps bytes h = cond-true (nat_le PACKET_LENGTH (length bytes)) (take PACKET_LENGTH bytes ∷ packets_in steps (drop PACKET_LENGTH bytes)) [] (le-leb PACKET_LENGTH (length bytes) h)

pub packet_some : (bytes : Bytes) → PACKET_LENGTH ≤ length bytes → packets_of bytes ≡ take PACKET_LENGTH bytes ∷ packets_of (drop PACKET_LENGTH bytes)
packet_some bytes h =
    split_steps (length bytes) (suc (length bytes)) bytes (omega arith) (omega arith)
    ∙ some_in (length bytes) bytes h
    ∙ ap (λ t. take PACKET_LENGTH bytes ∷ t) (split_steps (length bytes) (length (drop PACKET_LENGTH bytes)) (drop PACKET_LENGTH bytes) (omega (arith, length-drop PACKET_LENGTH bytes)) (omega arith))

packet_at : (p rest : Bytes) → length p ≡ PACKET_LENGTH → packets_of (p ++ rest) ≡ p ∷ packets_of rest
packet_at p rest h =
    let long : PACKET_LENGTH ≤ length (p ++ rest) = omega (arith, length-append p rest) in
    packet_some (p ++ rest) long
    ∙ ap (λ t. t ∷ packets_of (drop PACKET_LENGTH (p ++ rest))) (take_at p rest PACKET_LENGTH h)
    ∙ ap (λ t. p ∷ packets_of t) (drop_at p rest PACKET_LENGTH h)

-- packets in front of other bytes
pub packets_before : (packets : List Bytes) (bytes : Bytes) → AreSized packets → packets_of (concat packets ++ bytes) ≡ packets ++ packets_of bytes
packets_before [] bytes h = refl
packets_before (p ∷ ps) bytes h =
    ap packets_of (append_assoc p (concat ps) bytes) ∙ packet_at p (concat ps ++ bytes) h.0 ∙ ap (λ t. p ∷ t) (packets_before ps bytes h.1)

-- the packets of what stands after the first n packets
pub packets_behind : (n : ℕ) (bytes : Bytes) → n ≤ length (packets_of bytes) → packets_of (drop (PACKET_LENGTH * n) bytes) ≡ drop n (packets_of bytes)
packets_behind zero bytes h = refl
packets_behind (suc n) bytes h = by (cases_lt (length bytes) PACKET_LENGTH) (packets_behind n (drop PACKET_LENGTH bytes))
  where
    by : (length bytes < PACKET_LENGTH) ⊎ (PACKET_LENGTH ≤ length bytes) → (n ≤ length (packets_of (drop PACKET_LENGTH bytes)) → packets_of (drop (PACKET_LENGTH * n) (drop PACKET_LENGTH bytes)) ≡ drop n (packets_of (drop PACKET_LENGTH bytes)))
        → packets_of (drop (PACKET_LENGTH * suc n) bytes) ≡ drop (suc n) (packets_of bytes)
    by (inl short) rest = absurd (omega (arith, ap length (packet_none bytes short), h))
    by (inr long) rest =
        let some = packet_some bytes long in
        let e : PACKET_LENGTH + PACKET_LENGTH * n ≡ PACKET_LENGTH * suc n = omega arith in
        ap (λ k. packets_of (drop k bytes)) (sym e) ∙ ap packets_of (sym (drop-drop (PACKET_LENGTH * n) PACKET_LENGTH bytes))
        ∙ rest (omega (arith, ap length some, h)) ∙ ap (drop (suc n)) (sym some)

pub sizes_all : (packets : List Bytes) → AreSized packets → length (concat packets) ≡ PACKET_LENGTH * length packets
sizes_all [] h = refl
sizes_all (p ∷ ps) h = omega (arith, length-append p (concat ps), h.0, sizes_all ps h.1)

sized_more : (packets : List Bytes) (p : Bytes) → AreSized packets → length p ≡ PACKET_LENGTH → AreSized (packets ++ p ∷ [])
sized_more [] p h e = (e, tt)
sized_more (q ∷ qs) p h e = (h.0, sized_more qs p h.1 e)

-- ---- one packet more

taken_next : (packets : List Bytes) (input held rest : Bytes) → PACKET_LENGTH ≤ length held → AreTaken packets input (held ++ rest)
    → AreTaken (packets ++ take PACKET_LENGTH held ∷ []) input (drop PACKET_LENGTH held ++ rest)
taken_next packets input held rest h t = record {
  whole = t.whole ∙ sym (rw (concat-append packets (take PACKET_LENGTH held ∷ []), append_assoc) (ap (λ bs. concat packets ++ bs)
      (rw (append-nil (take PACKET_LENGTH held), ← append_assoc) (ap (λ bs. bs ++ rest) (take-append-drop PACKET_LENGTH held)))));
  sizes = sized_more packets (take PACKET_LENGTH held) t.sizes (length-take-le PACKET_LENGTH held h);
}

told_both : (held : Bytes) (left : Option Bytes) → is_some (onto_left held left) ≡ is_some left
told_both held (Some l) = refl
told_both held None = refl

told_taken : (a : Option Bytes) (held : Bytes) (left : Option Bytes) (packets : List Bytes) → PACKET_LENGTH ≤ length held
    → Known a (onto_left held left) (AreTaken packets) → Known a (onto_left (drop PACKET_LENGTH held) left) (AreTaken (packets ++ take PACKET_LENGTH held ∷ []))
told_taken a held left packets h t = record {
  kept = told_both (drop PACKET_LENGTH held) left ∙ sym (told_both held left) ∙ t.kept;
  each = λ x y i o. next left x y i o t;
}
  where
    next : (left : Option Bytes) (x y : Bytes) → a ≡ Some x → onto_left (drop PACKET_LENGTH held) left ≡ Some y → Known a (onto_left held left) (AreTaken packets) → AreTaken (packets ++ take PACKET_LENGTH held ∷ []) x y
    next (Some l) x y i o t = rw (sym (same_Some _ y o)) (taken_next packets x held l h (t.each x (held ++ l) i refl))
    next None x y i o t = cc

told_begin : (a : Option Bytes) → Known a (onto_left [] a) (AreTaken [])
told_begin a = record { kept = told_both [] a; each = λ x y e g. begin a x y e g }
  where
    begin : (a : Option Bytes) (x y : Bytes) → a ≡ Some x → onto_left [] a ≡ Some y → AreTaken [] x y
    begin (Some l) x y e g = record { whole = sym (same_Some l x e) ∙ same_Some l y g; sizes = tt }
    begin None x y e g = cc

-- one packet more was taken
pub taken_more : (packets : List Bytes) (most fewer : ℕ) (start : Option Bytes) (old new held : Bytes) (before after : Option Bytes) → onto_left held after ≡ onto_left old before
    → PACKET_LENGTH ≤ length held → new ≡ drop PACKET_LENGTH held → fewer + 1 ≡ most → HasTaken packets most start (onto_left old before)
    → HasTaken (packets ++ take PACKET_LENGTH held ∷ []) fewer start (onto_left new after)
taken_more packets most fewer start old new held before after rest h u m t = record {
  number = omega (arith, length-append packets (take PACKET_LENGTH held ∷ []), t.number, m);
  taken = rw u (told_taken start held after packets h (rw rest t.taken));
}

pub taken_begin : (start : Option Bytes) (unread : Bytes) → unread ≡ [] → HasTaken [] 16777216 start (onto_left unread start)
taken_begin start unread u = record { number = refl; taken = rw u (told_begin start) }

-- ---- the reader

no_candidates : (pid : ℕ) → candidates pid [] ≡ []
no_candidates pid = refl

pub reader_begin : (pid : ℕ) (reader : PacketReader) (start : Option Bytes) → reader.unread ≡ [] → reader.most ≡ 16777216 → reader.demux.pid ≡ pid → StandsFor reader.demux []
    → HasCut pid reader start start []
reader_begin pid reader start u m p s = record {
  packets = [];
  number = rw m refl;
  pid_is = p;
  stands = s;
  taken = rw u (told_begin start);
  all = no_candidates pid;
}

-- what feeding one packet shows, whatever came before it
pub record IsFed (old new : DemuxState) (packet : Bytes) (out : List Bytes) : Type 0 where
  pub stands : (packets : List Bytes) → StandsFor old packets → StandsFor new (packets ++ packet ∷ [])
  pub same_pid : new.pid ≡ old.pid
  pub cuts : (packets : List Bytes) → StandsFor old packets → candidates old.pid (packets ++ packet ∷ []) ≡ candidates old.pid packets ++ out

pub reader_next : (pid : ℕ) (old new : PacketReader) (held : Bytes) (start before after : Option Bytes) (out cs : List Bytes)
    → onto_left held after ≡ onto_left old.unread before → PACKET_LENGTH ≤ length held → new.unread ≡ drop PACKET_LENGTH held → new.most + 1 ≡ old.most
    → IsFed old.demux new.demux (take PACKET_LENGTH held) out → HasCut pid old start before cs → HasCut pid new start after (cs ++ out)
reader_next pid old new held start before after out cs rest h u m f c = record {
  packets = c.packets ++ take PACKET_LENGTH held ∷ [];
  number = omega (arith, length-append c.packets (take PACKET_LENGTH held ∷ []), c.number, m);
  pid_is = f.same_pid ∙ c.pid_is;
  stands = f.stands c.packets c.stands;
  taken = rw u (told_taken start held after c.packets h (rw rest c.taken));
  all = ap (λ p. candidates p (c.packets ++ take PACKET_LENGTH held ∷ [])) (sym c.pid_is) ∙ f.cuts c.packets c.stands
      ∙ ap (λ p. candidates p c.packets ++ out) c.pid_is ∙ ap (λ t. t ++ out) c.all;
}

-- ---- the end of an input

-- what is left of the input after the packets is held, and is no packet
ended : (input held : Bytes) (packets : List Bytes) → AreTaken packets input held → length held < PACKET_LENGTH → PACKET_LENGTH * length packets + length held ≤ 3154116608 → AreAllTaken packets input []
ended input held packets t short within = record {
  to_end = refl;
  within = le-ltb 3154116608 (length input) (omega (arith, ap length t.whole, length-append (concat packets) held, sizes_all packets t.sizes));
  all = ap packets_of t.whole ∙ packets_before packets held t.sizes ∙ ap (λ ps. packets ++ ps) (packet_none held short) ∙ append-nil packets;
}

told_ended : (start left : Option Bytes) (held : Bytes) (packets : List Bytes) → Known start (onto_left held left) (AreTaken packets) → IsDry left
    → length held < PACKET_LENGTH → PACKET_LENGTH * length packets + length held ≤ 3154116608 → Known start left (AreAllTaken packets)
told_ended start left held packets t dry short within = record {
  kept = sym (told_both held left) ∙ t.kept;
  each = λ x y i o. end left x y i o dry t;
}
  where
    end : (left : Option Bytes) (x y : Bytes) → start ≡ Some x → left ≡ Some y → IsDry left → Known start (onto_left held left) (AreTaken packets) → AreAllTaken packets x y
    end (Some l) x y i o d t =
        let none : y ≡ [] = sym (same_Some l y o) ∙ d in
        let taken : AreTaken packets x held = rw (append-nil held) at (rw d at (t.each x (held ++ l) i refl)) in
        rw none (ended x held packets taken short within)
    end None x y i o d t = cc

-- the input ended within a packet
pub taken_ended : (most : ℕ) (held old : Bytes) (start before after : Option Bytes) (packets : List Bytes) → onto_left held after ≡ onto_left old before → IsDry after
    → length held < PACKET_LENGTH → 0 < most → HasTaken packets most start (onto_left old before) → Known start after (AreAllTaken packets)
taken_ended most held old start before after packets rest dry short some c =
    told_ended start after held packets (rw rest c.taken) dry short (omega (arith, c.number))

-- the input ended at the limit
pub taken_full : (most : ℕ) (held old : Bytes) (start before after : Option Bytes) (packets : List Bytes) → onto_left held after ≡ onto_left old before → IsDry after
    → most ≡ 0 → ((rest : Bytes) → onto_left old before ≡ Some rest → rest ≢ [] → ⊥) → HasTaken packets most start (onto_left old before) → Known start after (AreAllTaken packets)
taken_full most held old start before after packets rest dry full none c = record {
  kept = sym (told_both held after) ∙ ap is_some rest ∙ c.taken.kept;
  each = λ x y i o.
      let r = told_here start (onto_left old before) x c.taken i in
      let z = nil_by_cases r.0 (none r.0 r.1) in
      let t : AreTaken packets x [] = rw z at r.2 in
      rw (dry_end after y dry o) (ended x [] packets t (omega arith) (omega (arith, c.number, full)));
}

-- ---- stopping

halted : (start left : Option Bytes) (held : Bytes) (packets : List Bytes) (s : InputFault) → Known start (onto_left held left) (AreTaken packets)
    → ((s ≡ faults.NoMemory → ⊥) → packets ≡ take 16777216 (packets ++ packets_of held)) → ((x : Bytes) → start ≡ Some x → s ≡ faults.TooLong → is_over_packets 16777216 x ≡ true) → Known start left (Stops packets s)
halted start left held packets s t whole long = record {
  kept = sym (told_both held left) ∙ t.kept;
  each = λ x y i o. halt left x y i o t;
}
  where
    halt : (left : Option Bytes) (x y : Bytes) → start ≡ Some x → left ≡ Some y → Known start (onto_left held left) (AreTaken packets) → Stops packets s x y
    halt (Some l) x y i o t =
        let r = t.each x (held ++ l) i refl in
        record {
          taken = concat packets ++ held;
          whole = r.whole ∙ rw (append_assoc, same_Some l y o) refl;
          others = packets_of held;
          split = packets_before packets held r.sizes;
          heard = λ n. whole n ∙ ap (take 16777216) (sym (packets_before packets held r.sizes));
          too_long = long x i;
        }
    halt None x y i o t = cc

-- what is held after the packets is none, or they are as many as may be taken
heard_short : (packets : List Bytes) (held : Bytes) → length packets ≤ 16777216 → length held < PACKET_LENGTH → packets ≡ take 16777216 (packets ++ packets_of held)
heard_short packets held few short =
    sym (ap (λ (os : List Bytes). take 16777216 (packets ++ os)) (packet_none held short) ∙ ap (take 16777216) (append-nil packets) ∙ take_all 16777216 packets few)

heard_full : (packets others : List Bytes) → length packets ≡ 16777216 → packets ≡ take 16777216 (packets ++ others)
heard_full packets others n = sym (take_at packets others 16777216 n)

heard_stopped : (packets : List Bytes) (held : Bytes) (s : InputFault) → (s ≡ faults.TooLong → ⊥) → (s ≡ faults.Failed → length held < PACKET_LENGTH) → length packets ≤ 16777216
    → (s ≡ faults.NoMemory → ⊥) → packets ≡ take 16777216 (packets ++ packets_of held)
heard_stopped packets held faults.Failed n short few m = heard_short packets held few (short refl)
heard_stopped packets held faults.TooLong n short few m = absurd (n refl)
heard_stopped packets held faults.NoMemory n short few m = absurd (m refl)

-- a fault, or out of memory, stopped reading
pub taken_stopped : (most : ℕ) (held old : Bytes) (start before after : Option Bytes) (packets : List Bytes) (s : InputFault) → (s ≡ faults.TooLong → ⊥)
    → (s ≡ faults.Failed → length held < PACKET_LENGTH) → onto_left held after ≡ onto_left old before → HasTaken packets most start (onto_left old before) → Known start after (Stops packets s)
taken_stopped most held old start before after packets s n short rest c =
    halted start after held packets s (rw rest c.taken) (heard_stopped packets held s n short (omega (arith, c.number))) (λ x i e. absurd (n e))

over : (packets : List Bytes) (input rest : Bytes) → AreTaken packets input rest → length packets ≡ 16777216 → rest ≢ [] → is_over_packets 16777216 input ≡ true
over packets input rest t n some =
    lt-ltb 3154116608 (length input) (omega (arith, ap length t.whole, length-append (concat packets) rest, sizes_all packets t.sizes, longer rest some))
  where
    longer : (rest : Bytes) → rest ≢ [] → 0 < length rest
    longer [] h = absurd (h refl)
    longer (c ∷ cs) h = omega arith

-- at least a byte more stands after the limit
pub taken_over : (most : ℕ) (held old : Bytes) (start before after : Option Bytes) (packets : List Bytes) → onto_left held after ≡ onto_left old before → most ≡ 0
    → ((rest : Bytes) → onto_left old before ≡ Some rest → rest ≢ []) → HasTaken packets most start (onto_left old before) → Known start after (Stops packets faults.TooLong)
taken_over most held old start before after packets rest full some c =
    halted start after held packets faults.TooLong (rw rest c.taken) (λ n. heard_full packets (packets_of held) (omega (arith, c.number, full)))
    (λ x i e. let r = told_here start (onto_left old before) x c.taken i in over packets x r.0 r.2 (omega (arith, c.number, full)) (some r.0 r.1))

-- a prefix of the input was taken
pub stops_stopped : {packets : List Bytes} {s : InputFault} {a b : Option Bytes} → Known a b (Stops packets s) → Known a b (Stopped (is_over_packets 16777216) s)
stops_stopped t = told_weaker t (λ x y h. record { rear = record { taken = h.taken; whole = h.whole }; too_long = h.too_long })

-- ---- the candidates of what was taken

pub reader_taken : {pid : ℕ} {reader : PacketReader} {start left : Option Bytes} {cs : List Bytes} (c : HasCut pid reader start left cs)
    → HasTaken c.packets reader.most start (onto_left reader.unread left)
reader_taken c = record { number = c.number; taken = c.taken }

pub reader_ended : {pid : ℕ} {reader : PacketReader} {start left after : Option Bytes} {cs : List Bytes} (c : HasCut pid reader start left cs) → Known start after (AreAllTaken c.packets)
    → Known start after (HasEnded pid cs)
reader_ended {pid} c t = told_weaker t (λ x y e. record { to_end = e.to_end; within = e.within; all = ap (candidates pid) e.all ∙ c.all })

pub reader_stopped : {pid : ℕ} {reader : PacketReader} {start left after : Option Bytes} {cs : List Bytes} (s : InputFault) (c : HasCut pid reader start left cs)
    → Known start after (Stops c.packets s) → Known start after (Halts pid cs s)
reader_stopped s c t = told_weaker t (λ x y h. record {
  taken = h.taken;
  whole = h.whole;
  packets = c.packets;
  others = h.others;
  split = h.split;
  all = c.all;
  heard = h.heard;
  too_long = h.too_long;
})

pub no_packet : (b : Bool) → ◌≡◌ {A = Result Bool InputFault} (Ok b) (Ok false) → b ≡ false
no_packet b e = cc

-- what the test for a whole packet shows
pub short_of : (b : Bool) (n : ℕ) → IsTrue b ↔ (PACKET_LENGTH ≤ n) → b ≡ false → n < PACKET_LENGTH
short_of b n w e = by (nat_lt n PACKET_LENGTH) refl
  where
    by : (t : Bool) → nat_lt n PACKET_LENGTH ≡ t → n < PACKET_LENGTH
    by true q = ltb-true n PACKET_LENGTH q
    by false q = absurd (true≢false (sym (w.1 (ltb-false n PACKET_LENGTH q)) ∙ e))
