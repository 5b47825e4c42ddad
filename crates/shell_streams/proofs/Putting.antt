-- How puts follow one another, and how they end.
use Rattle.std.proofs.Common.{◌≡◌, ◌≤◌, ℕ, [], ◌++◌, Result, Ok, Err, Option, Some, None, Bool, inl, inr, refl, arith, sym, ap, ◌∙◌, append-nil, append_assoc, subst}
use Rattle.std.specs.Option.{is_some}
use Rattle.std.proofs.lemmas.Bool.{true≢false}
use Rattle.std.proofs.lemmas.Option.{same_Some}
use Rattle.oc_bytes.specs.Outcome.{Rose, Known}
use Rattle.section_stream.specs.Cuts.{Bytes}
use Rattle.shell_streams.specs.Packets.{AllTaken, IsRear}
use Rattle.shell_streams.specs.Sending.{OutputState, Sends, Puts, IsInTime}
use Rattle.shell_streams.specs.declared.output.OutputFault.{OutputFault}
use Rattle.shell_streams.specs.declared.output.OutputFault.TheVariants as faults

-- ---- content that is known

pub told_weaker : {A : Type 0} {P Q : A → A → Type 0} {a b : Option A} → Known a b P → ((x y : A) → P x y → Q x y) → Known a b Q
told_weaker t f = record { kept = t.kept; each = λ x y e g. f x y (t.each x y e g) }

-- over two calls
pub told_then : {P Q R : Bytes → Bytes → Type 0} {a b c : Option Bytes} → Known a b P → Known b c Q → ((x y z : Bytes) → P x y → Q y z → R x z) → Known a c R
told_then {P} {Q} {R} {a} {b} {c} p q f = record { kept = q.kept ∙ p.kept; each = λ x z i o. each b x z i o p q }
  where
    each : (b : Option Bytes) (x z : Bytes) → a ≡ Some x → c ≡ Some z → Known a b P → Known b c Q → R x z
    each (Some y) x z i o p q = f x y z (p.each x y i refl) (q.each y z refl o)
    each None x z i o p q = absurd (true≢false (sym (p.kept ∙ ap is_some i)))

-- nothing happened
pub told_same : {P : Bytes → Bytes → Type 0} (a : Option Bytes) → ((x : Bytes) → P x x) → Known a a P
told_same {P} a f = record { kept = refl; each = λ x y i o. subst (λ (z : Bytes). P x z) (same_Some x y (sym i ∙ o)) (f x) }

-- ---- counts of faults

pub rose_first : {a b c : ℕ} → Rose a b → b ≤ c → Rose a c
rose_first (inl h) le = inl (omega arith)
rose_first (inr h) le = inr (omega arith)

pub rose_last : {a b c : ℕ} → a ≤ b → Rose b c → Rose a c
rose_last le (inl h) = inl (omega arith)
rose_last le (inr h) = inr (omega arith)

-- ---- one put after another

sends_then : {p q t u rest x y z : Bytes} → Sends p t q x y → Sends q u rest y z → Sends p (t ++ u) rest x z
sends_then {p} {q} {t} {u} {rest} {x} {y} {z} a b = record {
  sent = a.sent ++ b.sent;
  after_is = b.after_is ∙ ap (λ bs. bs ++ b.sent) a.after_is ∙ append_assoc x a.sent b.sent;
  split = sym (append_assoc p t u) ∙ ap (λ bs. bs ++ u) a.split ∙ append_assoc a.sent q u ∙ ap (λ bs. a.sent ++ bs) b.split ∙ sym (append_assoc a.sent b.sent rest);
}

sends_more : {p t rest x y : Bytes} (u : Bytes) → Sends p t rest x y → Sends p (t ++ u) (rest ++ u) x y
sends_more {p} {t} {rest} u a = record {
  sent = a.sent;
  after_is = a.after_is;
  split = sym (append_assoc p t u) ∙ ap (λ bs. bs ++ u) a.split ∙ append_assoc a.sent rest u;
}

-- nothing was put
pub puts_nothing : {T : Type 0} (x : T) (o : OutputState) → Puts (Ok x) o o []
puts_nothing x o = record {
  same = refl;
  ok = told_same o.written (λ y. record { sent = []; after_is = sym (append-nil y); split = append-nil o.pending });
  err = tt;
  later = omega arith;
  cause = λ e. absurd (cc);
  in_time = λ h. refl;
  goes_on = λ n. refl;
}

-- nor was the text, since there was no memory
pub puts_none : {T : Type 0} (o : OutputState) (text : Bytes) → Puts {T = T} (Err faults.NoMemory) o o text
puts_none o text = record {
  same = refl;
  ok = tt;
  err = told_same o.written (λ y. record { rest = o.pending ++ text; sends = record { sent = []; after_is = sym (append-nil y); split = refl } });
  later = omega arith;
  cause = λ e. absurd (cc);
  in_time = λ h. refl;
  goes_on = λ n. refl;
}

-- a call that did not fail goes on in time
in_time_then : {T U : Type 0} {x : T} {r : Result U OutputFault} {a b c : OutputState} {t u : Bytes} → Puts (Ok x) a b t → Puts r b c u → IsInTime a c
in_time_then p q = λ h. q.in_time (p.goes_on (λ e. absurd (cc)) ∙ h) ∙ p.in_time h

-- two texts
pub puts_then : {T U : Type 0} {x : T} {r : Result U OutputFault} {a b c : OutputState} {t u : Bytes} → Puts (Ok x) a b t → Puts r b c u → Puts r a c (t ++ u)
puts_then {r = Ok y} p q = record {
  same = q.same ∙ p.same;
  ok = told_then p.ok q.ok (λ x y z. sends_then);
  err = tt;
  later = omega (arith, p.later, q.later);
  cause = λ e. absurd (cc);
  in_time = in_time_then p q;
  goes_on = λ n. q.goes_on n ∙ p.goes_on (λ e. absurd (cc));
}
puts_then {r = Err f} p q = record {
  same = q.same ∙ p.same;
  ok = tt;
  err = told_then p.ok q.err (λ x y z s e. record { rest = e.rest; sends = sends_then s e.sends });
  later = omega (arith, p.later, q.later);
  cause = λ e. rose_last p.later (q.cause e);
  in_time = in_time_then p q;
  goes_on = λ n. q.goes_on n ∙ p.goes_on (λ e. absurd (cc));
}

-- a fault stops a call before a further text
pub puts_stop : {T U : Type 0} {f : OutputFault} {a b : OutputState} {t : Bytes} (u : Bytes) → Puts {T = T} (Err f) a b t → Puts {T = U} (Err f) a b (t ++ u)
puts_stop u p = record {
  same = p.same;
  ok = tt;
  err = told_weaker p.err (λ x y e. record { rest = e.rest ++ u; sends = sends_more u e.sends });
  later = p.later;
  cause = λ e. p.cause (cc);
  in_time = p.in_time;
  goes_on = λ n. p.goes_on (λ e. n (cc));
}

-- another result of the same kind
pub puts_ok : {T U : Type 0} {x : T} (y : U) {a b : OutputState} {t : Bytes} → Puts (Ok x) a b t → Puts (Ok y) a b t
puts_ok y p = record { same = p.same; ok = p.ok; err = tt; later = p.later; cause = λ e. absurd (cc); in_time = p.in_time; goes_on = λ n. p.goes_on (λ e. absurd (cc)) }

pub puts_err : {T U : Type 0} {f : OutputFault} {a b : OutputState} {t : Bytes} → Puts {T = T} (Err f) a b t → Puts {T = U} (Err f) a b t
puts_err p = record { same = p.same; ok = tt; err = p.err; later = p.later; cause = λ e. p.cause (cc); in_time = p.in_time; goes_on = λ n. p.goes_on (λ e. n (cc)) }

-- the same text in other words
pub puts_as : {T : Type 0} {r : Result T OutputFault} {a b : OutputState} {t u : Bytes} → t ≡ u → Puts r a b t → Puts r a b u
puts_as {r = r} {a = a} {b = b} e p = let P : Bytes → Type 0 = λ bs. Puts r a b bs in subst P e p

-- ---- what was read

-- content that is known before is told after
pub told_here : {A : Type 0} {P : A → A → Type 0} (a b : Option A) (x : A) → Known a b P → a ≡ Some x → (y : A) × (b ≡ Some y) × P x y
told_here a (Some y) x t i = (y, refl, t.each x y i refl)
told_here a None x t i = absurd (true≢false (sym (t.kept ∙ ap is_some i)))

-- an input that was read to its end left a rear of it, which is empty
pub all_rear : {A : Type 0} {f : Bytes → A} {over : Bytes → Bool} {taken : A} {a b : Option Bytes} → Known a b (AllTaken f over taken) → Known a b IsRear
all_rear t = record {
  kept = t.kept;
  each = λ x y i o. let r = t.each x y i o in record { taken = x; whole = sym (ap (λ bs. x ++ bs) r.to_end ∙ append-nil x) };
}
