-- Writes of an output.
use Rattle.std.proofs.Common.{IsErrOf, ◌≡◌, ◌≤◌, [], ◌++◌, take, drop, Ok, Err, refl, sym, ap, ◌∙◌, append-nil, take-append-drop, arith}
use Rattle.oc_bytes.specs.Outcome.{Rose, Known}
use Rattle.oc_bytes.specs.Streams.{AppendsPrefix}
use Rattle.section_stream.specs.Cuts.{Bytes}
use Rattle.oc_bytes.specs.declared.sink.WriteFault.{WriteFault}
use Rattle.oc_bytes.specs.declared.sink.WriteFault.TheVariants as writes
use Rattle.shell_streams.specs.Sending.{OutputState, Puts, IsInTime, output_fault}
use Rattle.shell_streams.specs.declared.output.OutputFault.{OutputFault}
use Rattle.shell_streams.specs.declared.output.OutputFault.TheVariants as faults
use Rattle.shell_streams.proofs.Putting.{told_weaker, told_same}

-- all of these bytes were written, and they are what was pending and then the text
pub all_written : {T : Type 0} {x : T} {old new : OutputState} {text : Bytes} (all : Bytes) → new.name ≡ old.name → old.pending ++ text ≡ all → new.pending ≡ []
    → Known old.written new.written (λ before after. after ≡ before ++ all) → old.faults ≤ new.faults → IsInTime old new → new.failed ≡ old.failed → Puts (Ok x) old new text
all_written {new = new} {text = text} all name is none t later in_time on = record {
  same = name;
  ok = told_weaker t (λ x y e. record { sent = all; after_is = e; split = is ∙ sym (append-nil all) ∙ ap (λ bs. all ++ bs) (sym none) });
  err = tt;
  later = later;
  cause = λ e. absurd (cc);
  in_time = in_time;
  goes_on = λ n. on;
}

-- a prefix of them was
pub part_written : {T : Type 0} {f : OutputFault} {old new : OutputState} {text : Bytes} (all : Bytes) → new.name ≡ old.name → old.pending ++ text ≡ all
    → Known old.written new.written (λ before after. AppendsPrefix before after all) → old.faults ≤ new.faults → (f ≡ faults.Failed → Rose old.faults new.faults)
    → IsInTime old new → ((f ≡ faults.Failed → ⊥) → new.failed ≡ old.failed) → Puts {T = T} (Err f) old new text
part_written all name is t later cause in_time on = record {
  same = name;
  ok = tt;
  err = told_weaker t (λ x y e. record {
    rest = drop e.n all;
    sends = record { sent = take e.n all; after_is = e.whole; split = is ∙ sym (take-append-drop e.n all) };
  });
  later = later;
  cause = λ e. cause (cc);
  in_time = in_time;
  goes_on = λ n. on (λ e. n (ap Err e));
}

-- a fault of the sink alone is one of the output
pub was_failed : (w : WriteFault) (f : OutputFault) → f ≡ output_fault w → f ≡ faults.Failed → w ≡ writes.Failed
was_failed writes.Failed f e h = refl
was_failed writes.NoMemory f e h = absurd (cc)

-- and one of the output is one of the sink
pub not_failed : {T : Type 0} (w : WriteFault) (f : OutputFault) → f ≡ output_fault w → (f ≡ faults.Failed → ⊥) → IsErrOf {T = T} (Err w) writes.Failed → ⊥
not_failed writes.Failed f e n h = n e
not_failed writes.NoMemory f e n h = cc

-- nothing was written, and the text wasn't kept
pub none_kept : {T : Type 0} {old new : OutputState} {text : Bytes} → new.name ≡ old.name → new.written ≡ old.written → new.faults ≡ old.faults → new.failed ≡ old.failed → new.late ≡ old.late
    → Puts {T = T} (Err faults.NoMemory) old new text
none_kept {old = old} {new = new} {text = text} name written faults failed late = record {
  same = name;
  ok = tt;
  err = rw written (told_same old.written (λ y. record { rest = old.pending ++ text; sends = record { sent = []; after_is = sym (append-nil y); split = refl } }));
  later = omega (arith, faults);
  cause = λ e. absurd (cc);
  in_time = λ h. late;
  goes_on = λ n. failed;
}

-- the text was kept after what was pending
pub all_kept : {T : Type 0} {x : T} {old new : OutputState} {text : Bytes} → new.name ≡ old.name → new.written ≡ old.written → new.faults ≡ old.faults → new.failed ≡ old.failed → new.late ≡ old.late
    → new.pending ≡ old.pending ++ text → Puts (Ok x) old new text
all_kept {old = old} {new = new} {text = text} name written faults failed late is = record {
  same = name;
  ok = rw written (told_same old.written (λ y. record { sent = []; after_is = sym (append-nil y); split = sym is }));
  err = tt;
  later = omega (arith, faults);
  cause = λ e. absurd (cc);
  in_time = λ h. late;
  goes_on = λ n. failed;
}
