-- What a command promises that writes a text of what it read, by what was read and what was put.
use Rattle.std.proofs.Common.{◌≡◌, ◌≤◌, ℕ, Bool, true, false, List, [], Result, Ok, Err, Option, Some, inl, inr, refl, sym, arith, subst}
use Rattle.std.specs.Prelude.{IfOk, OnOk}
use Rattle.oc_bytes.specs.Outcome.{Known}
use Rattle.shell_streams.specs.Cuts.{Bytes}
use Rattle.shell_streams.specs.Packets.{AllTaken, Stopped}
use Rattle.shell_streams.specs.Carriers.{Reading, HeardAll, Hears}
use Rattle.shell_streams.specs.Sending.{OutputState, Puts}
use Rattle.shell_streams.specs.declared.input.InputFault.{InputFault}
use Rattle.shell_streams.specs.declared.input.InputFault.TheVariants as inputs
use Rattle.shell_streams.specs.declared.output.OutputFault.{OutputFault}
use Rattle.shell_streams.specs.declared.output.OutputFault.TheVariants as outputs
use Rattle.shell_streams.proofs.CallerLemmas.{told_weaker, told_here, told_same, all_rear}
use Rattle.receiver_commands.specs.Over.{Over, sink_over, Failed, IsUntouched, TakesPrefix, WritesPrefix, EndsRead}
use Rattle.receiver_commands.specs.Replies.{Reply, ReadsAll, AnswersAll, Replies}
use Rattle.receiver_commands.specs.Statuses.{input_status}
use Rattle.receiver_commands.specs.Inner.Statuses.{answer_status}
use Rattle.receiver_commands.specs.declared.status.Status.TheVariants as status
use Rattle.receiver_commands.proofs.Writing.{writes_all, writes_prefix}

-- the input goes on after its limit
pub goes_on : {A : Bytes → Bool} (before after : Option Bytes) → Known before after (Stopped A inputs.TooLong) → (input : Bytes) → before ≡ Some input → A input ≡ true
goes_on before after t input i = (told_here before after input t i).2.too_long refl

ends_stopped : (reading : Reading) (reply : Reply (List Bytes)) (source sink : Over Bytes) (fault : InputFault) → Known source.before source.after (Stopped reading.goes_on fault)
    → (fault ≡ inputs.Failed → Failed source) → IsUntouched sink → EndsRead reading.goes_on (AnswersAll reading reply source sink) (IsUntouched sink) (HeardAll reading (λ read. WritesPrefix sink (reply.text read)) source.before source.after) source sink (input_status fault)
ends_stopped reading reply source sink inputs.Failed t cause none = (cause refl, none)
ends_stopped reading reply source sink inputs.TooLong t cause none = (goes_on source.before source.after t, none)
ends_stopped reading reply source sink inputs.NoMemory t cause none = inl none

-- a fault stopped the reading
pub replies_stopped : (reading : Reading) (reply : Reply (List Bytes)) (source sink : Over Bytes) (fault : InputFault) → Known source.before source.after (Stopped reading.goes_on fault)
    → (fault ≡ inputs.Failed → Failed source) → IsUntouched sink → Replies reading reply (input_status fault) source sink
replies_stopped reading reply source sink fault t cause none = record {
  ends = ends_stopped reading reply source sink fault t cause none;
  takes = told_weaker t (λ x y s. s.rear);
}

-- there was no memory to begin with
pub hears_no_memory : {T : Type 0} (reading : Reading) (Heard : T → List Bytes → Type 0) (before : Option Bytes) (faults : ℕ) → Hears {T = T} reading Heard (Err inputs.NoMemory) before before faults faults
hears_no_memory reading Heard before faults = record {
  ok = tt;
  err = told_same before (λ x. record { rear = record { taken = []; whole = refl }; too_long = λ e. absurd (cc) });
  later = omega arith;
  cause = λ e. absurd (cc);
}

-- there was none after what was read
pub hears_memory_after : {T : Type 0} (reading : Reading) (Heard : T → List Bytes → Type 0) {before after : Option Bytes} {taken : List Bytes} {faults later : ℕ}
    → Known before after (AllTaken reading.standing_in reading.goes_on taken) → faults ≤ later → Hears {T = T} reading Heard (Err inputs.NoMemory) before after faults later
hears_memory_after reading Heard t le = record {
  ok = tt;
  err = told_weaker (all_rear t) (λ x y r. record { rear = r; too_long = λ e. absurd (cc) });
  later = le;
  cause = λ e. absurd (cc);
}

-- a fault of reading is handed on; both readings have the same limit
pub hears_stopped : {S T : Type 0} {some : Reading} (reading : Reading) {Some_heard : S → List Bytes → Type 0} (Heard : T → List Bytes → Type 0) {fault : InputFault} {before after : Option Bytes} {faults later : ℕ}
    → some.goes_on ≡ reading.goes_on → Hears some Some_heard (Err fault) before after faults later → Hears {T = T} reading Heard (Err fault) before after faults later
hears_stopped {some = some} reading Heard {fault} {before} {after} e h =
    let P : (Bytes → Bool) → Type 0 = λ over. Known before after (Stopped over fault) in
    record { ok = tt; err = subst P e h.err; later = h.later; cause = λ c. h.cause (cc) }

-- there was no memory before a command began
pub replies_nothing : (reading : Reading) (reply : Reply (List Bytes)) (source sink : Over Bytes) → TakesPrefix source → IsUntouched sink → Replies reading reply status.NoMemory source sink
replies_nothing reading reply source sink takes none = record { ends = inl none; takes = takes }

ends_written : (reading : Reading) (reply : Reply (List Bytes)) (source : Over Bytes) (old new : OutputState) (taken : List Bytes) (r : Result Bool OutputFault) → ReadsAll reading source taken
    → old.pending ≡ [] → IfOk r (λ all. all ≡ reply.all taken) → Puts r old new (reply.text taken) → OnOk r (new.pending ≡ [])
    → EndsRead reading.goes_on (AnswersAll reading reply source (sink_over old new)) (IsUntouched (sink_over old new)) (HeardAll reading (λ read. WritesPrefix (sink_over old new) (reply.text read)) source.before source.after) source (sink_over old new) (answer_status r)
ends_written reading reply source old new taken (Ok true) h begin all puts empty = record { taken = taken; told = h; heard = (sym all, writes_all begin empty puts) }
ends_written reading reply source old new taken (Ok false) h begin all puts empty = record { taken = taken; told = h; heard = (sym all, writes_all begin empty puts) }
ends_written reading reply source old new taken (Err outputs.Failed) h begin all puts empty = (puts.cause refl, record { taken = taken; told = h; heard = writes_prefix begin puts })
ends_written reading reply source old new taken (Err outputs.NoMemory) h begin all puts empty = inr (record { taken = taken; told = h; heard = writes_prefix begin puts })

-- the input was read to its end, and the text was put
pub replies_written : (reading : Reading) (reply : Reply (List Bytes)) (source : Over Bytes) (old new : OutputState) (taken : List Bytes) (r : Result Bool OutputFault) → ReadsAll reading source taken
    → old.pending ≡ [] → IfOk r (λ all. all ≡ reply.all taken) → Puts r old new (reply.text taken) → OnOk r (new.pending ≡ []) → Replies reading reply (answer_status r) source (sink_over old new)
replies_written reading reply source old new taken r h begin all puts empty = record {
  ends = ends_written reading reply source old new taken r h begin all puts empty;
  takes = all_rear h;
}
