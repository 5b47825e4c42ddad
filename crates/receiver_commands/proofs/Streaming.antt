-- What a command promises that writes as it reads, by what was cut out and what was put.
use Rattle.std.proofs.Common.{◌≡◌, ℕ, true, List, [], ◌++◌, Option, Some, refl, sym, ap, ◌∙◌, append-nil}
use Rattle.oc_bytes.specs.Outcome.{Known}
use Rattle.section_stream.specs.Cuts.{candidates}
use Rattle.section_stream.specs.Laws.{CandidatesGrow}
use Rattle.shell_streams.specs.Cuts.{Bytes}
use Rattle.shell_streams.specs.Packets.{candidates_of, is_over_packets, Halts, HasEnded}
use Rattle.shell_streams.specs.Sending.{OutputState, HasPut}
use Rattle.shell_streams.specs.declared.input.InputFault.{InputFault}
use Rattle.shell_streams.specs.declared.input.InputFault.TheVariants as inputs
use Rattle.shell_streams.specs.declared.output.OutputFault.{OutputFault}
use Rattle.shell_streams.specs.declared.output.OutputFault.TheVariants as outputs
use Rattle.shell_streams.proofs.CallerLemmas.{told_weaker, told_same, told_here}
use Rattle.receiver_commands.specs.Over.{Over, sink_over, Failed, TakesPrefix, WritesPrefix}
use Rattle.receiver_commands.specs.AsRead.{AreFirst, AreHeard, EndsAsRead, WritesAsRead}
use Rattle.receiver_commands.specs.Statuses.{input_status, output_status}
use Rattle.receiver_commands.specs.declared.status.Status.TheVariants as status
use Rattle.receiver_commands.proofs.Writing.{writes_all, prefix_here, prefix_none}

-- ---- what was taken

pub first_none : (pid : ℕ) (a : Option Bytes) → Known a a (AreFirst pid [])
first_none pid a = told_same a (λ x. record { taken = []; input_is = refl; others = candidates_of pid []; all = refl })

pub first_halted : {pid : ℕ} {cs : List Bytes} {fault : InputFault} {a b : Option Bytes} → CandidatesGrow → Known a b (Halts pid cs fault) → Known a b (AreFirst pid cs)
first_halted {pid} grow t = told_weaker t (λ x y h. let g = grow pid h.packets h.others in record {
  taken = h.taken;
  input_is = h.whole;
  others = g.0;
  all = ap (candidates pid) h.split ∙ g.1 ∙ ap (λ cs. cs ++ g.0) h.all;
})

pub first_ended : {pid : ℕ} {cs : List Bytes} {a b : Option Bytes} → Known a b (HasEnded pid cs) → Known a b (AreFirst pid cs)
first_ended {cs = cs} t = told_weaker t (λ x y e. record {
  taken = x;
  input_is = sym (ap (λ bs. x ++ bs) e.to_end ∙ append-nil x);
  others = [];
  all = e.all ∙ sym (append-nil cs);
})

takes_first : {pid : ℕ} {cs : List Bytes} (source : Over Bytes) → Known source.before source.after (AreFirst pid cs) → TakesPrefix source
takes_first source t = told_weaker t (λ x y f. record { taken = f.taken; whole = f.input_is })

long_halted : {pid : ℕ} {cs : List Bytes} (a b : Option Bytes) → Known a b (Halts pid cs inputs.TooLong) → (input : Bytes) → a ≡ Some input → is_over_packets 16777216 input ≡ true
long_halted a b t input i = (told_here a b input t i).2.too_long refl

-- all that was taken was heard
all_heard : {pid : ℕ} {cs : List Bytes} {fault : InputFault} {a b : Option Bytes} → (fault ≡ inputs.NoMemory → ⊥) → Known a b (Halts pid cs fault) → Known a b (AreHeard pid cs)
all_heard {pid} n t = told_weaker t (λ x y h. record { taken = h.taken; input_is = h.whole; all = ap (candidates pid) (sym (h.heard n)) ∙ h.all })

-- ---- how it ends

-- before anything was read
pub as_none : (pid : ℕ) (text : List Bytes → Bytes) (source : Over Bytes) (o : OutputState) → Known source.before source.after (AreFirst pid [])
    → WritesAsRead pid text status.NoMemory source (sink_over o o)
as_none pid text source o t = record { ends = record { sections = []; first = t; writes = prefix_none o (text []) }; takes = takes_first source t }

ends_read : (pid : ℕ) (text : List Bytes → Bytes) (source : Over Bytes) (old new : OutputState) (cs : List Bytes) (fault : InputFault) → CandidatesGrow
    → Known source.before source.after (Halts pid cs fault) → (fault ≡ inputs.Failed → Failed source) → old.pending ≡ []
    → ((fault ≡ inputs.NoMemory → ⊥) → new.pending ≡ []) → HasPut old new (text cs) → EndsAsRead pid text source (sink_over old new) (input_status fault)
ends_read pid text source old new cs inputs.Failed grow t cause begin empty puts =
    (cause refl, record { sections = cs; heard = all_heard (λ e. cc) t; writes = writes_all begin (empty (λ e. cc)) puts })
ends_read pid text source old new cs inputs.TooLong grow t cause begin empty puts =
    (long_halted source.before source.after t, record { sections = cs; heard = all_heard (λ e. cc) t; writes = writes_all begin (empty (λ e. cc)) puts })
ends_read pid text source old new cs inputs.NoMemory grow t cause begin empty puts = record { sections = cs; first = first_halted grow t; writes = prefix_here begin puts }

-- a fault stopped the reading
pub as_read : (pid : ℕ) (text : List Bytes → Bytes) (source : Over Bytes) (old new : OutputState) (cs : List Bytes) (fault : InputFault) → CandidatesGrow
    → Known source.before source.after (Halts pid cs fault) → (fault ≡ inputs.Failed → Failed source) → old.pending ≡ []
    → ((fault ≡ inputs.NoMemory → ⊥) → new.pending ≡ []) → HasPut old new (text cs) → WritesAsRead pid text (input_status fault) source (sink_over old new)
as_read pid text source old new cs fault grow t cause begin empty puts = record {
  ends = ends_read pid text source old new cs fault grow t cause begin empty puts;
  takes = takes_first source (first_halted grow t);
}

ends_put : (pid : ℕ) (text : List Bytes → Bytes) (source sink : Over Bytes) (cs : List Bytes) (fault : OutputFault) → Known source.before source.after (AreFirst pid cs)
    → (fault ≡ outputs.Failed → Failed sink) → WritesPrefix sink (text cs) → EndsAsRead pid text source sink (output_status fault)
ends_put pid text source sink cs outputs.Failed t cause w = (cause refl, record { sections = cs; first = t; writes = w })
ends_put pid text source sink cs outputs.NoMemory t cause w = record { sections = cs; first = t; writes = w }

-- a fault stopped the writing
pub as_put : (pid : ℕ) (text : List Bytes → Bytes) (source sink : Over Bytes) (cs : List Bytes) (fault : OutputFault) → Known source.before source.after (AreFirst pid cs)
    → (fault ≡ outputs.Failed → Failed sink) → WritesPrefix sink (text cs) → WritesAsRead pid text (output_status fault) source sink
as_put pid text source sink cs fault t cause w = record { ends = ends_put pid text source sink cs fault t cause w; takes = takes_first source t }

-- the input ended
pub as_all : (pid : ℕ) (text : List Bytes → Bytes) (source : Over Bytes) (old new : OutputState) (cs : List Bytes) → Known source.before source.after (HasEnded pid cs)
    → old.pending ≡ [] → new.pending ≡ [] → HasPut old new (text cs) → WritesAsRead pid text status.Done source (sink_over old new)
as_all pid text source old new cs t begin empty puts = record {
  ends = record { sections = cs; hears = t; writes = writes_all begin empty puts };
  takes = takes_first source (first_ended t);
}
