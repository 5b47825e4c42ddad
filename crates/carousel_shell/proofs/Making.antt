-- What `big` promises, by what was played.
use Rattle.std.proofs.Common.{◌≡◌, ℕ, List, [], Ok, Err, inr, refl}
use Rattle.carousel_world.specs.Events.{Step}
use Rattle.carousel_world.specs.declared.event.Reply.{Reply}
use Rattle.session.specs.Sessions.{IsSession}
use Rattle.session_script.specs.Generated.{generated_script}
use Rattle.shell_streams.specs.Sending.{OutputState, Puts}
use Rattle.shell_streams.specs.declared.output.OutputFault.{OutputFault}
use Rattle.shell_streams.specs.declared.output.OutputFault.TheVariants as outputs
use Rattle.receiver_commands.specs.Over.{sink_over}
use Rattle.receiver_commands.specs.Statuses.{output_status}
use Rattle.receiver_commands.specs.declared.status.Status.TheVariants as status
use Rattle.receiver_commands.proofs.CallerLemmas.{writes_all, writes_prefix}
use Rattle.carousel_shell.specs.Big.{big_line, PlaysBig}

-- the session was played, and its line was put
pub counts_all : {x : Unit {0}} (ws : List ℕ) (size : ℕ) (old new : OutputState) (told : List (Step × Reply)) → IsSession ws (generated_script size) told → old.pending ≡ [] → new.pending ≡ []
    → Puts (Ok x) old new (big_line size told) → PlaysBig ws size status.Done (sink_over old new)
counts_all ws size old new told session begin empty puts = record { told = told; session = session; writes = writes_all begin empty puts }

-- a fault stopped its line
pub counts_part : (ws : List ℕ) (size : ℕ) (old new : OutputState) (told : List (Step × Reply)) (fault : OutputFault) → IsSession ws (generated_script size) told → old.pending ≡ []
    → Puts {T = Unit {0}} (Err fault) old new (big_line size told) → PlaysBig ws size (output_status fault) (sink_over old new)
counts_part ws size old new told outputs.Failed session begin puts = (puts.cause refl, record { told = told; session = session; writes = writes_prefix begin puts })
counts_part ws size old new told outputs.NoMemory session begin puts = inr (record { told = told; session = session; writes = writes_prefix begin puts })
