-- What `assemble` promises, by what was heard and what was written.
use Rattle.std.proofs.Common.{◌≡◌, List, [], Err, Option, Some, inl, inr, refl, subst}
use Rattle.oc_bytes.specs.Outcome.{Known}
use Rattle.block_assembler.specs.Blocks.{join_all}
use Rattle.shell_streams.specs.Cuts.{Bytes}
use Rattle.shell_streams.specs.Packets.{Stopped}
use Rattle.shell_streams.specs.Carriers.{sections_by}
use Rattle.shell_streams.specs.Sending.{OutputState, Puts}
use Rattle.shell_streams.specs.declared.input.InputFault.{InputFault}
use Rattle.shell_streams.specs.declared.input.InputFault.TheVariants as inputs
use Rattle.shell_streams.specs.declared.output.OutputFault.{OutputFault}
use Rattle.shell_streams.specs.declared.output.OutputFault.TheVariants as outputs
use Rattle.shell_streams.proofs.CallerLemmas.{told_weaker, all_rear}
use Rattle.receiver_commands.specs.Over.{Over, sink_over, Failed, IsUntouched, TakesPrefix}
use Rattle.receiver_commands.specs.Input.{Asked, blocks_among}
use Rattle.receiver_commands.specs.Replies.{Hears}
use Rattle.receiver_commands.specs.Assemble.{module_carrier, EndsModule, Assembles}
use Rattle.receiver_commands.specs.Inner.Assemble.{IsModule}
use Rattle.receiver_commands.specs.Statuses.{input_status, output_status}
use Rattle.receiver_commands.specs.declared.status.Status.{Status}
use Rattle.receiver_commands.specs.declared.status.Status.TheVariants as status
use Rattle.receiver_commands.proofs.Replying.{goes_on}
use Rattle.receiver_commands.proofs.Writing.{writes_prefix}

-- nothing was done, since there was no memory
pub assembles_nothing : (m : Asked) (source sink : Over Bytes) → TakesPrefix source → IsUntouched sink → Assembles m status.NoMemory source sink
assembles_nothing m source sink takes none = record { ends = inl none; takes = takes }

ends_stopped : (m : Asked) (source sink : Over Bytes) (fault : InputFault) → Known source.before source.after (Stopped (sections_by module_carrier).goes_on fault)
    → (fault ≡ inputs.Failed → Failed source) → IsUntouched sink → EndsModule m source sink (input_status fault)
ends_stopped m source sink inputs.Failed t cause none = (cause refl, none)
ends_stopped m source sink inputs.TooLong t cause none = (goes_on source.before source.after t, none)
ends_stopped m source sink inputs.NoMemory t cause none = inl none

-- a fault stopped the reading
pub assembles_stopped : (m : Asked) (source sink : Over Bytes) (fault : InputFault) → Known source.before source.after (Stopped (sections_by module_carrier).goes_on fault)
    → (fault ≡ inputs.Failed → Failed source) → IsUntouched sink → Assembles m (input_status fault) source sink
assembles_stopped m source sink fault t cause none = record { ends = ends_stopped m source sink fault t cause none; takes = told_weaker t (λ x y s. s.rear) }

ends_gathered : (m : Asked) (source sink : Over Bytes) (sections : List Bytes) (s : Status) → Hears module_carrier source sections → IsModule (blocks_among m sections) sink s
    → EndsModule m source sink s
ends_gathered m source sink sections status.Done h w = record { sections = sections; hears = h; bytes = w.0; joins = w.1; writes = w.2 }
ends_gathered m source sink sections (status.Incomplete b) h w = record { sections = sections; hears = h; first = w.0; nothing = w.1 }
ends_gathered m source sink sections status.WriteFault h w = (w.0, record { sections = sections; hears = h; bytes = w.1.0; joins = w.1.1; writes = w.1.2 })
ends_gathered m source sink sections status.NoMemory h w = inr (record { sections = sections; hears = h; bytes = w.0; joins = w.1; writes = w.2 })
ends_gathered m source sink sections _ h w = absurd w

-- all sections were heard, and the assembler's blocks are those of the module
pub assembles_gathered : (m : Asked) (source sink : Over Bytes) (sections : List Bytes) (blocks : List (Option Bytes)) (s : Status) → Hears module_carrier source sections
    → blocks ≡ blocks_among m sections → IsModule blocks sink s → Assembles m s source sink
assembles_gathered m source sink sections blocks s h e w =
    let W : List (Option Bytes) → Type 0 = λ bs. IsModule bs sink s in
    record { ends = ends_gathered m source sink sections s h (subst W e w); takes = all_rear h }

-- the bytes of a module were put
pub module_put : (blocks : List (Option Bytes)) (bytes : Bytes) (old new : OutputState) (f : OutputFault) → join_all blocks ≡ Some bytes → old.pending ≡ []
    → Puts {T = Unit {0}} (Err f) old new bytes → IsModule blocks (sink_over old new) (output_status f)
module_put blocks bytes old new outputs.Failed j begin puts = (puts.cause refl, (bytes, j, writes_prefix begin puts))
module_put blocks bytes old new outputs.NoMemory j begin puts = (bytes, j, writes_prefix begin puts)
