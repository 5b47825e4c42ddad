-- What `find` promises.
use Rattle.std.proofs.Common.{◌≡◌, ℕ, Bool, List, [], Result, subst}
use Rattle.std.specs.Prelude.{IfOk, OnOk}
use Rattle.psi_tables.specs.declared.finder.Find.{Find}
use Rattle.psi_tables.specs.Finding.{found_in}
use Rattle.shell_streams.specs.Cuts.{Bytes}
use Rattle.shell_streams.specs.Carriers.{all_packets, HeardAll}
use Rattle.shell_streams.specs.Sending.{OutputState, Puts}
use Rattle.shell_streams.specs.declared.output.OutputFault.{OutputFault}
use Rattle.receiver_commands.specs.Over.{Over, sink_over}
use Rattle.receiver_commands.specs.Replies.{Replies}
use Rattle.receiver_commands.specs.Find.{is_at, found_line, Finds}
use Rattle.receiver_commands.specs.Inner.Statuses.{answer_status}
use Rattle.receiver_commands.proofs.Replying.{replies_written}

-- the packets were read, and what was found by them was put
written_by : (find : List Bytes → Find) (source : Over Bytes) (old new : OutputState) (found : Find) (r : Result Bool OutputFault)
    → HeardAll all_packets (λ packets. found ≡ find packets) source.before source.after → old.pending ≡ [] → IfOk r (λ all. all ≡ is_at found) → Puts r old new (found_line found)
    → OnOk r (new.pending ≡ []) → Replies all_packets (record { text = λ packets. found_line (find packets); all = λ packets. is_at (find packets) }) (answer_status r) source (sink_over old new)
written_by find source old new found r h begin all puts empty =
    let A : Find → Type 0 = λ f. IfOk r (λ b. b ≡ is_at f) in
    let P : Find → Type 0 = λ f. Puts r old new (found_line f) in
    replies_written all_packets (record { text = λ packets. found_line (find packets); all = λ packets. is_at (find packets) }) source old new h.taken r h.told begin
    (subst A h.heard all) (subst P h.heard puts) empty

pub finds_written : (carousel : ℕ) (source : Over Bytes) (old new : OutputState) (found : Find) (r : Result Bool OutputFault)
    → HeardAll all_packets (λ packets. found ≡ found_in carousel packets) source.before source.after → old.pending ≡ [] → IfOk r (λ all. all ≡ is_at found) → Puts r old new (found_line found)
    → OnOk r (new.pending ≡ []) → Finds carousel (answer_status r) source (sink_over old new)
finds_written carousel source old new found r h begin all puts empty = written_by (found_in carousel) source old new found r h begin all puts empty
