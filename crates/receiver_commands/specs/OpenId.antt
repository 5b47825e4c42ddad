-- What `open-id CAROUSEL PATH..` promises: it is `open` on the packets after the first one at which the carousel is found, with the PID
-- that is found there. Where it isn't found no carousel was heard.
use Rattle.std.specs.Prelude.{ℕ, zero, suc, List, [], length, take, drop, Option, Some, None}
use Rattle.path_tree.specs.Paths.{PathNames}
use Rattle.section_stream.specs.Cuts.{candidates}
use Rattle.psi_tables.specs.declared.finder.Find.{Find}
use Rattle.psi_tables.specs.declared.finder.Find.TheVariants.{NoPat, NotNamed, At}
use Rattle.psi_tables.specs.Finding.{found_in}
use Rattle.shell_streams.specs.Cuts.{Bytes}
use Rattle.shell_streams.specs.Packets.{packets_of, is_over_packets}
use Rattle.shell_streams.specs.Carriers.{Reading}
use Rattle.tuner_core.specs.LookBack.{answer_after}
use Rattle.receiver_commands.specs.Over.{Over}
use Rattle.receiver_commands.specs.Replies.{Replies}
use Rattle.receiver_commands.specs.Open.{asks_paths, reply_by}
use Rattle.receiver_commands.specs.declared.status.Status.{Status}
use Rattle.shell_streams.specs.declared.packets.TheConstants.{MOST_PACKETS}

-- ---- the packet at which the carousel is found

-- the number of packets after which it is found, with its PID
abbrev pub found_after : ℕ → Find → Option (ℕ × ℕ)
found_after n NoPat = None
found_after n NotNamed = None
found_after n (At pid) = Some (n, pid)

abbrev pub or_then : Option (ℕ × ℕ) → Option (ℕ × ℕ) → Option (ℕ × ℕ)
or_then (Some x) later = Some x
or_then None later = later

-- the first of the numbers of packets up to n
abbrev pub found_within : ℕ → List Bytes → ℕ → Option (ℕ × ℕ)
found_within carousel packets zero = None
found_within carousel packets (suc n) = or_then (found_within carousel packets n) (found_after (suc n) (found_in carousel (take (suc n) packets)))

abbrev pub first_found : ℕ → List Bytes → Option (ℕ × ℕ)
first_found carousel packets = found_within carousel packets (length packets)

-- ---- what is heard

abbrev pub sections_after : List Bytes → Option (ℕ × ℕ) → List Bytes
sections_after packets None = []
sections_after packets (Some x) = candidates x.1 (drop x.0 packets)

abbrev pub sections_among : ℕ → List Bytes → List Bytes
sections_among carousel packets = sections_after packets (first_found carousel packets)

abbrev pub sections_by_id : ℕ → Reading
sections_by_id carousel = record { standing_in = λ input. sections_among carousel (packets_of input); goes_on = is_over_packets MOST_PACKETS }

-- ---- how it ends

abbrev pub OpensId : (carousel : ℕ) (paths : List PathNames) → Status
    → (source sink : Over Bytes) → Type 0
OpensId carousel paths = Replies (sections_by_id carousel) (reply_by answer_after (asks_paths paths))
