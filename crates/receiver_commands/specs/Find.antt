-- What `find CAROUSEL` promises: where the carousel is, by the tables in all packets of the input, is written.
use Rattle.std.specs.Prelude.{ℕ, Bool, true, false, List, codes}
use Rattle.std.specs.Fmt.{decimal}
use Rattle.psi_tables.specs.declared.finder.Find.{Find}
use Rattle.psi_tables.specs.declared.finder.Find.TheVariants.{NoPat, NotNamed, At}
use Rattle.psi_tables.specs.Finding.{found_in}
use Rattle.shell_streams.specs.Cuts.{Bytes}
use Rattle.shell_streams.specs.Carriers.{all_packets}
use Rattle.receiver_commands.specs.Over.{Over}
use Rattle.shell_words.specs.Texts.{line}
use Rattle.receiver_commands.specs.Replies.{Reply, Replies}
use Rattle.receiver_commands.specs.declared.status.Status.{Status}

-- ---- what is written

abbrev pub is_at : Find → Bool
is_at NoPat = false
is_at NotNamed = false
is_at (At pid) = true

-- the PID in decimal, or why there is none
abbrev pub found_line : Find → Bytes
found_line NoPat = line (codes "no-pat")
found_line NotNamed = line (codes "not-named")
found_line (At pid) = line (decimal pid)

abbrev pub place_of : ℕ → Reply (List Bytes)
place_of carousel = record { text = λ packets. found_line (found_in carousel packets); all = λ packets. is_at (found_in carousel packets) }

-- ---- how it ends

abbrev pub Finds : (carousel : ℕ) → Status → (source sink : Over Bytes) → Type 0
Finds carousel = Replies all_packets (place_of carousel)
