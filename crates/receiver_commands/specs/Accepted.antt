-- The sections that are recorded.
use Rattle.std.specs.Prelude.{Bool, List}
use Rattle.std.specs.List.{concat, filter}
use Rattle.std.specs.Result.{is_ok}
use Rattle.dsmcc_section.specs.Sections as sections
use Rattle.shell_streams.specs.Cuts.{Bytes}

-- a section that reads
abbrev pub is_accepted : Bytes → Bool
is_accepted candidate = is_ok (sections.read candidate)

-- those that read, unchanged and in order
abbrev pub accepted_bytes : List Bytes → Bytes
accepted_bytes candidates = concat (filter is_accepted candidates)
