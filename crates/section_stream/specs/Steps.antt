-- Where no section begins, and what stays open.
use Rattle.std.specs.Prelude.{Bool, ◌||◌, if◌then◌else◌, ◌==◌, length, slice_index, Option, None}
use Rattle.section_stream.specs.Cuts.{Bytes}

-- no section begins at the front of these bytes: there is none, or it is stuffing
abbrev pub no_section_in : Bytes → Bool
no_section_in here = (length here == 0) || (slice_index here 0 == 0xFF)

-- the open section, where no packets of it are missing
abbrev pub kept_unless : Bool → Option Bytes → Option Bytes
kept_unless jumped opened = if jumped then None else opened
