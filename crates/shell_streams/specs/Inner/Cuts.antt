-- The section at the front of bytes.
use Rattle.std.specs.Prelude.{ℕ, ◌+◌, ◌&&◌, length, Option, Some, None, nat_le, if◌then◌else◌}
use Rattle.section_stream.specs.Cuts.{Bytes}
use Rattle.oc_bytes.specs.Numbers.{section_length}

-- the length of the section at the front of these bytes, where it is whole there
abbrev pub prefix_length : Bytes → Option ℕ
prefix_length bytes =
    let n = 3 + section_length bytes in
    if nat_le 3 (length bytes) && nat_le n (length bytes) then Some n else None
