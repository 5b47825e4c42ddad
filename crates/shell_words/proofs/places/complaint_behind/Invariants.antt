use Rattle.std.proofs.Common.{◌≡◌, map, drop}
use Rattle.std.specs.String.{string_bytes}
use Rattle.shell_words.specs.Places.{first_breaking}
use Rattle.shell_words.proofs.Complaining.{breaking_from}
use Rattle.shell_words.proofs.places.complaint_behind.Given as goal

abbrev pub invariant-loop-place : goal.invariant-loop-place
invariant-loop-place l = first_breaking l.keyword (map string_bytes l.words) ≡ breaking_from l.keyword l.place (map string_bytes (drop l.place l.words))
