use Rattle.std.proofs.Common.{◌≡◌, map, drop}
use Rattle.shell_words.proofs.Reading.{first_named, view_entry}
use Rattle.shell_words.proofs.keyword.Keyword.parse.Given as goal

abbrev pub invariant-loop-name : goal.invariant-loop-name
invariant-loop-name l = first_named l.word (map view_entry l.name-items) ≡ first_named l.word (map view_entry (drop l.name-index l.name-items))
