use Rattle.std.proofs.Common.{◌≡◌, ◌+◌, take}
use Rattle.oc_bytes.specs.Outcome.{cap_at_u64}
use Rattle.generation_catalogue.specs.History.{journal_of, put_bytes}
use Rattle.generation_catalogue.proofs.journal.Journal.total_with.Given as goal

abbrev pub invariant-loop-edit : goal.invariant-loop-edit
invariant-loop-edit l = l.total ≡ cap_at_u64 (journal_of l.fn.self + put_bytes (take l.edit-index l.edits))
