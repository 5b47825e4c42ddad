use Rattle.std.proofs.Common.{◌≡◌, ◌≤◌, length, take}
use Rattle.std.specs.Prelude.{is_some}
use Rattle.std.specs.List.{filter}
use Rattle.watch_desk.proofs.parts.whole_among.Given as goal

abbrev pub invariant-loop-held : goal.invariant-loop-held
invariant-loop-held l = (l.whole ≡ length (filter (λ h. is_some h.«module») (take l.held-index l.table))) × (l.whole ≤ l.held-index)
