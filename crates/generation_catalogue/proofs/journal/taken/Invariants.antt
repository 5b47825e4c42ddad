use Rattle.std.proofs.Common.{◌≡◌, take, drop}
use Rattle.cycle_planner.specs.Walks.{IsWalk, left_of}
use Rattle.generation_catalogue.proofs.journal.taken.Given as goal

-- the items from the beginning up to here, and the walk stands behind them
abbrev pub invariant-loop-at : goal.invariant-loop-at
invariant-loop-at g l = record {
  items : l.items.items ≡ take l._at (left_of l.weigh.weights l.lines l.fn.from);
  walk : IsWalk l.weigh.weights l.lines l.walk;
  left : left_of l.weigh.weights l.lines l.walk ≡ drop l._at (left_of l.weigh.weights l.lines l.fn.from);
}
