use Rattle.std.proofs.Common.{◌≤◌, take}
use Rattle.path_resolver.specs.Resolving.{answer_of}
use Rattle.path_resolver.specs.Shots.{held_of}
use Rattle.folder_extract.proofs.Taking.{HasTaken}
use Rattle.folder_extract.proofs.extracting.extract.Given as goal

abbrev pub invariant-loop-path : goal.invariant-loop-path
invariant-loop-path g l = record {
  taken : HasTaken l.folder (answer_of (held_of l.shot)) (take l.path-index l.path-items) l.initial.all l.all
      (g.T.Store.tree l.fn.store) (g.T.Store.tree l.store) (g.O.Output.state l.fn.out) (g.O.Output.state l.out);
  later : g.T.Store.faults l.fn.store ≤ g.T.Store.faults l.store;
}
