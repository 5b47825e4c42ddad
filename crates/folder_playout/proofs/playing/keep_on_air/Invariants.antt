use Rattle.folder_playout.specs.Inner.Standing.{IsPlaying}
use Rattle.folder_playout.proofs.playing.keep_on_air.Given as goal

abbrev pub invariant-loop-sent : goal.invariant-loop-sent
invariant-loop-sent g l =
    IsPlaying (record { pid = l.pid; carousel = l.carousel; weights = l.weigh.weights }) (g.T.Trees.answered l.fn.trees l.trees) (g.N.Notices.told l.fn.notices l.notices) l.sent
    (g.O.Output.state l.fn.out) (g.O.Output.state l.out) l.playout
