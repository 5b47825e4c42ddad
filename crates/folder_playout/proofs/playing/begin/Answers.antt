use Rattle.std.proofs.Common.{[], arith}
use Rattle.std.proofs.lemmas.Result.{err_from_is_err_and}
use Rattle.shell_streams.proofs.CallerLemmas.{puts_ok}
use Rattle.folder_playout.specs.OnAir.{begun}
use Rattle.folder_playout.specs.Playing.{Sent}
use Rattle.folder_playout.proofs.Turning.{Laws, first_sent, first_told, first_unmade, first_unsent, nothing_given}
use Rattle.folder_playout.proofs.playing.begin.Goals as goal

pub returns-in_err-playout : goal.returns-in_err-playout
returns-in_err-playout g c = λ cycles some.
    let p = err_from_is_err_and c.from_residual-in_err-playout.result c.from_residual-in_err-playout.ensures.1 in
    let laws : Laws = record { broadcasts = c.playouts_are_broadcasts.ensures; packed = c.playouts_can_be_packed.ensures } in
    let sent : Sent = record { pid = c.args.pid; carousel = c.args.carousel; weights = c.args.weigh.now.weights } in
    rw (p.1, p.2) (first_unmade laws sent c.in_ok-tree.tree cycles (g.T.Trees.answered c.args.trees.now c.read.new.self) (g.N.Notices.told c.args.notices.now c.args.notices.now) (g.O.Output.state c.args.out.now)
    (omega (arith, c.ranges.carousel.fits)) c.in_ok-tree.ensures.publishable (c.in_ok-tree.ensures.answered c.args.trees.now [] c.requires.unread) c.requires.untold some)

pub returns-in_err-send_cycle : goal.returns-in_err-send_cycle
returns-in_err-send_cycle g c = λ cycles some.
    let p = err_from_is_err_and c.from_residual-in_err-send_cycle.result c.from_residual-in_err-send_cycle.ensures.1 in
    let laws : Laws = record { broadcasts = c.playouts_are_broadcasts.ensures; packed = c.playouts_can_be_packed.ensures } in
    let sent : Sent = record { pid = c.args.pid; carousel = c.args.carousel; weights = c.args.weigh.now.weights } in
    let out = g.O.Output.state c.args.out.now in
    rw (p.1, p.2) (first_unsent laws sent c.in_ok-tree.tree cycles (g.T.Trees.answered c.args.trees.now c.read.new.self) (g.N.Notices.told c.args.notices.now c.began.new.self) c.in_err-send_cycle.field-0.0 out
    (g.O.Output.state c.send_cycle.new.out) (omega (arith, c.ranges.carousel.fits)) c.in_ok-tree.ensures.publishable (c.in_ok-tree.ensures.answered c.args.trees.now [] c.requires.unread)
    (first_told sent c.in_ok-tree.tree (g.N.Notices.told c.args.notices.now c.began.new.self) c.in_ok-playout.difference c.in_ok-playout.ensures.differs (c.began.ensures c.args.notices.now [] c.requires.untold)) some
    (c.in_err-send_cycle.ensures.puts out c.args.pid (begun c.args.carousel c.in_ok-tree.tree) c.in_ok-playout.ensures.stands (nothing_given c.args.pid c.args.carousel c.in_ok-tree.tree out)))

pub returns : goal.returns
returns g c = λ cycles some.
    let sent : Sent = record { pid = c.args.pid; carousel = c.args.carousel; weights = c.args.weigh.now.weights } in
    let out = g.O.Output.state c.args.out.now in
    let first = begun c.args.carousel c.in_ok-tree.tree in
    first_sent sent c.in_ok-tree.tree (g.T.Trees.answered c.args.trees.now c.read.new.self) (g.N.Notices.told c.args.notices.now c.began.new.self) out (g.O.Output.state c.send_cycle.new.out) c.send_cycle.new.self
    c.in_ok-tree.ensures.publishable (c.in_ok-tree.ensures.answered c.args.trees.now [] c.requires.unread)
    (first_told sent c.in_ok-tree.tree (g.N.Notices.told c.args.notices.now c.began.new.self) c.in_ok-playout.difference c.in_ok-playout.ensures.differs (c.began.ensures c.args.notices.now [] c.requires.untold))
    (c.in_ok-send_cycle.ensures.stands c.args.pid first c.in_ok-playout.ensures.stands)
    (puts_ok tt (c.in_ok-send_cycle.ensures.puts out c.args.pid first c.in_ok-playout.ensures.stands (nothing_given c.args.pid c.args.carousel c.in_ok-tree.tree out))) c.in_ok-send_cycle.ensures.empty
