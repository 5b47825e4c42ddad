use Rattle.std.proofs.Common.{◌≡◌, arith}
use Rattle.std.proofs.lemmas.Result.{err_from_is_err_and}
use Rattle.shell_streams.proofs.CallerLemmas.{puts_ok}
use Rattle.folder_playout.specs.Playing.{Sent, air_of}
use Rattle.folder_playout.proofs.Turning.{Laws, all_ends, all_part, good_of, like_of}
use Rattle.folder_playout.proofs.playing.keep_on_air.Goals as goal

pub returns-in_err-end : goal.returns-in_err-end
returns-in_err-end g c =
    let p = err_from_is_err_and c.from_residual-in_err-end.result c.from_residual-in_err-end.ensures.1 in
    let laws : Laws = record { broadcasts = c.playouts_are_broadcasts.ensures; packed = c.playouts_can_be_packed.ensures } in
    let s : Sent = record { pid = c.args.pid; carousel = c.args.carousel; weights = c.args.weigh.now.weights } in
    let h = c.loop-sent.invariant in
    let out = g.O.Output.state c.args.out.now in
    let done : c.loop-sent.sent ≡ c.args.cycles = omega (arith, c.loop-sent-test.false, c.loop-sent.auto.sent-end, c.requires.some) in
    let good = good_of s (g.T.Trees.answered c.args.trees.now c.loop-sent.trees) (g.N.Notices.told c.args.notices.now c.loop-sent.notices) c.loop-sent.sent out (g.O.Output.state c.loop-sent.out) c.loop-sent.playout
    (omega (arith, c.ranges.carousel.fits)) h in
    rw (p.1, p.2) (all_part laws s c.args.cycles c.loop-sent.sent (g.T.Trees.answered c.args.trees.now c.loop-sent.trees) (g.N.Notices.told c.args.notices.now c.loop-sent.notices) out (g.O.Output.state c.loop-sent.out)
    (g.O.Output.state c.end.new.out) c.loop-sent.playout c.in_err-end.field-0.0 (omega (arith, c.ranges.carousel.fits)) done h
    (c.in_err-end.ensures.puts out s.pid (air_of s h.tree h.rest) h.stands (like_of laws s h.tree h.rest good) h.puts))

pub returns : goal.returns
returns g c =
    let laws : Laws = record { broadcasts = c.playouts_are_broadcasts.ensures; packed = c.playouts_can_be_packed.ensures } in
    let s : Sent = record { pid = c.args.pid; carousel = c.args.carousel; weights = c.args.weigh.now.weights } in
    let h = c.loop-sent.invariant in
    let out = g.O.Output.state c.args.out.now in
    let done : c.loop-sent.sent ≡ c.args.cycles = omega (arith, c.loop-sent-test.false, c.loop-sent.auto.sent-end, c.requires.some) in
    let good = good_of s (g.T.Trees.answered c.args.trees.now c.loop-sent.trees) (g.N.Notices.told c.args.notices.now c.loop-sent.notices) c.loop-sent.sent out (g.O.Output.state c.loop-sent.out) c.loop-sent.playout
    (omega (arith, c.ranges.carousel.fits)) h in
    all_ends laws s c.args.cycles c.loop-sent.sent (g.T.Trees.answered c.args.trees.now c.loop-sent.trees) (g.N.Notices.told c.args.notices.now c.loop-sent.notices) out (g.O.Output.state c.loop-sent.out)
    (g.O.Output.state c.end.new.out) c.loop-sent.playout (omega (arith, c.ranges.carousel.fits)) done h
    (puts_ok tt (c.in_ok-end.ensures.puts out s.pid (air_of s h.tree h.rest) h.stands (like_of laws s h.tree h.rest good) h.puts)) c.in_ok-end.ensures.empty
