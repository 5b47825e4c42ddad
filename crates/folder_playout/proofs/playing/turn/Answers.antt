use Rattle.std.proofs.lemmas.Result.{err_from_is_err_and}
use Rattle.shell_streams.proofs.CallerLemmas.{puts_ok}
use Rattle.folder_playout.specs.OnAir.{taken}
use Rattle.folder_playout.specs.Playing.{air_of}
use Rattle.folder_playout.proofs.Turning.{Laws, turn_done, turn_part}
use Rattle.folder_playout.proofs.playing.turn.Goals as goal

pub returns-in_err-send_cycle : goal.returns-in_err-send_cycle
returns-in_err-send_cycle g c = λ s cycles first told start e small lt h.
    let p = err_from_is_err_and c.from_residual-in_err-send_cycle.result c.from_residual-in_err-send_cycle.ensures.1 in
    let laws : Laws = record { broadcasts = c.playouts_are_broadcasts.ensures; packed = c.playouts_can_be_packed.ensures } in
    let t = c.in_ok-take_next.ensures s cycles first told start small lt h in
    rw (p.1, p.2) (turn_part laws s c.args.weigh.now.weights cycles c.args.sent (g.T.Trees.answered first c.take_next.new.trees) (g.N.Notices.told told c.take_next.new.notices) start
    (g.O.Output.state c.take_next.new.out) (g.O.Output.state c.send_cycle.new.out) c.take_next.new.playout c.in_err-send_cycle.field-0.0 small e lt t
    (c.in_err-send_cycle.ensures.puts start s.pid (taken (air_of s t.tree t.rest) t.reading) t.stands t.puts))

pub returns : goal.returns
returns g c = λ s cycles first told start e small lt h.
    let t = c.in_ok-take_next.ensures s cycles first told start small lt h in
    let now = taken (air_of s t.tree t.rest) t.reading in
    turn_done s c.args.weigh.now.weights c.args.sent (g.T.Trees.answered first c.take_next.new.trees) (g.N.Notices.told told c.take_next.new.notices) start
    (g.O.Output.state c.take_next.new.out) (g.O.Output.state c.send_cycle.new.out) c.take_next.new.playout c.send_cycle.new.self e t
    (c.in_ok-send_cycle.ensures.stands s.pid now t.stands) (puts_ok tt (c.in_ok-send_cycle.ensures.puts start s.pid now t.stands t.puts)) c.in_ok-send_cycle.ensures.empty
