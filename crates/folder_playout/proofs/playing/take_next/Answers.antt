use Rattle.std.proofs.Common.{◌+◌, refl}
use Rattle.std.proofs.lemmas.Result.{err_from_is_err_and}
use Rattle.shell_streams.proofs.CallerLemmas.{puts_ok}
use Rattle.folder_playout.specs.Playing.{air_of}
use Rattle.folder_playout.proofs.Turning.{Laws, like_of, other_begins, other_of, other_unmade, same_goes_on, season_ends, season_part, unread_ends}
use Rattle.folder_playout.proofs.playing.take_next.Goals as goal

pub returns-in_err-tree : goal.returns-in_err-tree
returns-in_err-tree g c = λ s cycles first told start small lt h.
    let p = err_from_is_err_and c.from_residual.result c.from_residual.ensures.1 in
    let laws : Laws = record { broadcasts = c.playouts_are_broadcasts.ensures; packed = c.playouts_can_be_packed.ensures } in
    rw (p.1, p.2) (unread_ends laws s cycles c.args.sent (c.args.sent + 1) (g.T.Trees.answered first c.args.trees.now) (g.T.Trees.answered first c.read.new.self) (g.N.Notices.told told c.args.notices.now)
    (g.N.Notices.told told c.next_tree.new.notices) start (g.O.Output.state c.args.out.now) c.args.playout.now c.read.result c.in_err-tree.field-0.0 small lt h c.in_err-tree.ensures.next
    (c.read.ensures.answered first) (c.next_tree.ensures.told told))

pub returns-in_default : goal.returns-in_default
returns-in_default g c = λ s cycles first told start small lt h.
    same_goes_on s c.args.sent (g.T.Trees.answered first c.args.trees.now) (g.T.Trees.answered first c.read.new.self) (g.N.Notices.told told c.args.notices.now)
    (g.N.Notices.told told c.next_tree.new.notices) start (g.O.Output.state c.args.out.now) c.args.playout.now c.read.result c.in_ok-tree.field-0 h c.in_default.is c.in_ok-tree.ensures.next c.read.ensures.publishable
    (c.read.ensures.answered first) (c.next_tree.ensures.told told)

pub returns-in_err-end : goal.returns-in_err-end
returns-in_err-end g c = λ s cycles first told start small lt h.
    let p = err_from_is_err_and c.from_residual-in_err-end.result c.from_residual-in_err-end.ensures.1 in
    let laws : Laws = record { broadcasts = c.playouts_are_broadcasts.ensures; packed = c.playouts_can_be_packed.ensures } in
    let o = other_of s c.args.sent (g.T.Trees.answered first c.args.trees.now) (g.T.Trees.answered first c.read.new.self) (g.N.Notices.told told c.args.notices.now) (g.N.Notices.told told c.next_tree.new.notices)
    start (g.O.Output.state c.args.out.now) c.args.playout.now c.read.result c.in_ok-tree.field-0 c.in-Some.tree small h c.in-Some.is c.in_ok-tree.ensures.next c.read.ensures.publishable (c.read.ensures.answered first) (c.next_tree.ensures.told told) in
    rw (p.1, p.2) (season_part laws s c.in-Some.tree cycles c.args.sent (g.T.Trees.answered first c.read.new.self) (g.N.Notices.told told c.next_tree.new.notices) start (g.O.Output.state c.args.out.now) (g.O.Output.state c.end.new.out)
    c.args.playout.now c.in_err-end.field-0.0 o (c.if-is_last.ensures.last refl) lt
    (c.in_err-end.ensures.puts start s.pid (air_of s o.tree o.rest) o.stands (like_of laws s o.tree o.rest o.good) o.puts))

pub returns-then-is_last : goal.returns-then-is_last
returns-then-is_last g c = λ s cycles first told start small lt h.
    let laws : Laws = record { broadcasts = c.playouts_are_broadcasts.ensures; packed = c.playouts_can_be_packed.ensures } in
    let o = other_of s c.args.sent (g.T.Trees.answered first c.args.trees.now) (g.T.Trees.answered first c.read.new.self) (g.N.Notices.told told c.args.notices.now) (g.N.Notices.told told c.next_tree.new.notices)
    start (g.O.Output.state c.args.out.now) c.args.playout.now c.read.result c.in_ok-tree.field-0 c.in-Some.tree small h c.in-Some.is c.in_ok-tree.ensures.next c.read.ensures.publishable (c.read.ensures.answered first) (c.next_tree.ensures.told told) in
    season_ends laws s c.in-Some.tree cycles c.args.sent (g.T.Trees.answered first c.read.new.self) (g.N.Notices.told told c.next_tree.new.notices) start (g.O.Output.state c.args.out.now) (g.O.Output.state c.end.new.out)
    c.args.playout.now o (c.if-is_last.ensures.last refl) lt
    (puts_ok tt (c.in_ok-end.ensures.puts start s.pid (air_of s o.tree o.rest) o.stands (like_of laws s o.tree o.rest o.good) o.puts)) c.in_ok-end.ensures.empty

pub returns-in_err-difference : goal.returns-in_err-difference
returns-in_err-difference g c = λ s cycles first told start small lt h.
    let p = err_from_is_err_and c.from_residual-in_err-difference.result c.from_residual-in_err-difference.ensures.1 in
    let laws : Laws = record { broadcasts = c.playouts_are_broadcasts.ensures; packed = c.playouts_can_be_packed.ensures } in
    let o = other_of s c.args.sent (g.T.Trees.answered first c.args.trees.now) (g.T.Trees.answered first c.read.new.self) (g.N.Notices.told told c.args.notices.now) (g.N.Notices.told told c.next_tree.new.notices)
    start (g.O.Output.state c.args.out.now) c.args.playout.now c.read.result c.in_ok-tree.field-0 c.in-Some.tree small h c.in-Some.is c.in_ok-tree.ensures.next c.read.ensures.publishable (c.read.ensures.answered first) (c.next_tree.ensures.told told) in
    rw (p.1, p.2) (other_unmade laws s c.in-Some.tree cycles c.args.sent (g.T.Trees.answered first c.read.new.self) (g.N.Notices.told told c.next_tree.new.notices) start (g.O.Output.state c.args.out.now) (g.O.Output.state c.renew.new.out)
    c.args.playout.now c.in_err-difference.field-0.0 o (c.if-is_last.ensures.earlier refl) lt
    (c.in_err-difference.ensures.puts start s.pid (air_of s o.tree o.rest) o.stands (like_of laws s o.tree o.rest o.good) o.puts))

pub returns : goal.returns
returns g c = λ s cycles first told start small lt h.
    let laws : Laws = record { broadcasts = c.playouts_are_broadcasts.ensures; packed = c.playouts_can_be_packed.ensures } in
    let o = other_of s c.args.sent (g.T.Trees.answered first c.args.trees.now) (g.T.Trees.answered first c.read.new.self) (g.N.Notices.told told c.args.notices.now) (g.N.Notices.told told c.next_tree.new.notices)
    start (g.O.Output.state c.args.out.now) c.args.playout.now c.read.result c.in_ok-tree.field-0 c.in-Some.tree small h c.in-Some.is c.in_ok-tree.ensures.next c.read.ensures.publishable (c.read.ensures.answered first) (c.next_tree.ensures.told told) in
    let like = like_of laws s o.tree o.rest o.good in
    other_begins s c.in-Some.tree c.args.sent (g.T.Trees.answered first c.read.new.self) (g.N.Notices.told told c.next_tree.new.notices) (g.N.Notices.told told c.began.new.self) start (g.O.Output.state c.args.out.now)
    (g.O.Output.state c.renew.new.out) c.args.playout.now c.renew.new.self c.number.result c.in_ok-difference.difference o (c.if-is_last.ensures.earlier refl)
    (c.in_ok-difference.ensures.stands s.pid (air_of s o.tree o.rest) o.stands like) (puts_ok tt (c.in_ok-difference.ensures.puts start s.pid (air_of s o.tree o.rest) o.stands like o.puts))
    c.number.ensures c.in_ok-difference.ensures.differs (c.began.ensures told)
