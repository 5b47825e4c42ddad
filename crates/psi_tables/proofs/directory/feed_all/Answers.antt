use Rattle.std.proofs.Common.{◌≡◌, false, get_or, arith, sym, ◌∙◌}
use Rattle.psi_tables.specs.Stands.{view_followed}
use Rattle.psi_tables.specs.Inner.Steps.{Heard}
use Rattle.psi_tables.proofs.Following.{fed_one}
use Rattle.psi_tables.proofs.directory.feed_all.Goals as goal
use Rattle.psi_tables.proofs.directory.feed_all.Goals.{then-branch, else-branch}

pub loop-one-preserved : goal.loop-one-preserved
loop-one-preserved c =
    let here = c.in_ok-feed.field-0 in
    let after = c.if-branch.completed in
    let x = get_or c.loop-one.followed c.loop-one.one-index c.one-item.result in
    let y = c.feed.new.self in
    let h : Heard c.args.carousel c.args.packet.now here (view_followed x) (view_followed y) = record { hears = c.in_ok-feed.ensures.hears; pid = c.in_ok-feed.ensures.pid; quiet = c.in_ok-feed.ensures.quiet } in
    let before : after ≡ false → c.loop-one.completed ≡ false = elim c.if-branch.branch [ then-branch w ↦ λ e. absurd (cc (e, w.completed-is)) | else-branch w ↦ λ e. sym w.completed-is ∙ e ] in
    let now : after ≡ false → here ≡ false = elim c.if-branch.branch [ then-branch w ↦ λ e. absurd (cc (e, w.completed-is)) | else-branch w ↦ λ e. w.if-branch.false ] in
    fed_one c.args.carousel c.args.packet.now c.loop-one.completed here after c.args.followed.now c.loop-one.followed c.loop-one.one-index c.one-item.result y (omega arith) (omega arith) before now h c.loop-one.invariant
