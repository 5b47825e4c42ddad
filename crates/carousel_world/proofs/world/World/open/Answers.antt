use Rattle.std.proofs.Common.{[], ap₂}
use Rattle.std.proofs.lemmas.Result.{err_from_is_err_and}
use Rattle.carousel_world.specs.World.{groups_sent, received_in}
use Rattle.carousel_world.specs.declared.event.Reply.TheVariants as replies
use Rattle.carousel_world.proofs.world.World.open.Goals as goal

pub returns-clause-reply : goal.returns-clause-reply
returns-clause-reply g c = λ w n st.
    let sent = groups_sent w.drawings in
    let received = received_in w in
    ap₂ replies.Opened (c.in_ok-label.ensures.label 256 sent [] received st.down) (c.in_ok-label.ensures.answer 256 sent [] received st.down)

pub returns-in_err-label-clause-memory : goal.returns-in_err-label-clause-memory
returns-in_err-label-clause-memory g c =
    let p = err_from_is_err_and c.from_residual.result c.from_residual.ensures.1 in
    rw p.1 (λ w reader st. c.in_err-label.ensures.memory 256 (groups_sent w.drawings) [] (received_in w) st.down)
