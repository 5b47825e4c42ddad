use Rattle.std.proofs.Common.{ap}
use Rattle.shot_board.proofs.Naming.{names}
use Rattle.shot_board.proofs.opening.named.Goals as goal

pub publish_as-writer-requires : goal.publish_as-writer-requires
publish_as-writer-requires g c = λ next is.
    let same = rw c.requires at is in
    names _ _ c.args.writer.desk.shown.value next (ap (λ s. s.0.book) same) (ap (λ s. s.1) same)
