use Rattle.std.proofs.Common.{sym, ◌∙◌, ap, [], ◌∷◌, ◌++◌}
use Rattle.shot_board.proofs.Naming.{names}
use Rattle.shot_board.proofs.shower.send.Goals as goal

pub publish_as-writer-requires : goal.publish_as-writer-requires
publish_as-writer-requires g c = λ next is.
    let desk = c.in-Ok.ensures.desk in
    let only = c.in-Ok.ensures.pending ∙ ap (λ l. l ++ c.args.shown ∷ []) c.requires.idle in
    let sent = rw only at is in
    names _ _ c.append.new.self.desk.shown.value next
    (ap (λ s. s.0.book) sent ∙ sym c.requires.same.0 ∙ sym (ap (λ d. d.shown.value.front.seen.book) desk))
    (ap (λ s. s.1) sent ∙ sym c.requires.same.1 ∙ sym (ap (λ d. d.shown.value.most) desk))
