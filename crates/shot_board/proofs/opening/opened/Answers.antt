use Rattle.std.proofs.Common.{sym, ◌∙◌, ap, refl, ◌≡◌, length}
use Rattle.shot_board.proofs.Adding.{adds_moves}
use Rattle.shot_board.proofs.opening.opened.Goals as goal

pub compare_exchange-found-requires : goal.compare_exchange-found-requires
compare_exchange-found-requires g c =
    let o = c.open-seen.ensures in
    let h = c.tracked-head.ensures.0 in
    let offer = c.plain-offer.ensures in
    let pen = c.no_pen-pen.ensures in
    let book : c.open-seen.result.0.book ≡ c.tracked-head.result.book = sym (ap (λ w. w.book) h ∙ o.2) in (
      ap (λ w. w.tracked) h,
      book,
      pen.0 ∙ book,
      offer.0,
      rw (ap (λ w. w.key) h, ap (λ n. n.key) o.4, pen.1, offer.1, offer.3) (adds_moves g.S.Numbered.number c.open-seen.result.0.log c.args.shot.now 0 1 (ap length o.1) c.requires refl),
    )
