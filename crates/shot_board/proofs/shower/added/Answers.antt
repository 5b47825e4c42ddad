use Rattle.std.proofs.Common.{sym, ◌∙◌, ap, ◌≡◌, ◌-◌, length, ◌++◌, ◌∷◌, [], arith, length-append}
use Rattle.shot_board.proofs.Adding.{adds_moves, added_log}
use Rattle.shot_board.proofs.shower.added.Goals as goal

pub compare_exchange-found-requires : goal.compare_exchange-found-requires
compare_exchange-found-requires g c =
    let h = c.requires.0 in
    let seen = c.again-seen.ensures in
    let offer = c.plain-offer.ensures in
    let pen = c.no_pen-pen.ensures in
    let next = c.in_ok-next.ensures in
    let counted : length c.again-seen.result.log ≡ c.in_ok-next.next - 1 = ap (λ s. length s.log) seen ∙ c.args.front.now.counted ∙ omega (arith, next.1) in
    let numbered : g.S.Numbered.number c.args.shot.now ≡ c.in_ok-next.next - 1 = c.requires.1 ∙ omega (arith, next.1) in
    let book : c.again-seen.result.book ≡ c.args.head.now.book = ap (λ s. s.book) seen ∙ sym (ap (λ w. w.book) h) in (
      ap (λ w. w.tracked) h,
      book,
      pen.0 ∙ book,
      offer.0,
      rw (ap (λ w. w.key) h, pen.1, offer.1, offer.3) (adds_moves g.S.Numbered.number c.again-seen.result.log c.args.shot.now (c.in_ok-next.next - 1) c.in_ok-next.next counted numbered (omega (arith, next.1))),
    )

in_log : (g : _) (c : goal.Else-found-count g) → c.compare_exchange-found.new.seen.log ≡ c.args.front.now.seen.log ++ c.args.shot.now ∷ []
in_log g c = added_log (c.in_ok-next.next - 1) c.compare_exchange-found.result c.plain-offer.result.ask c.again-seen.result.log c.compare_exchange-found.new.seen.log c.compare_exchange-found.ensures.7 c.if-found-count.false
    ∙ (λ i. ap (λ s. s.log) c.again-seen.ensures i ++ c.plain-offer.ensures.1 i ∷ [])

pub invariant_of-result : goal.invariant_of-result
invariant_of-result g c =
    let a = ap length (in_log g c) ∙ length-append c.args.front.now.seen.log (c.args.shot.now ∷ []) in
    let next = c.in_ok-next.ensures in
    record { counted = omega (arith, a, next.1, c.args.front.now.counted) }
