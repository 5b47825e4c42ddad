use Rattle.session.proofs.Words.{◌≡◌, ◌∙◌, ◌&&◌}
use Rattle.session.proofs.Doing.{are_cut, are_whole, editors_pass, joined, joined_not}
use Rattle.session.proofs.cast.Cast.is_whole.Goals.{then-are_editors_whole, else-are_editors_whole}
use Rattle.session.proofs.cast.Cast.is_whole.Goals as goal

pub returns-then-self : goal.returns-then-self
returns-then-self c = let feeder = c.args.self.now.feeder.whole in
    let both : c.if-are_editors_whole.value ≡ (editors_pass c.deref.result.now && feeder) = elim c.if-are_editors_whole.branch [
      | then-are_editors_whole w ↦ joined c.if-are_editors_whole.value c.are_editors_whole.result feeder (editors_pass c.deref.result.now) w.if-are_editors_whole.true w.value-is c.are_editors_whole.ensures
      | else-are_editors_whole w ↦ joined_not c.if-are_editors_whole.value c.are_editors_whole.result feeder (editors_pass c.deref.result.now) w.if-are_editors_whole.false (w.value-is ∙ w.if-are_editors_whole.false) c.are_editors_whole.ensures
    ] in
    are_whole c.args.self.now c.deref.result.now c.deref-then-self.result.now c.if-are_editors_whole.value c.are_readers_whole.result c.deref.ensures.value c.deref-then-self.ensures.value both c.if-self.true c.are_readers_whole.ensures

pub returns-else-self : goal.returns-else-self
returns-else-self c = let feeder = c.args.self.now.feeder.whole in
    let both : c.if-are_editors_whole.value ≡ (editors_pass c.deref.result.now && feeder) = elim c.if-are_editors_whole.branch [
      | then-are_editors_whole w ↦ joined c.if-are_editors_whole.value c.are_editors_whole.result feeder (editors_pass c.deref.result.now) w.if-are_editors_whole.true w.value-is c.are_editors_whole.ensures
      | else-are_editors_whole w ↦ joined_not c.if-are_editors_whole.value c.are_editors_whole.result feeder (editors_pass c.deref.result.now) w.if-are_editors_whole.false (w.value-is ∙ w.if-are_editors_whole.false) c.are_editors_whole.ensures
    ] in
    are_cut c.args.self.now c.deref.result.now c.if-are_editors_whole.value c.deref.ensures.value both c.if-self.false
