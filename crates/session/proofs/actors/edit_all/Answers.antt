use Rattle.session.proofs.Words.{slice_index_or, subst, EditorSeat, DidEdit}
use Rattle.session.proofs.actors.edit_all.Goals as goal

pub returns : goal.returns
returns g c = λ i d lt.
    let at = (c.for_each_mut.ensures i d lt).1 in let new = slice_index_or c.for_each_mut.new.s i d in
    subst (λ (x : EditorSeat). DidEdit c.args.station.now x new) at.argument_is (subst (λ (y : EditorSeat). DidEdit c.args.station.now at.argument.now y) {y = new} at.left at.call)
