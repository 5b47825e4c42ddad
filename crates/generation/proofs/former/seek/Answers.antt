use Rattle.std.proofs.Common.{◌≡◌, sym, ◌∙◌, arith, get_or, subst}
use Rattle.std.proofs.lemmas.List.Elements.{All-more}
use Rattle.generation.proofs.Words.{Less, AreBefore, path_cmp, view_spot, take_all}
use Rattle.generation.proofs.Sharing.{found_at, none_before, one_object}
use Rattle.generation.proofs.Members.{no_object}
use Rattle.generation.proofs.former.seek.Goals as goal

pub loop-place-preserved : goal.loop-place-preserved
loop-place-preserved c =
    All-more (λ o. path_cmp (view_spot c.args.old_tree.now o.spot).path (view_spot c.args.tree.now c.args.spot).path ≡ Less) c.args.old.now c.loop-place.place no_object (omega arith)
    c.loop-place.invariant (sym c.compare.ensures ∙ c.in-Less.is)

pub returns-in_default-clause-object : goal.returns-in_default-clause-object
returns-in_default-clause-object c =
    let t = c.args.old_tree.now in
    let s = view_spot c.args.tree.now c.args.spot in
    let n = c.loop-place.place in
    one_object t (get_or c.args.old.now n no_object) s c.if_there.result _ (sym c.compare.ensures) (c.if_there.ensures t c.args.tree.now)
    ∙ sym (found_at t c.args.old.now n no_object s c.requires.rising (omega arith) c.loop-place.invariant (λ e. c.in_default.not-Less (c.compare.ensures ∙ e)))

pub returns-clause-object : goal.returns-clause-object
returns-clause-object c =
    sym (none_before c.args.old_tree.now c.args.old.now (view_spot c.args.tree.now c.args.spot)
    (subst (AreBefore c.args.old_tree.now (view_spot c.args.tree.now c.args.spot).path) (take_all c.loop-place.place c.args.old.now (omega arith)) c.loop-place.invariant))
