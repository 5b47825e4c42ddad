use Rattle.session.proofs.Words.{PathNames, refl, [], ◌∷◌, List, map, rules, sym, ap, ◌∙◌, map-append, Finale, opens_by, lists_of, finale_step, items_came}
use Rattle.session.proofs.Planning.{one_given}
use Rattle.session.proofs.Staged.{opens_more}
use Rattle.session.proofs.plan.by_reader.Goals as goal

pub loop-last-preserved : goal.loop-last-preserved
loop-last-preserved c = λ n.
    let y = c.loop-last.yielded in let x = c.in-Some.last in
    c.in_ok-push.ensures n ∙ one_given (λ (l : List PathNames). l) x.path x.path (λ l. refl) n x.reader (lists_of c.loop-last.lists n) (opens_by n (map finale_step y)) (c.loop-last.invariant n)
    ∙ sym (ap (opens_by n) (map-append finale_step y (x ∷ [])) ∙ opens_more n (map finale_step y) (finale_step x ∷ []))

pub returns : goal.returns
returns c = let end = items_came c.into_iter-last-iterator.result c.args.finales.items (search rules) (search rules) c.loop-last.yielded c.loop-last.last-iterator c.loop-last.yielded_by c.next.new.self c.in-None.is c.next.ensures.steps in
    λ n. c.loop-last.invariant n ∙ ap (λ (fs : List Finale). opens_by n (map finale_step fs)) end
