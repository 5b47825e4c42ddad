use Rattle.history_merge.proofs.Words.{[], ◌∷◌, ◌++◌, map, refl, ap, ◌∙◌, arith, map-append, known_view, view_waiting}
use Rattle.history_merge.proofs.Turns.{told_next, past_first, none_first, told_ones}
use Rattle.history_merge.proofs.history.Waiting.tell.Goals as goal

pub loop-self-init : goal.loop-self-init
loop-self-init c = record { so_far = refl; climb = c.requires; later = λ j less. refl }

pub loop-self-preserved : goal.loop-self-preserved
loop-self-preserved c = let at = c.loop-self in let told = map known_view at.told.items in
    told_next c.args.draws (view_waiting c.args.self.now) (map known_view c.args.told.now.items) told (map known_view c.push.new.self.items) at.self.reader c.first-item.result at.self.opens.now
    c.in-len1-up.len_at_least c.first-item.is (let same = c.if-first-draws.false in omega arith)
    (ap (map known_view) c.in_ok-push.ensures.items ∙ map-append known_view at.told.items (c.in_ok-told_open.field-0 ∷ []) ∙ ap (λ y. told ++ y ∷ []) c.in_ok-told_open.ensures) at.invariant

pub returns-then-first-draws : goal.returns-then-first-draws
returns-then-first-draws c = let at = c.loop-self in
    told_ones c.args.draws (view_waiting c.args.self.now) (view_waiting at.self) (map known_view c.args.told.now.items) (map known_view at.told.items)
    (past_first c.args.draws c.first-item.result at.self.opens.now c.first-item.is c.if-first-draws.true at.invariant.climb) at.invariant

pub returns : goal.returns
returns c = let at = c.loop-self in
    told_ones c.args.draws (view_waiting c.args.self.now) (view_waiting at.self) (map known_view c.args.told.now.items) (map known_view at.told.items)
    (none_first _ at.self.opens.now c.in_default.len_below) at.invariant
