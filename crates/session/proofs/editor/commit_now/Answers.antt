use Rattle.session.proofs.Words.{◌<◌, length, sym, ap, ◌∙◌, subst, arith, get_or_default, refl, on_ok_weaker, EditorSeat, EditorsStand, Global, Vec}
use Rattle.session.proofs.Editing.{committed_now, nobody_commits}
use Rattle.session.proofs.Lists.{none_more}
use Rattle.session.proofs.editor.commit_now.Goals as goal

pub loop-place-preserved : goal.loop-place-preserved
loop-place-preserved g c = let i = c.loop-place.invariant in
    let there : c.loop-place.place < length c.loop-place.seats.items = let same = ap (λ (v : Vec EditorSeat Global). length v.items) i.same in omega arith in
    record { same = i.same; past = none_more (λ (seat : EditorSeat). seat.number) c.args.editor c.loop-place.seats.items c.loop-place.place c.index.result.now there c.index.ensures c.if-index-editor.false i.past }

pub returns-then-index-editor : goal.returns-then-index-editor
returns-then-index-editor g c = let i = c.loop-place.invariant in let seats = c.loop-place.seats.items in let was = c.index_mut.result.now in
    let there : c.loop-place.place < length seats = let same = ap (λ (v : Vec EditorSeat Global). length v.items) i.same in omega arith in
    on_ok_weaker c.commit.result (λ made setting done st.
    committed_now setting c.args.station.now done c.args.editor c.args.edits.items seats c.loop-place.place was _ there c.index_mut.ensures.value
    (ap (λ (seat : EditorSeat). seat.number) (c.index_mut.ensures.value ∙ get_or_default seats c.loop-place.place was c.index.result.now there ∙ sym c.index.ensures) ∙ c.if-index-editor.true) refl refl made
    (subst (λ (v : Vec EditorSeat Global). EditorsStand setting c.args.station.now done v.items) (sym i.same) st)) c.commit.ensures.commits

pub returns : goal.returns
returns g c = let i = c.loop-place.invariant in λ setting done st.
    nobody_commits setting c.args.station.now done c.args.editor c.args.edits.items c.loop-place.seats.items
    (λ k d lt. i.past k d (let same = ap (λ (v : Vec EditorSeat Global). length v.items) i.same in omega arith))
    (subst (λ (v : Vec EditorSeat Global). EditorsStand setting c.args.station.now done v.items) (sym i.same) st)
