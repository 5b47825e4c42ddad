use Rattle.history_merge.proofs.Words.{◌≡◌, ◌+◌, ◌<◌, List, [], ◌∷◌, ◌++◌, length, map, get_or, refl, subst, sym, ap, ◌∙◌, arith, get_or-map, length-map, map-append, Step, Reply, known_view, fates_view, view_waiting, HaveTold}
use Rattle.generation_catalogue.specs.declared.entry.Entry.TheVariants as entries
use Rattle.carousel_world.specs.declared.event.Event.{Event}
use Rattle.history_merge.proofs.Telling.{IsMerging, parts_climb, merge_begins, placed_at, drawn_at, with_commit, with_draw, moved, all_merged}
use Rattle.history_merge.proofs.history.merge.Goals as goal
use Rattle.history_merge.proofs.history.merge.Goals.{in-Commit+in_ok-told_commit-in-Commit+in_ok-push-in-Commit, in-Draw+in_ok-told_draw-in-Draw+in_ok-push-in-Draw+in_ok-tell_all-in-Draw}

pub tell_all-requires : goal.tell_all-requires
tell_all-requires c =
    parts_climb c.args.entries.now (map fates_view c.args.fates.now) c.args.editors.now c.args.passes.now c.requires (map view_waiting c.as_mut_slice-waiting.result.now)
    (ap (map view_waiting) c.as_mut_slice-waiting.ensures.value ∙ c.in_ok-readers.ensures)

pub loop-entry-init : goal.loop-entry-init
loop-entry-init c = let before = map view_waiting c.as_mut_slice-waiting.result.now in let after = map view_waiting c.tell_all.new.waiting in let told = map known_view c.tell_all.new.told.items in
    merge_begins c.args.entries.now (map fates_view c.args.fates.now) c.args.editors.now c.args.passes.now c.requires before after told
    (ap (map view_waiting) c.as_mut_slice-waiting.ensures.value ∙ c.in_ok-readers.ensures)
    (subst (λ (l : List (Event × Reply)). HaveTold 0 before after (map known_view l) told) c.new-told.ensures.items c.in_ok-tell_all.ensures)

pub bounds-editors-editor : goal.bounds-editors-editor
bounds-editors-editor c = let l = c.loop-entry in let e = entries.Commit c.in-Commit.editor c.in-Commit.edits c.in-Commit.outcome in
    let is : e ≡ get_or c.args.entries.now l.entry-index e = (let a = c.entry-item.is in let b = c.in-Commit.is in cc) in
    placed_at c.args.entries.now (map fates_view c.args.fates.now) c.args.editors.now c.args.passes.now l.entry-index l.draws (map view_waiting l.waiting) (map known_view l.told.items)
    e c.loop-entry-test.true is l.invariant

pub bounds-fates-draws : goal.bounds-fates-draws
bounds-fates-draws c = let l = c.loop-entry in let e = entries.Draw c.in-Draw.asked c.in-Draw.generation c.in-Draw.first c.in-Draw.count in
    let is : e ≡ get_or c.args.entries.now l.entry-index e = (let a = c.entry-item.is in let b = c.in-Draw.is in cc) in
    let fates = map fates_view c.args.fates.now in
    let below : l.draws < length fates = drawn_at c.args.entries.now fates c.args.editors.now c.args.passes.now l.entry-index l.draws (map view_waiting l.waiting) (map known_view l.told.items)
    e c.loop-entry-test.true is refl l.invariant in
    omega (arith, length-map c.args.fates.now fates_view, below)

pub loop-entry-preserved : goal.loop-entry-preserved
loop-entry-preserved c = let l = c.loop-entry in let es = c.args.entries.now in let fates = map fates_view c.args.fates.now in
    let editors = c.args.editors.now in let readers = c.args.passes.now in let waiting = map view_waiting l.waiting in
    let told = map known_view l.told.items in let new = map known_view c.match-entry.told.items in
    let more : l.entry-index < length es = c.loop-entry-test.true in elim c.match-entry.branch [
      | in-Commit+in_ok-told_commit-in-Commit+in_ok-push-in-Commit w ↦ (
          let x = w.in_ok-told_commit-in-Commit.field-0 in let e = entries.Commit w.in-Commit.editor w.in-Commit.edits w.in-Commit.outcome in
          let is : e ≡ get_or es l.entry-index e = (let a = c.entry-item.is in let b = w.in-Commit.is in cc) in
          let pushed = ap (λ v. map known_view v.items) w.told-is ∙ ap (map known_view) w.in_ok-push-in-Commit.ensures.items ∙ map-append known_view l.told.items (x ∷ []) in
          moved es fates editors readers (l.entry-index + 1) l.draws c.match-entry.draws waiting (map view_waiting c.match-entry.waiting) new w.draws-is (ap (map view_waiting) w.waiting-is)
          (with_commit es fates editors readers l.entry-index l.draws waiting told new w.in-Commit.editor w.in-Commit.edits w.in-Commit.outcome (known_view x) more is
          w.in_ok-told_commit-in-Commit.ensures pushed l.invariant)
          )
      | in-Draw+in_ok-told_draw-in-Draw+in_ok-push-in-Draw+in_ok-tell_all-in-Draw w ↦ (
          let e = entries.Draw w.in-Draw.asked w.in-Draw.generation w.in-Draw.first w.in-Draw.count in
          let is : e ≡ get_or es l.entry-index e = (let a = c.entry-item.is in let b = w.in-Draw.is in cc) in
          let below : l.draws < length fates = drawn_at es fates editors readers l.entry-index l.draws waiting told e more is refl l.invariant in
          let given = w.index-fates-draws.result in let x = w.in_ok-told_draw-in-Draw.field-0 in
          let under = ap fates_view w.index-fates-draws.is ∙ sym (get_or-map fates_view c.args.fates.now l.draws given [] (omega (arith, length-map c.args.fates.now fates_view, below))) in
          let mid = map known_view w.push-in-Draw.new.self.items in let after = map view_waiting w.tell_all-in-Draw.new.waiting in
          let pushed = ap (map known_view) w.in_ok-push-in-Draw.ensures.items ∙ map-append known_view l.told.items (x ∷ []) ∙ ap (λ y. told ++ y ∷ []) w.in_ok-told_draw-in-Draw.ensures in
          subst (λ (t : List (Step × Reply)). IsMerging es fates editors readers (l.entry-index + 1) c.match-entry.draws (map view_waiting c.match-entry.waiting) t) (sym (ap (λ v. map known_view v.items) w.told-is))
          (moved es fates editors readers (l.entry-index + 1) (l.draws + 1) c.match-entry.draws after (map view_waiting c.match-entry.waiting) (map known_view w.tell_all-in-Draw.new.told.items) w.draws-is (ap (map view_waiting) w.waiting-is)
          (with_draw es fates editors readers l.entry-index l.draws waiting after told mid (map known_view w.tell_all-in-Draw.new.told.items) w.in-Draw.asked w.in-Draw.generation w.in-Draw.first w.in-Draw.count (fates_view given) more is under pushed
          w.in_ok-tell_all-in-Draw.ensures l.invariant))
          )
    ]

pub returns : goal.returns
returns c = let l = c.loop-entry in
    all_merged c.args.entries.now (map fates_view c.args.fates.now) c.args.editors.now c.args.passes.now l.entry-index l.draws (map view_waiting l.waiting) (map known_view l.told.items)
    (let past = c.loop-entry-test.false in omega arith) l.invariant
