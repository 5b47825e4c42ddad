use Rattle.std.proofs.Common.{◌≡◌, ◌-◌, ◌<◌, ◌≤◌, length, Some, sym, ap, ◌∙◌, arith}
use Rattle.std.proofs.lemmas.List.{take_all}
use Rattle.std.proofs.lemmas.Result.{IfOk-weaker}
use Rattle.path_resolver.specs.Resolving.{answer_of}
use Rattle.path_resolver.specs.Shots.{held_of}
use Rattle.path_listing.specs.Inner.Walk.{folder_in}
use Rattle.path_listing.proofs.Parts.{next_lists, full_lists, below_met, below_none, below_some, walk_deep, walk_none, lists_as, lists_at, lists_pushed, lists_none, lists_nothing, lists_folder, few_after, met, unmet}
use Rattle.path_listing.proofs.walking.+list.Goals as goal
use Rattle.path_listing.proofs.walking.+list.Goals.{list_names-then-is_first+in_ok-whole+else-not-whole, list_names-else-is_first}

pub list_below-returns-in-Some : goal.list_below-returns-in-Some
list_below-returns-in-Some t c =
    rw (below_some (answer_of (held_of c.args.shot.now)) c.args.path.now c.args.name.now c.in-Some.below c.requires.room (sym c.in-Some.is ∙ c.in_ok-below.ensures.below)) at c.list_from.ensures

pub list_below-returns-in-None : goal.list_below-returns-in-None
list_below-returns-in-None t c =
    rw (below_none (answer_of (held_of c.args.shot.now)) c.args.path.now c.args.name.now c.requires.room (sym c.in-None.is ∙ c.in_ok-below.ensures.below)) (lists_nothing _ c.requires.few)

pub list_from-returns-then-len-eq-MOST_LISTED : goal.list_from-returns-then-len-eq-MOST_LISTED
list_from-returns-then-len-eq-MOST_LISTED t c = lists_none (answer_of (held_of c.args.shot.now)) _ c.args.path _ (omega arith)

pub list_from-returns-then-len-eq-MOST_NAMES : goal.list_from-returns-then-len-eq-MOST_NAMES
list_from-returns-then-len-eq-MOST_NAMES t c =
    let deep : 16 - length c.args.path ≡ 0 = omega (arith, ap length c.in_ok-place.ensures, c.len-2.ensures.names, c.if-len-eq-MOST_NAMES.true) in
    let room : length c.args.paths.now.items < 65536 = omega (arith, c.len.ensures, c.if-len-eq-MOST_LISTED.false, c.requires) in
    lists_as (sym (walk_deep (answer_of (held_of c.args.shot.now)) (16 - length c.args.path) c.args.path deep)) (lists_pushed c.args.path _ _ room c.in_ok-push.ensures.items)

pub list_from-returns-in-Some : goal.list_from-returns-in-Some
list_from-returns-in-Some t c =
    let answer = answer_of (held_of c.args.shot.now) in
    let few : length c.args.path < 16 = omega (arith, ap length c.in_ok-place.ensures, c.len-2.ensures.names, c.len-2.ensures.path.depth, c.if-len-eq-MOST_NAMES.false) in
    let room : length c.args.paths.now.items < 65536 = omega (arith, c.len.ensures, c.if-len-eq-MOST_LISTED.false, c.requires) in
    let e : folder_in (answer c.args.path) ≡ Some c.in-Some.folder.now = ap folder_in (sym c.in_ok-answer.ensures.answer) ∙ sym c.in-Some.ensures in
    IfOk-weaker c.list_names.result _ _
    (λ whole s. lists_folder answer c.args.path c.in-Some.folder.now _ _ _ whole few e room c.in_ok-push.ensures.items (lists_at answer _ c.args.path c.in-Some.folder.now _ _ whole c.in_ok-place.ensures s)) c.list_names.ensures

pub list_from-returns : goal.list_from-returns
list_from-returns t c =
    let answer = answer_of (held_of c.args.shot.now) in
    let room : length c.args.paths.now.items < 65536 = omega (arith, c.len.ensures, c.if-len-eq-MOST_LISTED.false, c.requires) in
    lists_as (sym (walk_none answer (16 - length c.args.path) c.args.path (ap folder_in (sym c.in_ok-answer.ensures.answer) ∙ sym c.in-None.ensures))) (lists_pushed c.args.path _ _ room c.in_ok-push.ensures.items)

pub list_names-loop-i-init : goal.list_names-loop-i-init
list_names-loop-i-init t c = record { lists = lists_nothing _ c.requires.few; few = c.requires.few }

pub list_names-returns-then-not-whole : goal.list_names-returns-then-not-whole
list_names-returns-then-not-whole t c =
    full_lists (answer_of (held_of c.args.shot.now)) (15 - length c.args.path.now) c.args.path.now c.args.folder.now c.loop-i.i c.name-name.result.now _ _ _
    c.name-name.ensures (unmet _ _ _ c.name-name.ensures (sym c.is_first.ensures ∙ c.if-is_first.true)) c.loop-i.invariant.lists (rw c.if-not-whole.true at c.in_ok-whole.ensures)

pub list_names-loop-i-preserved : goal.list_names-loop-i-preserved
list_names-loop-i-preserved t c =
    let answer = answer_of (held_of c.args.shot.now) in
    let room = 15 - length c.args.path.now in
    elim c.if-is_first.branch [
      | list_names-then-is_first+in_ok-whole+else-not-whole w ↦ rw w.paths-is (record {
        lists = next_lists answer room c.args.path.now c.args.folder.now c.loop-i.i c.name-name.result.now _ _ _
            c.name-name.ensures (unmet _ _ _ c.name-name.ensures (sym c.is_first.ensures ∙ w.if-is_first.true)) c.loop-i.invariant.lists (rw w.if-not-whole.false at w.in_ok-whole.ensures);
        few = few_after w.in_ok-whole.ensures;
      })
      | list_names-else-is_first w ↦
          let same = below_met answer room c.args.path.now c.args.folder.now c.loop-i.i c.name-name.result.now c.name-name.ensures (met _ _ _ c.name-name.ensures (sym c.is_first.ensures ∙ w.if-is_first.false)) in
          rw w.paths-is (record { lists = lists_as (sym same) c.loop-i.invariant.lists; few = c.loop-i.invariant.few })
    ]

pub list_names-returns : goal.list_names-returns
list_names-returns t c =
    let all : length c.args.folder.now ≤ c.loop-i.i = omega (arith, c.count-i-end.ensures, c.loop-i-test.false) in
    rw (take_all c.loop-i.i c.args.folder.now all) at c.loop-i.invariant.lists
