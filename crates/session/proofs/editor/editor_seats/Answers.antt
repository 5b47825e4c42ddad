use Rattle.session.proofs.Words.{ℕ, List, [], ◌∷◌, ◌++◌, ◌<◌, ◌+◌, ◌≡◌, ◌∙◌, length, ap, sym, subst, arith, rules, refl, length-append, lists_of, slice_index_or, EachAt, EditorSeat, item_comes, items_came}
use Rattle.session.proofs.Editing.{IsNewEditor, new_editors}
use Rattle.session.proofs.Lists.{each_push, pushed_count}
use Rattle.session.proofs.Taking.{AreLeft, left_on}
use Rattle.session.proofs.editor.editor_seats.Goals as goal

pub bounds-numbers-len : goal.bounds-numbers-len
bounds-numbers-len g c =
    let turn = item_comes c.into_iter-pass-iterator.result c.args.passes.items (search rules) (search rules) c.loop-pass.yielded c.loop-pass.pass-iterator c.loop-pass.yielded_by c.next.new.self c.in-Some.is c.next.ensures.steps in
    let count = c.loop-pass.invariant.count in let lt = turn.0 in let all = c.requires.count.0 in let len = c.len.ensures in omega (arith, lt, all, count, len)

pub offset_bounds-numbers-len : goal.offset_bounds-numbers-len
offset_bounds-numbers-len g c =
    let turn = item_comes c.into_iter-pass-iterator.result c.args.passes.items (search rules) (search rules) c.loop-pass.yielded c.loop-pass.pass-iterator c.loop-pass.yielded_by c.next.new.self c.in-Some.is c.next.ensures.steps in
    let count = c.loop-pass.invariant.count in let lt = turn.0 in let all = c.requires.count.0 in let few = c.requires.count.1 in let len = c.len.ensures in omega (arith, lt, all, few, count, len)

pub loop-pass-preserved : goal.loop-pass-preserved
loop-pass-preserved g c =
    let turn = item_comes c.into_iter-pass-iterator.result c.args.passes.items (search rules) (search rules) c.loop-pass.yielded c.loop-pass.pass-iterator c.loop-pass.yielded_by c.next.new.self c.in-Some.is c.next.ensures.steps in
    let i = c.loop-pass.invariant in let ns = c.args.numbers.now in let seats = c.loop-pass.seats.items in let k = length c.loop-pass.yielded in let n = slice_index_or ns c.len.result 0 in
    let lt : k < length ns = let below = turn.0 in let all = c.requires.count.0 in omega (arith, below, all) in
    let at : c.len.result ≡ length seats = let len = c.len.ensures in let ok = c.loop-pass.seats.ok.0 in omega (arith, len, ok) in
    let here : n ≡ slice_index_or ns k 0 = ap (λ (j : ℕ). slice_index_or ns j 0) (at ∙ i.count) in
    let one : length (c.loop-pass.yielded ++ c.in-Some.pass ∷ []) ≡ k + 1 = length-append c.loop-pass.yielded (c.in-Some.pass ∷ []) in record {
      count = let new = pushed_count _ _ _ c.in_ok-push.ensures.items in let was = i.count in omega (arith, one, new, was);
      made = subst (EachAt (IsNewEditor ns c.args.passes.items (lists_of c.args.commits))) (sym c.in_ok-push.ensures.items) (each_push (IsNewEditor ns c.args.passes.items (lists_of c.args.commits)) seats _ i.made (
        ap (λ (j : ℕ). slice_index_or ns j 0) at,
        turn.1 ∙ ap (λ (j : ℕ). slice_index_or c.args.passes.items j c.in-Some.pass) (sym i.count),
        c.take-its_commits.ensures.list ∙ ap (lists_of c.loop-pass.commits) here ∙ i.left k (omega arith) lt ∙ ap (lists_of c.args.commits) (sym here),
      ));
      left = subst (λ (j : ℕ). AreLeft ns j (lists_of c.args.commits) (lists_of c.take-its_commits.new.self)) (sym one)
          (left_on ns k (lists_of c.args.commits) (lists_of c.loop-pass.commits) (lists_of c.take-its_commits.new.self) n c.requires.apart lt here i.left c.take-its_commits.ensures.left);
    }

pub returns : goal.returns
returns g c =
    let end = items_came c.into_iter-pass-iterator.result c.args.passes.items (search rules) (search rules) c.loop-pass.yielded c.loop-pass.pass-iterator c.loop-pass.yielded_by c.next.new.self c.in-None.is c.next.ensures.steps in
    λ setting are laid. new_editors setting c.args.station.now c.args.numbers.now c.args.passes.items (lists_of c.args.commits) c.loop-pass.seats.items c.requires.passes
    (c.loop-pass.invariant.count ∙ ap length end) c.requires.count.0 c.loop-pass.invariant.made are laid
