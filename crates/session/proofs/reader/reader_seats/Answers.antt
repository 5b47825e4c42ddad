use Rattle.session.proofs.Words.{ℕ, List, [], ◌∷◌, ◌++◌, ◌<◌, ◌+◌, ◌≡◌, ◌∙◌, length, ap, sym, subst, arith, rules, refl, length-append, lists_of, slice_index_or, EachAt, ReaderSeat, Happening, count_by, is_open_by, view_happening, item_comes, items_came}
use Rattle.open_history.specs.Opens.{reader_view}
use Rattle.session.proofs.Reading.{IsNewReader, new_readers}
use Rattle.session.proofs.Lists.{each_push, pushed_count}
use Rattle.session.proofs.Taking.{AreLeft, left_on}
use Rattle.session.proofs.reader.reader_seats.Goals as goal

pub bounds-numbers-len : goal.bounds-numbers-len
bounds-numbers-len c =
    let turn = item_comes c.into_iter-viewer-iterator.result c.args.viewers.items (search rules) (search rules) c.loop-viewer.yielded c.loop-viewer.viewer-iterator c.loop-viewer.yielded_by c.next.new.self c.in-Some.is c.next.ensures.steps in
    let count = c.loop-viewer.invariant.count in let lt = turn.0 in let all = c.requires.count.0 in let len = c.len.ensures in omega (arith, lt, all, count, len)

pub offset_bounds-numbers-len : goal.offset_bounds-numbers-len
offset_bounds-numbers-len c =
    let turn = item_comes c.into_iter-viewer-iterator.result c.args.viewers.items (search rules) (search rules) c.loop-viewer.yielded c.loop-viewer.viewer-iterator c.loop-viewer.yielded_by c.next.new.self c.in-Some.is c.next.ensures.steps in
    let count = c.loop-viewer.invariant.count in let lt = turn.0 in let all = c.requires.count.0 in let few = c.requires.count.1 in let len = c.len.ensures in omega (arith, lt, all, few, count, len)

pub loop-viewer-preserved : goal.loop-viewer-preserved
loop-viewer-preserved c =
    let turn = item_comes c.into_iter-viewer-iterator.result c.args.viewers.items (search rules) (search rules) c.loop-viewer.yielded c.loop-viewer.viewer-iterator c.loop-viewer.yielded_by c.next.new.self c.in-Some.is c.next.ensures.steps in
    let i = c.loop-viewer.invariant in let ns = c.args.numbers.now in let seats = c.loop-viewer.seats.items in let k = length c.loop-viewer.yielded in let n = slice_index_or ns c.len.result 0 in
    let paths = lists_of c.args.paths in let finales = lists_of c.args.finales in
    let lt : k < length ns = let below = turn.0 in let all = c.requires.count.0 in omega (arith, below, all) in
    let at : c.len.result ≡ length seats = let len = c.len.ensures in let ok = c.loop-viewer.seats.ok.0 in omega (arith, len, ok) in
    let here : n ≡ slice_index_or ns k 0 = ap (λ (j : ℕ). slice_index_or ns j 0) (at ∙ i.count) in
    let one : length (c.loop-viewer.yielded ++ c.in-Some.viewer ∷ []) ≡ k + 1 = length-append c.loop-viewer.yielded (c.in-Some.viewer ∷ []) in
    let New = IsNewReader ns c.args.viewers.items c.args.before.now paths finales in record {
      count = let new = pushed_count _ _ _ c.in_ok-push.ensures.items in let was = i.count in omega (arith, one, new, was);
      made = subst (EachAt New) (sym c.in_ok-push.ensures.items) (each_push New seats _ i.made (record {
        viewer = c.in-Some.viewer;
        room = c.in_ok-room.room;
        pass = c.in-Ok.ensures.ok ∙ ap (λ (j : ℕ). reader_view (slice_index_or ns j 0) c.in_ok-room.room c.in-Some.viewer [] 0) at;
        its = turn.1 ∙ ap (λ (j : ℕ). slice_index_or c.args.viewers.items j c.in-Some.viewer) (sym i.count);
        enough = let sum = c.in_ok-room.ensures.sum in let a = c.len-in-loop-viewer.ensures in let b = c.len-in-loop-viewer-2.ensures in
            let p = c.take-its_paths.result.ok.0 in let f = c.take-its_finales.result.ok.0 in
            let opened = c.count_opens-opens.ensures ∙ ap (λ (j : ℕ). count_by (λ (d : Happening). is_open_by (slice_index_or ns j 0) (view_happening d)) c.args.before.now) at in
            omega (arith, sum, opened, a, b, p, f);
        paths_are = c.take-its_paths.ensures.list ∙ ap (lists_of c.loop-viewer.paths) here ∙ i.paths_left k (omega arith) lt ∙ ap (λ (j : ℕ). paths (slice_index_or ns j 0)) (sym i.count);
        finales_are = c.take-its_finales.ensures.list ∙ ap (lists_of c.loop-viewer.finales) here ∙ i.finales_left k (omega arith) lt ∙ ap (λ (j : ℕ). finales (slice_index_or ns j 0)) (sym i.count);
      }));
      paths_left = subst (λ (j : ℕ). AreLeft ns j paths (lists_of c.take-its_paths.new.self)) (sym one)
          (left_on ns k paths (lists_of c.loop-viewer.paths) (lists_of c.take-its_paths.new.self) n c.requires.apart lt here i.paths_left c.take-its_paths.ensures.left);
      finales_left = subst (λ (j : ℕ). AreLeft ns j finales (lists_of c.take-its_finales.new.self)) (sym one)
          (left_on ns k finales (lists_of c.loop-viewer.finales) (lists_of c.take-its_finales.new.self) n c.requires.apart lt here i.finales_left c.take-its_finales.ensures.left);
    }

pub returns : goal.returns
returns c =
    let end = items_came c.into_iter-viewer-iterator.result c.args.viewers.items (search rules) (search rules) c.loop-viewer.yielded c.loop-viewer.viewer-iterator c.loop-viewer.yielded_by c.next.new.self c.in-None.is c.next.ensures.steps in
    λ setting shots are above below last one each. new_readers setting c.args.numbers.now c.args.viewers.items c.args.before.now (lists_of c.args.paths) (lists_of c.args.finales) c.loop-viewer.seats.items
    (c.loop-viewer.invariant.count ∙ ap length end) c.requires.count.0 c.loop-viewer.invariant.made shots are above below last one each
