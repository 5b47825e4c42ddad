use Rattle.session.proofs.Words.{rules, ◌≡◌, ◌+◌, ◌∷◌, [], ◌++◌, List, map, length, inl, ap, ◌∙◌, subst, arith, length-append, PathNames, Asked, HasOpened, asked_at, items_came}
use Rattle.session.proofs.Opening.{begins_later}
use Rattle.session.proofs.Lists.{one_more}
use Rattle.session.proofs.reader.read.Goals as goal

pub loop-path-preserved : goal.loop-path-preserved
loop-path-preserved g c = let i = c.loop-path.invariant in let o = c.open.ensures in
    let told_before : length c.loop-path.seat.pass.told ≡ length c.args.seat.now.pass.told = ap length i.told in record {
      unfinished = i.unfinished;
      finales = i.finales;
      same = (o.same.0 ∙ i.same.0, o.same.1 ∙ i.same.1, o.same.2 ∙ i.same.2, o.same.3 ∙ i.same.3);
      told = o.told ∙ i.told;
      known = begins_later c.args.seat.now.pass.known c.loop-path.seat.pass.known c.open.new.pass.known i.known o.known;
      most = λ _. o.most;
      count = let more = c.in-Ok.ensures.count in let so_far = i.count in let n = length-append c.loop-path.yielded (c.in-Some.path ∷ []) in omega (arith, more, so_far, n);
      opened = λ least asked enough has.
          subst (λ (ps : List Asked). HasOpened ps c.open.new.pass) (one_more (asked_at least) asked c.loop-path.yielded c.in-Some.path)
          (c.in-Ok.ensures.opened least (asked ++ map (asked_at least) c.loop-path.yielded) (inl (omega (arith, enough, told_before))) (i.opened least asked enough has));
    }

pub returns : goal.returns
returns g c = let i = c.loop-path.invariant in
    let end = items_came c.into_iter-path-iterator.result c.replace-paths.result.items (search rules) (search rules) c.loop-path.yielded c.loop-path.path-iterator c.loop-path.yielded_by c.next.new.self c.in-None.is c.next.ensures.steps in
    let all : c.loop-path.yielded ≡ c.args.seat.now.paths.items = end ∙ ap (λ v. v.items) c.replace-paths.ensures.value in
    record {
      same = i.same;
      told = i.told;
      known = i.known;
      most = i.most;
      whole = λ _ least asked enough has. subst (λ (ps : List PathNames). HasOpened (asked ++ map (asked_at least) ps) c.loop-path.seat.pass) all (i.opened least asked enough has);
      finales = i.finales;
      opens = λ _. i.count ∙ ap (λ (ps : List PathNames). length c.args.seat.now.pass.opens + length ps) all;
    }
