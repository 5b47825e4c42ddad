use Rattle.session.proofs.Words.{◌<◌, List, length, sym, ap, ◌∙◌, subst, arith, dite, ℕ_discrete, slice_index_or, slice_set, refl, length-set, get_or-set_at, get_or-set_other, IsPrefix, Shot, ReaderSeat, ReaderStands, shown_by}
use Rattle.shot_board.specs.declared.front.Front.{Front}
use Rattle.session.proofs.Reading.{told_all}
use Rattle.session.proofs.reader.tell.Goals as goal

pub loop-place-preserved : goal.loop-place-preserved
loop-place-preserved c = let i = c.loop-place.invariant in let seats = c.loop-place.seats.items in let place = c.loop-place.place in let was = c.index_mut.result.now in
    let shown = shown_by c.args.shower.now in let o = c.learn.ensures in let new : ReaderSeat = record { pass = c.learn.new.self; paths = was.paths; finales = was.finales; whole = was.whole } in
    let there : place < length seats = omega arith in record {
      shows = (ap (λ (f : Front Shot). f.seen.log) c.front.ensures.same.0 ∙ i.shows.0, (c.front.ensures.same.1.0 ∙ i.shows.1.0, c.front.ensures.same.1.1 ∙ i.shows.1.1));
      count = length-set seats place new ∙ i.count;
      left = λ k d le lt. get_or-set_other seats place k new d (λ e. omega (arith, e, le)) ∙ i.left k d (omega (arith, le)) lt;
      told = λ setting done shots st k d lt below. dite (ℕ_discrete k place)
          (λ e. subst (ReaderStands setting done shown k) (sym (get_or-set_at seats place k new d e there))
          (told_all setting done shots shown k was new o.same.0 o.same.1 o.same.2 (subst (λ (xs : List Shot). IsPrefix xs new.pass.told) (c.front.ensures.list ∙ i.shows.0) o.told.1) refl refl
          (subst (ReaderStands setting done shots k) (sym (c.index_mut.ensures.value ∙ ap (λ n. slice_index_or seats n was) (sym e) ∙ i.left k was (omega (arith, e)) below)) (st.1 k was below))))
          (λ ne. subst (ReaderStands setting done shown k) (sym (get_or-set_other seats place k new d ne)) (i.told setting done shots st k d (omega (arith, lt, ne)) below));
    }

pub returns-clause-told : goal.returns-clause-told
returns-clause-told c = let i = c.loop-place.invariant in λ setting done shots st. (i.count ∙ st.0, λ k d lt. let count = i.count in i.told setting done shots st k d (omega (arith, lt, count)) (omega (arith, lt, count)))
