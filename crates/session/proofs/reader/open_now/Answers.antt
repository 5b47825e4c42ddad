use Rattle.session.proofs.Words.{◌<◌, length, sym, ap, ◌∙◌, subst, arith, get_or_default, refl, on_ok_weaker, ReaderSeat, ReaderStands, ReadersStand, Global, Vec}
use Rattle.session.proofs.Reading.{has_room, nobody_opens, opened_now}
use Rattle.session.proofs.Lists.{none_more}
use Rattle.session.proofs.reader.open_now.Goals as goal

pub loop-place-preserved : goal.loop-place-preserved
loop-place-preserved c = let i = c.loop-place.invariant in
    let there : c.loop-place.place < length c.loop-place.seats.items = let same = ap (λ (v : Vec ReaderSeat Global). length v.items) i.same in omega arith in record {
      same = i.same;
      past = none_more (λ (seat : ReaderSeat). seat.pass.reader) c.args.reader c.loop-place.seats.items c.loop-place.place c.index.result.now there c.index.ensures
          (λ e. c.if-reader.false (c.reader.ensures ∙ e)) i.past;
    }

pub open-requires : goal.open-requires
open-requires c = let i = c.loop-place.invariant in let seats = c.loop-place.seats.items in let was = c.index_mut.result.now in let n = c.requires in
    let there : c.loop-place.place < length seats = let same = ap (λ (v : Vec ReaderSeat Global). length v.items) i.same in omega arith in
    has_room n.0 n.1 n.2 c.loop-place.place was c.args.reader c.args.path
    (ap (λ (seat : ReaderSeat). seat.pass.reader) (c.index_mut.ensures.value ∙ get_or_default seats c.loop-place.place was c.index.result.now there ∙ sym c.index.ensures) ∙ sym c.reader.ensures ∙ c.if-reader.true)
    (subst (ReaderStands n.0 n.1 n.2 c.loop-place.place) (sym c.index_mut.ensures.value)
    ((subst (λ (v : Vec ReaderSeat Global). ReadersStand n.0 n.1 n.2 v.items) (sym i.same) n.3).1 c.loop-place.place was there)) n.4

pub returns-then-reader : goal.returns-then-reader
returns-then-reader c = let i = c.loop-place.invariant in let seats = c.loop-place.seats.items in let was = c.index_mut.result.now in
    let there : c.loop-place.place < length seats = let same = ap (λ (v : Vec ReaderSeat Global). length v.items) i.same in omega arith in
    on_ok_weaker c.open.result (λ opens setting done shots count st.
    opened_now setting done shots seats c.args.reader c.args.path c.loop-place.place was _ there c.index_mut.ensures.value
    (ap (λ (seat : ReaderSeat). seat.pass.reader) (c.index_mut.ensures.value ∙ get_or_default seats c.loop-place.place was c.index.result.now there ∙ sym c.index.ensures) ∙ sym c.reader.ensures ∙ c.if-reader.true)
    c.open.ensures.same c.open.ensures.told c.open.ensures.most refl refl opens count
    (subst (λ (v : Vec ReaderSeat Global). ReadersStand setting done shots v.items) (sym i.same) st)) c.open.ensures.opened

pub returns : goal.returns
returns c = let i = c.loop-place.invariant in λ setting done shots count st.
    nobody_opens setting done shots c.loop-place.seats.items c.args.reader c.args.path
    (λ k d lt. i.past k d (let same = ap (λ (v : Vec ReaderSeat Global). length v.items) i.same in omega arith))
    (subst (λ (v : Vec ReaderSeat Global). ReadersStand setting done shots v.items) (sym i.same) st)
