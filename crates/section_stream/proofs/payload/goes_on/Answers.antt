use Rattle.std.proofs.Common.{◌++◌, Some, refl, sym, ◌∙◌, ap}
use Rattle.section_stream.specs.Inner.Steps.{bytes_of}
use Rattle.section_stream.proofs.Completing.{on_err, on_err_both}
use Rattle.section_stream.proofs.Handing.{goes_none, goes_growing, goes_oversize, goes_whole, goes_out, still_open, whole_with, length_items}
use Rattle.section_stream.proofs.Opening.{growing_bound, whole_bounds, whole_most}
use Rattle.section_stream.proofs.payload.goes_on.Goals as goal

pub returns-in_default-clause-done : goal.returns-in_default-clause-done
returns-in_default-clause-done c = rw c.up-counts.ensures (goes_none _ _ _ _ _ (sym c.in_default.ensures) c.close.ensures)

pub grow-requires-clause-open : goal.grow-requires-clause-open
grow-requires-clause-open c = rw (still_open c.args.jumped c.args.opened.now c.in-Some.bytes.now (sym c.in-Some.ensures)) refl

pub grow-requires-clause-room : goal.grow-requires-clause-room
grow-requires-clause-room c =
    rw (still_open c.args.jumped c.args.opened.now c.in-Some.bytes.now (sym c.in-Some.ensures)) (growing_bound (c.in-Some.bytes.now ++ c.args.payload.now) (sym c.in-Growing.ensures))

pub returns-in-Growing-clause-done : goal.returns-in-Growing-clause-done
returns-in-Growing-clause-done c =
    goes_growing _ c.in-Some.bytes.now _ _ _ _ (sym c.in-Some.ensures) (sym c.in-Growing.ensures)
    (c.grow.ensures ∙ ap (λ x. Some (bytes_of x ++ c.args.payload.now)) (still_open c.args.jumped c.args.opened.now c.in-Some.bytes.now (sym c.in-Some.ensures)))

pub returns-in-Oversize-clause-done : goal.returns-in-Oversize-clause-done
returns-in-Oversize-clause-done c =
    rw c.up-counts-in-Oversize.ensures (goes_oversize _ c.in-Some.bytes.now _ _ _ _ (sym c.in-Some.ensures) (sym c.in-Oversize.ensures) c.close-in-Oversize.ensures)

pub hand_over-requires-clause-whole : goal.hand_over-requires-clause-whole
hand_over-requires-clause-whole c =
    let whole = sym c.in-Whole.ensures in
    whole_with c.args.opened.now c.in-Some.bytes.now c.args.payload.now c.in-Whole.n (still_open c.args.jumped c.args.opened.now c.in-Some.bytes.now (sym c.in-Some.ensures))
    (whole_bounds (c.in-Some.bytes.now ++ c.args.payload.now) c.in-Whole.n whole).1 (whole_most (c.in-Some.bytes.now ++ c.args.payload.now) c.in-Whole.n whole)

pub returns-in_ok-hand_over-in-Whole-clause-done : goal.returns-in_ok-hand_over-in-Whole-clause-done
returns-in_ok-hand_over-in-Whole-clause-done c =
    goes_whole c.args.opened.now _ c.in-Some.bytes.now c.args.payload.now _ c.in-Whole.n c.len-index.result _ _ _
    (still_open c.args.jumped c.args.opened.now c.in-Some.bytes.now (sym c.in-Some.ensures)) (sym c.in-Some.ensures) (sym c.in-Whole.ensures)
    (length_items c.args.out.now.items _ _ c.len-index.ensures c.args.out.now.ok.0) c.in_ok-hand_over-in-Whole.ensures.out c.in_ok-hand_over-in-Whole.ensures.closed

pub returns-in_err-hand_over-in-Whole-clause-memory : goal.returns-in_err-hand_over-in-Whole-clause-memory
returns-in_err-hand_over-in-Whole-clause-memory c = on_err _ (goes_out _ c.in-Some.bytes.now c.args.payload.now _ c.in-Whole.n (sym c.in-Some.ensures) (sym c.in-Whole.ensures))

pub returns-in_err-hand_over-in-Whole-clause-err : goal.returns-in_err-hand_over-in-Whole-clause-err
returns-in_err-hand_over-in-Whole-clause-err c = on_err_both _ c.in_err-hand_over-in-Whole.ensures.err refl
