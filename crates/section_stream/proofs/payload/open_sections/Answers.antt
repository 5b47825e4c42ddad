use Rattle.std.proofs.Common.{sym, ◌∙◌, arith, length-drop}
use Rattle.section_stream.proofs.Completing.{on_err, open-gives}
use Rattle.section_stream.proofs.Opening.{open-ends, open-growing, open-oversize, open-whole, rest_is}
use Rattle.section_stream.proofs.payload.open_sections.Goals as goal

pub returns-in-Growing-clause-done : goal.returns-in-Growing-clause-done
returns-in-Growing-clause-done c = c.loop-here.invariant.whole _ _ _ (open-growing _ _ _ (sym c.has_no_section.ensures ∙ c.loop-here-test.true) (sym c.in-Growing.ensures))

pub returns-in-Oversize-clause-done : goal.returns-in-Oversize-clause-done
returns-in-Oversize-clause-done c =
    c.loop-here.invariant.whole _ _ _
    (rw c.up-counts.ensures (open-oversize c.loop-here.here.now c.loop-here.counts _ (sym c.has_no_section.ensures ∙ c.loop-here-test.true) (sym c.in-Oversize.ensures)))

pub loop-here-preserved : goal.loop-here-preserved
loop-here-preserved c =
    let begins = sym c.has_no_section.ensures ∙ c.loop-here-test.true in
    record {
      within = rw rest_is (omega (arith, length-drop c.in-Whole.n c.loop-here.here.now, c.loop-here.invariant.within));
      whole = λ left candidates counts done. c.loop-here.invariant.whole left candidates counts
          (open-whole c.loop-here.here.now c.loop-here.counts c.in-Whole.n _ left _ _ candidates counts c.loop-here.invariant.within begins (sym c.in-Whole.ensures) (rest_is c.loop-here.here.now c.in-Whole.n) c.in_ok-complete-in-Whole.ensures done);
      kept = c.loop-here.invariant.kept;
      asked = λ _. c.loop-here.invariant.asked (open-gives c.loop-here.here.now c.loop-here.counts c.in-Whole.n c.loop-here.invariant.within begins (sym c.in-Whole.ensures));
    }

pub returns-clause-done : goal.returns-clause-done
returns-clause-done c = c.loop-here.invariant.whole _ _ _ (open-ends _ _ _ (sym c.has_no_section.ensures ∙ c.loop-here-test.false))

pub returns-in_err-complete-in-Whole-clause-memory : goal.returns-in_err-complete-in-Whole-clause-memory
returns-in_err-complete-in-Whole-clause-memory c = on_err _ (c.loop-here.invariant.asked
    (open-gives c.loop-here.here.now c.loop-here.counts c.in-Whole.n c.loop-here.invariant.within (sym c.has_no_section.ensures ∙ c.loop-here-test.true) (sym c.in-Whole.ensures)))

pub returns-in_err-complete-in-Whole-clause-err : goal.returns-in_err-complete-in-Whole-clause-err
returns-in_err-complete-in-Whole-clause-err c = on_err _ c.loop-here.invariant.kept
