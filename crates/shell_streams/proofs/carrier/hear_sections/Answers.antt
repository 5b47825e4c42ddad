use Rattle.std.proofs.Common.{◌≡◌, ◌<◌, ◌++◌, ◌∷◌, [], length, take, Ok, sym, ap, ◌∙◌, arith, length-append}
use Rattle.std.proofs.lemmas.Result.{err_from_is_err_and}
use Rattle.std.proofs.lemmas.Bool.{true≢false}
use Rattle.shell_streams.specs.declared.input.InputFault.TheVariants as inputs
use Rattle.shell_streams.proofs.Cutting.{told_next, told_end, told_rear, stopped_other, stopped_long, ended_few, ended_full}
use Rattle.shell_streams.proofs.Putting.{rose_last}
use Rattle.shell_streams.proofs.Hearing.{hears_end, hears_fault}
use Rattle.shell_streams.proofs.carrier.hear_sections.Goals as goal

pub returns-in_err-len : goal.returns-in_err-len
returns-in_err-len g c =
    let p = err_from_is_err_and c.from_residual-in_err-len.result c.from_residual-in_err-len.ensures.1 in
    rw (p.1, p.2) (hears_fault inputs.Failed
    (stopped_other inputs.Failed (λ e. cc) (told_rear _ c.next_section.new.unread _ c.loop-taken.invariant.sections (rw c.next_section.ensures.rest c.loop-taken.invariant.cut)))
    (omega (arith, c.loop-taken.invariant.later, c.next_section.ensures.later)) (λ _. rose_last c.loop-taken.invariant.later c.in_err-len.ensures.cause))

pub returns-in_default : goal.returns-in_default
returns-in_default g c =
    let few : length c.loop-taken.invariant.sections < c.args.most = omega (arith, c.loop-taken.invariant.number, c.loop-taken-test.true) in
    hears_end (record {
      taken = c.loop-taken.invariant.sections;
      told = ended_few c.args.most _ _ c.loop-taken.invariant.sections few
          (told_end _ c.next_section.new.unread _ c.loop-taken.invariant.sections (sym c.in_ok-len.ensures.len ∙ c.in_default.is) (c.in_ok-len.ensures.ended (ap Ok c.in_default.is))
          (rw c.next_section.ensures.rest c.loop-taken.invariant.cut));
      heard = c.loop-taken.invariant.heard;
    }) (omega (arith, c.loop-taken.invariant.later, c.next_section.ensures.later))

pub returns-in_err-hear : goal.returns-in_err-hear
returns-in_err-hear g c =
    let p = err_from_is_err_and c.from_residual-in_err-hear.result c.from_residual-in_err-hear.ensures.1 in
    rw (p.1, p.2) (hears_fault inputs.NoMemory
    (stopped_other inputs.NoMemory (λ e. cc) (told_rear _ c.next_section.new.unread _ c.loop-taken.invariant.sections (rw c.next_section.ensures.rest c.loop-taken.invariant.cut)))
    (omega (arith, c.loop-taken.invariant.later, c.next_section.ensures.later)) (λ e. absurd (cc)))

pub loop-taken-preserved : goal.loop-taken-preserved
loop-taken-preserved g c = record {
  sections = c.loop-taken.invariant.sections ++ take c.in-Some.len c.next_section.new.unread ∷ [];
  number = omega (arith, length-append c.loop-taken.invariant.sections (take c.in-Some.len c.next_section.new.unread ∷ []), c.loop-taken.invariant.number);
  cut = rw c.pass.ensures (told_next _ c.next_section.new.unread _ c.loop-taken.invariant.sections c.in-Some.len (sym c.in_ok-len.ensures.len ∙ c.in-Some.is)
      (rw c.next_section.ensures.rest c.loop-taken.invariant.cut));
  heard = rw c.held.ensures at (c.in_ok-hear.ensures _ c.loop-taken.invariant.sections c.loop-taken.invariant.heard);
  later = omega (arith, c.loop-taken.invariant.later, c.next_section.ensures.later);
}

pub returns-in_err-goes_on : goal.returns-in_err-goes_on
returns-in_err-goes_on g c =
    let p = err_from_is_err_and c.from_residual-in_err-goes_on.result c.from_residual-in_err-goes_on.ensures.1 in
    rw (p.1, p.2) (hears_fault inputs.Failed
    (stopped_other inputs.Failed (λ e. cc) (told_rear _ c.goes_on.new.unread _ c.loop-taken.invariant.sections (rw c.goes_on.ensures.rest c.loop-taken.invariant.cut)))
    (omega (arith, c.loop-taken.invariant.later, c.goes_on.ensures.later)) (λ _. rose_last c.loop-taken.invariant.later c.in_err-goes_on.ensures.cause))

pub returns-then-branch : goal.returns-then-branch
returns-then-branch g c =
    let full : length c.loop-taken.invariant.sections ≡ c.args.most = omega (arith, c.loop-taken.invariant.number, c.loop-taken-test.false, c.loop-taken.auto.taken-end) in
    hears_fault inputs.TooLong
    (stopped_long c.args.most _ c.loop-taken.unread c.goes_on.new.unread _ _ c.loop-taken.invariant.sections full c.loop-taken.invariant.cut c.goes_on.ensures.rest
    (λ rest e. (c.in_ok-goes_on.ensures.more rest e).0 c.if-branch.true))
    (omega (arith, c.loop-taken.invariant.later, c.goes_on.ensures.later)) (λ e. absurd (cc))

pub returns : goal.returns
returns g c =
    let full : length c.loop-taken.invariant.sections ≡ c.args.most = omega (arith, c.loop-taken.invariant.number, c.loop-taken-test.false, c.loop-taken.auto.taken-end) in
    hears_end (record {
      taken = c.loop-taken.invariant.sections;
      told = ended_full c.args.most _ c.loop-taken.unread c.goes_on.new.unread _ _ c.loop-taken.invariant.sections full
          c.loop-taken.invariant.cut c.goes_on.ensures.rest (c.in_ok-goes_on.ensures.ended (ap Ok c.if-branch.false))
          (λ rest e n. true≢false (sym ((c.in_ok-goes_on.ensures.more rest e).1 n) ∙ c.if-branch.false));
      heard = c.loop-taken.invariant.heard;
    }) (omega (arith, c.loop-taken.invariant.later, c.goes_on.ensures.later))
