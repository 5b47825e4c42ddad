use Rattle.oc_bytes.proofs.Digits.{text_of_decimal, parsed}
use Rattle.oc_bytes.proofs.decimals.value_of.Goals as goal

pub returns-in-Ok : goal.returns-in-Ok
returns-in-Ok c = rw c.ok.ensures.value (parsed c.args.digits.now c.parse.result (rw c.in-Ok.ensures.cases.0 at c.parse.ensures.value.0) c.requires)

pub returns-in-Err : goal.returns-in-Err
returns-in-Err c = absurd (c.in-Err.ensures.cases.0 (text_of_decimal c.args.digits.now c.requires))
