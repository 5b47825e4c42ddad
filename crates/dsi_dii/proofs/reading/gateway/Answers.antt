use Rattle.std.proofs.Common.{arith}
use Rattle.dsi_dii.proofs.reading.gateway.Goals as goal

pub overflow_add-result : goal.overflow_add-result
overflow_add-result c = omega (arith, rw c.in-Err-BadIor.field-0-is at c.in-Err-BadIor.ensures.inside)
