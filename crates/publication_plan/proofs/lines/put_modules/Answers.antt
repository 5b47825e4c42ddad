use Rattle.std.proofs.Common.{◌∙◌, arith}
use Rattle.std.specs.String.{string_bytes}
use Rattle.publication_plan.specs.Telling.{module_line}
use Rattle.publication_plan.proofs.Between.{lines_over}
use Rattle.publication_plan.proofs.lines.put_modules.Goals as goal

pub loop-id-preserved : goal.loop-id-preserved
loop-id-preserved g c =
    lines_over (module_line c.args.weigh.now.weights c.args.generation.now) c.lines-id-items.result.now c.loop-id.id-index (0, 0) (string_bytes c.loop-id.text) c.deref.result.now (string_bytes c.push_str.new.self) (string_bytes c.args.text.now)
    (omega arith) c.loop-id.invariant (c.deref.ensures ∙ c.in_ok-line.ensures) c.in_ok-push_str.ensures.bytes
