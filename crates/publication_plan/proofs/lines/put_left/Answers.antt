use Rattle.std.proofs.Common.{arith, ◌∙◌}
use Rattle.std.specs.String.{string_bytes}
use Rattle.folder_store.specs.Surveys.{view_standing}
use Rattle.publication_plan.specs.Telling.{left_line}
use Rattle.publication_plan.proofs.Between.{mapped_more}
use Rattle.publication_plan.proofs.lines.put_left.Goals as goal

pub loop-standing-preserved : goal.loop-standing-preserved
loop-standing-preserved c =
    mapped_more view_standing left_line c.args.left.now c.loop-standing.standing-index c.standing-item.result (string_bytes c.loop-standing.text) c.deref.result.now (string_bytes c.push_str.new.self) (string_bytes c.args.text.now)
    (omega arith) c.standing-item.is c.loop-standing.invariant (c.deref.ensures ∙ c.in_ok-line.ensures) c.in_ok-push_str.ensures.bytes
