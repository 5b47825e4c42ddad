use Rattle.std.proofs.Common.{arith}
use Rattle.std.specs.String.{string_bytes}
use Rattle.publication_plan.proofs.Between.{rest_within, telling_next}
use Rattle.publication_plan.proofs.lines.put_entries.Goals as goal

pub loop-object-preserved : goal.loop-object-preserved
loop-object-preserved c = record {
  within = rest_within c.args.left.now c.loop-object.next c.in_ok-next.field-0 c.loop-object.invariant.within c.in_ok-next.ensures.within;
  telling = telling_next c.args.tree.now c.args.objects.now c.args.left.now (string_bytes c.loop-object.text) (string_bytes c.put_first.new.text) (string_bytes c.put_object.new.text) (string_bytes c.args.text.now)
      c.loop-object.object-index c.loop-object.next c.in_ok-next.field-0 c.object-item.result (omega arith) c.object-item.is c.in_ok-next.ensures.count c.in_ok-next.ensures.text c.in_ok-put_object.ensures
      c.loop-object.invariant.telling;
}
