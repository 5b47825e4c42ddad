use Rattle.std.proofs.Common.{sym, ◌∙◌, arith}
use Rattle.cycle_planner.specs.Walks.{left_of}
use Rattle.cycle_planner.proofs.CallerLemmas.{item_behind, behind_item}
use Rattle.generation_catalogue.proofs.Drawing.{one_more_item, none_left}
use Rattle.generation_catalogue.proofs.journal.taken.Goals as goal

pub loop-at-preserved : goal.loop-at-preserved
loop-at-preserved g c =
    let here = left_of c.args.weigh.now.weights c.args.lines.now c.args.from in
    let left = sym c.loop-at.invariant.left ∙ c.in-Some.ensures.items in
    record {
      items = one_more_item here c.loop-at.items.items c.push.new.self.items c.loop-at._at c.in-Some.item c.in_ok-push.ensures.items c.loop-at.invariant.items (item_behind here _ c.loop-at._at c.in-Some.item left);
      walk = c.next.ensures.walk;
      left = behind_item here _ c.loop-at._at c.in-Some.item left;
    }

-- so many items are left, so that one is there
pub unreachable-requires : goal.unreachable-requires
unreachable-requires g c =
    let here = left_of c.args.weigh.now.weights c.args.lines.now c.args.from in
    let few = none_left here c.loop-at._at (sym c.loop-at.invariant.left ∙ c.in_default.ensures.items.0) in
    omega (arith, few, c.loop-at-test.true, c.requires.count)
