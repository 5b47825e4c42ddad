use Rattle.std.proofs.Common.{sym, ◌∙◌}
use Rattle.ddb_block.specs.Blocks.{parts_view}
use Rattle.module_cache.proofs.Places.{line_past, line_here, line_none}
use Rattle.module_cache.proofs.cache.place_of_line.Goals as goal

pub loop-place-preserved : goal.loop-place-preserved
loop-place-preserved c =
    c.loop-place.invariant
    ∙ line_past (parts_view c.args.parts.now) c.args.held.now c.loop-place.place c.index-held-place.result c.loop-place-test.true c.index-held-place.is (sym c.place_for.ensures ∙ c.in_default.is)

pub returns-in-Some-clause-found : goal.returns-in-Some-clause-found
returns-in-Some-clause-found c =
    sym (c.loop-place.invariant
    ∙ line_here (parts_view c.args.parts.now) c.args.held.now c.loop-place.place c.in-Some.line c.index-held-place.result c.loop-place-test.true c.index-held-place.is (sym c.place_for.ensures ∙ c.in-Some.is))

pub returns-clause-found : goal.returns-clause-found
returns-clause-found c = sym (c.loop-place.invariant ∙ line_none (parts_view c.args.parts.now) c.args.held.now c.loop-place.place c.loop-place-test.false)
