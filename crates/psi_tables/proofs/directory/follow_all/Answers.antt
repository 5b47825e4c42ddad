use Rattle.std.proofs.Common.{List, subst}
use Rattle.std.proofs.lemmas.List.{take_all}
use Rattle.psi_tables.specs.declared.tables.PatLine.{PatLine}
use Rattle.psi_tables.proofs.Following.{Goes, goes_none, goes_more}
use Rattle.psi_tables.proofs.directory.follow_all.Goals as goal

pub loop-line-init : goal.loop-line-init
loop-line-init c = goes_none c.args.followed.now.items

pub loop-line-preserved : goal.loop-line-preserved
loop-line-preserved c =
    goes_more c.args.followed.now.items c.loop-line.followed.items c.follow.new.followed.items c.args.lines.now c.loop-line.line-index _ c.loop-line-test.true c.loop-line.invariant c.in_ok-follow.ensures

pub returns : goal.returns
returns c =
    subst (λ (ls : List PatLine). Goes c.args.followed.now.items c.loop-line.followed.items ls) (take_all c.loop-line.line-index c.args.lines.now c.loop-line-test.false) c.loop-line.invariant
