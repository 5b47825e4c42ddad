use Rattle.shell_commands.proofs.Planning.{plan_told}
use Rattle.shell_commands.proofs.plan.plan.Goals as goal

pub returns-clause-tells : goal.returns-clause-tells
returns-clause-tells g c = rw c.status_of.ensures (plan_told c.args.folder.now c.args.weigh.now.weights c.args.carousel c.args.bitrate _ _ _ _ c.requires.pending c.plan-planned.result c.plan-planned.ensures.plans)
