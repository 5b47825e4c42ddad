use Rattle.std.proofs.Common.{refl}
use Rattle.std.proofs.lemmas.Bool.{true≢false}
use Rattle.shell_words.specs.Words as commands
use Rattle.watch_desk.specs.Prefixes.{prefixes_of}
use Rattle.shell_commands.proofs.Dispatching.{of_none, promises_other}
use Rattle.shell_commands.proofs.plain.run_command.Goals as goal

pub returns-in-Publish-clause-promises : goal.returns-in-Publish-clause-promises
returns-in-Publish-clause-promises g c = rw c.in-Publish.is (record { unread = refl; keeps = rw c.as_str.ensures.value at c.publish.ensures.publishes })

pub returns-in-Rehearse-clause-promises : goal.returns-in-Rehearse-clause-promises
returns-in-Rehearse-clause-promises g c = rw c.in-Rehearse.is c.rehearse.ensures.rehearses

pub returns-in-PublishPsi-clause-promises : goal.returns-in-PublishPsi-clause-promises
returns-in-PublishPsi-clause-promises g c = rw c.in-PublishPsi.is (record { unread = refl; keeps = rw c.as_str-in-PublishPsi.ensures.value at c.publish_psi.ensures.publishes })

pub returns-in-PublishOn-clause-promises : goal.returns-in-PublishOn-clause-promises
returns-in-PublishOn-clause-promises g c = rw c.in-PublishOn.is (record { unread = refl; keeps = rw c.as_str-in-PublishOn.ensures.value at c.publish-in-PublishOn.ensures.publishes })

pub plan-requires-clause-rate : goal.plan-requires-clause-rate
plan-requires-clause-rate g c = (rw c.in-Plan.is at c.requires.sized).1

pub returns-in-Plan-clause-promises : goal.returns-in-Plan-clause-promises
returns-in-Plan-clause-promises g c = rw c.in-Plan.is (record { unread = refl; keeps = rw c.as_str-in-Plan.ensures.value at c.plan.ensures.tells })

pub returns-in-Air-clause-promises : goal.returns-in-Air-clause-promises
returns-in-Air-clause-promises g c = rw c.in-Air.is (record { unread = refl; keeps = rw c.as_str-in-Air.ensures.value at c.air.ensures.stays })

pub returns-in-Air-clause-quiet : goal.returns-in-Air-clause-quiet
returns-in-Air-clause-quiet g c = rw c.in-Air.is (λ none. absurd (true≢false none))

pub returns-in_default-clause-promises : goal.returns-in_default-clause-promises
returns-in_default-clause-promises g c =
    let d = c.in_default in
    let other = of_none c.args.command d.not-Publish d.not-PublishOn d.not-PublishPsi d.not-Air d.not-Plan d.not-Rehearse in
    promises_other c.args.weigh.weights (prefixes_of c.args.filters.items) (commands.view c.args.command) _ _ _ _ _ _ _ other (c.run_receiving.ensures.promises other)
