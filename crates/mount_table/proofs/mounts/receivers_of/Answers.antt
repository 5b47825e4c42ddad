use Rattle.std.proofs.Common.{List, [], ◌∷◌, ◌++◌, sym, subst, ◌∙◌, rules}
use Rattle.std.proofs.lemmas.Iterator.Consumers.{YieldsList-end}
use Rattle.std.proofs.lemmas.Iterator.Adapters.{YieldsList-from_vec}
use Rattle.mount_table.specs.declared.receiver.Receiver.{Receiver}
use Rattle.mount_table.proofs.Hearing.{AreNew, none_new, one_new, same_list}
use Rattle.mount_table.proofs.mounts.receivers_of.Goals as goal

pub loop-mount-init : goal.loop-mount-init
loop-mount-init c = subst (λ (rs : List Receiver). AreNew [] rs) (sym c.in_ok-receivers.ensures.items) none_new

pub loop-mount-preserved : goal.loop-mount-preserved
loop-mount-preserved c =
    subst (λ (rs : List Receiver). AreNew (c.loop-mount.yielded ++ c.in-Some.mount ∷ []) rs) (sym c.in_ok-push.ensures.items)
    (one_new c.loop-mount.yielded c.loop-mount.receivers.items c.in-Some.mount c.in_ok-receiver.receiver c.in_ok-receiver.ensures.mount c.in_ok-receiver.ensures.receives c.loop-mount.invariant)

pub returns-clause-mounts : goal.returns-clause-mounts
returns-clause-mounts c =
    let end = YieldsList-end (YieldsList-from_vec {s = c.into_iter-mount-iterator.result} c.args.mounts.items (search rules) (search rules))
    c.loop-mount.yielded c.loop-mount.mount-iterator c.loop-mount.yielded_by c.next.result c.next.new.self c.in-None.is c.next.ensures.steps in
    c.loop-mount.invariant.same ∙ sym (same_list c.loop-mount.yielded) ∙ end.0

pub returns-clause-receives : goal.returns-clause-receives
returns-clause-receives c = c.loop-mount.invariant.receives
