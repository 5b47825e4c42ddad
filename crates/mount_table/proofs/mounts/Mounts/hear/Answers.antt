use Rattle.std.proofs.Common.{◌≡◌, ◌++◌, ◌∷◌, [], List, length, map, sym, ap, subst, ◌∙◌}
use Rattle.std.specs.List.{All}
use Rattle.std.proofs.lemmas.Result.{on_ok_weaker}
use Rattle.mount_table.specs.declared.receiver.Receiver.{Receiver}
use Rattle.mount_table.specs.Stands.{MountsState, Receives, CompletesOne}
use Rattle.mount_table.proofs.Hearing.{mount_in, written_back}
use Rattle.mount_table.proofs.mounts.Mounts.hear.Goals as goal

pub returns-clause-receives : goal.returns-clause-receives
returns-clause-receives c = on_ok_weaker c.hear_at.result (λ k packets all.
    let items = c.self.inside.receivers.items in
    let given : c.deref_mut.result.now ≡ c.args.self.now.receivers = c.deref_mut.ensures.value ∙ ap (λ (m : MountsState). m.receivers) c.self.view_is in
    let kept : length c.hear_at.new.receivers ≡ length items = c.hear_at.auto.receivers ∙ ap (λ (rs : List Receiver). length rs) c.deref_mut.ensures.value in
    subst (All (Receives (packets ++ c.args.packet.now ∷ []))) (sym (written_back c.self.inside.receivers.len items c.hear_at.new.receivers c.self.inside.receivers.ok.0 kept))
    (k packets (subst (All (Receives packets)) (sym given) all))) c.hear_at.ensures.receives

pub returns-clause-memory : goal.returns-clause-memory
returns-clause-memory c = λ e packets all.
    let given : c.deref_mut.result.now ≡ c.args.self.now.receivers = c.deref_mut.ensures.value ∙ ap (λ (m : MountsState). m.receivers) c.self.view_is in
    subst (λ (rs : List Receiver). CompletesOne (map mount_in rs) packets c.args.packet.now) given
    (c.hear_at.ensures.memory e packets (subst (All (Receives packets)) (sym given) all))
