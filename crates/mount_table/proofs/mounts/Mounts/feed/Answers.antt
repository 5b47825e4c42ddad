use Rattle.std.proofs.Common.{◌++◌, ◌∷◌, [], List, map, refl, sym, ap, subst}
use Rattle.std.specs.List.{All}
use Rattle.mount_table.specs.declared.receiver.Receiver.{Receiver}
use Rattle.mount_table.specs.Stands.{MountsState, Receives, CompletesOne}
use Rattle.mount_table.proofs.Hearing.{mount_in}
use Rattle.mount_table.proofs.mounts.Mounts.feed.Goals as goal

pub returns-in_err-hear-clause-memory : goal.returns-in_err-hear-clause-memory
returns-in_err-hear-clause-memory c = λ e packets s.
    let same = ap (λ (m : MountsState). m.receivers) c.self.view_is in
    subst (λ (rs : List Receiver). CompletesOne (map mount_in rs) packets c.args.packet.now) same
    (c.in_err-hear.ensures.memory refl packets (subst (All (Receives packets)) (sym same) s.receivers))

pub returns-clause-stands : goal.returns-clause-stands
returns-clause-stands c = λ packets s.
    let same = ap (λ (m : MountsState). m.receivers) c.self.view_is in
    let left = ap (λ (m : MountsState). m.receivers) c.self-2.view_is in
    record {
      works = refl;
      receivers = subst (All (Receives (packets ++ c.args.packet.now ∷ []))) (sym left) (c.in_ok-hear.ensures.receives packets (subst (All (Receives packets)) (sym same) s.receivers));
    }
