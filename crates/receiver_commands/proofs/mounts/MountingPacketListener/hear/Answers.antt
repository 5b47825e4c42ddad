use Rattle.std.proofs.Common.{◌∙◌}
use Rattle.std.proofs.lemmas.Result.{on_ok_weaker}
use Rattle.receiver_commands.proofs.mounts.MountingPacketListener.hear.Goals as goal

pub returns : goal.returns
returns c = on_ok_weaker c.feed.result (λ k start packets h. (c.feed.ensures.mounts ∙ h.0, k packets h.1)) c.feed.ensures.stands
