use Rattle.std.proofs.Common.{◌+◌, ◌∙◌, refl, sym}
use Rattle.folder_playout.proofs.Turning.{kept_read, same_read}
use Rattle.folder_playout.proofs.playing.next_tree.Goals as goal

pub returns-in-Ok-2-clause-next : goal.returns-in-Ok-2-clause-next
returns-in-Ok-2-clause-next g c = same_read c.args.playout.now.generation (c.args.sent + 1) c.args.read c.in-Ok.tree c.in-Ok.is (c.if-is_new.ensures.same refl)

pub returns-in-Err-2-clause-next : goal.returns-in-Err-2-clause-next
returns-in-Err-2-clause-next g c =
    kept_read c.args.playout.now.generation (c.args.sent + 1) c.args.read c.in-Err.cause c.in-Err.is (sym c.is_no_memory.ensures ∙ c.if-is_no_memory.false)
