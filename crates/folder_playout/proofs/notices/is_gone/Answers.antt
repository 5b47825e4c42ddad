use Rattle.std.proofs.Common.{◌∙◌, ap, sym}
use Rattle.folder_playout.specs.Notices.{one_if}
use Rattle.folder_playout.proofs.Finding.{gone_is, kept_stays}
use Rattle.folder_playout.proofs.notices.is_gone.Goals as goal

pub returns-then-is_file : goal.returns-then-is_file
returns-then-is_file c = gone_is (λ b. b.now) c.args.tree.now c.args.entry.now c.content.result c.is_none.result (sym c.is_file.ensures ∙ c.if-is_file.true) c.is_none.ensures c.content.ensures

pub returns-else-is_file : goal.returns-else-is_file
returns-else-is_file c =
    let folder = sym c.is_file.ensures ∙ c.if-is_file.false in
    ap one_if c.if-is_file.false ∙ kept_stays c.args.tree.now c.args.entry.now folder
