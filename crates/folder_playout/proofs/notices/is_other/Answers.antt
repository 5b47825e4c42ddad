use Rattle.std.proofs.Common.{◌∙◌, ap, sym, not}
use Rattle.std.specs.Option.{option_map}
use Rattle.path_tree.specs.Paths.{same_name}
use Rattle.folder_playout.proofs.Finding.{other_there, other_none, other_folder}
use Rattle.folder_playout.proofs.notices.is_other.Goals as goal

pub returns-in-Some : goal.returns-in-Some
returns-in-Some c =
    other_there c.args.tree.now c.args.entry.now c.in-File.content c.in-Some.there.now c.ne.result c.in-File.is (sym c.content.ensures ∙ ap (option_map (λ b. b.now)) c.in-Some.is)
    (c.ne.ensures ∙ ap (λ a. not (same_name a c.bytes-in-Some.result.now)) c.bytes.ensures ∙ ap (λ b. not (same_name c.in-Some.there.now b)) c.bytes-in-Some.ensures)

pub returns-in-None : goal.returns-in-None
returns-in-None c = other_none c.args.tree.now c.args.entry.now c.in-File.content c.in-File.is (sym c.content.ensures ∙ ap (option_map (λ b. b.now)) c.in-None.is)

pub returns-in-Folder : goal.returns-in-Folder
returns-in-Folder c = other_folder c.args.tree.now c.args.entry.now c.in-Folder.is
