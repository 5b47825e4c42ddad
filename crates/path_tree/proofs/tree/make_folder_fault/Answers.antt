use Rattle.std.proofs.Common.{◌≡◌, Some, None, true, false, refl, sym, ◌∙◌, arith}
use Rattle.std.proofs.lemmas.Grind.{common_steps}
use Rattle.path_tree.specs.Paths.{is_root}
use Rattle.path_tree.specs.Trees.{entry_at, is_through_file}
use Rattle.path_tree.specs.declared.entry.Entry.TheVariants as entries
use Rattle.path_tree.proofs.Changes.{entry-cut, above-cut, not_root}
use Rattle.path_tree.proofs.tree.make_folder_fault.Goals as goal

pub returns-in-Some-Folder-clause-fault : goal.returns-in-Some-Folder-clause-fault
returns-in-Some-Folder-clause-fault c =
    let root : is_root c.args.path.now ≡ false = not_root c.args.path.now (λ e. absurd (c.if-len-eq0.false (c.len.ensures.names ∙ e))) in
    let here : entry_at c.args.entries.now c.args.path.now ≡ Some entries.Folder = grind (arith, common_steps, entry-cut c.args.entries.now c.args.path.now c.args.place c.requires.tree c.requires.place) in
    rw (root, here) refl

pub returns-in-Some-File-clause-fault : goal.returns-in-Some-File-clause-fault
returns-in-Some-File-clause-fault c =
    let root : is_root c.args.path.now ≡ false = not_root c.args.path.now (λ e. absurd (c.if-len-eq0.false (c.len.ensures.names ∙ e))) in
    let here : entry_at c.args.entries.now c.args.path.now ≡ Some (entries.File c.in-Some-File.field-0-0) = grind (arith, common_steps, entry-cut c.args.entries.now c.args.path.now c.args.place c.requires.tree c.requires.place) in
    rw (root, here) refl

pub returns-in-None-clause-fault : goal.returns-in-None-clause-fault
returns-in-None-clause-fault c =
    let root : is_root c.args.path.now ≡ false = not_root c.args.path.now (λ e. absurd (c.if-len-eq0.false (c.len.ensures.names ∙ e))) in
    let here : entry_at c.args.entries.now c.args.path.now ≡ None = grind (arith, common_steps, entry-cut c.args.entries.now c.args.path.now c.args.place c.requires.tree c.requires.place) in
    let through : is_through_file c.args.entries.now c.args.path.now ≡ true = above-cut c.args.entries.now c.args.path.now c.args.place c.requires.tree c.requires.place ∙ (sym c.last_is_above.ensures ∙ c.if-last_is_above.true) in
    rw (root, here, through) refl

pub returns-in-None-2-clause-fault : goal.returns-in-None-2-clause-fault
returns-in-None-2-clause-fault c =
    let root : is_root c.args.path.now ≡ false = not_root c.args.path.now (λ e. absurd (c.if-len-eq0.false (c.len.ensures.names ∙ e))) in
    let here : entry_at c.args.entries.now c.args.path.now ≡ None = grind (arith, common_steps, entry-cut c.args.entries.now c.args.path.now c.args.place c.requires.tree c.requires.place) in
    let through : is_through_file c.args.entries.now c.args.path.now ≡ false = above-cut c.args.entries.now c.args.path.now c.args.place c.requires.tree c.requires.place ∙ (sym c.last_is_above.ensures ∙ c.if-last_is_above.false) in
    rw (root, here, through) refl
