use Rattle.std.proofs.Common.{◌∙◌, ap, sym, Ok, Err, inl, inr}
use Rattle.std.proofs.lemmas.Result.{err_from_is_err_and}
use Rattle.std.specs.Arc.{arc_value}
use Rattle.folder_store.specs.Folders.{is_folder_at}
use Rattle.receiver_commands.specs.Over.{over}
use Rattle.shell_commands.proofs.Committing.{refused_walk, refused_commit, folder_found, made_of_folder}
use Rattle.shell_commands.proofs.publish.first_generation.Goals as goal

pub returns-in_err-edits-clause-refused : goal.returns-in_err-edits-clause-refused
returns-in_err-edits-clause-refused g c =
    let p = err_from_is_err_and c.from_residual.result c.from_residual.ensures.1 in
    rw (p.1, p.2) (refused_walk c.args.folder.now c.args.carousel (over g.F.Folders.tree g.F.Folders.faults c.args.folders.now c.read_tree.new.folders) c.in_err-edits.field-0.0
    (λ t h e. elim (c.in_err-edits.ensures.no_folder t h e) [ inl x ↦ inl (cc) | inr x ↦ inr (cc) ])
    (λ e. c.in_err-edits.ensures.fault (ap Err e)) (λ e. c.in_err-edits.ensures.too_deep (ap Err e)) (λ e. c.in_err-edits.ensures.bad_name (ap Err e)))

pub returns-in_err-commit_edits-clause-refused : goal.returns-in_err-commit_edits-clause-refused
returns-in_err-commit_edits-clause-refused g c =
    let p = err_from_is_err_and c.from_residual-in_err-commit_edits.result c.from_residual-in_err-commit_edits.ensures.1 in
    rw (p.1, p.2) (refused_commit c.args.folder.now c.args.carousel c.kept.result (over g.F.Folders.tree g.F.Folders.faults c.args.folders.now c.read_tree.new.folders) c.new-edits.result _ c.in_err-commit_edits.field-0.0 c.in_ok-journal.ensures
    (λ t h. folder_found (is_folder_at t c.args.folder.now) c.in_ok-edits.edits (c.in_ok-edits.ensures.no_folder t h)) (λ t h. c.in_ok-edits.ensures.edits t h ∙ ap Ok (sym c.new-edits.ensures)) c.in_err-commit_edits.ensures.answer)

pub returns-clause-made : goal.returns-clause-made
returns-clause-made g c =
    made_of_folder c.edits_make_the_files.ensures c.args.folder.now c.args.carousel c.kept.result 1 c.in_ok-commit_edits.field-0 _ c.new-edits.result _ _ (arc_value c.in_ok-generation.generation)
    c.in_ok-journal.ensures c.in_ok-commit_edits.ensures.answer c.in_ok-commit_edits.ensures.entry (c.in_ok-generation.ensures ∙ c.current.ensures) c.entries-entries.ensures.history.published.each
    (λ t h. c.in_ok-edits.ensures.edits t h ∙ ap Ok (sym c.new-edits.ensures))
    (λ t h. folder_found (is_folder_at t c.args.folder.now) c.in_ok-edits.edits (c.in_ok-edits.ensures.no_folder t h))
