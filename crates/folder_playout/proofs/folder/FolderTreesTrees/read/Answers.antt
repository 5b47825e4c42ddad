use Rattle.std.proofs.Common.{◌++◌, ◌∙◌, ap, sym, Err, Ok}
use Rattle.std.proofs.lemmas.Result.{err_from_is_err_and}
use Rattle.oc_bytes.specs.Outcome.{Rose}
use Rattle.folder_store.specs.Surveys.{at_in}
use Rattle.folder_playout.specs.Readings.{reading_in}
use Rattle.folder_playout.proofs.Answered.{IsFault, of_same, read_broken, read_judged, read_none}
use Rattle.folder_playout.proofs.folder.FolderTreesTrees.read.Goals as goal

pub returns-in_err-walk_fault-in-Err-clause-answered :
    goal.returns-in_err-walk_fault-in-Err-clause-answered
returns-in_err-walk_fault-in-Err-clause-answered g c = λ start before h.
    let p = err_from_is_err_and c.from_residual.result c.from_residual.ensures.1 in
    let tree = g.F.Folders.tree in
    let faults = g.F.Folders.faults in
    rw (p.1, p.2) (
      h.0,
      h.1,
      read_none start.folder.now (tree start.folders.now) (tree c.args.self.now.folders.now) (tree c.survey.new.folders) (faults start.folders.now) (faults c.args.self.now.folders.now) (faults c.survey.new.folders)
          before h.2 c.in-Err.ensures.same c.in-Err.ensures.later,
    )

pub returns-in-Ok-clause-answered : goal.returns-in-Ok-clause-answered
returns-in-Ok-clause-answered g c = λ start before h.
    let tree = g.F.Folders.tree in
    let faults = g.F.Folders.faults in
    let folder = c.args.self.now.folder.now in
    let t = tree start.folders.now in
    let u = tree c.args.self.now.folders.now in
    let v = tree c.survey.new.folders in
    let m = faults start.folders.now in
    let n = faults c.args.self.now.folders.now in
    let o = faults c.survey.new.folders in (
      h.0,
      h.1,
      of_same folder start.folder.now t u v m n o before (before ++ reading_in c.tree_of.result) (ap (λ b. b.now) h.1)
          (λ k. read_judged folder t u v m n o before c.deref.result.now c.tree_of.result k c.in-Ok.ensures.same c.in-Ok.ensures.later
          (λ x e. c.in-Ok.ensures.edits x e ∙ ap Ok (sym c.deref.ensures.value)) c.in-Ok.ensures.no_folder c.tree_of.ensures.tells) h.2,
    )

pub returns-in_ok-walk_fault-in-Err-clause-answered :
    goal.returns-in_ok-walk_fault-in-Err-clause-answered
returns-in_ok-walk_fault-in-Err-clause-answered g c = λ start before h.
    let tree = g.F.Folders.tree in
    let faults = g.F.Folders.faults in
    let folder = c.args.self.now.folder.now in
    let t = tree start.folders.now in
    let u = tree c.args.self.now.folders.now in
    let v = tree c.survey.new.folders in
    let m = faults start.folders.now in
    let n = faults c.args.self.now.folders.now in
    let o = faults c.survey.new.folders in
    let unread = c.in_ok-walk_fault-in-Err.field-0 in
    let is : IsFault folder u (Rose n o) c.in-Err.fault.cause (at_in c.in-Err.fault.at) =
    record { deep = c.in-Err.ensures.too_deep; bad = c.in-Err.ensures.bad_name; fault = c.in-Err.ensures.fault; none = c.in-Err.ensures.no_folder } in (
      h.0,
      h.1,
      of_same folder start.folder.now t u v m n o before (before ++ reading_in (Err unread)) (ap (λ b. b.now) h.1)
          (λ k. read_broken folder t u v m n o before c.in-Err.fault.cause (at_in c.in-Err.fault.at) unread k c.in-Err.ensures.same c.in-Err.ensures.later is c.in_ok-walk_fault-in-Err.ensures) h.2,
    )
