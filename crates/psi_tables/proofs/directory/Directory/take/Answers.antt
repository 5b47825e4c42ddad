use Rattle.std.proofs.Common.{◌≡◌, ℕ, List, Some, Result, refl, ap, subst}
use Rattle.std.proofs.lemmas.Result.{on_ok_weaker}
use Rattle.psi_tables.specs.declared.tables.PatLine.{PatLine}
use Rattle.psi_tables.specs.declared.directory.Directory.{Directory}
use Rattle.psi_tables.specs.Pats.{PatFields, view_pat}
use Rattle.psi_tables.specs.Finding.{if_read, pat_in}
use Rattle.psi_tables.proofs.Following.{Goes}
use Rattle.psi_tables.proofs.Keeping.{takes_no_section, takes_section}
use Rattle.psi_tables.proofs.directory.Directory.take.Goals as goal

pub returns-in-Err-NotPsi-clause-keeps : goal.returns-in-Err-NotPsi-clause-keeps
returns-in-Err-NotPsi-clause-keeps c =
    takes_no_section c.args.self.now c.args.section.now (ap (λ (r : Result PatFields ℕ). if_read r) (rw c.in-Err-NotPsi.field-0-is at c.in-Err-NotPsi.ensures.exact))

pub returns-clause-keeps : goal.returns-clause-keeps
returns-clause-keeps c =
    let old = c.args.self.now in
    let new : Directory = record { alloc = old.alloc; carousel = old.carousel; newest = Some c.in-Ok.pat.version; sections = c.note.new.sections; followed = c.follow_all.new.followed } in
    let read : pat_in c.args.section.now ≡ Some (view_pat c.in-Ok.pat) = ap (λ (r : Result PatFields ℕ). if_read r) c.in-Ok.ensures.exact in
    let goes : Goes old.followed.items new.followed.items c.in-Ok.pat.lines.items =
    subst (λ (ls : List PatLine). Goes old.followed.items new.followed.items ls) c.deref.ensures.value c.in_ok-follow_all.ensures in
    on_ok_weaker c.note.result (λ sections. takes_section old new c.args.section.now (view_pat c.in-Ok.pat) read refl refl sections goes) c.note.ensures
