use Rattle.std.proofs.Common.{◌≡◌, ◌==◌, ◌&&◌, List, map, Option, None, Some, ap, ◌∙◌}
use Rattle.std.specs.List.{find}
use Rattle.psi_tables.specs.declared.tables.Pat.{Pat}
use Rattle.psi_tables.specs.declared.tables.PatLine.{PatLine}
use Rattle.psi_tables.specs.declared.followed.Followed.{Followed}
use Rattle.psi_tables.specs.Pats.{PatFields, view_pat}
use Rattle.psi_tables.specs.Finding.{first_named, lines_in_section}
use Rattle.psi_tables.specs.Stands.{view_followed, section_kept}
use Rattle.psi_tables.specs.Inner.Stands.{named_by}
use Rattle.psi_tables.proofs.Searching.{kept_found}
use Rattle.psi_tables.proofs.directory.Directory.named_in_section.Goals as goal

pub returns-in-Some : goal.returns-in-Some
returns-in-Some c =
    let d = c.args.self.now in
    let kept : Some (view_pat c.in-Some.pat.now) ≡ section_kept (map view_pat d.sections.items) c.args.version c.args.number =
    kept_found d.sections.items c.args.version c.args.number (Some c.in-Some.pat.now)
    (c.in-Some.ensures ∙ ap (λ (ps : List Pat). find (λ p. (p.version == c.args.version) && (p.number == c.args.number)) ps) c.deref.ensures.value) in
    c.named_by_lines.ensures
    ∙ ap (λ (fs : List Followed). first_named (named_by (map view_followed fs)) c.deref-in-Some-2.result.now) c.deref-in-Some.ensures.value
    ∙ ap (λ (ls : List PatLine). first_named (named_by (map view_followed d.followed.items)) ls) c.deref-in-Some-2.ensures.value
    ∙ ap (λ (o : Option PatFields). first_named (named_by (map view_followed d.followed.items)) (lines_in_section o)) kept

pub returns-in-None : goal.returns-in-None
returns-in-None c =
    let d = c.args.self.now in
    let kept : None ≡ section_kept (map view_pat d.sections.items) c.args.version c.args.number =
    kept_found d.sections.items c.args.version c.args.number None
    (c.in-None.ensures ∙ ap (λ (ps : List Pat). find (λ p. (p.version == c.args.version) && (p.number == c.args.number)) ps) c.deref.ensures.value) in
    ap (λ (o : Option PatFields). first_named (named_by (map view_followed d.followed.items)) (lines_in_section o)) kept
