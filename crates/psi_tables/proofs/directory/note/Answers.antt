use Rattle.std.proofs.Common.{◌==◌, ◌&&◌, Bool, ap, map, sym, ◌∙◌, arith}
use Rattle.psi_tables.specs.declared.tables.Pat.{Pat}
use Rattle.psi_tables.specs.Pats.{view_pat}
use Rattle.psi_tables.specs.Finding.{is_section}
use Rattle.psi_tables.proofs.Lists.{placed, placed_in, put_behind_in, put_seen}
use Rattle.psi_tables.proofs.directory.note.Goals as goal

pub index_mut-requires : goal.index_mut-requires
index_mut-requires c =
    let test : Pat → Bool = λ p. (p.version == c.args.pat.version) && (p.number == c.args.pat.number) in
    let p = placed test c.deref.result.now c.in-Some.place (sym c.in-Some.ensures) in omega (arith, p.within, c.deref.ensures.len)

pub returns-in-Some : goal.returns-in-Some
returns-in-Some c =
    let test : Pat → Bool = λ p. (p.version == c.args.pat.version) && (p.number == c.args.pat.number) in
    ap (map view_pat) (sym ((placed_in test c.args.sections.now.items c.deref.result.now c.in-Some.place c.deref.ensures.value c.in-Some.ensures).puts c.args.pat))
    ∙ put_seen view_pat (is_section c.args.pat.version c.args.pat.number) c.args.pat c.args.sections.now.items

pub returns-in_ok-push-in-None : goal.returns-in_ok-push-in-None
returns-in_ok-push-in-None c =
    let test : Pat → Bool = λ p. (p.version == c.args.pat.version) && (p.number == c.args.pat.number) in
    ap (map view_pat) (c.in_ok-push-in-None.ensures.items ∙ sym (put_behind_in test c.args.sections.now.items c.deref.result.now c.deref.ensures.value c.in-None.ensures c.args.pat))
    ∙ put_seen view_pat (is_section c.args.pat.version c.args.pat.number) c.args.pat c.args.sections.now.items
