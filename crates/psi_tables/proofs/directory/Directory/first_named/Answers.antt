use Rattle.std.proofs.Common.{◌≡◌, ℕ, None, sym, subst, arith}
use Rattle.psi_tables.specs.Finding.{first_named, lines_of_sections}
use Rattle.psi_tables.specs.Stands.{view_directory, section_kept}
use Rattle.psi_tables.specs.Inner.Stands.{named_by}
use Rattle.psi_tables.proofs.Searching.{nothing_more, first_here}
use Rattle.psi_tables.proofs.directory.Directory.first_named.Goals as goal

pub returns-in-Some : goal.returns-in-Some
returns-in-Some c =
    let d = view_directory c.args.self.now in
    sym (first_here (named_by d.followed) (section_kept d.sections c.args.version) c.loop-number.number c.in-Some.pid c.loop-number-test.true (sym c.in-Some.ensures) c.loop-number.invariant)

pub loop-number-preserved : goal.loop-number-preserved
loop-number-preserved c =
    let d = view_directory c.args.self.now in
    nothing_more (named_by d.followed) (section_kept d.sections c.args.version) c.loop-number.number (sym c.in_default.ensures) c.loop-number.invariant

pub returns : goal.returns
returns c =
    let d = view_directory c.args.self.now in
    let all : c.loop-number.number ≡ 256 = omega (arith, c.loop-number-test.false, c.loop-number.auto.number-end) in
    sym (subst (λ (n : ℕ). first_named (named_by d.followed) (lines_of_sections (section_kept d.sections c.args.version) n) ≡ None) all c.loop-number.invariant)
