use Rattle.session_script.proofs.Imports.{◌≡◌, ◌+◌, length, Some, refl, sym, subst, arith, Parts, AreListed, IsInRanges}
use Rattle.session_script.proofs.Generating.{script_is, generated_in_ranges, generated_listed}
use Rattle.session_script.proofs.generator.generated.Goals as goal

pub returns : goal.returns
returns c =
    let parts : Parts = record { editors = c.in_ok-numbers.field-0; readers = c.in_ok-numbers-2.field-0; before = c.new.result; during = c.in_ok-number_tasks.field-0; settle = Some (c.len.result + 1); finales = c.in_ok-finales.field-0 } in
    let count : c.len.result + 1 ≡ length c.in_ok-tasks.tasks.items + 1 = omega (arith, c.len.ensures, c.in_ok-tasks.tasks.ok.0) in
    let is = script_is c.args.size parts c.in_ok-tasks.tasks.items (c.len.result + 1) c.in_ok-tasks.ensures.acts count c.in_ok-numbers.ensures c.in_ok-numbers-2.ensures
    c.new.ensures.items c.in_ok-number_tasks.ensures refl c.in_ok-finales.ensures in
    record {
      script = is;
      ranges = subst IsInRanges (sym is) (generated_in_ranges c.args.size c.requires.most c.requires.least);
      listed = subst AreListed (sym is) (generated_listed c.args.size c.requires.most c.requires.least);
    }
