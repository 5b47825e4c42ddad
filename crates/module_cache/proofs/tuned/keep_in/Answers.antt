use Rattle.std.proofs.Common.{sym, ap, ◌∙◌}
use Rattle.std.proofs.Math.ListN.{set}
use Rattle.module_cache.specs.Inner.Keeping.{line_keeping}
use Rattle.module_cache.proofs.Places.{first_place, first_changed, none_changed, none_placed}
use Rattle.module_cache.proofs.tuned.keep_in.Goals as goal

pub returns-in-Some : goal.returns-in-Some
returns-in-Some c =
    let first = first_place _ c.args.lines.now c.in-Some.place c.index-lines-place.result (sym c.in-Some.ensures) in
    ap (λ x. set c.args.lines.now c.in-Some.place x) c.keep_line.ensures
    ∙ sym (first_changed _ (line_keeping c.args.old) c.args.lines.now c.in-Some.place c.index-lines-place.result first)

pub returns-in-None : goal.returns-in-None
returns-in-None c = sym (none_changed _ (line_keeping c.args.old) c.args.lines.now (none_placed _ c.args.lines.now (sym c.in-None.ensures)))
