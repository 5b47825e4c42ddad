use Rattle.std.proofs.Common.{◌-◌, ◌&&◌, length, get_or, ap, sym, ◌∙◌, arith}
use Rattle.path_tree.specs.Paths.{is_below}
use Rattle.path_tree.proofs.Places.{last_is_above-at}
use Rattle.path_tree.proofs.entries.last_is_above.Goals as goal

pub returns-then-is_file : goal.returns-then-is_file
returns-then-is_file c =
    let last = get_or c.args.entries.now (length c.args.entries.now - 1) c.index-entries-entries.result in
    let kind = sym c.is_file.ensures ∙ c.if-is_file.true in
    sym (last_is_above-at c.args.entries.now c.args.path.now (length c.args.entries.now - 1) _ c.index-entries-entries.result (omega arith) ∙ (ap (λ b. b && is_below last.0 c.args.path.now) kind ∙ sym c.is_above.ensures))

pub returns-else-is_file : goal.returns-else-is_file
returns-else-is_file c =
    let last = get_or c.args.entries.now (length c.args.entries.now - 1) c.index-entries-entries.result in
    let kind = sym c.is_file.ensures ∙ c.if-is_file.false in
    c.if-is_file.false ∙ sym (last_is_above-at c.args.entries.now c.args.path.now (length c.args.entries.now - 1) _ c.index-entries-entries.result (omega arith) ∙ ap (λ b. b && is_below last.0 c.args.path.now) kind)
