use Rattle.std.proofs.Common.{◌++◌, ◌∙◌, ap}
use Rattle.std.specs.String.{string_bytes}
use Rattle.publication_plan.proofs.Between.{first_lines}
use Rattle.publication_plan.proofs.lines.put_first.Goals as goal

pub returns-clause-text : goal.returns-clause-text
returns-clause-text c =
    c.in_ok-put_left.ensures ∙ ap (λ bs. string_bytes c.args.text.now ++ bs) (first_lines c.args.path.now c.args.left.now c.count_first-count.result c.count_first-count.ensures.count)
