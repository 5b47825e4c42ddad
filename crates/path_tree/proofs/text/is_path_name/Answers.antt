use Rattle.std.proofs.Common.{sym, ◌∙◌, arith}
use Rattle.std.proofs.lemmas.Bool.{not-true}
use Rattle.path_tree.proofs.Named.{named}
use Rattle.path_tree.proofs.text.is_path_name.Goals as goal

pub returns-then-bytes-le254-clause-name : goal.returns-then-bytes-le254-clause-name
returns-then-bytes-le254-clause-name c = λ e.
    named c.args.bytes.now (λ i. omega (arith, c.type_inv.bytes i)) (sym c.is_empty.ensures ∙ c.if-bytes-le254.true.0) c.if-bytes-le254.true.1 (sym c.holds_zero_or_slash.ensures ∙ not-true _ e)
