use Rattle.std.proofs.Common.{arith, ap, ◌∙◌, ◌≡◌, subst}
use Rattle.std.proofs.lemmas.Grind.{common_steps}
use Rattle.std.specs.String.{string_bytes}
use Rattle.path_tree.specs.Paths.{IsPath}
use Rattle.path_tree.specs.Texts.{path_of, text_of}
use Rattle.path_tree.proofs.Printed.{path_of-text_of}
use Rattle.path_tree.proofs.path.Path.print.Goals as goal

pub returns-clause-parses : goal.returns-clause-parses
returns-clause-parses c =
    let text : string_bytes c.loop-name.text ≡ text_of c.args.self.now = grind (arith, common_steps) in
    ap path_of text ∙ path_of-text_of c.args.self.now (subst IsPath c.self.view_is c.self.invariant)
