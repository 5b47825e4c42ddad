use Rattle.std.proofs.Common.{◌∙◌, eqb, ap, sym}
use Rattle.std.specs.Option.{is_some}
use Rattle.module_cache.proofs.Places.{any_placed}
use Rattle.module_cache.proofs.tuned.Tuned.lists.Goals as goal

pub returns : goal.returns
returns c = c.is_some.ensures ∙ ap is_some c.place.ensures ∙ sym (any_placed (λ x. eqb x.line.id c.args.id) c.args.self.now.lines)
