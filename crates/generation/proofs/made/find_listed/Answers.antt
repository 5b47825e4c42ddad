use Rattle.std.proofs.Common.{◌∙◌, ap}
use Rattle.generation.proofs.Words.{option_map, slice_get, Listed}
use Rattle.generation.proofs.Searching.{ids_up, listed_first, marked_first}
use Rattle.generation.proofs.made.find_listed.Goals as goal

pub of_key-requires : goal.of_key-requires
of_key-requires c = ids_up c.args.modules.now c.requires

pub returns-clause-bytes : goal.returns-clause-bytes
returns-clause-bytes c = ap (option_map (λ (l : Listed). l.bytes)) (c.first.ensures.value ∙ ap (λ l. slice_get l 0) c.of_key.ensures) ∙ listed_first c.args.modules.now c.args.id

pub returns-clause-marked : goal.returns-clause-marked
returns-clause-marked c = λ before marked. rw (c.first.ensures.value, c.of_key.ensures) (marked_first before c.args.modules.now c.args.id marked)
