use Rattle.std.proofs.Common.{◌∙◌, ap, not, nat_lt}
use Rattle.section_stream.specs.Packing.{Back, is_none}
use Rattle.section_stream.proofs.InPlace.{some_behind}
use Rattle.section_stream.proofs.held.Held.begins.Goals as goal

pub returns : goal.returns
returns c = ap (λ n. nat_lt c.self.inside.tail n) c.len.ensures ∙ some_behind c.self.inside.tail c.self.inside.bytes ∙ ap (λ (b : Back). not (is_none b.body)) c.self.view_is
