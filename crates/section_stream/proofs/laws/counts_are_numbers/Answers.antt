use Rattle.section_stream.proofs.Counting.{counts-are-numbers}
use Rattle.section_stream.proofs.laws.counts_are_numbers.Goals as goal

pub returns : goal.returns
returns c = counts-are-numbers
