use Rattle.session_script.proofs.Imports.{◌+◌, refl, arith, numbers}
use Rattle.std.proofs.lemmas.Iterator.{YieldsList-from_range, items_from_collect}
use Rattle.session_script.proofs.generator.numbers.Goals as goal

pub returns : goal.returns
unfolding numbers
returns c = items_from_collect c.collect.result c.collect.ensures.ran (YieldsList-from_range 1 (c.args.size + 1) c.args.size refl (omega arith))
