use Rattle.session_script.proofs.Imports.{refl, rules}
use Rattle.session_script.proofs.Ranging.{none_in_range}
use Rattle.session_script.proofs.reading.Reading.new.Goals as goal

pub returns : goal.returns
returns c = record {
  number = refl;
  part = refl;
  script = rw (c.new.ensures.empty, c.new-2.ensures.empty, c.new-3.ensures.items, c.new-4.ensures.items, c.new-5.ensures.items) refl;
  ranges = none_in_range;
  listed = search rules;
  shape = search rules;
}
