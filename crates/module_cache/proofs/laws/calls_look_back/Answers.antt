use Rattle.std.proofs.Common.{refl, ap, ◌∙◌}
use Rattle.module_cache.specs.Calls.{turns_of, itself}
use Rattle.module_cache.specs.Joining.{joined, turned, offered, taken_of, slot_at}
use Rattle.module_cache.proofs.Answering.{taken_all_is, slot_all_is}
use Rattle.module_cache.proofs.Calling.{turned_stands, joined_stands, offered_stands}
use Rattle.module_cache.proofs.Offering.{offer_keeps_all}
use Rattle.module_cache.proofs.laws.calls_look_back.Goals as goal

pub returns : goal.returns
returns c = record {
  turned_so = λ c calls d keep s. turned_stands c (turned c d keep) d keep refl calls s;
  joined_so = λ c calls d none s. joined_stands c (joined c d) d none refl calls s;
  offered_so = λ c calls b once apart s. offered_stands c (offered c b) b once apart refl calls s;
  taken_so = λ c calls b s. ap (λ x. taken_of x b) s ∙ taken_all_is itself (turns_of calls) b;
  kept_so = λ c b f. offer_keeps_all c b f;
  slot_so = λ c calls id s. ap (λ x. slot_at x id) s ∙ slot_all_is itself (turns_of calls) id;
}
