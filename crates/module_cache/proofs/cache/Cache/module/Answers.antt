use Rattle.std.proofs.Common.{◌∙◌, ap}
use Rattle.module_cache.specs.Calls.{turns_of, itself}
use Rattle.module_cache.specs.Joining.{slot_at, slot_from}
use Rattle.module_cache.proofs.Answering.{slot_all_is}
use Rattle.module_cache.proofs.cache.Cache.module.Goals as goal

pub returns-clause-looks_back : goal.returns-clause-looks_back
returns-clause-looks_back c = λ calls s.
    c.slot_in.ensures ∙ ap (slot_from c.args.id) c.deref.ensures.value ∙ ap (λ x. slot_at x c.args.id) (c.self.view_is ∙ s) ∙ slot_all_is itself (turns_of calls) c.args.id
