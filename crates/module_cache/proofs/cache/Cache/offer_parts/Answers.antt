use Rattle.std.proofs.Common.{◌≡◌, IfOk, length, map, ap, sym, subst, ◌∙◌}
use Rattle.std.proofs.lemmas.List.{with_items_is}
use Rattle.std.proofs.lemmas.Result.{on_ok_weaker}
use Rattle.ddb_block.specs.Blocks.{parts_view}
use Rattle.module_cache.specs.CacheView.{view_cache}
use Rattle.module_cache.specs.Held.{tuned_after, with_first}
use Rattle.module_cache.specs.Joining.{taken_of, has_line, offered, outline_held, AreOnce, AreApart}
use Rattle.module_cache.specs.Inner.Joining.{IsHeld}
use Rattle.module_cache.proofs.Handling.{held_offered, with_held}
use Rattle.module_cache.proofs.Calling.{offered_stands, offer_kept, offer_looks_back, either_way}
use Rattle.module_cache.proofs.cache.Cache.offer_parts.Goals as goal

pub invariant_of-self : goal.invariant_of-self
invariant_of-self c =
    let b = parts_view c.args.parts.now in
    let s = view_cache c.self.inside in
    let whole : length c.offer_to.new.held ≡ c.self.inside.held.len = c.offer_to.auto.held ∙ c.deref_mut.ensures.len in
    subst (λ ts. IsHeld (with_held s ts)) (sym (with_items_is c.self.inside.held c.offer_to.new.held whole))
    (either_way c.offer_to.result _ _ (IsHeld (with_held s c.offer_to.new.held)) c.offer_to.ensures.ok c.offer_to.ensures.err
    (λ e. subst (λ ts. IsHeld (with_held s ts)) (sym (e ∙ ap (with_first (has_line b) (λ t. tuned_after t b)) c.deref_mut.ensures.value)) (held_offered s b c.self.invariant))
    (λ e. subst (λ ts. IsHeld (with_held s ts)) (sym (e ∙ c.deref_mut.ensures.value)) c.self.invariant))

pub returns-clause-stands : goal.returns-clause-stands
returns-clause-stands c =
    let b = parts_view c.args.parts.now in
    let s = view_cache c.self.inside in
    let whole : length c.offer_to.new.held ≡ c.self.inside.held.len = c.offer_to.auto.held ∙ c.deref_mut.ensures.len in
    on_ok_weaker c.offer_to.result
    (λ e.
    offered_stands c.args.self.now _ b (subst (λ x. AreOnce (map outline_held x.held)) c.self.view_is c.self.invariant.once) (subst (λ x. AreApart (map outline_held x.held)) c.self.view_is c.self.invariant.apart)
    (ap (with_held s) (with_items_is c.self.inside.held c.offer_to.new.held whole ∙ e ∙ ap (with_first (has_line b) (λ t. tuned_after t b)) c.deref_mut.ensures.value) ∙ ap (λ x. offered x b) c.self.view_is))
    c.offer_to.ensures.ok

pub returns-clause-kept : goal.returns-clause-kept
returns-clause-kept c =
    let b = parts_view c.args.parts.now in
    let s = view_cache c.self.inside in
    let whole : length c.offer_to.new.held ≡ c.self.inside.held.len = c.offer_to.auto.held ∙ c.deref_mut.ensures.len in
    offer_kept c.offer_to.result c.args.self.now _ b
    (subst (λ x. IfOk c.offer_to.result (λ t. t ≡ taken_of x b)) (ap (with_held s) c.deref_mut.ensures.value ∙ c.self.view_is) c.offer_to.ensures.answer)
    (on_ok_weaker c.offer_to.result
    (λ e. ap (with_held s) (with_items_is c.self.inside.held c.offer_to.new.held whole ∙ e ∙ ap (with_first (has_line b) (λ t. tuned_after t b)) c.deref_mut.ensures.value) ∙ ap (λ x. offered x b) c.self.view_is)
    c.offer_to.ensures.ok)

pub returns-clause-looks_back : goal.returns-clause-looks_back
returns-clause-looks_back c =
    let b = parts_view c.args.parts.now in
    let s = view_cache c.self.inside in
    offer_looks_back c.offer_to.result c.args.self.now b
    (subst (λ x. IfOk c.offer_to.result (λ t. t ≡ taken_of x b)) (ap (with_held s) c.deref_mut.ensures.value ∙ c.self.view_is) c.offer_to.ensures.answer)
