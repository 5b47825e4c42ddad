use Rattle.std.proofs.Common.{◌≡◌, ◌-◌, not, ◌&&◌, map, ap, sym, subst, ◌∙◌, true, false}
use Rattle.std.proofs.Math.ListN.{set}
use Rattle.std.proofs.lemmas.Bool.{and_parts, not-true}
use Rattle.dsi_dii.specs.Controls.{view_dii}
use Rattle.module_cache.specs.CacheView.{view_cache}
use Rattle.module_cache.specs.Joining.{CacheState, joined, outline_held, is_there, is_apart}
use Rattle.module_cache.specs.Inner.Joining.{IsHeld}
use Rattle.module_cache.proofs.Handling.{held_joined, join_made}
use Rattle.module_cache.proofs.Keeping.{within_once}
use Rattle.module_cache.proofs.Calling.{joined_stands}
use Rattle.module_cache.proofs.cache.Cache.join.Goals as goal

made : (c : goal.After-self-1) → ◌≡◌ {A = CacheState} (record { held = set c.push.new.self.items (c.len-last.result - 1) c.take_over.new.tuned; waiting = c.take_over.new.waiting.items }) (joined (view_cache c.self.inside) (view_dii c.args.dii.now))
made c =
    let d = view_dii c.args.dii.now in
    join_made (view_cache c.self.inside) d c.push.new.self.items c.take_over.new.waiting.items c.in_ok-tuned.tuned c.index_mut.result.now c.take_over.new.tuned c.len-last.result c.self.invariant
    c.in_ok-push.ensures.items c.in_ok-tuned.ensures.ok (c.len-last.ensures ∙ c.push.new.self.ok.0) c.index_mut.ensures.value
    (λ fresh. c.take_over.ensures.tuned d fresh (within_once d c.requires.within)) c.take_over.ensures.waiting

may : (c : goal.After-self-1)
    → (not (is_there (map outline_held (view_cache c.self.inside).held) (view_dii c.args.dii.now)) && is_apart (map outline_held (view_cache c.self.inside).held) (view_dii c.args.dii.now)) ≡ true
may c = subst (λ s. (not (is_there (map outline_held s.held) (view_dii c.args.dii.now)) && is_apart (map outline_held s.held) (view_dii c.args.dii.now)) ≡ true) (sym c.self.view_is) c.requires.may_join

pub invariant_of-self-2 : goal.invariant_of-self-2
invariant_of-self-2 c = subst IsHeld (sym (made c)) (held_joined (view_cache c.self.inside) (view_dii c.args.dii.now) c.self.invariant c.requires.within (may c))

pub returns-clause-ok : goal.returns-clause-ok
returns-clause-ok c = made c ∙ ap (λ s. joined s (view_dii c.args.dii.now)) c.self.view_is

pub returns-clause-stands : goal.returns-clause-stands
returns-clause-stands c =
    let d = view_dii c.args.dii.now in
    let none : is_there (map outline_held c.args.self.now.held) d ≡ false = not-true _ (and_parts _ _ c.requires.may_join).0 in
    joined_stands c.args.self.now _ d none (made c ∙ ap (λ s. joined s d) c.self.view_is)
