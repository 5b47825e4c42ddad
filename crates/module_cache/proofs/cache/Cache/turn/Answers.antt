use Rattle.std.proofs.Common.{◌≡◌, ap, sym, subst, ◌∙◌}
use Rattle.std.proofs.Math.ListN.{set}
use Rattle.dsi_dii.specs.Controls.{view_dii}
use Rattle.module_cache.specs.CacheView.{view_cache}
use Rattle.module_cache.specs.Joining.{CacheState, turned}
use Rattle.module_cache.specs.Inner.Joining.{IsHeld}
use Rattle.module_cache.proofs.Handling.{held_turned, turn_made}
use Rattle.module_cache.proofs.Keeping.{within_once}
use Rattle.module_cache.proofs.Calling.{turned_stands}
use Rattle.module_cache.proofs.cache.Cache.turn.Goals as goal

made : (c : goal.After-self-1) → ◌≡◌ {A = CacheState} (record { held = set c.replace-before.new.dest.items 0 c.take_over.new.tuned; waiting = c.take_over.new.waiting.items }) (turned (view_cache c.self.inside) (view_dii c.args.dii.now) c.args.keep)
made c =
    let d = view_dii c.args.dii.now in
    turn_made (view_cache c.self.inside) d c.args.keep c.replace-before.new.dest.items c.push.new.self.items c.in_ok-held.held.items c.replace-before.result.items c.kept_or_none.result.items c.take_over.new.waiting.items
    c.in_ok-tuned.tuned c.index_mut.result.now c.take_over.new.tuned c.self.invariant (ap (λ v. v.items) c.replace-before.ensures.after) c.in_ok-push.ensures.items c.in_ok-held.ensures.items c.in_ok-tuned.ensures.ok
    c.index_mut.ensures.value c.kept_or_none.ensures (ap (λ v. v.items) c.replace-before.ensures.value) (λ fresh. c.take_over.ensures.tuned d fresh (within_once d c.requires)) c.take_over.ensures.waiting

pub invariant_of-self : goal.invariant_of-self
invariant_of-self c = subst IsHeld (sym (made c)) (held_turned (view_cache c.self.inside) (view_dii c.args.dii.now) c.args.keep c.self.invariant c.requires)

pub returns-clause-ok : goal.returns-clause-ok
returns-clause-ok c = made c ∙ ap (λ s. turned s (view_dii c.args.dii.now) c.args.keep) c.self.view_is

pub returns-clause-stands : goal.returns-clause-stands
returns-clause-stands c = turned_stands c.args.self.now _ (view_dii c.args.dii.now) c.args.keep (made c ∙ ap (λ s. turned s (view_dii c.args.dii.now) c.args.keep) c.self.view_is)
