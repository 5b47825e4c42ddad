use Rattle.std.proofs.Common.{◌∙◌, ◌<◌, ap, subst, sym, map}
use Rattle.dsi_dii.specs.Controls.{view_dii}
use Rattle.module_cache.specs.Joining.{no_id_twice}
use Rattle.module_cache.specs.Inner.Reaches.{AreWithin}
use Rattle.module_cache.proofs.Keeping.{fresh_says, version_below, within_once}
use Rattle.module_cache.proofs.tuned.Tuned.new.Goals as goal

pub invariant_of-result : goal.invariant_of-result
invariant_of-result c = record {
  version = subst (λ v. v < 16384) (sym c.version.ensures) (version_below c.args.dii.now.transaction.0);
  once =
      ap (λ xs. no_id_twice (map (λ x. x.line) xs)) c.in_ok-lines.ensures.ok
      ∙ ap no_id_twice (fresh_says c.args.dii.now.block_size c.deref.result.now ∙ c.deref.ensures.value) ∙ within_once (view_dii c.args.dii.now) c.requires;
  within = subst (AreWithin c.reach_of.result)
      (sym (ap (map (λ x. x.line)) c.in_ok-lines.ensures.ok ∙ fresh_says c.args.dii.now.block_size c.deref.result.now ∙ c.deref.ensures.value ∙ sym c.deref-2.ensures.value))
      c.reach_of.ensures;
}
