use Rattle.std.proofs.Common.{eqb, ap, sym, ◌∙◌}
use Rattle.std.specs.List.{list_any}
use Rattle.dsi_dii.specs.Controls.{view_dii}
use Rattle.module_cache.specs.Joining.{outline_held}
use Rattle.module_cache.specs.Spans.{identification}
use Rattle.module_cache.proofs.Lists.{any_map}
use Rattle.module_cache.proofs.beside.is_identification_held.Goals as goal

pub returns : goal.returns
returns c =
    c.has_identification.ensures ∙ ap (λ i. list_any (λ t. eqb t.identification i) c.args.held.now) c.identification.ensures
    ∙ sym (any_map outline_held (λ o. eqb o.identification (identification (view_dii c.args.dii.now))) c.args.held.now)
