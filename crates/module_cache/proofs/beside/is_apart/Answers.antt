use Rattle.std.proofs.Common.{◌≡◌, ℕ, not, eqb, List, map, ap, sym, ◌∙◌}
use Rattle.std.specs.List.{list_any}
use Rattle.dsi_dii.specs.Controls.{view_dii}
use Rattle.module_cache.specs.Held.{TunedState}
use Rattle.module_cache.specs.Joining.{lists, outline_held}
use Rattle.module_cache.proofs.Lists.{any_like, any_map}
use Rattle.module_cache.proofs.beside.is_apart.Goals as goal

listed_by : (held : List TunedState) (id : ℕ) → list_any (λ t. list_any (λ x. eqb x.line.id id) t.lines) held ≡ list_any (λ o. lists o id) (map outline_held held)
listed_by held id =
    sym (any_map outline_held (λ o. lists o id) held ∙ any_like _ _ held (λ t. any_map (λ x. x.line) (λ l. eqb l.id id) t.lines))

pub returns : goal.returns
returns c =
    ap not (c.is_any_listed.ensures ∙ ap (list_any (λ l. list_any (λ t. list_any (λ x. eqb x.line.id l.id) t.lines) c.args.held.now)) c.deref.ensures.value
    ∙ any_like _ _ (view_dii c.args.dii.now).modules (λ l. listed_by c.args.held.now l.id))
