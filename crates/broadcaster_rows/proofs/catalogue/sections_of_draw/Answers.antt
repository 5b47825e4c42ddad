use Rattle.std.proofs.Common.{List, sym, subst}
use Rattle.std.specs.List.{All, Contains}
use Rattle.cycle_planner.specs.declared.Item.{Item}
use Rattle.generation.specs.Layouts.{GenerationState, items_of}
use Rattle.broadcaster_rows.proofs.catalogue.sections_of_draw.Goals as goal

pub sections_text-requires : goal.sections_text-requires
sections_text-requires g c =
    subst (λ (xs : List Item). All (λ item. Contains (items_of c.deref.result.now) item) xs) (sym c.deref-2.ensures.value)
    (subst (λ (s : GenerationState). All (λ item. Contains (items_of s) item) c.in_ok-batch.batch.items.items) (sym c.deref.ensures) c.in_ok-batch.ensures)
