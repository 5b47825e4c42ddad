use Rattle.std.proofs.Common.{List, sym, subst}
use Rattle.std.specs.List.{All, Contains}
use Rattle.cycle_planner.specs.declared.Item.{Item}
use Rattle.generation.specs.Layouts.{GenerationState, items_of}
use Rattle.bench_programs.proofs.station_sections.made_by_two.Goals as goal

pub bytes_by_two-requires-clause-items : goal.bytes_by_two-requires-clause-items
bytes_by_two-requires-clause-items g c κs within =
    subst (λ (xs : List Item). All (λ item. Contains (items_of c.deref.result.now) item) xs) (sym c.deref-2.ensures.value)
    (subst (λ (s : GenerationState). All (λ item. Contains (items_of s) item) c.in_ok-batch.batch.items.items) (sym c.deref.ensures) c.in_ok-batch.ensures.items)
