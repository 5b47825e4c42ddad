use Rattle.std.proofs.Common.{[], ◌∷◌, sym, subst, lit<, refl}
use Rattle.std.specs.List.{All, Contains}
use Rattle.std.proofs.lemmas.List.Elements.{All-cons, All-nil}
use Rattle.cycle_planner.specs.Cycle.{groups_from}
use Rattle.cycle_planner.specs.declared.Item.{Item}
use Rattle.cycle_planner.specs.declared.Item.TheVariants.{Dsi, Dii, Block}
use Rattle.module_packer.specs.Kept.{kept_modules}
use Rattle.generation.specs.Layouts.{items_of, first_of}
use Rattle.broadcaster_tests.proofs.workers.both_workers_are_at_work_at_once.Goals as goal

pub encode_batch-requires-clause-items : goal.encode_batch-requires-clause-items
unfolding kept_modules groups_from
encode_batch-requires-clause-items g c κs =
    let IsOne : Item → Type 0 = λ item. Contains (items_of (first_of 1)) item in
    subst (λ s. All (λ item. Contains (items_of s) item) (Dsi ∷ Dii 1 ∷ Block 1 0 ∷ [])) (sym c.in_ok-generation.ensures.first)
    (All-cons IsOne Dsi (Dii 1 ∷ Block 1 0 ∷ []) (0, lit< tt, refl) (All-cons IsOne (Dii 1) (Block 1 0 ∷ []) (1, lit< tt, refl) (All-cons IsOne (Block 1 0) [] (2, lit< tt, refl) (All-nil IsOne))))
