use Rattle.session.proofs.Words.{◌≡◌, ◌+◌, ℕ, List, ◌∷◌, cond, length, map, refl, arith, rules, Happening, draws_in, is_draw_step, view_happening}
use Rattle.rehearsal.specs.declared.interpreter.Happening.TheVariants as deeds
use Rattle.std.proofs.lemmas.List.Recursion.{is_count_by}
use Rattle.session.proofs.plan.count_draws.Goals as goal

abbrev draws : List Happening → ℕ
draws xs = length (draws_in (map view_happening xs))

one : (x : Happening) (xs : List Happening) → draws (x ∷ xs) ≡ cond (is_draw_step (view_happening x)) (1 + draws xs) (draws xs)
one (deeds.Commit editor edits) xs = refl
one (deeds.Draw asked fates) xs = omega arith
one (deeds.Open reader path) xs = refl

pub returns : goal.returns
returns c = search (rules, is_count_by draws (λ x. is_draw_step (view_happening x)) refl one)
