use Rattle.std.proofs.Common.{◌≡◌, ◌∷◌, [], List, map, ap, ◌∙◌, arith}
use Rattle.std.specs.String.{string_bytes}
use Rattle.generation.specs.Layouts.{GenerationState, generation_of, next_of}
use Rattle.folder_store.specs.Surveys.{view_standing}
use Rattle.folder_store.specs.declared.sights.Standing.{Standing}
use Rattle.publication_plan.specs.Telling.{plan_text}
use Rattle.publication_plan.proofs.Telltale.{cycle_like, ok_as}
use Rattle.publication_plan.proofs.planning.tell_tree.Goals as goal

pub plan_lines-requires-clause-like : goal.plan_lines-requires-clause-like
plan_lines-requires-clause-like g c =
    let is : c.in_ok-generation.generation ≡ generation_of c.args.carousel (c.args.tree ∷ []) = c.in_ok-generation.ensures.exact ∙ ap (λ (s : GenerationState). next_of s c.args.tree) c.in_ok-first.ensures.first in
    cycle_like c.args.carousel c.args.weigh.now.weights c.args.tree c.in_ok-generation.generation c.publications_can_be_packed.ensures c.generations_are_of_the_lists.ensures (omega (arith, c.ranges.carousel.fits)) c.requires.accepted.publishable is

pub returns : goal.returns
returns g c =
    let is : c.in_ok-generation.generation ≡ generation_of c.args.carousel (c.args.tree ∷ []) = c.in_ok-generation.ensures.exact ∙ ap (λ (s : GenerationState). next_of s c.args.tree) c.in_ok-first.ensures.first in
    let plan = plan_text c.args.weigh.now.weights c.args.bitrate in
    ok_as string_bytes _ _ c.plan_lines.result
    (ap (λ (s : GenerationState). plan s (map view_standing c.deref-2.result.now)) is ∙ ap (λ (l : List Standing). plan (generation_of c.args.carousel (c.args.tree ∷ [])) (map view_standing l)) c.deref-2.ensures.value) c.plan_lines.ensures
