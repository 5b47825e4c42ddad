-- The premises can be met.
use Rattle.std.proofs.Common.{ℕ, suc, ◌<◌, List, [], ◌∷◌, refl, sym, subst}
use Rattle.path_tree.specs.Trees.{Tree}
use Rattle.path_tree.specs.declared.entry.Entry.TheVariants as entries
use Rattle.cycle_planner.specs.Weights.{AreWeights}
use Rattle.cycle_planner.proofs.CallerLemmas.{are_ones}
use Rattle.generation.specs.Kept.{LayoutsAreLawful}
use Rattle.generation.specs.Lawful.{IsPublishable}
use Rattle.carousel_world.specs.Broadcasts.{sections}
use Rattle.carousel_world.specs.Instances.{PremisesCanBeMet, tree_of}
use Rattle.carousel_world.specs.Premises.{IsWhole}
use Rattle.carousel_world.specs.Publishing.{layouts_for, publication, EveryPublicationMeets}
use Rattle.carousel_world.proofs.CallerLemmas.{published_sections}
use Rattle.carousel_world.proofs.Instances.{letter, first_content, first_node, first_publishable, bare_node, bare_publishable, not_root, tree_with}
use Rattle.carousel_world.proofs.Damaged.{damage}
use Rattle.carousel_world.proofs.Carried.{carrying}
use Rattle.carousel_world.proofs.TwoDiis.{joining}
use Rattle.carousel_world.proofs.FarApart.{far}
use Rattle.carousel_world.proofs.Lossy.{run_is_premised}
use Rattle.carousel_world.proofs.Opening.{whole_cycles}
use Rattle.carousel_world.proofs.Saying.{Spelled}
use Rattle.carousel_world.proofs.Single.{second_of, in_order}
use Rattle.carousel_world.proofs.Waiting.{waits}

whole_round : LayoutsAreLawful → (carousel : ℕ) (weights : List ℕ) (cycles : ℕ) (t : Tree) → carousel < 4294967296 → AreWeights weights → IsPublishable t → IsWhole carousel (layouts_for carousel t) 1 (sections (publication carousel weights (suc cycles) t))
whole_round lawful carousel weights cycles t lt are is =
    let ls = layouts_for carousel t in
    subst (IsWhole carousel ls 1) (sym (published_sections carousel weights (suc cycles) t)) (whole_cycles carousel weights ls 1 cycles are (second_of lawful carousel t lt is).sent (second_of lawful carousel t lt is).two)

pub can_be_met : Spelled → LayoutsAreLawful → EveryPublicationMeets → PremisesCanBeMet
can_be_met spelled lawful meets = record {
  weights = are_ones;
  tree = (tree_of first_content, record { publishable = first_publishable; path = letter ∷ []; content = first_content; there = first_node });
  bare = (tree_with entries.Folder, record { publishable = bare_publishable; path = letter ∷ []; below = not_root letter; there = bare_node });
  in_order = λ carousel weights cycles t lt is. in_order carousel weights cycles t (second_of lawful carousel t lt is);
  undamaged = λ carousel weights cycles t i bytes e accepted. (i, refl, e);
  whole = whole_round lawful;
  waits = waits spelled lawful meets;
  damage = damage lawful;
  carrying = carrying lawful;
  joining = joining lawful;
  far = far lawful;
  run = run_is_premised lawful;
}
