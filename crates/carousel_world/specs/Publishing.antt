-- One tree that is sent in a number of whole cycles, as a broadcast of one group, and what a receiver makes of it.
use Rattle.std.specs.Prelude.{◌≡◌, ℕ, zero, suc, ◌<◌, true, false, List, [], ◌∷◌, ◌++◌, Some}
use Rattle.std.specs.List.{All, concat}
use Rattle.path_tree.specs.Paths.{Bytes, PathNames}
use Rattle.path_tree.specs.Trees.{Tree, node_at}
use Rattle.biop_object.specs.Names.{Layout}
use Rattle.cycle_planner.specs.Cycle.{cycle_of}
use Rattle.cycle_planner.specs.Weights.{AreWeights}
use Rattle.cycle_planner.specs.declared.Item.{Item}
use Rattle.generation.specs.Layouts.{lines_in}
use Rattle.generation.specs.Kept.{layouts_of}
use Rattle.generation.specs.Lawful.{layout_at, IsPublishable}
use Rattle.section_stream.specs.Cuts.{candidates}
use Rattle.section_stream.specs.Packing.{IsSectionLike, idle}
use Rattle.section_stream.specs.Groups.{packets_of_group}
use Rattle.path_resolver.specs.declared.answer.Answer.TheVariants as answers
use Rattle.tuner_core.specs.LookBack.{answer_after}
use Rattle.carousel_world.specs.Broadcasts.{Broadcast, sections, Ascription, NeverBack, IsAscribed}
use Rattle.carousel_world.specs.Premises.{Ascribed, AcceptedAreSent, IsWhole}
use Rattle.carousel_world.specs.Headline.{IsAnswer, IsNodeAnswer, has_carousel, first_missing}

abbrev pub repeat_list : {A : Type 0} → ℕ → List A → List A
repeat_list zero xs = []
repeat_list (suc n) xs = xs ++ repeat_list n xs

-- the layouts of generation 0, whose tree is empty, and of generation 1, whose tree this is
abbrev pub layouts_for : ℕ → Tree → List Layout
layouts_for carousel t = layouts_of carousel (t ∷ [])

-- generation 1 alone
abbrev pub layout_for : ℕ → Tree → Layout
layout_for carousel t = layout_at (layouts_for carousel t) 1

-- so many whole cycles of generation 1, under these weights
abbrev pub items_sent : (carousel : ℕ) (weights : List ℕ) (cycles : ℕ) → Tree → List Item
items_sent carousel weights cycles t = repeat_list cycles (cycle_of weights (lines_in (layout_for carousel t)))

-- what is sent
abbrev pub publication : (carousel : ℕ) (weights : List ℕ) (cycles : ℕ) → Tree → Broadcast
publication carousel weights cycles t = record {
  carousel = carousel;
  trees = [] ∷ t ∷ [];
  layouts = layouts_for carousel t;
  groups = record { generation = 1; items = items_sent carousel weights cycles t } ∷ [];
}

-- its packets on a PID, one group with continuity counters from 0
abbrev pub packets_sent : (pid carousel : ℕ) (weights : List ℕ) (cycles : ℕ) → Tree → List Bytes
packets_sent pid carousel weights cycles t = packets_of_group (idle pid 0) (sections (publication carousel weights cycles t))

abbrev pub published_bytes : (pid carousel : ℕ) (weights : List ℕ) (cycles : ℕ) → Tree → Bytes
published_bytes pid carousel weights cycles t = concat (packets_sent pid carousel weights cycles t)

-- each of its sections meets the condition of a packer
abbrev pub PublicationsCanBePacked : Type 0
PublicationsCanBePacked = (carousel : ℕ) (weights : List ℕ) (cycles : ℕ) (t : Tree) → carousel < 4294967296 → IsPublishable t
    → All IsSectionLike (sections (publication carousel weights cycles t))

-- ---- what a receiver owes

-- each answer is the tree's own lookup, or the first module on the walk isn't whole yet, or no carousel was heard; after a whole cycle
-- each path opens
pub record MeetsTree (carousel : ℕ) (t : Tree) (candidates : List Bytes) : Type 0 where
  pub silent : (p : PathNames) → has_carousel candidates ≡ false → answer_after candidates p ≡ answers.NoCarousel
  pub known : (p : PathNames) → has_carousel candidates ≡ true
      → IsAnswer (first_missing carousel (layout_for carousel t) candidates p) (node_at t p) (answer_after candidates p)
  pub opens : (p : PathNames) → IsWhole carousel (layouts_for carousel t) 1 candidates → IsNodeAnswer (answer_after candidates p) (node_at t p)

-- for every tree that can be published, however the accepted candidates are ascribed to what is sent of it
abbrev pub MeetsPublication : List Bytes → (carousel : ℕ) (weights : List ℕ) (cycles : ℕ) → Tree → Ascribed → Type 0
MeetsPublication candidates carousel weights cycles t is_from = carousel < 4294967296 → IsPublishable t
    → AcceptedAreSent (publication carousel weights cycles t) candidates is_from → MeetsTree carousel t candidates

-- for every such tree, and every way in which the packets can be from its cycles
abbrev pub MeetsPublished : ℕ → List Bytes → List Bytes → Type 0
MeetsPublished pid packets candidates = (carousel : ℕ) (weights : List ℕ) (cycles : ℕ) (t : Tree) (from : Ascription) → NeverBack from
    → MeetsPublication candidates carousel weights cycles t (IsAscribed (publication carousel weights cycles t) pid packets from)

-- the same over sections that stand back to back
abbrev pub MeetsPublishedSections : List Bytes → Type 0
MeetsPublishedSections candidates = (carousel : ℕ) (weights : List ℕ) (cycles : ℕ) (t : Tree) (from : Ascription) → NeverBack from
    → MeetsPublication candidates carousel weights cycles t (λ i k. from i ≡ Some k)

-- it holds of whatever is heard
pub record EveryPublicationMeets : Type 0 where
  pub packets : (pid : ℕ) (packets : List Bytes) → MeetsPublished pid packets (candidates pid packets)
  pub sections : (candidates : List Bytes) → MeetsPublishedSections candidates

-- the packets of one or more whole cycles on a PID, undamaged, give each path of the tree; a PID has 13 bits
abbrev pub EachCycleOpens : Type 0
EachCycleOpens = (pid carousel : ℕ) (weights : List ℕ) (cycles : ℕ) (t : Tree) (p : PathNames) → pid < 8192 → carousel < 4294967296 → AreWeights weights → IsPublishable t
    → IsNodeAnswer (answer_after (candidates pid (packets_sent pid carousel weights (suc cycles) t)) p) (node_at t p)
