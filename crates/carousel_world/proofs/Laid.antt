-- The generations of a tree of one file, written out.
use Rattle.std.proofs.Common.{◌≡◌, ℕ, List, [], ◌∷◌, Some, refl, ap, ◌∙◌}
use Rattle.std.specs.List.{flat_map}
use Rattle.path_tree.specs.Paths.{Bytes}
use Rattle.path_tree.specs.Trees.{Tree}
use Rattle.biop_object.specs.Names.{Layout}
use Rattle.module_packer.specs.Kept.{kept_modules, least_with}
use Rattle.generation.specs.Publication.{gateway_spot}
use Rattle.generation.specs.Layouts.{GenerationState, Placed, object_bytes, gateway_before, first_of, next_of}
use Rattle.generation.specs.Kept.{layouts_of}
use Rattle.carousel_world.specs.Instances.{tree_of, seven, empty_gateway}
use Rattle.carousel_world.proofs.Instances.{letter, first_content, second_content}

-- the gateway and the file, both in module 1
abbrev pub objects_with : Bytes → List Placed
objects_with content =
    record { spot = gateway_spot; key = 1; module_id = 1 }
    ∷ record { spot = record { path = letter ∷ []; name = letter; content = Some content; number = 1; parent = Some 0 }; key = 2; module_id = 1 } ∷ []

-- one module of these objects
abbrev pub layout_with : List Placed → Layout
layout_with objects = (1, flat_map (object_bytes 1 objects) objects) ∷ []

abbrev pub state_of : ℕ → Tree → List Placed → List ℕ → GenerationState
state_of number t objects counts = record { carousel = 1; number = number; tree = t; objects = objects; layout = layout_with objects; counts = counts }

abbrev pub empty : GenerationState
empty = state_of 0 [] gateway_before []

-- a generation with such a tree, whose module has changed so often
abbrev pub generation_with : ℕ → Bytes → ℕ → GenerationState
generation_with number content count = state_of number (tree_of content) (objects_with content) (0 ∷ count ∷ [])

abbrev pub laid : Bytes → Bytes → List Layout
laid a b = layout_with gateway_before ∷ layout_with (objects_with a) ∷ layout_with (objects_with b) ∷ []

is_empty : first_of 1 ≡ empty
unfolding kept_modules
is_empty = refl

-- the layout of generation 0 alone
pub empty_laid : layouts_of 1 [] ≡ empty_gateway ∷ []
empty_laid = ap (λ (g : GenerationState). g.layout ∷ []) is_empty

-- ---- from one to the next

first_after : next_of empty (tree_of first_content) ≡ generation_with 1 first_content 1
unfolding kept_modules least_with
first_after = refl

second_after : next_of (generation_with 1 first_content 1) (tree_of second_content) ≡ generation_with 2 second_content 2
unfolding kept_modules least_with
second_after = refl

seven_after : next_of empty (tree_of seven) ≡ generation_with 1 seven 1
unfolding kept_modules least_with
seven_after = refl

again_after : next_of (generation_with 1 seven 1) (tree_of seven) ≡ generation_with 2 seven 1
unfolding kept_modules least_with
again_after = refl

-- ---- from the first on

both_laid : (t u : Tree) (s after : GenerationState) → next_of empty t ≡ s → next_of s u ≡ after → layouts_of 1 (t ∷ u ∷ []) ≡ empty.layout ∷ s.layout ∷ after.layout ∷ []
both_laid t u s after e f =
    ap (λ (g : GenerationState). g.layout ∷ (next_of g t).layout ∷ (next_of (next_of g t) u).layout ∷ []) is_empty
    ∙ (ap (λ (g : GenerationState). empty.layout ∷ g.layout ∷ (next_of g u).layout ∷ []) e ∙ ap (λ (g : GenerationState). empty.layout ∷ s.layout ∷ g.layout ∷ []) f)

pub changed_laid : layouts_of 1 (tree_of first_content ∷ tree_of second_content ∷ []) ≡ laid first_content second_content
changed_laid = both_laid (tree_of first_content) (tree_of second_content) (generation_with 1 first_content 1) (generation_with 2 second_content 2) first_after second_after

pub same_laid : layouts_of 1 (tree_of seven ∷ tree_of seven ∷ []) ≡ laid seven seven
same_laid = both_laid (tree_of seven) (tree_of seven) (generation_with 1 seven 1) (generation_with 2 seven 1) seven_after again_after
