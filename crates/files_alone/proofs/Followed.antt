-- One generation after another is the one that it was.
use Rattle.std.proofs.Common.{◌≡◌, ℕ, ◌+◌, List, [], ◌∷◌, map, refl, ap, ◌∙◌, sym, subst, arith}
use Rattle.std.specs.List.{All, fold}
use Rattle.std.proofs.lemmas.List.Elements.{All-head, All-tail}
use Rattle.path_tree.specs.Files.{FileTree, of_files}
use Rattle.path_tree.specs.Trees.{IsTree}
use Rattle.biop_object.specs.Names.{Layout}
use Rattle.cycle_planner.specs.declared.Item.{Item}
use Rattle.cycle_planner.specs.declared.Item.TheVariants.{Dsi, Dii, Block}
use Rattle.generation.specs.Publication as today
use Rattle.generation.specs.Layouts.{Placed, GenerationState, counts_after, make_generation, gateway_before, first_of, next_of, generation_of, keys_of, modules_for, items_of, section_of}
use Rattle.files_alone.specs.Generations as files
use Rattle.files_alone.specs.Laws.{as_placed, IsFiled, IsSameGeneration, GenerationsStayTheSame}
use Rattle.files_alone.proofs.Laid.{objects_same, placed_agree, layout_same}

-- the same carousel, number, tree, objects, modules and counts
record IsAlike (f : files.GenerationState) (g : GenerationState) : Type 0 where
  carousel : f.carousel ≡ g.carousel
  number : f.number ≡ g.number
  tree : of_files f.tree ≡ g.tree
  objects : f.objects ≡ map as_placed g.objects
  layout : f.layout ≡ g.layout
  counts : f.counts ≡ g.counts

-- such a generation sends the same
sends_same : (f : files.GenerationState) (g : GenerationState) → IsAlike f g → IsSameGeneration f g
sends_same f g same = record {
  carousel = same.carousel;
  number = same.number;
  tree = same.tree;
  objects = same.objects;
  layout = same.layout;
  counts = same.counts;
  items = ap items_of modules;
  sections = λ item. ap (λ (x : GenerationState). section_of x item) modules ∙ by item;
} where
  modules : files.modules_in f ≡ record g { objects = [] }
  modules = λ i. record { carousel = same.carousel i; number = same.number i; tree = same.tree i; objects = []; layout = same.layout i; counts = same.counts i }

  by : (item : Item) → section_of (record g { objects = [] }) item ≡ section_of g item
  by Dsi = refl
  by (Dii j) = refl
  by (Block m b) = refl

made_same : (carousel number : ℕ) (t : FileTree) (old : List Placed) (before : Layout) (counts : List ℕ) → IsTree (of_files t)
    → IsAlike (files.make_generation carousel number t (map as_placed old) before counts) (make_generation carousel number (of_files t) old before counts)
made_same carousel number t old before counts h =
    let placed = objects_same t old h in
    let agree = placed_agree t (keys_of old (today.spots_of (of_files t))) (modules_for old (of_files t)) h in
    let layout = ap (files.layout_of carousel) placed ∙ layout_same carousel _ agree in
    record { carousel = refl; number = refl; tree = refl; objects = placed; layout = layout; counts = ap (λ (l : Layout). counts_after before l counts) layout }

next_same : (f : files.GenerationState) (g : GenerationState) (t : FileTree) → IsTree (of_files t) → IsAlike f g → IsAlike (files.next_of f t) (next_of g (of_files t))
next_same f g t h same =
    let begins : files.next_of f t ≡ files.make_generation g.carousel (g.number + 1) t (map as_placed g.objects) g.layout g.counts =
    λ i. files.make_generation (same.carousel i) (same.number i + 1) t (same.objects i) (same.layout i) (same.counts i) in
    subst (λ (x : files.GenerationState). IsAlike x (next_of g (of_files t))) (sym begins) (made_same g.carousel (g.number + 1) t g.objects g.layout g.counts h)

pub empty_tree : IsTree []
empty_tree = record {
  paths = λ i d lt. absurd (omega (arith, lt));
  in_order = λ i j d up lt. absurd (omega (arith, lt));
  apart = λ i j d up lt. absurd (omega (arith, lt));
  contents = λ i d lt. absurd (omega (arith, lt));
  sizes = λ i d lt. absurd (omega (arith, lt));
}

first_same : (carousel : ℕ) → IsAlike (files.first_of carousel) (first_of carousel)
first_same carousel =
    let m = made_same carousel 0 [] gateway_before [] [] empty_tree in
    record { carousel = refl; number = refl; tree = refl; objects = m.objects; layout = m.layout; counts = refl }

follow : (ts : List FileTree) (f : files.GenerationState) (g : GenerationState) → All IsFiled ts → IsAlike f g → IsAlike (fold files.next_of f ts) (fold next_of g (map of_files ts))
follow [] f g h same = same
follow (t ∷ ts) f g h same = follow ts (files.next_of f t) (next_of g (of_files t)) (All-tail IsFiled t ts h) (next_same f g t (All-head IsFiled t ts h) same)

pub generations_same : GenerationsStayTheSame
generations_same carousel ts h =
    sends_same (files.generation_of carousel ts) (generation_of carousel (map of_files ts)) (follow ts (files.first_of carousel) (first_of carousel) h (first_same carousel))
