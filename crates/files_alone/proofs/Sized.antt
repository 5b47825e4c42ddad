-- The sizes of the objects and the first limit are those that they were.
use Rattle.std.proofs.Common.{◌≡◌, ℕ, ◌+◌, Bool, true, false, List, [], ◌∷◌, length, map, Option, Some, None, refl, sym, ap, ◌∙◌}
use Rattle.std.specs.Prelude.{if◌then◌else◌, nat_lt}
use Rattle.std.specs.List.{AllByRecursion, find, sum}
use Rattle.std.proofs.lemmas.List.{length-map}
use Rattle.oc_bytes.specs.Outcome.{cap_at_u32, cap_at_u64}
use Rattle.path_tree.specs.Paths.{Bytes}
use Rattle.path_tree.specs.Files.{FileTree, of_files}
use Rattle.path_tree.specs.Trees.{IsTree}
use Rattle.module_packer.specs.Placement.{modules_needed}
use Rattle.dsi_dii.specs.declared.TheConstants.{MOST_TOTAL_SIZE}
use Rattle.module_groups.specs.declared.TheConstants.{GREATEST_ID}
use Rattle.biop_object.specs.declared.written.TheConstants.{FOLDER_FRONT, MOST_FOLDER_SIZE}
use Rattle.generation.specs.declared.limit.TheConstants.{MOST_OBJECTS}
use Rattle.generation.specs.Publication.{Spot, Passed, Objects, Folder, Total, Modules, binding_rest, is_child, or_else, over}
use Rattle.generation.specs.Publication as today
use Rattle.files_alone.specs.Objects as objects
use Rattle.files_alone.specs.Objects.{child_name}
use Rattle.files_alone.specs.Laws.{as_spot, LimitsStayTheSame}
use Rattle.files_alone.proofs.Mapped.{sums_alike, maps_alike, each_weaker}
use Rattle.files_alone.proofs.Standing.{spots_same}
use Rattle.files_alone.proofs.Children.{Agree, all_agree}

binding : (f s : Spot) → Agree f s → objects.binding_size f.path (as_spot s) ≡ today.binding_size f.number s
binding f s agree = by (is_child f.number s) refl where
  by : (b : Bool) → is_child f.number s ≡ b → objects.binding_size f.path (as_spot s) ≡ today.binding_size f.number s
  by true e =
      let name : child_name f.path s.path ≡ Some s.name = agree ∙ ap (λ (b : Bool). if b then Some s.name else None) e in
      rw (name, e) refl
  by false e =
      let name : child_name f.path s.path ≡ None = agree ∙ ap (λ (b : Bool). if b then Some s.name else None) e in
      rw (name, e) refl

pub size_same : (all : List Spot) (f : Spot) → AllByRecursion (Agree f) all → objects.size_of (map as_spot all) (as_spot f) ≡ today.size_of all f
size_same all f agree = by f.content refl where
  by : (o : Option Bytes) → f.content ≡ o → objects.size_of (map as_spot all) (as_spot f) ≡ today.size_of all f
  by (Some b) is = rw is refl
  by None is =
      rw is (ap (λ (n : ℕ). FOLDER_FRONT + n) (sums_alike (objects.binding_size f.path) (today.binding_size f.number) as_spot all (each_weaker all (binding f) agree)))

large_same : (all : List Spot) (f : Spot) → AllByRecursion (Agree f) all → objects.is_large_folder (map as_spot all) (as_spot f) ≡ today.is_large_folder all f
large_same all f agree = by f.content refl where
  by : (o : Option Bytes) → f.content ≡ o → objects.is_large_folder (map as_spot all) (as_spot f) ≡ today.is_large_folder all f
  by (Some b) is = rw is refl
  by None is =
      let size = size_same all f agree in
      let same = rw is at size in
      rw is (ap (nat_lt MOST_FOLDER_SIZE) same)

found_same : (p : objects.Spot → Bool) (q : Spot → Bool) (xs : List Spot) → AllByRecursion (λ x. p (as_spot x) ≡ q x) xs → objects.large_folder (find p (map as_spot xs)) ≡ today.large_folder (find q xs)
found_same p q [] e = refl
found_same p q (x ∷ xs) e =
    ap (λ (b : Bool). objects.large_folder (if b then Some (as_spot x) else find p (map as_spot xs))) e.0 ∙ by (q x) (found_same p q xs e.1)
  where
    by : (b : Bool) → objects.large_folder (find p (map as_spot xs)) ≡ today.large_folder (find q xs)
        → objects.large_folder (if b then Some (as_spot x) else find p (map as_spot xs)) ≡ today.large_folder (if b then Some x else find q xs)
    by true rest = refl
    by false rest = rest

-- ---- of a tree

pub sizes_same : (t : FileTree) → IsTree (of_files t) → objects.sizes_of t ≡ today.sizes_of (of_files t)
sizes_same t h =
    let all : List Spot = today.spots_of (of_files t) in
    ap (λ (ss : List objects.Spot). map (objects.size_of ss) ss) (sym (spots_same t h))
    ∙ maps_alike (objects.size_of (map as_spot all)) (today.size_of all) as_spot all (each_weaker all (size_same all) (all_agree (of_files t) h))

-- a limit by the number of objects, the first folder that is too large, and the sizes
limit_from : ℕ → Option Passed → List ℕ → Option Passed
limit_from n large sizes =
    or_else (over (nat_lt MOST_OBJECTS n) (Objects (cap_at_u32 n)))
    (or_else large
    (or_else (over (nat_lt MOST_TOTAL_SIZE (sum sizes)) (Total (cap_at_u64 (sum sizes))))
    (over (nat_lt GREATEST_ID (modules_needed sizes)) (Modules (cap_at_u64 (modules_needed sizes))))))

pub limits_same : LimitsStayTheSame
unfolding limit_from
limits_same t h =
    let all : List Spot = today.spots_of (of_files t) in
    let spots : map as_spot all ≡ objects.spots_of t = spots_same t h in
    let count : length (objects.spots_of t) ≡ length all = ap length (sym spots) ∙ length-map all as_spot in
    let large : objects.large_folder (find (objects.is_large_folder (objects.spots_of t)) (objects.spots_of t)) ≡ today.large_folder (find (today.is_large_folder all) all) =
    ap (λ (ss : List objects.Spot). objects.large_folder (find (objects.is_large_folder ss) ss)) (sym spots)
    ∙ found_same (objects.is_large_folder (map as_spot all)) (today.is_large_folder all) all (each_weaker all (large_same all) (all_agree (of_files t) h)) in
    let sizes : objects.sizes_of t ≡ today.sizes_of (of_files t) = sizes_same t h in
    λ i. limit_from (count i) (large i) (sizes i)
