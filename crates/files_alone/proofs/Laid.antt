-- Keys, modules and the bytes of the modules are those that they were.
use Rattle.std.proofs.Common.{◌≡◌, ℕ, ◌==◌, Bool, true, false, cond, List, [], ◌∷◌, ◌++◌, length, map, filter, Option, Some, None, refl, sym, ap, ◌∙◌}
use Rattle.std.specs.Prelude.{if◌then◌else◌}
use Rattle.std.specs.List.{AllByRecursion, filter_map, flat_map, list_any, range_with_len, zip}
use Rattle.std.proofs.lemmas.List.{length-map}
use Rattle.path_tree.specs.Paths.{Bytes}
use Rattle.path_tree.specs.Files.{FileTree, of_files}
use Rattle.path_tree.specs.Trees.{IsTree}
use Rattle.biop_object.specs.Objects.{folder_spelling}
use Rattle.module_packer.specs.Kept.{kept_modules}
use Rattle.module_groups.specs.declared.TheConstants.{GREATEST_ID}
use Rattle.generation.specs.Publication.{Spot, is_child}
use Rattle.generation.specs.Publication as today
use Rattle.generation.specs.Layouts.{Placed, is_same_spot, fill_keys, free_keys, taken_in, folder_kind_of, key_bytes, greatest}
use Rattle.generation.specs.Layouts as generations
use Rattle.files_alone.specs.Objects as objects
use Rattle.files_alone.specs.Objects.{child_name}
use Rattle.files_alone.specs.Generations as files
use Rattle.files_alone.specs.Laws.{as_spot, as_placed}
use Rattle.files_alone.proofs.Mapped.{maps_same, kept_alike, any_same, each_weaker}
use Rattle.files_alone.proofs.Standing.{spots_same}
use Rattle.files_alone.proofs.Sized.{sizes_same}
use Rattle.files_alone.proofs.Children.{Agree, all_agree}

-- ---- what was there before

module _ {A : Type 0} (of_file : Option files.Placed → A) (of_today : Option Placed → A) (none : of_file None ≡ of_today None) (some : (o : Placed) → of_file (Some (as_placed o)) ≡ of_today (Some o)) where
  found_before : (old : List Placed) (s : Spot) → of_file (files.placed_at (map as_placed old) (as_spot s)) ≡ of_today (generations.placed_at old s)
  found_before [] s = none
  found_before (o ∷ os) s = by (is_same_spot o.spot s) (found_before os s) where
    by : (b : Bool) → of_file (files.placed_at (map as_placed os) (as_spot s)) ≡ of_today (generations.placed_at os s)
        → of_file (if b then Some (as_placed o) else files.placed_at (map as_placed os) (as_spot s)) ≡ of_today (if b then Some o else generations.placed_at os s)
    by true rest = some o
    by false rest = rest

old_keys_same : (old : List Placed) (spots : List Spot) → files.old_keys (map as_placed old) (map as_spot spots) ≡ generations.old_keys old spots
old_keys_same old spots =
    maps_same (λ s. files.key_in (files.placed_at (map as_placed old) s)) (λ s. generations.key_in (generations.placed_at old s)) as_spot
    (found_before files.key_in generations.key_in refl (λ o. refl) old) spots

keys_same : (old : List Placed) (spots : List Spot) → files.keys_of (map as_placed old) (map as_spot spots) ≡ generations.keys_of old spots
keys_same old spots =
    let keys = old_keys_same old spots in
    let count : length (map as_spot spots) ≡ length spots = length-map spots as_spot in
    λ i. fill_keys (keys i) (free_keys (taken_in (keys i)) (count i))

old_modules_same : (old : List Placed) (spots : List Spot) → files.old_modules (map as_placed old) (map as_spot spots) ≡ generations.old_modules old spots
old_modules_same old spots =
    maps_same (λ s. files.module_of (files.placed_at (map as_placed old) s)) (λ s. generations.module_of (generations.placed_at old s)) as_spot
    (found_before files.module_of generations.module_of refl (λ o. refl) old) spots

placed_same : (spots : List Spot) (keys ms : List ℕ) → files.placed_all (map as_spot spots) keys ms ≡ map as_placed (generations.placed_all spots keys ms)
placed_same [] keys ms = refl
placed_same (s ∷ spots) [] ms = refl
placed_same (s ∷ spots) (k ∷ keys) [] = refl
placed_same (s ∷ spots) (k ∷ keys) (m ∷ ms) =
    ap (λ (l : List files.Placed). as_placed (record { spot = s; key = k; module_id = m }) ∷ l) (placed_same spots keys ms)

-- the objects of a tree, with their keys and modules
pub objects_same : (t : FileTree) (old : List Placed) → IsTree (of_files t)
    → files.placed_all (objects.spots_of t) (files.keys_of (map as_placed old) (objects.spots_of t)) (files.modules_for (map as_placed old) t)
    ≡ map as_placed (generations.placed_all (today.spots_of (of_files t)) (generations.keys_of old (today.spots_of (of_files t))) (generations.modules_for old (of_files t)))
objects_same t old h =
    let all : List Spot = today.spots_of (of_files t) in
    let spots : objects.spots_of t ≡ map as_spot all = sym (spots_same t h) in
    let keys : files.keys_of (map as_placed old) (objects.spots_of t) ≡ generations.keys_of old all = ap (files.keys_of (map as_placed old)) spots ∙ keys_same old all in
    let before : files.old_modules (map as_placed old) (objects.spots_of t) ≡ generations.old_modules old all = ap (files.old_modules (map as_placed old)) spots ∙ old_modules_same old all in
    let sizes : objects.sizes_of t ≡ today.sizes_of (of_files t) = sizes_same t h in
    let ms : files.modules_for (map as_placed old) t ≡ generations.modules_for old (of_files t) = λ i. kept_modules GREATEST_ID (zip (sizes i) (before i)) in
    (λ i. files.placed_all (spots i) (keys i) (ms i)) ∙ placed_same all (generations.keys_of old all) (generations.modules_for old (of_files t))

-- ---- what holds of each object

placed_each : (P : Spot → Type 0) (spots : List Spot) (keys ms : List ℕ) → AllByRecursion P spots → AllByRecursion (λ o. P o.spot) (generations.placed_all spots keys ms)
placed_each P [] keys ms h = tt
placed_each P (s ∷ spots) [] ms h = tt
placed_each P (s ∷ spots) (k ∷ keys) [] h = tt
placed_each P (s ∷ spots) (k ∷ keys) (m ∷ ms) h = (h.0, placed_each P spots keys ms h.1)

-- each of these agrees with each
abbrev pub AllAgree : List Placed → Type 0
AllAgree os = AllByRecursion (λ o. AllByRecursion (λ u. Agree o.spot u.spot) os) os

pub placed_agree : (t : FileTree) (keys ms : List ℕ) → IsTree (of_files t) → AllAgree (generations.placed_all (today.spots_of (of_files t)) keys ms)
placed_agree t keys ms h =
    let all : List Spot = today.spots_of (of_files t) in
    let os : List Placed = generations.placed_all all keys ms in
    each_weaker os (λ o agree. placed_each (Agree o.spot) all keys ms agree) (placed_each (λ f. AllByRecursion (Agree f) all) all keys ms (all_agree (of_files t) h))

-- ---- bytes

module _ (carousel : ℕ) where
  written_same : (f : Spot) (o : Placed) → Agree f o.spot → files.written_in carousel f.path (as_placed o) ≡ generations.written_in carousel f.number o
  written_same f o agree = by (is_child f.number o.spot) refl where
    by : (b : Bool) → is_child f.number o.spot ≡ b → files.written_in carousel f.path (as_placed o) ≡ generations.written_in carousel f.number o
    by true e =
        let name : child_name f.path o.spot.path ≡ Some o.spot.name = agree ∙ ap (λ (b : Bool). if b then Some o.spot.name else None) e in
        rw (name, e) refl
    by false e =
        let name : child_name f.path o.spot.path ≡ None = agree ∙ ap (λ (b : Bool). if b then Some o.spot.name else None) e in
        rw (name, e) refl

  entries_same : (os : List Placed) (f : Spot) → AllByRecursion (λ u. Agree f u.spot) os → files.entries_of carousel (map as_placed os) f.path ≡ generations.entries_of carousel os f.number
  entries_same os f agree = kept_alike (files.written_in carousel f.path) (generations.written_in carousel f.number) as_placed os (each_weaker os (written_same f) agree)

  object_same : (os : List Placed) (o : Placed) → AllByRecursion (λ u. Agree o.spot u.spot) os → files.object_bytes carousel (map as_placed os) (as_placed o) ≡ generations.object_bytes carousel os o
  object_same os o agree = by o.spot.content refl where
    by : (c : Option Bytes) → o.spot.content ≡ c → files.object_bytes carousel (map as_placed os) (as_placed o) ≡ generations.object_bytes carousel os o
    by (Some b) is = rw is refl
    by None is = rw is (ap (folder_spelling (folder_kind_of o.spot.path) (key_bytes o.key)) (entries_same os o.spot agree))

  -- of those in a module, where each of them has the same bytes
  bytes_same : (m : ℕ) (h : files.Placed → Bytes) (f : Placed → Bytes) (xs : List Placed) → AllByRecursion (λ o. h (as_placed o) ≡ f o) xs
      → flat_map h (filter (files.is_in m) (map as_placed xs)) ≡ flat_map f (filter (generations.is_in m) xs)
  bytes_same m h f [] e = refl
  bytes_same m h f (x ∷ xs) e = by (x.module_id == m) (bytes_same m h f xs e.1) where
    by : (b : Bool) → flat_map h (filter (files.is_in m) (map as_placed xs)) ≡ flat_map f (filter (generations.is_in m) xs)
        → flat_map h (cond b (as_placed x ∷ filter (files.is_in m) (map as_placed xs)) (filter (files.is_in m) (map as_placed xs))) ≡ flat_map f (cond b (x ∷ filter (generations.is_in m) xs) (filter (generations.is_in m) xs))
    by true rest = λ i. e.0 i ++ rest i
    by false rest = rest

  module_same : (os : List Placed) → AllAgree os → (m : ℕ) → files.module_if_used carousel (map as_placed os) m ≡ generations.module_if_used carousel os m
  module_same os agree m =
      let used : list_any (files.is_in m) (map as_placed os) ≡ list_any (generations.is_in m) os = any_same (files.is_in m) (generations.is_in m) as_placed (λ o. refl) os in
      let bytes : files.module_bytes carousel (map as_placed os) m ≡ generations.module_bytes carousel os m =
      bytes_same m (files.object_bytes carousel (map as_placed os)) (generations.object_bytes carousel os) os (each_weaker os (object_same os) agree) in
      λ i. if used i then Some (m, bytes i) else None

  pub layout_same : (os : List Placed) → AllAgree os → files.layout_of carousel (map as_placed os) ≡ generations.layout_of carousel os
  layout_same os agree =
      let ids : map (λ (o : files.Placed). o.module_id) (map as_placed os) ≡ map (λ (o : Placed). o.module_id) os = maps_same (λ (o : files.Placed). o.module_id) (λ (o : Placed). o.module_id) as_placed (λ o. refl) os in
      λ i. filter_map (λ m. module_same os agree m i) (range_with_len 1 (greatest (ids i)))
