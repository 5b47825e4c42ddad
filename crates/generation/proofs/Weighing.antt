-- Sizes of objects, with one more of them added to its folder, and the first folder that is too large.
use Rattle.std.proofs.Common.{◌≡◌, ℕ, ◌+◌, ◌*◌, ◌<◌, ◌≤◌, false, List, [], length, take, map, get_or, Some, None, refl, sym, ◌∙◌, ap, inl, inr, arith, Bool, drop, cond}
use Rattle.std.proofs.lemmas.List.{ext_get_or}
use Rattle.std.proofs.lemmas.List.Sums.{sum_by_more}
use Rattle.generation.proofs.Words.{All, find, sum_by, sum_by-le, get_or-map, length-map, take_all, drop_more, cases_Bool, eqb-true, Tree, IsTree, gateway_spot, spots_of, sizes_of, is_child, binding_size, is_large_folder, size_of, view_spot, AreSpotsOf, CodeSpot, Spot, option_cases}
use Rattle.path_tree.specs.declared.tree.TheConstants.{MOST_CONTENT}
use Rattle.biop_object.specs.declared.written.TheConstants.{FILE_FRONT, FILE_BINDING}
use Rattle.generation.proofs.Numbering.{numbers, in_folder, child_has}

-- the gateway, as the code has it: what stands where no object does
abbrev pub top_spot : CodeSpot
top_spot = record { entry = 0; names = 0; whole = false; number = 0; parent = None }

-- an object as the code has it
pub spot_at_place : (t : Tree) (spots : List CodeSpot) (all : List Spot) (i : ℕ) (d : CodeSpot) → map (view_spot t) spots ≡ all → i < length spots → get_or all i gateway_spot ≡ view_spot t (get_or spots i d)
spot_at_place t spots all i d each lt = ap (λ l. get_or l i gateway_spot) (sym each) ∙ get_or-map (view_spot t) spots i d gateway_spot lt

pub as_many : (t : Tree) (spots : List CodeSpot) (all : List Spot) → map (view_spot t) spots ≡ all → length spots ≡ length all
as_many t spots all each = sym (length-map spots (view_spot t)) ∙ ap length each

-- an object's folder is one of the objects
pub folder_there : (t : Tree) (spots : List CodeSpot) (i : ℕ) (d : CodeSpot) (p : ℕ) → AreSpotsOf t spots → i < length spots → (get_or spots i d).parent ≡ Some p → p < length (spots_of t)
folder_there t spots i d p are lt e =
    (in_folder t are.tree i gateway_spot p (omega (arith, lt, as_many t spots (spots_of t) are.each)) (ap (λ (s : Spot). s.parent) (spot_at_place t spots (spots_of t) i d are.each lt) ∙ e)).0

-- ---- the bindings of so many objects were added

pub record SizedUpTo (t : Tree) (i : ℕ) (sizes : List ℕ) : Type 0 where
  pub long : length sizes ≡ length (spots_of t)
  pub each : (k : ℕ) → k < length sizes → get_or sizes k 0 ≡ size_of [] (get_or (spots_of t) k gateway_spot) + sum_by (binding_size k) (take i (spots_of t))
  pub small : (k : ℕ) → k < length sizes → get_or sizes k 0 ≤ FILE_FRONT + MOST_CONTENT + (254 + FILE_BINDING) * i

pub sized_none : (t : Tree) (sizes : List ℕ) → sizes ≡ map (size_of []) (spots_of t) → All (λ n. n ≤ FILE_FRONT + MOST_CONTENT) sizes → SizedUpTo t 0 sizes
sized_none t sizes is small =
    let long : length sizes ≡ length (spots_of t) = ap length is ∙ length-map (spots_of t) (size_of []) in
    record {
      long = long;
      each = λ k lt. ap (λ l. get_or l k 0) is ∙ get_or-map (size_of []) (spots_of t) k gateway_spot 0 (omega (arith, long, lt)) ∙ omega arith;
      small = λ k lt. omega (arith, small k 0 lt);
    }

pub sized_more : (t : Tree) (i : ℕ) (s : Spot) (sizes new : List ℕ) → i < length (spots_of t) → get_or (spots_of t) i gateway_spot ≡ s → SizedUpTo t i sizes → length new ≡ length sizes
    → ((k : ℕ) → k < length sizes → get_or new k 0 ≡ get_or sizes k 0 + binding_size k s) → ((k : ℕ) → binding_size k s ≤ 254 + FILE_BINDING) → SizedUpTo t (i + 1) new
sized_more t i s sizes new lt is h same added small = record {
  long = same ∙ h.long;
  each = λ k inside. omega (arith, added k (omega (arith, inside, same)), h.each k (omega (arith, inside, same)), sum_by_more (binding_size k) (spots_of t) i gateway_spot lt, ap (binding_size k) is);
  small = λ k inside. omega (arith, added k (omega (arith, inside, same)), h.small k (omega (arith, inside, same)), small k);
}

-- and those of all
pub sized_all : (t : Tree) (i : ℕ) (sizes : List ℕ) → IsTree t → length (spots_of t) ≤ i → SizedUpTo t i sizes → sizes ≡ sizes_of t
sized_all t i sizes tree over h = ext_get_or 0 sizes (sizes_of t) (h.long ∙ sym (length-map (spots_of t) (size_of (spots_of t)))) (λ k lt.
    let inside : k < length (spots_of t) = omega (arith, lt, h.long) in
    h.each k lt ∙ (λ j. size_of [] (get_or (spots_of t) k gateway_spot) + sum_by (binding_size k) (take_all i (spots_of t) over j))
    ∙ whole k (get_or (spots_of t) k gateway_spot) refl inside ∙ sym (get_or-map (size_of (spots_of t)) (spots_of t) k gateway_spot 0 inside)) where
      -- nothing stands in a file
      empty : (k : ℕ) (b : List ℕ) → (get_or (spots_of t) k gateway_spot).content ≡ Some b → sum_by (binding_size k) (spots_of t) ≤ length (spots_of t) * 0
      empty k b file = sum_by-le (binding_size k) 0 (spots_of t) (λ i d lt. elim (cases_Bool (is_child k (get_or (spots_of t) i d))) [
        | inl child ↦
            let p = child_has k (get_or (spots_of t) i d) child in
            let folder = in_folder t tree i d p.0 lt p.1 in
            let same : p.0 ≡ k = eqb-true p.0 k (rw p.1 at child) in
            let none = rw same at folder.1 in cc
        | inr other ↦ rw other (omega arith)
      ])

      whole : (k : ℕ) (r : Spot) → get_or (spots_of t) k gateway_spot ≡ r → k < length (spots_of t) → size_of [] r + sum_by (binding_size k) (spots_of t) ≡ size_of (spots_of t) r
      whole k r is lt = elim (option_cases r.content) [
        | inl file ↦ let none = empty k file.0 (ap (λ (s : Spot). s.content) is ∙ file.1) in rw file.1 (omega (arith, none))
        | inr folder ↦ let number : k ≡ r.number = sym (numbers t tree k gateway_spot lt) ∙ ap (λ (s : Spot). s.number) is in rw (folder, ← number) (omega arith)
      ]

-- ---- the first folder that is too large

-- one object more, as the code has its size
pub large_at : (t : Tree) (all : List Spot) (spots : List CodeSpot) (sizes : List ℕ) (i : ℕ) (d : CodeSpot) (large : Bool) → map (view_spot t) spots ≡ all → sizes ≡ map (size_of all) all → i < length sizes
    → (get_or sizes i 0 ≡ size_of all (view_spot t (get_or spots i d)) → large ≡ is_large_folder all (view_spot t (get_or spots i d)))
    → find (is_large_folder all) (drop i all) ≡ cond large (Some (get_or all i gateway_spot)) (find (is_large_folder all) (drop (i + 1) all))
large_at t all spots sizes i d large each is lt h =
    let long : length sizes ≡ length all = ap length is ∙ length-map all (size_of all) in
    let inside : i < length all = omega (arith, lt, long) in
    let same = spot_at_place t spots all i d each (omega (arith, inside, as_many t spots all each)) in
    let size = ap (λ l. get_or l i 0) is ∙ get_or-map (size_of all) all i gateway_spot 0 inside ∙ ap (size_of all) same in
    ap (find (is_large_folder all)) (drop_more all i gateway_spot inside)
    ∙ (λ j. cond ((ap (is_large_folder all) same ∙ sym (h size)) j) (Some (get_or all i gateway_spot)) (find (is_large_folder all) (drop (i + 1) all)))
