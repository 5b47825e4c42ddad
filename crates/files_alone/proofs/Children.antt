-- What lies right in a folder by the paths lies right in it by the numbers.
use Rattle.std.proofs.Common.{◌≡◌, ℕ, zero, suc, ◌+◌, ◌<◌, ◌==◌, Bool, true, false, cond, List, [], ◌∷◌, ◌++◌, length, get_or, Option, Some, None, refl, sym, ap, ◌∙◌, arith}
use Rattle.std.specs.Prelude.{if◌then◌else◌}
use Rattle.std.specs.List.{All, AllByRecursion}
use Rattle.std.specs.declared.cmp.Ordering.TheVariants.{Less, Equal}
use Rattle.std.proofs.lemmas.Bool.{eqb-true, eqb-false}
use Rattle.std.proofs.lemmas.List.Elements.{recursion_from_All}
use Rattle.path_tree.specs.Paths.{Bytes, PathNames, path_cmp, same_name}
use Rattle.path_tree.specs.Trees.{Tree, IsTree}
use Rattle.path_tree.proofs.CallerLemmas.{same_name-is, same_name-refl, path_cmp-refl}
use Rattle.generation.specs.Publication.{Spot, gateway_spot, spots_of, is_child, AreRising}
use Rattle.generation.specs.Standing.{AreWhatStands, IsIn}
use Rattle.generation.proofs.CallerLemmas.{objects_stand}
use Rattle.files_alone.specs.Objects.{child_name}
use Rattle.files_alone.proofs.Mapped.{same_default}

-- ---- a path in the folder of another

child_nil : (p : PathNames) → child_name p [] ≡ None
child_nil [] = refl
child_nil (m ∷ ms) = refl

child_is : (p : PathNames) (n : Bytes) → child_name p (p ++ n ∷ []) ≡ Some n
child_is [] n = refl
child_is (m ∷ ms) n = ap (λ (b : Bool). cond b (child_name ms (ms ++ n ∷ [])) None) (same_name-refl m) ∙ child_is ms n

child_other : (q p : PathNames) (n : Bytes) → (q ≡ p → ⊥) → child_name q (p ++ n ∷ []) ≡ None
child_other [] [] n other = absurd (other refl)
child_other [] (m ∷ []) n other = refl
child_other [] (m ∷ k ∷ ks) n other = refl
child_other (m ∷ ms) [] n other = go (same_name m n) where
  go : (b : Bool) → cond b (child_name ms []) None ≡ None
  go true = child_nil ms
  go false = refl
child_other (m ∷ ms) (k ∷ ks) n other = go (same_name m k) refl (child_other ms ks n) where
  go : (b : Bool) → same_name m k ≡ b → ((ms ≡ ks → ⊥) → child_name ms (ks ++ n ∷ []) ≡ None) → cond b (child_name ms (ks ++ n ∷ [])) None ≡ None
  go true e rest = rest (λ same. other (λ i. same_name-is m k e i ∷ same i))
  go false e rest = refl

-- ---- no two objects have one path

clash : (p q : PathNames) → p ≡ q → path_cmp p q ≡ Less → ⊥
clash p q same less =
    let itself : path_cmp p p ≡ Less = ap (path_cmp p) same ∙ less in
    let tied : path_cmp p p ≡ Equal = path_cmp-refl p in
    let z : Less ≡ Equal = sym itself ∙ tied in
    cc

distinct : (ss : List Spot) → AreRising ss → (i j : ℕ) (d e : Spot) → i < length ss → j < length ss → (get_or ss i d).path ≡ (get_or ss j e).path → i ≡ j
distinct [] h i j d e lt le same = absurd (omega (arith, lt))
distinct (s ∷ ss) h zero zero d e lt le same = refl
distinct (s ∷ ss) h zero (suc j) d e lt le same = absurd (clash s.path (get_or ss j e).path same (h.0 j e (omega (arith, le))))
distinct (s ∷ ss) h (suc i) zero d e lt le same = absurd (clash s.path (get_or ss i d).path (sym same) (h.0 i d (omega (arith, lt))))
distinct (s ∷ ss) h (suc i) (suc j) d e lt le same = ap suc (distinct ss h.1 i j d e (omega (arith, lt)) (omega (arith, le)) same)

-- ---- the folder by path is that by number

abbrev pub Agree : Spot → Spot → Type 0
Agree f s = child_name f.path s.path ≡ (if is_child f.number s then Some s.name else None)

child_by : (folder k : ℕ) (s : Spot) → s.parent ≡ Some k → is_child folder s ≡ (k == folder)
child_by folder k s is = rw is refl

agrees : (f s : Spot) (k : ℕ) (p : PathNames) → s.parent ≡ Some k → s.path ≡ p ++ s.name ∷ [] → (k ≡ f.number → p ≡ f.path) → (f.path ≡ p → k ≡ f.number) → Agree f s
agrees f s k p parent path there back = go (k == f.number) refl where
  answer : Bool → Option Bytes
  answer b = if b then Some s.name else None

  go : (b : Bool) → (k == f.number) ≡ b → Agree f s
  go true e =
      ap (child_name f.path) path
      ∙ (ap (λ (q : PathNames). child_name q (p ++ s.name ∷ [])) (sym (there (eqb-true k f.number e)))
      ∙ (child_is p s.name ∙ ap answer (sym (child_by f.number k s parent ∙ e))))
  go false e =
      ap (child_name f.path) path
      ∙ (child_other f.path p s.name (λ same. eqb-false k f.number e (back same)) ∙ ap answer (sym (child_by f.number k s parent ∙ e)))

children : (t : Tree) → IsTree t → All (λ f. All (Agree f) (spots_of t)) (spots_of t)
children t tree i d lt j e le = go s.parent refl (stand.numbered.parents j e le) where
  all : List Spot
  all = spots_of t

  stand : AreWhatStands t all
  stand = objects_stand t tree

  f : Spot
  f = get_or all i d

  s : Spot
  s = get_or all j e

  number : f.number ≡ i
  number = stand.numbered.numbers i d lt

  go : (o : Option ℕ) → s.parent ≡ o → IsIn all s o → Agree f s
  go None parent root = rw (parent, root) (child_nil f.path)
  go (Some k) parent is = agrees f s k (get_or all k gateway_spot).path parent is.1
      (λ same. ap (λ (n : ℕ). (get_or all n gateway_spot).path) (same ∙ number) ∙ ap (λ (r : Spot). r.path) (same_default all i gateway_spot d lt))
      (λ same. distinct all stand.rising k i gateway_spot d is.0 lt (sym same) ∙ sym number)

-- the same, by recursion
pub all_agree : (t : Tree) → IsTree t → AllByRecursion (λ f. AllByRecursion (Agree f) (spots_of t)) (spots_of t)
all_agree t tree =
    let all : List Spot = spots_of t in
    recursion_from_All (λ f. AllByRecursion (Agree f) all) all (λ i d lt. recursion_from_All (Agree (get_or all i d)) all (children t tree i d lt))
