-- The steps at the board keep its name.
use Rattle.std.proofs.Common.{◌≡◌, ◌≢◌, ℕ, List, set, sym, ◌∙◌, subst, ⊎_elim, refl, true, false, true≢false}
use mathlib.Core.Option.{some}
use lib.ListN.{get_elem?}
use Rattle.crossbeam_utils.specs.Register.{Admits, TurnsAt, Turns, Forks, Merges}
use Rattle.atomic_table.proofs.Lists.{at_set, at_snoc}
use Rattle.shot_board.specs.declared.shown.Shown.{Shown}
use Rattle.shot_board.specs.declared.seats.Name.{Name}
use Rattle.shot_board.specs.Inner.Names.{nobody, name_of, Fits, AllNamed, HasRead, HasNamed}

off : false ≡ true → ⊥
off e = true≢false (sym e)

module _ {S : Type 0} where
  fits_set : (x : Shown S) (views : List (Name S)) (seat : ℕ) (w : Name S) → AllNamed x views → Fits x w → AllNamed x (set views seat w)
  fits_set x views seat w h mine j u e = ⊎_elim (λ (t : (j ≡ seat) × (w ≡ u)). subst (Fits x) t.1 mine) (λ (t : (j ≢ seat) × (get_elem? views j ≡ some u)). h j u t.1) (at_set views seat j w u e)

  pub admits : Admits (AllNamed {S = S}) nobody
  admits x views h j u e = ⊎_elim (h j u) (λ (t : nobody ≡ u). subst (Fits x) t (λ k. absurd (off k))) (at_snoc views nobody u j e)

  pub reads : (seat : ℕ) (v : Name S) → Turns (AllNamed {S = S}) seat v (λ x. x) HasRead
  reads seat v x views h at = (v, fits_set x views seat v h (h seat v at), (refl, h seat v at))

  -- what is published has the same name
  pub names : (seat : ℕ) (v : Name S) (x y : Shown S) → y.front.seen.book ≡ x.front.seen.book → y.most ≡ x.most → TurnsAt AllNamed seat v x y HasNamed
  names seat v x y book most views h at = (name_of y, fits_set y views seat (name_of y) (λ j u e k. let f = h j u e k in (f.0 ∙ sym book, f.1 ∙ sym most)) (λ _. (refl, refl)), refl)

  pub forks : (seat : ℕ) (v : Name S) → Forks AllNamed seat v v v
  forks seat v x views h at j u e = ⊎_elim (fits_set x views seat v h (h seat v at) j u) (λ (t : v ≡ u). subst (Fits x) t (h seat v at)) (at_snoc (set views seat v) v u j e)

  pub merges : (seat : ℕ) (v : Name S) (other : ℕ) (w : Name S) → Merges AllNamed seat v other w w nobody
  merges seat v other w x views h at apart there =
      let mine : Fits x w = ⊎_elim (λ (t : (other ≡ seat) × (w ≡ w)). absurd (apart t.0)) (λ (t : (other ≢ seat) × (get_elem? views other ≡ some w)). h other w t.1) (at_set views seat other w w there) in
      fits_set x (set views seat w) other nobody (fits_set x views seat w h mine) (λ k. absurd (off k))
