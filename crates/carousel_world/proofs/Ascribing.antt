-- From the premises, place by place, to candidates with their generations.
use Rattle.std.proofs.Common.{◌≡◌, ℕ, zero, suc, ◌+◌, ◌<◌, ◌≤◌, ◌==◌, Bool, true, false, not, List, [], ◌∷◌, map, length, Some, Ok, Err, refl, ap, sym, ◌∙◌, subst, arith}
use Rattle.std.specs.Prelude.{Result, slice_get, IsTrue, is_ok}
use Rattle.std.proofs.lemmas.Bool.{eqb-true}
use Rattle.path_tree.specs.Paths.{Bytes}
use Rattle.dsi_dii.specs.Controls.{DiiFields}
use Rattle.dsmcc_section.specs.Sections as sections
use Rattle.dsmcc_section.specs.declared.Skip.{Skip}
use Rattle.biop_object.specs.Names.{Layout}
use Rattle.tuner_core.specs.Heard.{Heard, Skipped, NoControl, NoBlock, ADsi, ADii, ABlock, as_heard, heard_section, is_accepted}
use Rattle.carousel_world.specs.Premises.{IsDiiAt, IsBlockAt}
use Rattle.carousel_world.proofs.Generations.{IsNearTo, OnDii, DiisAre, gens_with, gens_after, newer, IsSaidIn, AreHeardOf}

-- candidate i is of generation g
abbrev pub OfGeneration : Type 1
OfGeneration = ℕ → ℕ → Type 0

-- each accepted candidate is of a generation that says it
abbrev pub EachIsSaid : ℕ → List Layout → List Bytes → OfGeneration → Type 0
EachIsSaid carousel ls cs of = (i : ℕ) (bytes : Bytes) → slice_get cs i ≡ Some bytes → IsTrue (is_accepted bytes) → (g : ℕ) × (of i g × ((g < length ls) × IsSaidIn carousel ls g (as_heard bytes)))

-- none goes back
abbrev pub NoneGoesBack : OfGeneration → Type 0
NoneGoesBack of = (i j g h : ℕ) → i < j → of i g → of j h → g ≤ h

-- both, and no block is 256 or more after the DII before it
pub record AreAscribed (carousel : ℕ) (ls : List Layout) (cs : List Bytes) (of : OfGeneration) : Type 0 where
  pub each : EachIsSaid carousel ls cs of
  pub order : NoneGoesBack of
  pub near : (i j g h : ℕ) → i < j → IsDiiAt cs i → IsBlockAt cs j → ((k : ℕ) → i < k → k < j → IsDiiAt cs k → ⊥) → of i g → of j h → h < g + 256

later : (carousel : ℕ) (ls : List Layout) (c : Bytes) (cs : List Bytes) (of : OfGeneration) → AreAscribed carousel ls (c ∷ cs) of → AreAscribed carousel ls cs (λ i g. of (suc i) g)
later carousel ls c cs of a = record {
  each = λ i bytes e accepted. a.each (suc i) bytes e accepted;
  order = λ i j g h lt p q. a.order (suc i) (suc j) g h (omega (arith, lt)) p q;
  near = λ i j g h lt dii block none p q. a.near (suc i) (suc j) g h (omega (arith, lt)) dii block (between i j none) p q;
} where
  between : (i j : ℕ) → ((k : ℕ) → i < k → k < j → IsDiiAt cs k → ⊥) → (k : ℕ) → suc i < k → k < suc j → IsDiiAt (c ∷ cs) k → ⊥
  between i j none zero lo hi dii = omega (arith, lo)
  between i j none (suc k) lo hi dii = none k (omega (arith, lo)) (omega (arith, hi)) dii

-- no block is 256 or more after the DII of the first of these generations, up to the next DII
abbrev pub NearUpTo : List Bytes → OfGeneration → List ℕ → Type 0
NearUpTo cs of [] = Unit {0}
NearUpTo cs of (g ∷ gs) = (j h : ℕ) → IsBlockAt cs j → ((k : ℕ) → k < j → IsDiiAt cs k → ⊥) → of j h → h < g + 256

-- with their generations
pub record WithGenerations (carousel : ℕ) (ls : List Layout) (P : ℕ → Type 0) (top : ℕ) (gs : List ℕ) (cs : List Bytes) : Type 0 where
  pub pairs : List (ℕ × Heard)
  pub diis : DiisAre P pairs
  pub heard_is : map (λ x. x.1) pairs ≡ map as_heard cs
  pub are : AreHeardOf carousel ls top gs pairs

put : (carousel : ℕ) (ls : List Layout) (P : ℕ → Type 0) (top k : ℕ) (gs : List ℕ) (c : Bytes) (cs : List Bytes) → top ≤ k → k < length ls → IsSaidIn carousel ls k (as_heard c) → IsNearTo gs k (as_heard c) → OnDii P k (as_heard c)
    → WithGenerations carousel ls P k (gens_with gs k (as_heard c)) cs → WithGenerations carousel ls P top gs (c ∷ cs)
put carousel ls P top k gs c cs le lt said near on t = record {
  diis = (on, t.diis);
  pairs = (k, as_heard c) ∷ t.pairs;
  heard_is = ap (λ hs. as_heard c ∷ hs) t.heard_is;
  are = (le, (lt, (said, (near, t.are))));
}

not_dii : (c : Bytes) (cs : List Bytes) (h : Heard) → as_heard c ≡ h → ((d : DiiFields) → h ≡ ADii d → ⊥) → (j : ℕ) → ((k : ℕ) → k < j → IsDiiAt cs k → ⊥) → (k : ℕ) → k < suc j → IsDiiAt (c ∷ cs) k → ⊥
not_dii c cs h e f j none zero lt dii = f dii.1 (sym e ∙ ap as_heard (some_same c dii.0 dii.2) ∙ dii.3) where
  some_same : (a b : Bytes) → Some a ≡ Some b → a ≡ b
  some_same a b e = cc
not_dii c cs h e f j none (suc k) lt dii = none k (omega (arith, lt)) dii

pass_near : (c : Bytes) (cs : List Bytes) (of : OfGeneration) (gs : List ℕ) (h : Heard) → as_heard c ≡ h → ((d : DiiFields) → h ≡ ADii d → ⊥) → NearUpTo (c ∷ cs) of gs → NearUpTo cs (λ i g. of (suc i) g) gs
pass_near c cs of [] h e f near = tt
pass_near c cs of (g ∷ gs) h e f near = λ j k block none p. near (suc j) k block (not_dii c cs h e f j none) p

-- after a DII
dii_near : (carousel : ℕ) (ls : List Layout) (c : Bytes) (cs : List Bytes) (of : OfGeneration) → AreAscribed carousel ls (c ∷ cs) of → (d : DiiFields) → as_heard c ≡ ADii d → (g k : ℕ) → of 0 k → g ≡ k
    → (gs : List ℕ) → NearUpTo cs (λ i g. of (suc i) g) (g ∷ gs)
dii_near carousel ls c cs of a d e g k p same gs j h block none q =
    subst (λ x. h < x + 256) (sym same) (a.near 0 (suc j) k h (omega arith) (c, d, refl, e) block (between none) p q) where
      between : ((k : ℕ) → k < j → IsDiiAt cs k → ⊥) → (k : ℕ) → 0 < k → k < suc j → IsDiiAt (c ∷ cs) k → ⊥
      between none zero lo hi dii = omega (arith, lo)
      between none (suc k) lo hi dii = none k (omega (arith, hi)) dii

-- ---- one candidate after another

no_message : (carousel : ℕ) (ls : List Layout) (k : ℕ) (c : Bytes) (skip : Skip) → as_heard c ≡ Skipped skip → IsSaidIn carousel ls k (as_heard c)
no_message carousel ls k c skip e = subst (IsSaidIn carousel ls k) (sym e) tt

never_near : (gs : List ℕ) (k : ℕ) (c : Bytes) (skip : Skip) → as_heard c ≡ Skipped skip → IsNearTo gs k (as_heard c)
never_near gs k c skip e = subst (IsNearTo gs k) (sym e) (none gs) where
  none : (gs : List ℕ) → IsNearTo gs k (Skipped skip)
  none [] = tt
  none (g ∷ gs) = tt

-- a candidate that is no section keeps the generations
skipped : (carousel : ℕ) (ls : List Layout) (P : ℕ → Type 0) (top : ℕ) (gs : List ℕ) (c : Bytes) (cs : List Bytes) (skip : Skip) → as_heard c ≡ Skipped skip → top < length ls → WithGenerations carousel ls P top gs cs → WithGenerations carousel ls P top gs (c ∷ cs)
skipped carousel ls P top gs c cs skip e lt t =
    put carousel ls P top top gs c cs (omega arith) lt (no_message carousel ls top c skip e) (never_near gs top c skip e) (subst (OnDii P top) (sym e) tt) (subst (λ h. WithGenerations carousel ls P top (gens_with gs top h) cs) (sym e) t)

-- the first generation, after a DII of generation k
head_is : (k : ℕ) (gs : List ℕ) (b : Bool) → newer gs k ≡ b → (g : ℕ) × ((rest : List ℕ) × ((gens_after gs k b ≡ g ∷ rest) × (g ≡ k)))
head_is k gs true e = (k, (gs, (refl, refl)))
head_is k [] false e = cc
head_is k (g ∷ gs) false e = (g, (gs, (refl, same g (k == g) refl e))) where
  same : (g : ℕ) → (t : Bool) → (k == g) ≡ t → not (k == g) ≡ false → g ≡ k
  same g true t e = sym (eqb-true k g t)
  same g false t e = let bad : not false ≡ false = subst (λ x. not x ≡ false) t e in cc

pub with_generations : (carousel : ℕ) (ls : List Layout) (P : ℕ → Type 0) (cs : List Bytes) (of : OfGeneration) → AreAscribed carousel ls cs of → ((i g : ℕ) → of i g → P g) → (top : ℕ) → top < length ls → ((i g : ℕ) → of i g → top ≤ g)
    → (gs : List ℕ) → NearUpTo cs of gs → WithGenerations carousel ls P top gs cs
with_generations carousel ls P [] of a each top lt above gs near = record { pairs = []; diis = tt; heard_is = refl; are = tt }
with_generations carousel ls P (c ∷ cs) of a each top lt above gs near = by (sections.read c) refl (λ k klt up hs n. with_generations carousel ls P cs (λ i g. of (suc i) g) (later carousel ls c cs of a) (λ i g q. each (suc i) g q) k klt up hs n) where
  Rest : Type 0
  Rest = (k : ℕ) → k < length ls → ((i g : ℕ) → of (suc i) g → k ≤ g) → (hs : List ℕ) → NearUpTo cs (λ i g. of (suc i) g) hs → WithGenerations carousel ls P k hs cs

  on : (k : ℕ) → of 0 k → (h : Heard) → OnDii P k h
  on k p (ADii d) = each 0 k p
  on k p (ABlock b) = tt
  on k p (ADsi d) = tt
  on k p (Skipped c) = tt
  on k p (NoControl c) = tt
  on k p (NoBlock c) = tt

  -- an accepted candidate, by what it says
  accepted : (k : ℕ) → of 0 k → k < length ls → Rest → (h : Heard) → as_heard c ≡ h → IsSaidIn carousel ls k h → WithGenerations carousel ls P top gs (c ∷ cs)
  accepted k p klt rest (ADii d) e said =
      let head = head_is k gs (newer gs k) refl in
      put carousel ls P top k gs c cs (above 0 k p) klt (subst (IsSaidIn carousel ls k) (sym e) said) (subst (IsNearTo gs k) (sym e) (free gs)) (on k p (as_heard c))
      (subst (λ h. WithGenerations carousel ls P k (gens_with gs k h) cs) (sym e)
      (rest k klt (λ i g q. a.order 0 (suc i) k g (omega arith) p q) (gens_after gs k (newer gs k))
      (subst (λ hs. NearUpTo cs (λ i g. of (suc i) g) hs) (sym head.1.1.0) (dii_near carousel ls c cs of a d e head.0 k p head.1.1.1 head.1.0)))) where
        free : (gs : List ℕ) → IsNearTo gs k (ADii d)
        free [] = tt
        free (g ∷ gs) = tt
  accepted k p klt rest (ABlock x) e said =
      put carousel ls P top k gs c cs (above 0 k p) klt (subst (IsSaidIn carousel ls k) (sym e) said) (subst (IsNearTo gs k) (sym e) (close gs near)) (on k p (as_heard c))
      (subst (λ h. WithGenerations carousel ls P k (gens_with gs k h) cs) (sym e)
      (rest k klt (λ i g q. a.order 0 (suc i) k g (omega arith) p q) gs (pass_near c cs of gs (ABlock x) e (λ d f. cc) near))) where
        close : (gs : List ℕ) → NearUpTo (c ∷ cs) of gs → IsNearTo gs k (ABlock x)
        close [] n = tt
        close (g ∷ gs) n = n 0 k (c, x, refl, e) (λ i lt dii. omega (arith, lt)) p
  accepted k p klt rest (ADsi d) e said =
      put carousel ls P top k gs c cs (above 0 k p) klt (subst (IsSaidIn carousel ls k) (sym e) said) (subst (IsNearTo gs k) (sym e) (free gs)) (on k p (as_heard c))
      (subst (λ h. WithGenerations carousel ls P k (gens_with gs k h) cs) (sym e)
      (rest k klt (λ i g q. a.order 0 (suc i) k g (omega arith) p q) gs (pass_near c cs of gs (ADsi d) e (λ x f. cc) near))) where
        free : (gs : List ℕ) → IsNearTo gs k (ADsi d)
        free [] = tt
        free (g ∷ gs) = tt
  accepted k p klt rest (Skipped skip) e said =
      put carousel ls P top k gs c cs (above 0 k p) klt (subst (IsSaidIn carousel ls k) (sym e) said) (never_near gs k c skip e) (on k p (as_heard c))
      (subst (λ h. WithGenerations carousel ls P k (gens_with gs k h) cs) (sym e)
      (rest k klt (λ i g q. a.order 0 (suc i) k g (omega arith) p q) gs (pass_near c cs of gs (Skipped skip) e (λ x f. cc) near)))
  accepted k p klt rest (NoControl n) e said = absurd said
  accepted k p klt rest (NoBlock n) e said = absurd said

  by : (r : Result sections.Fields Skip) → sections.read c ≡ r → Rest → WithGenerations carousel ls P top gs (c ∷ cs)
  by (Err skip) e rest =
      let says : as_heard c ≡ Skipped skip = ap heard_section e in
      skipped carousel ls P top gs c cs skip says lt (rest top lt (λ i g q. above (suc i) g q) gs (pass_near c cs of gs (Skipped skip) says (λ d f. cc) near))
  by (Ok s) e rest = let x = a.each 0 c refl (ap (λ r. is_ok r) e) in accepted x.0 x.1.0 x.1.1.0 rest (as_heard c) refl x.1.1.1
