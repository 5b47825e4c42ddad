-- The list of what was shown. All of it is this project's own.
use Rattle.std.specs.Prelude.{ℕ, ◌≡◌, ◌+◌, List, [], ◌∷◌, length, slice_get, Some}

module _ {S : Type 0} where
  -- the value at place k has the number k
  abbrev pub AreNumbered : (S → ℕ) → List S → Type 0
  AreNumbered number shots = (k : ℕ) (shot : S) → slice_get shots k ≡ Some shot → number shot ≡ k

  -- the list ends with this value, whose number is that of its place
  abbrev pub EndsWith : (S → ℕ) → List S → S → Type 0
  EndsWith number shots shot = (length shots ≡ number shot + 1) × (slice_get shots (number shot) ≡ Some shot)

abbrev pub Each : {A : Type 0} → (A → Type 0) → List A → Type 0
Each P [] = Unit {0}
Each P (x ∷ xs) = P x × Each P xs
