-- Lists that begin with others, places in them, and sums over lists. All of it is this project's own.
use Rattle.std.specs.Prelude.{◌≡◌, ℕ, zero, suc, ◌+◌, ◌-◌, ◌==◌, ◌&&◌, List, [], ◌∷◌, ◌++◌, length, if◌then◌else◌, nat_le, nat_lt}

-- the list begins with these
abbrev pub Begins : {E : Type 0} → List E → List E → Type 0
Begins {E} seen list = (rest : List E) × (list ≡ seen ++ rest)

-- how often x stands in the list
abbrev pub times : ℕ → List ℕ → ℕ
times x [] = 0
times x (y ∷ ys) = (if x == y then 1 else 0) + times x ys

-- the n places from the first on
abbrev pub places : ℕ → ℕ → List ℕ
places first zero = []
places first (suc n) = first ∷ places (suc first) n

-- the places that the second list has after the end of the first
abbrev pub new_places : {E : Type 0} → List E → List E → List ℕ
new_places before after = places (length before) (length after - length before)

-- 1 at each place of a list of this length that is no place of the opening list, and 0 elsewhere
abbrev pub once_within : ℕ → ℕ → ℕ → ℕ
once_within opened length p = if nat_le opened p && nat_lt p length then 1 else 0

-- f of each, added up
abbrev pub total : {A : Type 0} → (A → ℕ) → List A → ℕ
total f [] = 0
total f (x ∷ xs) = f x + total f xs

-- P of each of them
abbrev pub Each : {A : Type 0} → (A → Type 0) → List A → Type 0
Each P [] = Unit {0}
Each P (x ∷ xs) = P x × Each P xs
