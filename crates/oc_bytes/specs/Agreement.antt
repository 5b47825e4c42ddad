-- When a reading function and a relation of bytes and values say the same.
use Rattle.std.specs.Prelude.{◌≡◌, ℕ, ◌+◌, ◌≤◌, List, [], ◌∷◌, ◌++◌, length, Ok, Err}
use Rattle.oc_bytes.specs.Numbers.{IsBytes}
use Rattle.oc_bytes.specs.Cursor.{Cursor, Reading}

abbrev pub at : ℕ → List ℕ → Cursor
at place rest = record { place = place; rest = rest }

-- a cursor, and a reading, with all places greater by p
abbrev pub move_by : ℕ → Cursor → Cursor
move_by p c = at (c.place + p) c.rest

abbrev pub shift_by : {A : Type 0} → ℕ → Reading A → Reading A
shift_by p (Ok x) = Ok (x.0, move_by p x.1)
shift_by p (Err place) = Err (place + p)

-- what was read stands in front
pub record Taken {A : Type 0} (R : List ℕ → A → Type 0) (c : Cursor) (x : A × Cursor) : Type 0 where
  pub front : List ℕ
  pub reads : R front x.0
  pub parts : c.rest ≡ front ++ x.1.rest
  pub place : x.1.place ≡ c.place + length front

-- What is read stands in front in this form, what stands in front in this form is read, places count from any start,
-- and reading stops at a place of the bytes.
pub record Agrees {A : Type 0} (read : Cursor → Reading A) (R : List ℕ → A → Type 0) : Type 0 where
  pub takes : (c : Cursor) (x : A × Cursor) → IsBytes c.rest → read c ≡ Ok x → Taken R c x
  pub again : (front rest : List ℕ) (place : ℕ) (a : A) → R front a → read (at place (front ++ rest)) ≡ Ok (a, at (place + length front) rest)
  pub moves : (p : ℕ) (c : Cursor) → read (move_by p c) ≡ shift_by p (read c)
  pub stops : (c : Cursor) (p : ℕ) → IsBytes c.rest → read c ≡ Err p → p ≤ c.place + length c.rest

-- bytes, in this form
pub record InBytes {A : Type 0} (R : List ℕ → A → Type 0) (bytes : List ℕ) (a : A) : Type 0 where
  pub fit : IsBytes bytes
  pub reads : R bytes a

-- the bytes are these values one after another, each read by R
abbrev pub ReadsEach : {A : Type 0} → (List ℕ → A → Type 0) → List ℕ → List A → Type 0
ReadsEach R bytes [] = bytes ≡ []
ReadsEach R bytes (x ∷ xs) = (front : List ℕ) × (rest : List ℕ) × (bytes ≡ front ++ rest) × R front x × ReadsEach R rest xs

-- so many values one after another
pub record IsList {A : Type 0} (R : List ℕ → A → Type 0) (n : ℕ) (bytes : List ℕ) (xs : List A) : Type 0 where
  pub count : length xs ≡ n
  pub each : ReadsEach R bytes xs

-- one form and then another
pub record Then {A B : Type 0} (R : List ℕ → A → Type 0) (S : A → List ℕ → B → Type 0) (bytes : List ℕ) (b : B) : Type 0 where
  pub value : A
  pub front : List ℕ
  pub back : List ℕ
  pub whole : bytes ≡ front ++ back
  pub first : R front value
  pub second : S value back b

-- so many bytes, of which a front is in this form
pub record Nested {A : Type 0} (R : List ℕ → A → Type 0) (n : ℕ) (bytes : List ℕ) (a : A) : Type 0 where
  pub size : length bytes ≡ n
  pub front : List ℕ
  pub trailing : List ℕ
  pub whole : bytes ≡ front ++ trailing
  pub reads : R front a

-- a value in this form, and how many bytes it has
abbrev pub Counted : {A : Type 0} → (List ℕ → A → Type 0) → List ℕ → A × ℕ → Type 0
Counted R bytes x = R bytes x.0 × (x.1 ≡ length bytes)
