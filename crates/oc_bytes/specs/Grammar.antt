-- A message's grammar: one description, field by field, from which its reading, its spelling and the relation of its bytes and values follow.
use Rattle.std.specs.Prelude.{◌≡◌, ℕ, ◌<◌, List, [], ◌∷◌, ◌++◌, length, ◌-◌, Option, Ok, Err, ◌==◌, if◌then◌else◌, Bool, true}
use Rattle.std.specs.List.{flat_map}
use Rattle.std.specs.Int.{w16, w32, w64, to_be_bytes}
use Rattle.std.specs.Result.{result_ok}
use Rattle.oc_bytes.specs.Cursor.{Cursor, Reading, ◌>>=◌, number_at, bytes_at, sized_at, each_at, nested_at, from_start, value_only}
use Rattle.oc_bytes.specs.Agreement.{IsList, Then, Nested, Counted}

-- how many bytes a number has
pub data Width : Type 0 where
  one : Width
  two : Width
  four : Width
  eight : Width

abbrev pub size_of : Width → ℕ
size_of one = 1
size_of two = 2
size_of four = 4
size_of eight = 8

abbrev pub limit_of : Width → ℕ
limit_of one = 256
limit_of two = 65536
limit_of four = 4294967296
limit_of eight = 18446744073709551616

-- the bytes of a number
abbrev pub in_bytes : Width → ℕ → List ℕ
in_bytes one n = n ∷ []
in_bytes two n = to_be_bytes w16 n
in_bytes four n = to_be_bytes w32 n
in_bytes eight n = to_be_bytes w64 n

-- What stands in the bytes, with the type of its value: a number; so many bytes; bytes with their number before them;
-- so many of one kind; a value for which a test holds; a part with the number of its bytes before it, in which bytes
-- after the value are passed over; a value and how many bytes it has; a field, of which the second argument says where
-- the whole value has it, and what follows that field; a field that the whole value doesn't have, and what follows it;
-- no more bytes, and the value.
pub data Grammar : Type 0 → Type 1 where
  number : Width → Grammar ℕ
  bytes : ℕ → Grammar (List ℕ)
  sized : Width → Grammar (List ℕ)
  each : {A : Type 0} → Grammar A → ℕ → Grammar (List A)
  held : {A : Type 0} → Grammar A → (A → Bool) → Grammar A
  enclosed : {A : Type 0} → Width → Grammar A → Grammar A
  counted : {A : Type 0} → Grammar A → Grammar (A × ℕ)
  field : {A B : Type 0} → Grammar A → (B → A) → (A → Grammar B) → Grammar B
  unkept : {A B : Type 0} → Grammar A → (A → Grammar B) → Grammar B
  gives : {A : Type 0} → A → Grammar A

-- a number that has to be this one
abbrev pub this : Width → ℕ → Grammar ℕ
this w n = held (number w) (λ x. x == n)

-- a part that is passed over, and what is written for it
abbrev pub passed : {A : Type 0} → Grammar A → A → Grammar (Unit {0})
passed g a = field g (λ u. a) (λ x. gives tt)

-- reading from left to right
unfoldable pub read : {A : Type 0} → Grammar A → Cursor → Reading A
read (number w) c = number_at (size_of w) c
read (bytes n) c = bytes_at n c
read (sized w) c = sized_at (size_of w) c
read (each g n) c = each_at (read g) n c
read (held g test) c = read g c >>= λ x. if test x.0 then Ok x else Err c.place
read (enclosed w g) c = number_at (size_of w) c >>= λ n. nested_at n.0 (read g) n.1
read (counted g) c = read g c >>= λ x. Ok ((x.0, x.1.place - c.place), x.1)
read (field g part next) c = read g c >>= λ x. read (next x.0) x.1
read (unkept g next) c = read g c >>= λ x. read (next x.0) x.1
read (gives a) c = Ok (a, c)

-- the value at the front of some bytes, where they are read; what stands after it is passed over
abbrev pub front_of : {A : Type 0} → Grammar A → List ℕ → Option A
front_of g content = result_ok (value_only (read g (from_start content)))

-- all of the bytes are read as the value
unfoldable pub Reads : {A : Type 0} → Grammar A → List ℕ → A → Type 0
Reads (number w) s n = (n < limit_of w) × (s ≡ in_bytes w n)
Reads (bytes n) s a = (length a ≡ n) × (s ≡ a)
Reads (sized w) s a = (length a < limit_of w) × (s ≡ in_bytes w (length a) ++ a)
Reads (each g n) s xs = IsList (Reads g) n s xs
Reads (held g test) s a = Reads g s a × (test a ≡ true)
Reads (enclosed w g) s a = Then (λ (t : List ℕ) (n : ℕ). (n < limit_of w) × (t ≡ in_bytes w n)) (Nested (Reads g)) s a
Reads (counted g) s x = Counted (Reads g) s x
Reads (field g part next) s b = Then (Reads g) (λ a. Reads (next a)) s b
Reads (unkept g next) s b = Then (Reads g) (λ a. Reads (next a)) s b
Reads (gives v) s a = (s ≡ []) × (a ≡ v)

-- the spelling of a value, where it has one (`Fits`)
unfoldable pub spell : {A : Type 0} → Grammar A → A → List ℕ
spell (number w) n = in_bytes w n
spell (bytes n) a = a
spell (sized w) a = in_bytes w (length a) ++ a
spell (each g n) xs = flat_map (spell g) xs
spell (held g test) a = spell g a
spell (enclosed w g) a = in_bytes w (length (spell g a)) ++ spell g a
spell (counted g) x = spell g x.0
spell (field g part next) b = spell g (part b) ++ spell (next (part b)) b
spell (unkept g next) b = []
spell (gives v) a = []

abbrev pub FitsEach : {A : Type 0} → (A → Type 0) → List A → Type 0
FitsEach P [] = Unit {0}
FitsEach P (x ∷ xs) = P x × FitsEach P xs

-- a value that has a spelling: its numbers have room in their fields, its parts make it up, and it has all fields
unfoldable pub Fits : {A : Type 0} → Grammar A → A → Type 0
Fits (number w) n = n < limit_of w
Fits (bytes n) a = length a ≡ n
Fits (sized w) a = length a < limit_of w
Fits (each g n) xs = (length xs ≡ n) × FitsEach (Fits g) xs
Fits (held g test) a = Fits g a × (test a ≡ true)
Fits (enclosed w g) a = (length (spell g a) < limit_of w) × Fits g a
Fits (counted g) x = Fits g x.0 × (x.1 ≡ length (spell g x.0))
Fits (field g part next) b = Fits g (part b) × Fits (next (part b)) b
Fits (unkept g next) b = ⊥
Fits (gives v) a = a ≡ v
