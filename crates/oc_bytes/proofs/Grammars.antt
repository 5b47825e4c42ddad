-- Of each grammar: its reading and its relation say the same, and the spelling of a value is in the relation and is read as the value.
use Rattle.std.proofs.Common.{◌≡◌, ℕ, ◌+◌, ◌-◌, ◌≤◌, ◌↔◌, List, [], ◌∷◌, ◌++◌, length, take, drop, Option, Some, None, MatchOption, Result, Ok, Err, refl, sym, ap, subst, ◌∙◌, zero-add, arith, cond}
use Rattle.std.specs.Prelude.{⊤, IfOk, IfErr, IfSome}
use Rattle.std.specs.List.{flat_map}
use Rattle.std.specs.Result.{result_ok}
use Rattle.std.proofs.lemmas.List.{append-nil, length-append, length-take, take_at, take-append-drop}
use Rattle.oc_bytes.specs.Cursor.{Cursor, Reading, ◌>>=◌, past, number_at, bytes_at, sized_at, nested_at, from_start, read_from_start, value_only}
use Rattle.oc_bytes.specs.Numbers.{IsBytes, number_of}
use Rattle.oc_bytes.specs.Outcome.{Gives}
use Rattle.oc_bytes.specs.Agreement.{at, move_by, shift_by, Agrees, ReadsEach, Then}
use Rattle.oc_bytes.specs.Grammar.{Width, one, two, four, eight, size_of, limit_of, in_bytes, Grammar, number, bytes, sized, each, held, enclosed, counted, field, unkept, gives, read, front_of, Reads, spell, FitsEach, Fits}
use Rattle.oc_bytes.proofs.Agree.{held_ok, okay, IsWide, wide_1, wide_2, wide_4, wide_8, number_agrees, bytes_agrees, sized_agrees, each_agrees, held_agrees, then_agrees, done_agrees}
use Rattle.oc_bytes.proofs.Parts.{nested_agrees, counted_agrees, Passes, pass_none, cut_passes, bind_passes, ends_there, nested_passes, each_passes}

wide : (w : Width) → IsWide (size_of w) (limit_of w) (in_bytes w)
wide one = wide_1
wide two = wide_2
wide four = wide_4
wide eight = wide_8

pub grammar_agrees : {A : Type 0} (g : Grammar A) → Agrees (read g) (Reads g)
unfolding read Reads
grammar_agrees (number w) = number_agrees (wide w)
grammar_agrees (bytes n) = bytes_agrees n
grammar_agrees (sized w) = sized_agrees (wide w)
grammar_agrees (each g n) = each_agrees (grammar_agrees g) n
grammar_agrees (held g test) = held_agrees (grammar_agrees g) test
grammar_agrees (enclosed w g) = then_agrees (number_agrees (wide w)) (λ n. nested_agrees (grammar_agrees g) n)
grammar_agrees (counted g) = counted_agrees (grammar_agrees g)
grammar_agrees (field g part next) = then_agrees (grammar_agrees g) (λ a. grammar_agrees (next a))
grammar_agrees (unkept g next) = then_agrees (grammar_agrees g) (λ a. grammar_agrees (next a))
grammar_agrees (gives v) = done_agrees v

each_reads : {A : Type 0} (P : A → Type 0) (R : List ℕ → A → Type 0) (s : A → List ℕ) → ((a : A) → P a → R (s a) a) → (xs : List A) → FitsEach P xs → ReadsEach R (flat_map s xs) xs
each_reads P R s f [] fits = refl
each_reads P R s f (x ∷ xs) fits = (s x, flat_map s xs, refl, f x fits.0, each_reads P R s f xs fits.1)

pub fits_reads : {A : Type 0} (g : Grammar A) (a : A) → Fits g a → Reads g (spell g a) a
unfolding Reads spell Fits
fits_reads (number w) n fits = (fits, refl)
fits_reads (bytes n) a fits = (fits, refl)
fits_reads (sized w) a fits = (fits, refl)
fits_reads (each g n) xs fits = record { count = fits.0; each = each_reads (Fits g) (Reads g) (spell g) (λ a h. fits_reads g a h) xs fits.1 }
fits_reads (held g test) a fits = (fits_reads g a fits.0, fits.1)
fits_reads (enclosed w g) a fits = record {
  value = length (spell g a);
  front = in_bytes w (length (spell g a));
  back = spell g a;
  whole = refl;
  first = (fits.0, refl);
  second = record { size = refl; front = spell g a; trailing = []; whole = sym (append-nil (spell g a)); reads = fits_reads g a fits.1 };
}
fits_reads (counted g) x fits = (fits_reads g x.0 fits.0, fits.1)
fits_reads (field g part next) b fits = record { value = part b; front = spell g (part b); back = spell (next (part b)) b; whole = refl; first = fits_reads g (part b) fits.0; second = fits_reads (next (part b)) b fits.1 }
fits_reads (unkept g next) b fits = absurd fits
fits_reads (gives v) a fits = (refl, fits)

-- a field before what follows it
pub put : {A B : Type 0} {R : List ℕ → A → Type 0} {S : A → List ℕ → B → Type 0} {b : B} (a : A) (front back : List ℕ) → R front a → S a back b → Then R S (front ++ back) b
put a front back first second = record { value = a; front = front; back = back; whole = refl; first = first; second = second }

-- a spelling is read at any place, whatever stands after it
pub spelled_again : {A : Type 0} (g : Grammar A) (a : A) → Fits g a → (place : ℕ) (rest : List ℕ) → read g (at place (spell g a ++ rest)) ≡ Ok (a, at (place + length (spell g a)) rest)
spelled_again g a fits place rest = (grammar_agrees g).again (spell g a) rest place a (fits_reads g a fits)

pub spelled_front : {A : Type 0} (g : Grammar A) (a : A) → Fits g a → (s rest : List ℕ) → s ≡ spell g a ++ rest → read_from_start (read g (from_start s)) ≡ Ok (a, length (spell g a))
spelled_front g a fits s rest e = rw (e, spelled_again g a fits 0 rest, zero-add (length (spell g a))) refl

pub front_spelled : {A : Type 0} (g : Grammar A) (a : A) → Fits g a → front_of g (spell g a) ≡ Some a
front_spelled {A} g a fits = ap (λ (s : List ℕ). front_of g s) (sym (append-nil (spell g a))) ∙ ap (λ (m : Reading A). result_ok (value_only m)) (spelled_again g a fits 0 [])

-- ---- what is read at the front of some bytes, as a call answers it

pub from_some : {A : Type 0} (m : Reading A) (y : A × ℕ) → read_from_start m ≡ Ok y → (d : Cursor) × (m ≡ Ok (y.0, d)) × (d.place ≡ y.1)
from_some {A} (Ok x) y e =
    let is : (x.0, x.1.place) ≡ y = cc in
    (x.1, ap (λ (z : A × ℕ). okay (z.0, x.1)) is, ap (λ (z : A × ℕ). z.1) is)
from_some (Err place) y e = absurd cc

pub from_fault : {A : Type 0} (m : Reading A) (p : ℕ) → read_from_start m ≡ Err p → m ≡ Err p
from_fault (Ok x) p e = absurd cc
from_fault (Err place) p e = cc

abbrev pub StandsFirst : {A : Type 0} → (List ℕ → A → Type 0) → List ℕ → A → ℕ → Type 0
StandsFirst R s a n = (n ≤ length s) × R (take n s) a

found_at : {A : Type 0} {r : Cursor → Reading A} {R : List ℕ → A → Type 0} → Agrees r R → (s : List ℕ) (y : A × ℕ) → IsBytes s → read_from_start (r (from_start s)) ≡ Ok y → StandsFirst R s y.0 y.1
found_at {A} {r} {R} agrees s y fits e =
    let k = from_some (r (from_start s)) y e in
    let t = agrees.takes (from_start s) (y.0, k.0) fits k.1 in
    let n : y.1 ≡ length t.front = omega (arith, k.2, t.place) in
    let front : take y.1 s ≡ t.front = ap (take y.1) t.parts ∙ take_at t.front k.0.rest y.1 (sym n) in
    (omega (arith, n, ap length t.parts, length-append t.front k.0.rest), subst (λ (b : List ℕ). R b y.0) (sym front) t.reads)

-- a value that a call answers stands in front
pub is_found : {A X E : Type 0} {r : Cursor → Reading A} {R : List ℕ → A → Type 0} → Agrees r R → (view : X → A × ℕ) (cause : E → Option ℕ) (s : List ℕ) (answer : Result X E) → IsBytes s
    → Gives view cause answer (read_from_start (r (from_start s))) → IfOk answer (λ x. StandsFirst R s (view x).0 (view x).1)
is_found agrees view cause s (Ok x) fits given = found_at agrees s (view x) fits given
is_found agrees view cause s (Err e) fits given = tt

-- what stands in front is read
pub front_read : {A : Type 0} {r : Cursor → Reading A} {R : List ℕ → A → Type 0} → Agrees r R → (s : List ℕ) (a : A) (n : ℕ) → StandsFirst R s a n → read_from_start (r (from_start s)) ≡ Ok (a, n)
front_read agrees s a n h =
    let len : 0 + length (take n s) ≡ n = omega (arith, length-take n s, h.0) in
    rw (rw (take-append-drop n s) at (agrees.again (take n s) (drop n s) 0 a h.1), len) refl

stops_inside : {A : Type 0} {r : Cursor → Reading A} {R : List ℕ → A → Type 0} → Agrees r R → (s : List ℕ) (o : Option ℕ) → IsBytes s → MatchOption o ⊤ (λ p. read_from_start (r (from_start s)) ≡ Err p) → IfSome o (λ p. p ≤ length s)
stops_inside agrees s None fits e = tt
stops_inside {A} {r} agrees s (Some p) fits e = omega (arith, agrees.stops (from_start s) p fits (from_fault (r (from_start s)) p e))

-- a refusal's place lies in the bytes
pub fault_inside : {A X E : Type 0} {r : Cursor → Reading A} {R : List ℕ → A → Type 0} → Agrees r R → (view : X → A × ℕ) (cause : E → Option ℕ) (s : List ℕ) (answer : Result X E) → IsBytes s
    → Gives view cause answer (read_from_start (r (from_start s))) → IfErr answer (λ e. IfSome (cause e) (λ p. p ≤ length s))
fault_inside agrees view cause s (Ok x) fits given = tt
fault_inside agrees view cause s (Err e) fits given = stops_inside agrees s (cause e) fits given

-- ---- what reading leaves

pub passes : {A : Type 0} (g : Grammar A) (c : Cursor) (x : A × Cursor) → read g c ≡ Ok x → Passes c x.1
unfolding read sized_at
passes (number w) c x e = cut_passes (size_of w) c (number_of (take (size_of w) c.rest)) x e
passes (bytes n) c x e = cut_passes n c (take n c.rest) x e
passes (sized w) c x e = bind_passes c (number_at (size_of w) c) (λ n. bytes_at n.0 n.1) x e (cut_passes (size_of w) c _) (λ y h. cut_passes y.0 y.1 _ x h)
passes (each g n) c x e = each_passes (read g) (passes g) n c x e
passes (held g test) c x e = bind_passes c (read g c) (λ y. cond (test y.0) (Ok y) (Err c.place)) x e (passes g c) (λ y h. ends_there y.1 y.1 y.0 x (ap okay (held_ok (test y.0) c.place y x h).1) (pass_none y.1))
passes (enclosed w g) c x e = bind_passes c (number_at (size_of w) c) (λ n. nested_at n.0 (read g) n.1) x e (cut_passes (size_of w) c _) (λ y h. nested_passes (read g) y.0 y.1 x h)
passes (counted g) c x e = bind_passes c (read g c) (λ y. Ok ((y.0, y.1.place - c.place), y.1)) x e (passes g c) (λ y h. ends_there y.1 y.1 (y.0, y.1.place - c.place) x h (pass_none y.1))
passes (field g part next) c x e = bind_passes c (read g c) (λ y. read (next y.0) y.1) x e (passes g c) (λ y h. passes (next y.0) y.1 x h)
passes (unkept g next) c x e = bind_passes c (read g c) (λ y. read (next y.0) y.1) x e (passes g c) (λ y h. passes (next y.0) y.1 x h)
passes (gives v) c x e = ends_there c c v x e (pass_none c)

-- the number of bytes with which a counted part is read
pub counted_read : {A : Type 0} (g : Grammar A) (c : Cursor) (x : A × Cursor) → read g c ≡ Ok x → (n : ℕ) × (read (counted g) c ≡ Ok ((x.0, n), x.1)) × (c.place + n ≡ x.1.place)
unfolding read
counted_read {A} g c x e =
    let p = passes g c x e in
    (x.1.place - c.place, ap (λ (m : Reading A). m >>= λ y. Ok ((y.0, y.1.place - c.place), y.1)) e, omega (arith, ap (λ (d : Cursor). d.place) p.2))

-- ---- a value at the front of bytes that stand anywhere

at_place : {A : Type 0} (g : Grammar A) (c : Cursor) → read g c ≡ shift_by c.place (read g (from_start c.rest))
at_place g c = ap (λ (p : ℕ). read g (at p c.rest)) (sym (zero-add c.place)) ∙ (grammar_agrees g).moves c.place (from_start c.rest)

pub read_here : {A : Type 0} (g : Grammar A) (c : Cursor) (a : A) (n : ℕ) → read_from_start (read g (from_start c.rest)) ≡ Ok (a, n) → read g c ≡ Ok (a, past n c)
read_here g c a n e =
    let k = from_some (read g (from_start c.rest)) (a, n) e in
    let p = passes g (from_start c.rest) (a, k.0) k.1 in
    let same : p.0 ≡ n = omega (arith, k.2, ap (λ (d : Cursor). d.place) p.2) in
    let place : 0 + n + c.place ≡ c.place + n = omega arith in
    at_place g c ∙ ap (shift_by c.place) k.1 ∙ ap (λ (d : Cursor). okay (a, move_by c.place d)) p.2
    ∙ ap (λ (m : ℕ). okay (a, at (0 + m + c.place) (drop m c.rest))) same ∙ ap (λ (q : ℕ). okay (a, at q (drop n c.rest))) place

pub stops_here : {A : Type 0} (g : Grammar A) (c : Cursor) (p : ℕ) → read_from_start (read g (from_start c.rest)) ≡ Err p → read g c ≡ Err (c.place + p)
stops_here g c p e =
    let place : p + c.place ≡ c.place + p = omega arith in
    at_place g c ∙ rw (from_fault (read g (from_start c.rest)) p e, place) refl
