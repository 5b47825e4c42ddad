-- The index of a module is the one reading of its bytes.
use Rattle.std.proofs.Common.{◌≡◌, ℕ, zero, suc, ◌+◌, ◌≤◌, Bool, true, false, cond, List, [], ◌∷◌, ◌++◌, length, Option, Some, None, Ok, Err, refl, sym, ap, subst, ◌∙◌, append_assoc, arith, inl, inr, ◌⊎◌}
use Rattle.std.specs.Prelude.{IsOk, IsSome}
use Rattle.std.proofs.lemmas.List.{length-append}
use Rattle.std.proofs.lemmas.Bool.{eqb-true}
use Rattle.oc_bytes.specs.Numbers.{IsBytes, four_bytes, eight_bytes}
use Rattle.oc_bytes.specs.Cursor.{Cursor, Reading, from_start}
use Rattle.path_tree.specs.Paths.{same_name}
use Rattle.oc_bytes.specs.Agreement.{at, Taken, Then, Nested}
use Rattle.oc_bytes.specs.Grammar.{Reads, read}
use Rattle.oc_bytes.proofs.CallerLemmas.{grammar_agrees, fits_back}
use Rattle.biop_object.specs.declared.written.TheConstants.{MESSAGE_HEAD}
use Rattle.biop_object.specs.Objects.{Shape, IsFile, IsFolder, IsOther, Object, ReadsObject, ReadsModule, BeginsFramed, shape_by, shape, object}
use Rattle.biop_object.specs.declared.reading.TheConstants.{HEAD}
use Rattle.biop_object.specs.Inner.Objects.{framed}
use Rattle.biop_object.specs.ObjectReading.{Index, and_then, read_on, index_of, object_at, found_from, found_shape}
use Rattle.biop_object.specs.declared.module.Found.{Found}
use Rattle.biop_object.specs.declared.module.Found.TheVariants as found
use Rattle.biop_object.specs.declared.module.Span.{Span}
use Rattle.biop_object.proofs.Indexing.{object_shrinks, one_step, one_more, at_end}

-- ---- what memory is asked for

framed_parts : {bytes front head head_is back size size_is : List ℕ} (message rest : List ℕ) → bytes ≡ front ++ rest → front ≡ head ++ back → head ≡ head_is → back ≡ size ++ message → size ≡ size_is
    → bytes ≡ head_is ++ size_is ++ message ++ rest
framed_parts message rest whole parts head tail size = rw (whole, parts, head, tail, size) (simp append_assoc)

pub begins_framed : (bytes : List ℕ) → IsBytes bytes → IsOk (read framed (from_start bytes)) → BeginsFramed bytes
unfolding Reads
begins_framed bytes fits h = by_reading (read framed (from_start bytes)) refl h where
  by_reading : (m : Reading (Unit {0})) → read framed (from_start bytes) ≡ m → IsOk m → BeginsFramed bytes
  by_reading (Ok x) e h =
      let t = (grammar_agrees framed).takes (from_start bytes) x fits e in
      let z = t.reads.second in
      let head = t.reads.first.0.1 ∙ ap eight_bytes (eqb-true t.reads.value HEAD t.reads.first.1) in
      (z.back, x.1.rest, omega (arith, z.second.size, z.first.0), framed_parts z.back x.1.rest t.parts t.reads.whole head z.whole (z.first.1 ∙ ap four_bytes (sym z.second.size)))
  by_reading (Err p) e h = absurd cc

-- ---- one message

object_taken : (c : Cursor) (x : Object × Cursor) → IsBytes c.rest → object_at c ≡ Ok x → Taken (ReadsObject c.place) c x
unfolding object_at
object_taken c x fits e = (grammar_agrees (object c.place)).takes c x fits e

object_again : (place : ℕ) (front rest : List ℕ) (o : Object) → ReadsObject place front o → object_at (at place (front ++ rest)) ≡ Ok (o, at (place + length front) rest)
unfolding object_at
object_again place front rest o h = (grammar_agrees (object place)).again front rest place o h

-- ---- what is read is the module

abbrev IsRead : ℕ → List ℕ → Index → Type 0
IsRead place bytes i = ReadsModule place bytes i.0 i.1

read_steps : (k place : ℕ) (bytes : List ℕ) → IsBytes bytes → length bytes ≤ k → IsRead place bytes (read_on k (at place bytes))
read_steps zero place [] fits le = refl
read_steps zero place (b ∷ bytes) fits le = absurd (omega arith)
read_steps (suc k) place [] fits le = refl
read_steps (suc k) place (b ∷ bytes) fits le = subst (λ (i : Index). IsRead place (b ∷ bytes) i) (sym (one_step k (at place (b ∷ bytes)) (omega arith))) (by_object (read_steps k) (object_at (at place (b ∷ bytes))) refl) where
  by_object : ((place : ℕ) (bytes : List ℕ) → IsBytes bytes → length bytes ≤ k → IsRead place bytes (read_on k (at place bytes))) → (m : Reading Object) → object_at (at place (b ∷ bytes)) ≡ m → IsRead place (b ∷ bytes) (and_then place (read_on k) m)
  by_object others (Ok x) e =
      let t = object_taken (at place (b ∷ bytes)) x fits e in
      let fewer = object_shrinks (at place (b ∷ bytes)) x e in
      let rest = others x.1.place x.1.rest (fits_back t.front x.1.rest (subst IsBytes t.parts fits)) (omega arith) in
      (t.front, x.1.rest, t.parts, t.reads, subst (λ (p : ℕ). IsRead p x.1.rest (read_on k x.1)) t.place rest)
  by_object others (Err p) e = (refl, (λ none. cc), λ front rest o split reads. cc (object_again place front rest o reads))

pub index_reads : (bytes : List ℕ) → IsBytes bytes → ReadsModule 0 bytes (index_of bytes).0 (index_of bytes).1
index_reads bytes fits = read_steps (length bytes) 0 bytes fits (omega arith)

-- ---- a module has one reading

-- only where reading stops does it matter that these are bytes
pub only_one : (place : ℕ) (bytes : List ℕ) (objects : List Object) (stop : Option ℕ) → (IsSome stop → IsBytes bytes) → ReadsModule place bytes objects stop → (k : ℕ) → length bytes ≤ k → read_on k (at place bytes) ≡ (objects, stop)
only_one place [] [] None fits h k room = at_end k (at place []) refl
only_one place (b ∷ bytes) [] None fits h k room = cc
only_one place [] [] (Some p) fits h k room = absurd (h.1 refl)
only_one place (b ∷ bytes) [] (Some p) fits h zero room = absurd (omega (arith, room))
only_one place (b ∷ bytes) [] (Some p) fits h (suc k) room = rw h.0 (one_step k (at place (b ∷ bytes)) (omega arith) ∙ stops (object_at (at place (b ∷ bytes))) refl) where
  stops : (m : Reading Object) → object_at (at place (b ∷ bytes)) ≡ m → and_then place (read_on k) m ≡ ([], Some place)
  stops (Ok x) e = let t = object_taken (at place (b ∷ bytes)) x (fits refl) e in absurd (h.2 t.front x.1.rest x.0 t.parts t.reads)
  stops (Err p) e = refl
only_one place bytes (o ∷ objects) stop fits h k room =
    let behind = at (place + length h.0) h.1 in
    let others = only_one (place + length h.0) h.1 objects stop (λ some. fits_back h.0 h.1 (subst IsBytes h.2 (fits some))) h.4 in
    one_more k (at place bytes) behind o (objects, stop) room (ap (λ (l : List ℕ). object_at (at place l)) h.2 ∙ object_again place h.0 h.1 o h.3) (λ j le. others j le)

pub index_only : (bytes : List ℕ) (objects : List Object) (stop : Option ℕ) → IsBytes bytes → ReadsModule 0 bytes objects stop → (objects, stop) ≡ index_of bytes
index_only bytes objects stop fits h = sym (only_one 0 bytes objects stop (λ some. fits) h (length bytes) (omega arith))

-- ---- a file's content lies in its module

lengths : {A B : Type 0} {R : List ℕ → A → Type 0} {S : A → List ℕ → B → Type 0} {s : List ℕ} {b : B} (h : Then R S s b) → length s ≡ length h.front + length h.back
lengths h = ap length h.whole ∙ length-append h.front h.back

inside : {A : Type 0} {R : List ℕ → A → Type 0} {n : ℕ} {s : List ℕ} {a : A} (h : Nested R n s a) → length h.front ≤ length s
inside h = omega (arith, ap length h.whole, length-append h.front h.trailing)

body_ends : (place first n : ℕ) (body : List ℕ) (file_like folder_like : Bool) → Reads (shape_by file_like folder_like place) body (IsFile first n) → first + n ≤ place + length body
unfolding Reads
body_ends place first n body true folder_like h =
    let at_first : first ≡ place + 4 = cc h.second.1 in
    let long : n ≡ length h.value = cc h.second.1 in
    omega (arith, lengths h, ap length h.first.1)
body_ends place first n body false true h = absurd (cc h.second.second.1)
body_ends place first n body false false h = absurd (cc h.1)

content_ends : (place : ℕ) (bytes : List ℕ) (o : Object) (first n : ℕ) → ReadsObject place bytes o → o.shape ≡ IsFile first n → first + n ≤ place + length bytes
unfolding Reads
content_ends place bytes o first n h e =
    let inner = h.second.second in
    let front = inner.reads in
    let said = front.second in
    let body = said.first.second in
    let is : said.value ≡ IsFile first n = sym (ap (λ (x : Object). x.shape) said.second.1) ∙ e in
    let place_of_body : ℕ = place + MESSAGE_HEAD + front.value.1 + 4 in
    let ends = body_ends place_of_body first n body.front _ _ (subst (λ (s : Shape). Reads (shape front.value.0.kind place_of_body) body.front s) is body.reads) in
    omega (arith, ends, lengths h, ap length h.first.0.1, lengths h.second, ap length h.second.first.1, inside inner, lengths front, front.first.1, lengths said, lengths said.first, ap length said.first.first.1, inside body)

is_file : (j : ℕ) (s : Shape) (span : Span) → found_shape j s ≡ found.File span → s ≡ IsFile span.first span.length
is_file j (IsFile first n) span e = cc
is_file j (IsFolder bindings) span e = absurd cc
is_file j IsOther span e = absurd cc

either : (t : Bool) (a b c : Found) → cond t a b ≡ c → (a ≡ c) ⊎ (b ≡ c)
either true a b c e = inl e
either false a b c e = inr e

file_inside : (place : ℕ) (bytes : List ℕ) (objects : List Object) (stop last : Option ℕ) (j : ℕ) (key : List ℕ) (span : Span) → ReadsModule place bytes objects stop → found_from j key objects last ≡ found.File span
    → span.first + span.length ≤ place + length bytes
file_inside place bytes [] stop None j key span h e = absurd cc
file_inside place bytes [] stop (Some p) j key span h e = absurd cc
file_inside place bytes (o ∷ objects) stop last j key span h e =
    let whole : length bytes ≡ length h.0 + length h.1 = ap length h.2 ∙ length-append h.0 h.1 in
    elim (either (same_name key o.key) (found_shape j o.shape) (found_from (suc j) key objects last) (found.File span) e) [
      | inl this ↦ omega (arith, whole, content_ends place h.0 o span.first span.length h.3 (is_file j o.shape span this))
      | inr later ↦ omega (arith, whole, file_inside (place + length h.0) h.1 objects stop last (suc j) key span h.4 later)
    ]

pub found_inside : (bytes key : List ℕ) (span : Span) → IsBytes bytes → found_from 0 key (index_of bytes).0 (index_of bytes).1 ≡ found.File span → span.first + span.length ≤ length bytes
found_inside bytes key span fits e = omega (arith, file_inside 0 bytes (index_of bytes).0 (index_of bytes).1 (index_of bytes).1 0 key span (index_reads bytes fits) e)
