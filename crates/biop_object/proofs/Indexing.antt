-- Reading messages one after another, as a loop does.
use Rattle.std.proofs.Common.{◌≡◌, ℕ, zero, suc, ◌+◌, ◌<◌, ◌≤◌, Bool, true, false, cond, ◌==◌, List, [], ◌∷◌, ◌++◌, length, Option, Some, None, Ok, Err, refl, sym, ap, subst, ◌∙◌, append_assoc, arith, inl, inr, ◌⊎◌}
use Rattle.std.specs.Prelude.{IsOk}
use Rattle.std.proofs.lemmas.Bool.{eqb-true}
use Rattle.std.proofs.lemmas.List.{append-nil, length-drop}
use Rattle.oc_bytes.specs.Cursor.{Cursor, this_at}
use Rattle.oc_bytes.specs.Grammar.{four, enclosed, read}
use Rattle.oc_bytes.proofs.CallerLemmas.{bind_ok, passes}
use Rattle.biop_object.specs.declared.written.TheConstants.{MESSAGE_HEAD}
use Rattle.biop_object.specs.Objects.{Object, message}
use Rattle.biop_object.specs.declared.reading.TheConstants.{HEAD}
use Rattle.biop_object.specs.Inner.Objects.{framed}
use Rattle.biop_object.specs.ObjectReading.{Index, and_then, read_on, object_at}
use Rattle.biop_object.proofs.Places.{head_moves}

-- ---- each message has bytes

abbrev pub nothing : Index
nothing = ([], None)

pub object_shrinks : (c : Cursor) (x : Object × Cursor) → object_at c ≡ Ok x → length x.1.rest < length c.rest
unfolding read object_at
object_shrinks c x e =
    let a = bind_ok (this_at 8 HEAD c) (λ head. read (enclosed four (message (c.place + MESSAGE_HEAD))) head.1) x e in
    let p = head_moves c a.0 a.1 in
    let q = passes (enclosed four (message (c.place + MESSAGE_HEAD))) a.0.1 x a.2 in
    omega (arith, p.0, ap (λ (d : Cursor). length d.rest) p.1, length-drop 8 c.rest, ap (λ (d : Cursor). length d.rest) q.2, length-drop q.0 a.0.1.rest)

-- the first message is at hand, or another was read before it
abbrev pub HasBegun : Cursor → Cursor → Type 0
HasBegun start c = (c ≡ start) ⊎ IsOk (read framed start)

pub has_begun : (start c : Cursor) → HasBegun start c → IsOk (read framed c) → IsOk (read framed start)
has_begun start c so_far here =
    elim so_far [
      | inl first ↦ subst (λ (d : Cursor). IsOk (read framed d)) first here
      | inr before ↦ before
    ]

-- ---- the loop

-- objects read before, and what is read after them
abbrev pub with_objects : List Object → Index → Index
with_objects front i = (front ++ i.0, i.1)

pub not_ended : (c : Cursor) → 0 < length c.rest → (length c.rest == 0) ≡ false
not_ended c lt = by_test (length c.rest == 0) refl where
  by_test : (b : Bool) → (length c.rest == 0) ≡ b → b ≡ false
  by_test true e = absurd (omega (arith, eqb-true (length c.rest) 0 e))
  by_test false e = refl

pub one_step : (k : ℕ) (c : Cursor) → 0 < length c.rest → read_on (suc k) c ≡ and_then c.place (read_on k) (object_at c)
one_step k c lt = ap (λ (b : Bool). cond b nothing (and_then c.place (read_on k) (object_at c))) (not_ended c lt)

-- a message and what is read after it
pub one_more : (k : ℕ) (c d : Cursor) (o : Object) (others : Index) → length c.rest ≤ k → object_at c ≡ Ok (o, d) → ((j : ℕ) → length d.rest ≤ j → read_on j d ≡ others) → read_on k c ≡ (o ∷ others.0, others.1)
one_more zero c d o others room read after = absurd (omega (arith, room, object_shrinks c (o, d) read))
one_more (suc k) c d o others room read after =
    let fewer = object_shrinks c (o, d) read in
    one_step k c (omega (arith, fewer)) ∙ ap (and_then c.place (read_on k)) read ∙ ap (λ (i : Index). (o ∷ i.0, i.1)) (after k (omega (arith, fewer, room)))

-- so many steps, which the bytes left are no more than, give the whole index after these objects
abbrev pub Leads : List Object → Cursor → Index → Type 0
Leads front c total = (k : ℕ) × (length c.rest ≤ k) × (with_objects front (read_on k c) ≡ total)

pair : Option ℕ → List Object → Index
pair stop front = (front, stop)

regroup : (front : List Object) (o : Object) (i : Index) → with_objects front (o ∷ i.0, i.1) ≡ with_objects (front ++ o ∷ []) i
unfolding pair
regroup front o i = ap (pair i.1) (sym (append_assoc front (o ∷ []) i.0))

pub object_read : (front : List Object) (c d : Cursor) (o : Object) (total : Index) → 0 < length c.rest → object_at c ≡ Ok (o, d) → Leads front c total → Leads (front ++ o ∷ []) d total
object_read front c d o total lt read (zero, room, so_far) = absurd (omega (arith, lt, room))
object_read front c d o total lt read (suc k, room, so_far) =
    let one : read_on (suc k) c ≡ (o ∷ (read_on k d).0, (read_on k d).1) = one_step k c lt ∙ ap (and_then c.place (read_on k)) read in
    (k, omega (arith, room, object_shrinks c (o, d) read), sym (regroup front o (read_on k d)) ∙ ap (with_objects front) (sym one) ∙ so_far)

pub object_stops : (front : List Object) (c : Cursor) (p : ℕ) (total : Index) → 0 < length c.rest → object_at c ≡ Err p → Leads front c total → (front, Some c.place) ≡ total
unfolding pair
object_stops front c p total lt read (zero, room, so_far) = absurd (omega (arith, lt, room))
object_stops front c p total lt read (suc k, room, so_far) =
    let one : read_on (suc k) c ≡ ([], Some c.place) = one_step k c lt ∙ ap (and_then c.place (read_on k)) read in
    ap (pair (Some c.place)) (sym (append-nil front)) ∙ ap (with_objects front) (sym one) ∙ so_far

pub at_end : (k : ℕ) (c : Cursor) → length c.rest ≡ 0 → read_on k c ≡ nothing
at_end zero c none = refl
at_end (suc k) c none = rw none refl

pub objects_end : (front : List Object) (c : Cursor) (total : Index) → length c.rest ≡ 0 → Leads front c total → (front, None) ≡ total
unfolding pair
objects_end front c total none h = ap (pair None) (sym (append-nil front)) ∙ ap (with_objects front) (sym (at_end h.0 c none)) ∙ h.2

pub not_empty : (rest now : List ℕ) (b : Bool) → now ≡ rest → b ≡ (length now == 0) → b ≡ false → 0 < length rest
not_empty rest now b same test full = by_length (length rest) refl where
  by_length : (n : ℕ) → length rest ≡ n → 0 < length rest
  by_length zero e = absurd (true_false (sym (test ∙ ap (λ (l : List ℕ). length l == 0) same ∙ ap (λ (n : ℕ). n == 0) e) ∙ full)) where
    true_false : true ≡ false → ⊥
    true_false e = cc
  by_length (suc n) e = omega arith
