-- A part that stands in bytes of its own, and a part that is counted: what is read and what stands there.
use Rattle.std.proofs.Common.{◌≡◌, ℕ, zero, suc, ◌+◌, ◌-◌, ◌≤◌, Bool, true, false, cond, nat_lt, List, [], ◌∷◌, length, take, drop, Ok, Err, refl, sym, ap, subst, ◌∙◌, arith, inl, inr}
use Rattle.std.proofs.lemmas.Bool.{ltb-false}
use Rattle.std.proofs.lemmas.List.{length-append, length-drop, drop-drop}
use Rattle.oc_bytes.specs.Numbers.{IsBytes}
use Rattle.oc_bytes.specs.Cursor.{Cursor, Reading, ◌>>=◌, past, within, part_at, each_at, nested_at}
use Rattle.oc_bytes.specs.Agreement.{at, move_by, Taken, Agrees, Nested, Counted}
use Rattle.oc_bytes.proofs.Agree.{fits_front, bind_ok, bind_err, guard_ok, okay, okay_is, not_fault, moved, bind_agrees, agrees_same, AreBytes, bytes_agrees}

-- what cutting off some bytes as a message of their own gives
pub part_is : (n : ℕ) (c : Cursor) (y : Cursor × Cursor) → part_at n c ≡ Ok y → (n ≤ length c.rest) × (y ≡ (within n c, past n c))
part_is n c y e = let g = guard_ok (nat_lt (length c.rest) n) c.place (within n c, past n c) y e in (ltb-false (length c.rest) n g.0, sym g.1)

pub nested_agrees : {A : Type 0} {r : Cursor → Reading A} {R : List ℕ → A → Type 0} → Agrees r R → (n : ℕ) → Agrees (nested_at n r) (Nested R n)
nested_agrees {A} {r} {R} agrees n = agrees_same (bind_agrees (bytes_agrees n) (λ c x. r (at c.place x.0) >>= λ y. Ok (y.0, x.1))
    (λ c x y fits t e.
    let k = bind_ok (r (at c.place x.0)) (λ z. Ok (z.0, x.1)) y e in
    let u = agrees.takes (at c.place x.0) k.0 (inside c x t fits) k.1 in
    subst (Taken (Nested R n) c) (okay_is (k.0.0, x.1) y k.2) (record {
      front = t.front;
      reads = record { size = ap length t.reads.1 ∙ t.reads.0; front = u.front; trailing = k.0.1.rest; whole = t.reads.1 ∙ u.parts; reads = u.reads };
      parts = t.parts;
      place = t.place;
    }))
    (λ front rest place a h.
    let there : r (at place front) ≡ Ok (a, at (place + length h.front) h.trailing) = ap (λ (l : List ℕ). r (at place l)) h.whole ∙ agrees.again h.front h.trailing place a h.reads in
    rw ((bytes_agrees n).again front rest place front (h.size, refl), there) refl)
    (λ p c x. rw (agrees.moves p (at c.place x.0)) (moved p (r (at c.place x.0)) (λ y. Ok (y.0, x.1)) (λ y. Ok (y.0, move_by p x.1)) (λ y. refl)))
    (λ c x p fits t e. elim (bind_err (r (at c.place x.0)) (λ z. Ok (z.0, x.1)) p e) [
      | inl here ↦ omega (arith, agrees.stops (at c.place x.0) p (inside c x t fits) here, ap length t.reads.1, ap length t.parts, length-append t.front x.1.rest)
      | inr later ↦ absurd (not_fault (later.0.0, x.1) p later.2)
    ])) (λ c. by_test c (nat_lt (length c.rest) n)) where
      inside : (c : Cursor) (x : List ℕ × Cursor) → Taken (AreBytes n) c x → IsBytes c.rest → IsBytes x.0
      inside c x t fits = subst IsBytes t.reads.1 (fits_front t.front x.1.rest (subst IsBytes t.parts fits))

      by_test : (c : Cursor) (b : Bool) → (cond {A = Reading Cursor} b (Err c.place) (Ok (within n c, past n c)) >>= λ part. r part.0 >>= λ y. Ok (y.0, part.1))
          ≡ (cond {A = Reading (List ℕ)} b (Err c.place) (Ok (take n c.rest, past n c)) >>= λ x. r (at c.place x.0) >>= λ y. Ok (y.0, x.1))
      by_test c true = refl
      by_test c false = refl

pub counted_agrees : {A : Type 0} {r : Cursor → Reading A} {R : List ℕ → A → Type 0} → Agrees r R → Agrees (λ c. r c >>= λ x. Ok ((x.0, x.1.place - c.place), x.1)) (Counted R)
counted_agrees {R = R} agrees =
    bind_agrees agrees (λ c x. Ok ((x.0, x.1.place - c.place), x.1))
    (λ c x y fits t e.
    subst (Taken (Counted R) c) (okay_is ((x.0, x.1.place - c.place), x.1) y e) (record { front = t.front; reads = (t.reads, omega (arith, t.place)); parts = t.parts; place = t.place }))
    (λ front rest place y h.
    let n : place + length front - place ≡ y.1 = omega (arith, h.1) in
    rw (agrees.again front rest place y.0 h.0, n) refl)
    (λ p c x. let e : x.1.place + p - (c.place + p) ≡ x.1.place - c.place = omega arith in rw e refl)
    (λ c x p fits t e. absurd (not_fault ((x.0, x.1.place - c.place), x.1) p e))

-- ---- what reading leaves are the bytes behind those that it took

abbrev pub Passes : Cursor → Cursor → Type 0
Passes c d = (n : ℕ) × (n ≤ length c.rest) × (d ≡ past n c)

pub pass_none : (c : Cursor) → Passes c c
pass_none c = (0, omega arith, (let e : c.place ≡ c.place + 0 = omega arith in ap (λ (p : ℕ). at p c.rest) e))

pub pass_both : (c d e : Cursor) → Passes c d → Passes d e → Passes c e
pass_both c d e p q =
    let n = p.0 in
    let m = q.0 in
    let room : m ≤ length (drop n c.rest) = subst (λ (x : Cursor). m ≤ length x.rest) p.2 q.1 in
    let place : c.place + n + m ≡ c.place + (n + m) = omega arith in
    (n + m, omega (arith, p.1, room, length-drop n c.rest), q.2 ∙ ap (past m) p.2 ∙ ap (λ (r : List ℕ). at (c.place + n + m) r) (drop-drop m n c.rest) ∙ ap (λ (k : ℕ). at k (drop (n + m) c.rest)) place)

pub cut_passes : {A : Type 0} (n : ℕ) (c : Cursor) (a : A) (x : A × Cursor) → cond {A = Reading A} (nat_lt (length c.rest) n) (Err c.place) (Ok (a, past n c)) ≡ Ok x → Passes c x.1
cut_passes {A} n c a x e = let g = guard_ok (nat_lt (length c.rest) n) c.place (a, past n c) x e in (n, ltb-false (length c.rest) n g.0, ap (λ (y : A × Cursor). y.1) (sym g.1))

pub bind_passes : {A B : Type 0} (c : Cursor) (m : Reading A) (f : A × Cursor → Reading B) (y : B × Cursor) → (m >>= f) ≡ Ok y → ((x : A × Cursor) → m ≡ Ok x → Passes c x.1) → ((x : A × Cursor) → f x ≡ Ok y → Passes x.1 y.1) → Passes c y.1
bind_passes c m f y e first second = let k = bind_ok m f y e in pass_both c k.0.1 y.1 (first k.0 k.1) (second k.0 k.2)

pub ends_there : {A : Type 0} (c d : Cursor) (a : A) (x : A × Cursor) → okay (a, d) ≡ okay x → Passes c d → Passes c x.1
ends_there {A} c d a x e p = subst (λ (y : A × Cursor). Passes c y.1) (okay_is (a, d) x e) p

pub nested_passes : {A : Type 0} (r : Cursor → Reading A) (n : ℕ) (c : Cursor) (x : A × Cursor) → nested_at n r c ≡ Ok x → Passes c x.1
nested_passes r n c x e = bind_passes c (part_at n c) (λ part. r part.0 >>= λ y. Ok (y.0, part.1)) x e (cut_passes n c (within n c)) (λ part h.
    let m = bind_ok (r part.0) (λ y. Ok (y.0, part.1)) x h in
    ends_there part.1 part.1 m.0.0 x m.2 (pass_none part.1))

pub each_passes : {A : Type 0} (r : Cursor → Reading A) → ((c : Cursor) (x : A × Cursor) → r c ≡ Ok x → Passes c x.1) → (n : ℕ) (c : Cursor) (x : List A × Cursor) → each_at r n c ≡ Ok x → Passes c x.1
unfolding each_at
each_passes r one zero c x e = ends_there c c [] x e (pass_none c)
each_passes r one (suc n) c x e = bind_passes c (r c) (λ first. each_at r n first.1 >>= λ others. Ok (first.0 ∷ others.0, others.1)) x e (one c) (λ y h.
    let m = bind_ok (each_at r n y.1) (λ others. Ok (y.0 ∷ others.0, others.1)) x h in
    ends_there y.1 m.0.1 (y.0 ∷ m.0.0) x m.2 (each_passes r one n y.1 m.0 m.1))
