-- Where the parts of a message stand.
use Rattle.std.proofs.Common.{◌≡◌, ℕ, ◌+◌, ◌-◌, ◌≤◌, Bool, true, false, cond, ◌==◌, nat_lt, List, length, take, Ok, Err, refl, sym, ap, subst, ◌∙◌, arith}
use Rattle.std.proofs.lemmas.Bool.{ltb-false}
use Rattle.oc_bytes.specs.Numbers.{number_of}
use Rattle.oc_bytes.specs.Cursor.{Cursor, Reading, ◌>>=◌, past, number_at, this_at, part_at}
use Rattle.oc_bytes.specs.Grammar.{Grammar, four, enclosed, read}
use Rattle.oc_bytes.proofs.CallerLemmas.{bind_ok, held_ok, part_is, passes}
use Rattle.biop_object.specs.declared.written.TheConstants.{MESSAGE_HEAD}
use Rattle.biop_object.specs.Objects.{Object, Heading, shape, heading, message}
use Rattle.biop_object.specs.declared.reading.TheConstants.{HEAD}
use Rattle.biop_object.specs.ObjectReading.{object_at}

-- what cutting off a number, or bytes, leaves
pub cut_moves : {A : Type 0} (n : ℕ) (c : Cursor) (a : A) (x : A × Cursor) → cond {A = Reading A} (nat_lt (length c.rest) n) (Err c.place) (Ok (a, past n c)) ≡ Ok x → (n ≤ length c.rest) × (x.1 ≡ past n c)
cut_moves {A} n c a x e = behind (nat_lt (length c.rest) n) refl e where
  behind : (b : Bool) → nat_lt (length c.rest) n ≡ b → cond {A = Reading A} b (Err c.place) (Ok (a, past n c)) ≡ Ok x → (n ≤ length c.rest) × (x.1 ≡ past n c)
  behind true is e = absurd cc
  behind false is e = let same : (a, past n c) ≡ x = cc in (ltb-false (length c.rest) n is, ap (λ (y : A × Cursor). y.1) (sym same))

pub head_moves : (c : Cursor) (x : ℕ × Cursor) → this_at 8 HEAD c ≡ Ok x → (8 ≤ length c.rest) × (x.1 ≡ past 8 c)
head_moves c x e =
    let h = bind_ok (number_at 8 c) (λ y. cond (y.0 == HEAD) (Ok y) (Err c.place)) x e in
    let same = held_ok (h.0.0 == HEAD) c.place h.0 x h.2 in
    subst (λ (y : ℕ × Cursor). (8 ≤ length c.rest) × (y.1 ≡ past 8 c)) same.1 (cut_moves 8 c (number_of (take 8 c.rest)) h.0 h.1)

-- ---- a grammar that depends on its place, read where it stands

bind_same : {A B : Type 0} (m : Reading A) (f g : A × Cursor → Reading B) → ((x : A × Cursor) → m ≡ Ok x → f x ≡ g x) → (m >>= f) ≡ (m >>= g)
bind_same (Ok x) f g same = same x refl
bind_same (Err p) f g same = refl

-- the next bytes, with their number before them
abbrev pub in_part : {A : Type 0} → (ℕ → Grammar A) → Cursor → Reading A
in_part g c = number_at 4 c >>= λ n. part_at n.0 n.1 >>= λ p. read (g p.0.place) p.0 >>= λ x. Ok (x.0, p.1)

pub enclosed_is : {A : Type 0} (g : ℕ → Grammar A) (c : Cursor) → read (enclosed four (g (c.place + 4))) c ≡ in_part g c
unfolding read
enclosed_is {A} g c = bind_same (number_at 4 c) (λ n. part_at n.0 n.1 >>= λ p. read (g (c.place + 4)) p.0 >>= λ x. Ok (x.0, p.1)) (λ n. part_at n.0 n.1 >>= λ p. read (g p.0.place) p.0 >>= λ x. Ok (x.0, p.1))
    (λ n e. bind_same (part_at n.0 n.1) (λ p. read (g (c.place + 4)) p.0 >>= λ x. Ok (x.0, p.1)) (λ p. read (g p.0.place) p.0 >>= λ x. Ok (x.0, p.1)) (λ p h.
    let place : p.0.place ≡ c.place + 4 = ap (λ (y : Cursor × Cursor). y.0.place) (part_is n.0 n.1 p h).1 ∙ ap (λ (d : Cursor). d.place) (cut_moves 4 c (number_of (take 4 c.rest)) n e).1 in
    ap (λ (q : ℕ). read (g q) p.0 >>= λ x. Ok (x.0, p.1)) (sym place)))

pub body_is : (kind : List ℕ) (c : Cursor) → read (enclosed four (shape kind (c.place + 4))) c ≡ in_part (shape kind) c
body_is kind = enclosed_is (shape kind)

pub sized_is : (c : Cursor) → read (enclosed four (message (c.place + 4))) c ≡ in_part message c
sized_is = enclosed_is message

abbrev pub behind_heading : Heading → ℕ → Cursor → Reading Object
behind_heading h place c = read (enclosed four (shape h.kind (place + 4))) c >>= λ x. Ok (record { key = h.key; shape = x.0 }, x.1)

-- a heading, and how many bytes it took
abbrev counted_from : ℕ → Heading × Cursor → Reading (Heading × ℕ)
counted_from place x = Ok ((x.0, x.1.place - place), x.1)

pub message_is : (c : Cursor) → read (message c.place) c ≡ (read heading c >>= λ h. behind_heading h.0 h.1.place h.1)
unfolding read
message_is c = by_heading (read heading c) refl where
  by_heading : (m : Reading Heading) → read heading c ≡ m → (m >>= counted_from c.place >>= λ f. behind_heading f.0.0 (c.place + f.0.1) f.1) ≡ (m >>= λ h. behind_heading h.0 h.1.place h.1)
  by_heading (Ok h) e =
      let place : c.place + (h.1.place - c.place) ≡ h.1.place = omega (arith, ap (λ (d : Cursor). d.place) (passes heading c h e).2) in
      ap (λ (q : ℕ). behind_heading h.0 q h.1) place
  by_heading (Err p) e = refl

pub object_is : (c : Cursor) → object_at c ≡ (this_at 8 HEAD c >>= λ x. read (enclosed four (message (x.1.place + 4))) x.1)
unfolding read object_at
object_is c = bind_same (this_at 8 HEAD c) (λ x. read (enclosed four (message (c.place + MESSAGE_HEAD))) x.1) (λ x. read (enclosed four (message (x.1.place + 4))) x.1) (λ x e.
    let place : c.place + MESSAGE_HEAD ≡ x.1.place + 4 = omega (arith, ap (λ (d : Cursor). d.place) (head_moves c x e).1) in
    ap (λ (q : ℕ). read (enclosed four (message q)) x.1) place)
