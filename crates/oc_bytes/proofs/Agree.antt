-- A reading function and a relation that say the same.
use Rattle.std.proofs.Common.{◌≡◌, ℕ, zero, suc, ◌+◌, ◌^◌, ◌<◌, ◌≤◌, Bool, true, false, cond, nat_lt, List, [], ◌∷◌, ◌++◌, length, get_or, take, Some, Ok, Err, refl, sym, ap, subst, ◌∙◌, append_assoc, zero-add, arith, inl, inr, ◌⊎◌}
use Rattle.std.proofs.lemmas.Bool.{cases_lt, ltb-false, le-ltb}
use Rattle.std.proofs.lemmas.List.{take_at, drop_at, take-append-drop, length-append, length-take, get_or_past, append-nil}
use Rattle.std.proofs.lemmas.List.Elements.{All-take, All-drop, All-from_get_or}
use Rattle.std.proofs.lemmas.Nat.{be_bytes_2, be_bytes_4, be_bytes_8}
use Rattle.std.proofs.Math.Nat.{add-zero}
use Rattle.byteorder.specs.Endian.{big_from, big_bytes}
use Rattle.byteorder.specs.Numbers.{length-bytes_high_first, big_number-reads_back, big_from-lt}
use Rattle.oc_bytes.specs.Numbers.{IsBytes, two_bytes, four_bytes, eight_bytes, number_of}
use Rattle.oc_bytes.specs.Cursor.{Cursor, Reading, ◌>>=◌, past, number_at, bytes_at, sized_at, each_at}
use Rattle.oc_bytes.specs.Agreement.{at, move_by, shift_by, Taken, Agrees, ReadsEach, IsList, Then}
use Rattle.oc_bytes.proofs.Reading.{read_number, read_one}

-- ---- bytes

pub fits_front : (a b : List ℕ) → IsBytes (a ++ b) → IsBytes a
fits_front a b h = subst IsBytes (take_at a b (length a) refl) (All-take (λ x. x < 256) (length a) (a ++ b) h)

pub fits_back : (a b : List ℕ) → IsBytes (a ++ b) → IsBytes b
fits_back a b h = subst IsBytes (drop_at a b (length a) refl) (All-drop (λ x. x < 256) (length a) (a ++ b) h)

pub fits_taken : {A : Type 0} (R : List ℕ → A → Type 0) (c : Cursor) (x : A × Cursor) → Taken R c x → IsBytes c.rest → IsBytes x.1.rest
fits_taken R c x t h = fits_back t.front x.1.rest (subst IsBytes t.parts h)

pub each_fits : (bytes : List ℕ) → IsBytes bytes → (i : ℕ) → get_or bytes i 0 < 256
each_fits bytes h i =
    elim (cases_lt i (length bytes)) [
      | inl lt ↦ h i 0 lt
      | inr le ↦ rw (get_or_past bytes i 0 le) (omega arith)
    ]

pub bytes_fit : (bytes : List ℕ) → ((i : ℕ) → get_or bytes i 0 < 256) → IsBytes bytes
bytes_fit bytes h = All-from_get_or (λ b. b < 256) bytes 0 (λ i lt. h i)

-- ---- steps

pub bind_ok : {A B : Type 0} (r : Reading A) (f : A × Cursor → Reading B) (y : B × Cursor) → (r >>= f) ≡ Ok y → (x : A × Cursor) × (r ≡ Ok x) × (f x ≡ Ok y)
bind_ok (Ok x) f y e = (x, refl, e)
bind_ok (Err d) f y e = absurd cc

abbrev pub okay : {A : Type 0} → A × Cursor → Reading A
okay x = Ok x

pub okay_is : {A : Type 0} (x y : A × Cursor) → okay x ≡ okay y → x ≡ y
okay_is x y e = cc

pub not_fault : {A : Type 0} (x : A × Cursor) (p : ℕ) → okay x ≡ Err p → ⊥
not_fault x p e = cc

pub bind_err : {A B : Type 0} (r : Reading A) (f : A × Cursor → Reading B) (p : ℕ) → (r >>= f) ≡ Err p → (r ≡ Err p) ⊎ ((x : A × Cursor) × (r ≡ Ok x) × (f x ≡ Err p))
bind_err (Ok x) f p e = inr (x, refl, e)
bind_err (Err d) f p e = inl (let same : d ≡ p = cc in rw same refl)

-- a failed test stands at its field
pub guard_err : {A : Type 0} (b : Bool) (d p : ℕ) (x : A × Cursor) → cond {A = Reading A} b (Err d) (Ok x) ≡ Err p → p ≡ d
guard_err true d p x e = cc
guard_err false d p x e = absurd cc

held_err : {A : Type 0} (b : Bool) (d p : ℕ) (x : A × Cursor) → cond {A = Reading A} b (Ok x) (Err d) ≡ Err p → p ≡ d
held_err true d p x e = absurd cc
held_err false d p x e = cc

pub guard_ok : {A : Type 0} (b : Bool) (d : ℕ) (x y : A × Cursor) → cond {A = Reading A} b (Err d) (Ok x) ≡ Ok y → (b ≡ false) × (x ≡ y)
guard_ok true d x y e = absurd cc
guard_ok false d x y e = (refl, cc)

pub held_ok : {A : Type 0} (b : Bool) (d : ℕ) (x y : A × Cursor) → cond {A = Reading A} b (Ok x) (Err d) ≡ Ok y → (b ≡ true) × (x ≡ y)
held_ok true d x y e = (refl, cc)
held_ok false d x y e = absurd cc

pub moved : {A B : Type 0} (p : ℕ) (m : Reading A) (f g : A × Cursor → Reading B) → ((x : A × Cursor) → g (x.0, move_by p x.1) ≡ shift_by p (f x)) → (shift_by p m >>= g) ≡ shift_by p (m >>= f)
moved p (Ok x) f g same = same x
moved p (Err place) f g same = refl

-- a reading, and a step after it that may look at where the reading began
pub bind_agrees : {A B : Type 0} {r : Cursor → Reading A} {R : List ℕ → A → Type 0} {S : List ℕ → B → Type 0} → Agrees r R → (f : Cursor → A × Cursor → Reading B)
    → ((c : Cursor) (x : A × Cursor) (y : B × Cursor) → IsBytes c.rest → Taken R c x → f c x ≡ Ok y → Taken S c y)
    → ((front rest : List ℕ) (place : ℕ) (b : B) → S front b → (r (at place (front ++ rest)) >>= f (at place (front ++ rest))) ≡ Ok (b, at (place + length front) rest))
    → ((p : ℕ) (c : Cursor) (x : A × Cursor) → f (move_by p c) (x.0, move_by p x.1) ≡ shift_by p (f c x))
    → ((c : Cursor) (x : A × Cursor) (p : ℕ) → IsBytes c.rest → Taken R c x → f c x ≡ Err p → p ≤ c.place + length c.rest)
    → Agrees (λ c. r c >>= f c) S
bind_agrees {A} {r = r} agrees f there back moves_on stops_on = record {
  takes = λ c y fits e. let k = bind_ok (r c) (f c) y e in there c k.0 y fits (agrees.takes c k.0 fits k.1) k.2;
  again = back;
  moves = λ p c. ap (λ (m : Reading A). m >>= f (move_by p c)) (agrees.moves p c) ∙ moved p (r c) (f c) (f (move_by p c)) (moves_on p c);
  stops = λ c p fits e.
      elim (bind_err (r c) (f c) p e) [
        | inl here ↦ agrees.stops c p fits here
        | inr later ↦ stops_on c later.0 p fits (agrees.takes c later.0 fits later.1) later.2
      ];
}

pub then_agrees : {A B : Type 0} {r : Cursor → Reading A} {R : List ℕ → A → Type 0} {s : A → Cursor → Reading B} {S : A → List ℕ → B → Type 0}
    → Agrees r R → ((a : A) → Agrees (s a) (S a)) → Agrees (λ c. r c >>= λ x. s x.0 x.1) (Then R S)
then_agrees {A} {B} {r} {R} {s} {S} first second =
    bind_agrees first (λ c x. s x.0 x.1)
    (λ c x y fits t e.
    let u = (second x.0).takes x.1 y (fits_taken R c x t fits) e in
    record {
      front = t.front ++ u.front;
      reads = record { value = x.0; front = t.front; back = u.front; whole = refl; first = t.reads; second = u.reads };
      parts = t.parts ∙ ap (λ (l : List ℕ). t.front ++ l) u.parts ∙ sym (append_assoc t.front u.front y.1.rest);
      place = omega (arith, t.place, u.place, length-append t.front u.front);
    })
    (λ front rest place b h.
    let split : front ++ rest ≡ h.front ++ (h.back ++ rest) = ap (λ (l : List ℕ). l ++ rest) h.whole ∙ append_assoc h.front h.back rest in
    let one = first.again h.front (h.back ++ rest) place h.value h.first in
    let two = (second h.value).again h.back rest (place + length h.front) b h.second in
    let end : place + length h.front + length h.back ≡ place + length front = omega (arith, ap length h.whole, length-append h.front h.back) in
    ap (λ (l : List ℕ). r (at place l) >>= λ x. s x.0 x.1) split ∙ ap (λ (m : Reading A). m >>= λ x. s x.0 x.1) one ∙ two ∙ ap (λ (q : ℕ). okay (b, at q rest)) end)
    (λ p c x. (second x.0).moves p x.1)
    (λ c x p fits t e. omega (arith, (second x.0).stops x.1 p (fits_taken R c x t fits) e, t.place, ap length t.parts, length-append t.front x.1.rest))

abbrev pub Ends : {A : Type 0} → A → List ℕ → A → Type 0
Ends v bytes a = (bytes ≡ []) × (a ≡ v)

pub done_agrees : {A : Type 0} (v : A) → Agrees (λ c. Ok (v, c)) (Ends v)
done_agrees v = record {
  takes = λ c x fits e. subst (Taken (Ends v) c) (okay_is (v, c) x e) (record { front = []; reads = (refl, refl); parts = refl; place = omega arith });
  again = λ front rest place a h. rw (h.0, h.1, add-zero place) refl;
  moves = λ p c. refl;
  stops = λ c p fits e. absurd (not_fault (v, c) p e);
}

-- the same reading under a relation that says the same
pub agrees_by : {A : Type 0} {r : Cursor → Reading A} {R S : List ℕ → A → Type 0} → Agrees r R
    → ((bytes : List ℕ) (a : A) → IsBytes bytes → R bytes a → S bytes a) → ((bytes : List ℕ) (a : A) → S bytes a → R bytes a) → Agrees r S
agrees_by {A} {r} {R} {S} agrees there back = record {
  takes = λ c x fits e. let t = agrees.takes c x fits e in record { front = t.front; reads = there t.front x.0 (fits_front t.front x.1.rest (subst IsBytes t.parts fits)) t.reads; parts = t.parts; place = t.place };
  again = λ front rest place a h. agrees.again front rest place a (back front a h);
  moves = agrees.moves;
  stops = agrees.stops;
}

-- the same reading, said in another way
pub agrees_same : {A : Type 0} {r s : Cursor → Reading A} {R : List ℕ → A → Type 0} → Agrees r R → ((c : Cursor) → s c ≡ r c) → Agrees s R
agrees_same agrees same = record {
  takes = λ c x fits e. agrees.takes c x fits (sym (same c) ∙ e);
  again = λ front rest place a h. same (at place (front ++ rest)) ∙ agrees.again front rest place a h;
  moves = λ p c. same (move_by p c) ∙ agrees.moves p c ∙ ap (shift_by p) (sym (same c));
  stops = λ c p fits e. agrees.stops c p fits (sym (same c) ∙ e);
}

-- ---- numbers

pub record IsWide (n limit : ℕ) (be : ℕ → List ℕ) : Type 0 where
  pub len : (v : ℕ) → length (be v) ≡ n
  pub back : (bytes : List ℕ) → length bytes ≡ n → IsBytes bytes → be (number_of bytes) ≡ bytes
  pub again : (v : ℕ) → v < limit → number_of (be v) ≡ v
  pub below : (bytes : List ℕ) → length bytes ≡ n → IsBytes bytes → number_of bytes < limit

number_1 : (bytes : List ℕ) → length bytes ≡ 1 → number_of bytes ∷ [] ≡ bytes
number_1 [] len = absurd (omega arith)
number_1 (a ∷ []) len = ap (λ n. n ∷ []) (zero-add a)
number_1 (a ∷ b ∷ rest) len = absurd (omega arith)

pub wide_1 : IsWide 1 256 (λ n. n ∷ [])
wide_1 = record {
  len = λ v. refl;
  back = λ bytes len fits. number_1 bytes len;
  again = λ v lt. zero-add v;
  below = λ bytes len fits. omega (arith, read_one bytes len, each_fits bytes fits 0);
}

-- numbers in any number of bytes, where a number's bytes are those that spell it
wide : (n : ℕ) → ((bytes : List ℕ) → length bytes ≡ n → IsBytes bytes → big_bytes n (number_of bytes) ≡ bytes) → IsWide n (256 ^ n) (big_bytes n)
wide n back = record {
  len = length-bytes_high_first n;
  back = back;
  again = λ v lt.
      sym (read_number n (big_bytes n v) (length-bytes_high_first n v)) ∙ ap (big_from 0 n) (sym (append-nil (big_bytes n v))) ∙ big_number-reads_back n v [] lt;
  below = λ bytes len fits. subst (λ (v : ℕ). v < 256 ^ n) (read_number n bytes len) (big_from-lt 0 n bytes (each_fits bytes fits));
}

pub wide_2 : IsWide 2 65536 two_bytes
wide_2 = wide 2 (λ bytes len fits. be_bytes_2 bytes (number_of bytes) len (each_fits bytes fits) (omega (arith, read_number 2 bytes len)))

pub wide_4 : IsWide 4 4294967296 four_bytes
wide_4 = wide 4 (λ bytes len fits. be_bytes_4 bytes (number_of bytes) len (each_fits bytes fits) (omega (arith, read_number 4 bytes len)))

pub wide_8 : IsWide 8 18446744073709551616 eight_bytes
wide_8 = wide 8 (λ bytes len fits. be_bytes_8 bytes (number_of bytes) len (each_fits bytes fits) (omega (arith, read_number 8 bytes len)))

-- what a function makes of the next n bytes
abbrev cut_at : {A : Type 0} → ℕ → (List ℕ → A) → Cursor → Reading A
cut_at n f c = cond (nat_lt (length c.rest) n) (Err c.place) (Ok (f (take n c.rest), past n c))

cut_agrees : {A : Type 0} (n : ℕ) (f : List ℕ → A) → Agrees (cut_at n f) (λ bytes a. (length bytes ≡ n) × (a ≡ f bytes))
cut_agrees {A} n f = record {
  takes = λ c x fits e.
      let g = guard_ok (nat_lt (length c.rest) n) c.place (f (take n c.rest), past n c) x e in
      let len : length (take n c.rest) ≡ n = omega (arith, length-take n c.rest, ltb-false (length c.rest) n g.0) in
      subst (Taken (λ bytes a. (length bytes ≡ n) × (a ≡ f bytes)) c) g.1 (record { front = take n c.rest; reads = (len, refl); parts = sym (take-append-drop n c.rest); place = omega (arith, len) });
  again = λ front rest place a h.
      let long : nat_lt (length (front ++ rest)) n ≡ false = le-ltb _ _ (omega (arith, h.0, length-append front rest)) in
      rw (long, take_at front rest n h.0, drop_at front rest n h.0, h.0, h.1) refl;
  moves = λ p c. by_test p c (nat_lt (length c.rest) n);
  stops = λ c p fits e. omega (arith, guard_err (nat_lt (length c.rest) n) c.place p (f (take n c.rest), past n c) e);
} where
  by_test : (p : ℕ) (c : Cursor) (b : Bool) → cond {A = Reading A} b (Err (c.place + p)) (Ok (f (take n c.rest), past n (move_by p c))) ≡ shift_by p (cond {A = Reading A} b (Err c.place) (Ok (f (take n c.rest), past n c)))
  by_test p c true = refl
  by_test p c false = let e : c.place + p + n ≡ c.place + n + p = omega arith in rw e refl

-- a number in its bytes
abbrev pub IsNumber : (limit : ℕ) (be : ℕ → List ℕ) → List ℕ → ℕ → Type 0
IsNumber limit be bytes v = (v < limit) × (bytes ≡ be v)

pub number_agrees : {n limit : ℕ} {be : ℕ → List ℕ} → IsWide n limit be → Agrees (number_at n) (IsNumber limit be)
number_agrees {n} {limit} {be} wide = agrees_by (cut_agrees n number_of)
    (λ bytes v fits h. (subst (λ (k : ℕ). k < limit) (sym h.1) (wide.below bytes h.0 fits), sym (ap be h.1 ∙ wide.back bytes h.0 fits)))
    (λ bytes v h. (ap length h.1 ∙ wide.len v, sym (ap number_of h.1 ∙ wide.again v h.0)))

-- so many bytes
abbrev pub AreBytes : ℕ → List ℕ → List ℕ → Type 0
AreBytes n bytes s = (length s ≡ n) × (bytes ≡ s)

pub bytes_agrees : (n : ℕ) → Agrees (bytes_at n) (AreBytes n)
bytes_agrees n = agrees_by (cut_agrees n (λ s. s)) (λ bytes s fits h. (ap length h.1 ∙ h.0, sym h.1)) (λ bytes s h. (ap length h.1 ∙ h.0, sym h.1))

-- a value for which a test holds
abbrev pub Held : {A : Type 0} → (List ℕ → A → Type 0) → (A → Bool) → List ℕ → A → Type 0
Held R test bytes a = R bytes a × (test a ≡ true)

pub held_agrees : {A : Type 0} {r : Cursor → Reading A} {R : List ℕ → A → Type 0} → Agrees r R → (test : A → Bool) → Agrees (λ c. r c >>= λ x. cond (test x.0) (Ok x) (Err c.place)) (Held R test)
held_agrees {A} {r} {R} agrees test =
    bind_agrees agrees (λ c x. cond (test x.0) (Ok x) (Err c.place))
    (λ c x y fits t e.
    let h = held_ok (test x.0) c.place x y e in
    subst (Taken (Held R test) c) h.1 (record { front = t.front; reads = (t.reads, h.0); parts = t.parts; place = t.place }))
    (λ front rest place a h. rw (agrees.again front rest place a h.0, h.1) refl)
    (λ p c x. by_test p c x (test x.0))
    (λ c x p fits t e. omega (arith, held_err (test x.0) c.place p x e)) where
      by_test : (p : ℕ) (c : Cursor) (x : A × Cursor) (b : Bool) → cond {A = Reading A} b (Ok (x.0, move_by p x.1)) (Err (c.place + p)) ≡ shift_by p (cond {A = Reading A} b (Ok x) (Err c.place))
      by_test p c x true = refl
      by_test p c x false = refl

-- ---- equations of bytes, part by part

pub joined : {bytes front back f b : List ℕ} → bytes ≡ front ++ back → front ≡ f → back ≡ b → bytes ≡ f ++ b
joined {bytes} {front} {back} {f} {b} whole x y = whole ∙ ap (λ (l : List ℕ). l ++ back) x ∙ ap (λ (l : List ℕ). f ++ l) y

pub last : {bytes front back f : List ℕ} → bytes ≡ front ++ back → front ≡ f → back ≡ [] → bytes ≡ f
last {bytes} {front} {back} {f} whole x y = joined whole x y ∙ append-nil f

-- ---- lists

abbrev Split : {A : Type 0} → (List ℕ → A → Type 0) → ℕ → List ℕ → List A → Type 0
Split R n = Then R (λ first. Then (IsList R n) (λ others. Ends (first ∷ others)))

pub each_agrees : {A : Type 0} {r : Cursor → Reading A} {R : List ℕ → A → Type 0} → Agrees r R → (n : ℕ) → Agrees (each_at r n) (IsList R n)
unfolding each_at
each_agrees {A} {r} {R} agrees zero = agrees_by (done_agrees [])
    (λ bytes xs fits h. record { count = ap length h.1; each = subst (λ (ys : List A). ReadsEach R bytes ys) (sym h.1) h.0 })
    (λ bytes xs h. none bytes xs h.count h.each) where
      none : (bytes : List ℕ) (xs : List A) → length xs ≡ 0 → ReadsEach R bytes xs → Ends [] bytes xs
      none bytes [] count each = (each, refl)
      none bytes (x ∷ xs) count each = absurd (omega arith)
each_agrees {A} {r} {R} agrees (suc n) = agrees_by (then_agrees agrees (λ first. then_agrees (each_agrees agrees n) (λ others. done_agrees (first ∷ others))))
    (λ bytes xs fits h. some bytes xs h) (λ bytes xs h. back bytes xs h.count h.each) where
      some : (bytes : List ℕ) (xs : List A) → Split R n bytes xs → IsList R (suc n) bytes xs
      some bytes xs h =
          let value : xs ≡ h.value ∷ h.second.value = h.second.second.1 in
          let whole : bytes ≡ h.front ++ h.second.front = joined h.whole refl (last h.second.whole refl h.second.second.0) in
          record {
            count = ap length value ∙ ap suc h.second.first.count;
            each = subst (ReadsEach R bytes) (sym value) (h.front, h.second.front, whole, h.first, h.second.first.each);
          }

      back : (bytes : List ℕ) (xs : List A) → length xs ≡ suc n → ReadsEach R bytes xs → Split R n bytes xs
      back bytes [] count each = absurd (omega arith)
      back bytes (x ∷ xs) count each = record {
        value = x;
        front = each.0;
        back = each.1;
        whole = each.2;
        first = each.3;
        second = record { value = xs; front = each.1; back = []; whole = sym (append-nil each.1); first = record { count = omega (arith, count); each = each.4 }; second = (refl, refl) };
      }

-- bytes with their number before them
abbrev pub IsSized : (limit : ℕ) (be : ℕ → List ℕ) → List ℕ → List ℕ → Type 0
IsSized limit be bytes s = (length s < limit) × (bytes ≡ be (length s) ++ s)

pub sized_agrees : {n limit : ℕ} {be : ℕ → List ℕ} → IsWide n limit be → Agrees (sized_at n) (IsSized limit be)
unfolding sized_at
sized_agrees {n} {limit} {be} wide = agrees_by (then_agrees (number_agrees wide) bytes_agrees) (λ bytes s fits h. there bytes s h) (λ bytes s h. back bytes s h) where
  there : (bytes s : List ℕ) → Then (IsNumber limit be) AreBytes bytes s → IsSized limit be bytes s
  there bytes s h = (omega (arith, h.first.0, h.second.0), joined h.whole h.first.1 h.second.1 ∙ ap (λ (k : ℕ). be k ++ s) (sym h.second.0))

  back : (bytes s : List ℕ) → IsSized limit be bytes s → Then (IsNumber limit be) AreBytes bytes s
  back bytes s h = record { value = length s; front = be (length s); back = s; whole = h.1; first = (h.0, refl); second = (refl, refl) }
