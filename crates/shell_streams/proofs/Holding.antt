-- What is held of an input, and what the source has left.
use Rattle.std.proofs.Common.{◌≡◌, ◌≢◌, ◌==◌, ℕ, ◌+◌, ◌-◌, ◌<◌, ◌≤◌, List, [], ◌∷◌, ◌++◌, length, take, drop, refl, arith, ◌∙◌, sym, ap, Option, Some, None, Result, Ok, Err, IfOk, Vec, vec_len, Global, true, false, append_assoc, length-append, take-append-drop}
use Rattle.std.specs.List.{slice_range}
use Rattle.std.proofs.lemmas.List.{drop-drop, drop-take, length-take, drop-append-le, drop_all, take-append-le, drop_at, length-take-le, with_items_is}
use Rattle.std.specs.Vec.{with_items}
use Rattle.std.proofs.Math.Seq.{take-add}
use Rattle.std.proofs.lemmas.Slice.{between_is}
use Rattle.std.proofs.lemmas.Bool.{true≢false, eqb-true, eqb-false}
use Rattle.std.proofs.lemmas.Option.{same_Some}
use Rattle.oc_bytes.specs.Outcome.{Known}
use borrow.Rule.Slice.PartMut.{put_mid, post_of}
use Rattle.oc_bytes.specs.Streams.{Takes}
use Rattle.shell_streams.specs.Packets.{onto_left}
use Rattle.shell_streams.specs.Inner.Held.{IsDry, ReadsAfter}

-- without the first n of what is held
pub range_drop : (n i j : ℕ) (xs : List ℕ) → i + n ≤ j → slice_range xs (i + n) j ≡ drop n (slice_range xs i j)
range_drop n i j xs h =
    let e : j - i ≡ n + (j - (i + n)) = omega arith in
    rw e (sym (drop-take n (j - (i + n)) (drop i xs) ∙ ap (take (j - (i + n))) (drop-drop n i xs)))

-- the same bytes up to the end of a range
pub range_same : (xs ys : List ℕ) (i j : ℕ) → take j xs ≡ take j ys → slice_range xs i j ≡ slice_range ys i j
range_same xs ys i j e = between_is xs i j ∙ ap (drop i) e ∙ sym (between_is ys i j)

-- n bytes more after a range
pub range_more : (xs ys : List ℕ) (i j n : ℕ) → take j xs ≡ take j ys → i ≤ j → j ≤ length xs → slice_range xs i (j + n) ≡ slice_range ys i j ++ take n (drop j xs)
range_more xs ys i j n e h within =
    let parts : take (j + n) xs ≡ take j xs ++ take n (drop j xs) = take-add j n xs in
    let front : i ≤ length (take j xs) = omega (arith, length-take j xs) in
    between_is xs i (j + n) ∙ ap (drop i) parts ∙ drop-append-le i (take j xs) (take n (drop j xs)) front
    ∙ ap (λ ds. ds ++ take n (drop j xs)) (sym (between_is xs i j) ∙ range_same xs ys i j e)

-- what was read goes over from what the source has left to what is held
pub reads_on : (held more new : List ℕ) (start n : ℕ) (a b : Option (List ℕ)) → Known a b (λ before after. ReadsAfter new before after start n)
    → more ≡ held ++ take n (drop start new) → onto_left more b ≡ onto_left held a
reads_on held more new start n (Some x) (Some y) t e =
    let r = t.each x y refl refl in
    ap Some (rw (e, r.front, r.left) (append_assoc held (take n x) (drop n x) ∙ ap (λ ds. held ++ ds) (take-append-drop n x)))
reads_on held more new start n (Some x) None t e = absurd (true≢false (sym t.kept))
reads_on held more new start n None (Some y) t e = absurd (true≢false t.kept)
reads_on held more new start n None None t e = refl

drop_nil : (n : ℕ) → ◌≡◌ {A = List ℕ} (drop n []) []
drop_nil n = drop_all n [] (le-zero n)
  where
    le-zero : (n : ℕ) → 0 ≤ n
    le-zero n = omega arith

-- nothing was read, since nothing is left
pub reads_nothing : (new : List ℕ) (start n : ℕ) (a b : Option (List ℕ)) → Known a b (λ before after. ReadsAfter new before after start n) → n ≡ 0 → IsDry b
reads_nothing new start n (Some x) (Some y) t z = let r = t.each x y refl refl in r.left ∙ ap (drop n) (r.some z) ∙ drop_nil n
reads_nothing new start n (Some x) None t z = tt
reads_nothing new start n None (Some y) t z = absurd (true≢false t.kept)
reads_nothing new start n None None t z = tt

pub length-range : (xs : List ℕ) (i j : ℕ) → length (slice_range xs i j) ≤ j - i
length-range xs i j = omega (arith, length-take (j - i) (drop i xs))

-- a buffer in which the bytes that are held were moved, and then more was read after them
pub record Reread (v : Vec ℕ Global) (new last : List ℕ) (first end at : ℕ) : Type 0 where
  pub order : first ≤ end
  pub within : end ≤ vec_len v
  pub small : at ≤ first
  pub same_length : length new ≡ length v.items
  pub same : take (end - first) (drop at new) ≡ take (end - first) (drop first v.items)
  pub last_length : length last ≡ length (with_items v new).items
  pub front : take (at + (end - first)) last ≡ take (at + (end - first)) (with_items v new).items

new_items : (v : Vec ℕ Global) (new : List ℕ) → length new ≡ length v.items → (with_items v new).items ≡ new
new_items v new e = with_items_is v new (e ∙ sym v.ok.0)

last_items : {v : Vec ℕ Global} {new last : List ℕ} {first end at : ℕ} → Reread v new last first end at → (with_items (with_items v new) last).items ≡ last
last_items {v = v} {new = new} {last = last} m = new_items (with_items v new) last m.last_length

moved_range : {v : Vec ℕ Global} {new last : List ℕ} {first end at : ℕ} → Reread v new last first end at → slice_range new at (at + (end - first)) ≡ slice_range v.items first end
moved_range {first = first} {end = end} {at = at} m =
    let e : at + (end - first) - at ≡ end - first = omega arith in
    rw e m.same

pub reread_same : {v : Vec ℕ Global} {new last : List ℕ} {first end at : ℕ} → Reread v new last first end at
    → slice_range (with_items (with_items v new) last).items at (at + (end - first)) ≡ slice_range v.items first end
reread_same {v = v} {new = new} {last = last} {first = first} {end = end} {at = at} m =
    rw (last_items m) (range_same last new at (at + (end - first)) (m.front ∙ ap (take (at + (end - first))) (new_items v new m.same_length)) ∙ moved_range m)

pub reread_more : {v : Vec ℕ Global} {new last : List ℕ} {first end at : ℕ} (n : ℕ) → Reread v new last first end at
    → slice_range (with_items (with_items v new) last).items at (at + (end - first) + n) ≡ slice_range v.items first end ++ take n (drop (at + (end - first)) last)
reread_more {v = v} {new = new} {last = last} {first = first} {end = end} {at = at} n m =
    let order : at ≤ at + (end - first) = omega arith in
    let e : length last ≡ length new = m.last_length ∙ ap length (new_items v new m.same_length) in
    let within : at + (end - first) ≤ length last = omega (arith, m.order, m.within, m.small, m.same_length, e, v.ok.0) in
    rw (last_items m) (range_more last new at (at + (end - first)) n (m.front ∙ ap (take (at + (end - first))) (new_items v new m.same_length)) order within
    ∙ ap (λ ds. ds ++ take n (drop (at + (end - first)) last)) (moved_range m))

drop-put_mid_at : (start k : ℕ) (bytes into : List ℕ) → start ≤ length bytes → drop start (put_mid start k bytes into) ≡ into ++ post_of start k bytes
drop-put_mid_at start k bytes into h = drop_at (take start bytes) (into ++ post_of start k bytes) start (length-take-le start bytes h)

-- what was read after the first `start`
pub reads_behind : (bytes into before after : List ℕ) (start n : ℕ) → start < length bytes → length into ≡ length bytes - start → n ≤ length bytes - start → Takes before after into n
    → ReadsAfter (put_mid start (length bytes - start) bytes into) before after start n
reads_behind bytes into before after start n lt len within t = record {
  within = t.within;
  front = ap (take n) (drop-put_mid_at start (length bytes - start) bytes into (omega arith)) ∙ take-append-le n into _ (omega arith) ∙ t.front;
  left = t.left;
  some = t.ended.0;
}

pub if_both : {T E : Type 0} {P Q R : T → Type 0} (r : Result T E) → IfOk r P → IfOk r Q → ((x : T) → P x → Q x → R x) → IfOk r R
if_both (Ok x) p q f = f x p q
if_both (Err e) p q f = tt

pub none_held : (held : List ℕ) → (length held == 0) ≡ true → held ≡ []
none_held [] h = refl
none_held (b ∷ bs) h = absurd (omega (arith, eqb-true (length (b ∷ bs)) 0 h))

-- where something is held, something is still to be taken
pub goes_on_held : (held : List ℕ) (left : Option (List ℕ)) (rest : List ℕ) → (length held == 0) ≡ false → onto_left held left ≡ Some rest → rest ≢ []
goes_on_held held (Some l) rest h e = λ z. absurd (eqb-false (length held) 0 h (shorter held l (ap length (same_Some (held ++ l) rest e ∙ z))))
  where
    shorter : (held l : List ℕ) → length (held ++ l) ≡ 0 → length held ≡ 0
    shorter held l e = omega (arith, length-append held l)
goes_on_held held None rest h e = cc
