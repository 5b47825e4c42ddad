-- A test of each number up to a last one, one after another.
use Rattle.std.proofs.Common.{◌≡◌, ℕ, suc, ◌+◌, ◌-◌, ◌<◌, ◌≤◌, Bool, true, false, ◌&&◌, nat_lt, [], ◌∷◌, Option, Some, None, cond, sym, ap, ◌∙◌, arith}
use Rattle.std.specs.List.{find, list_all, range_with_len}
use Rattle.std.proofs.lemmas.Bool.{lt-ltb, le-ltb}

range_next : (i n : ℕ) → i < n → range_with_len i (n - i) ≡ i ∷ range_with_len (i + 1) (n - (i + 1))
range_next i n h = let e : n - i ≡ suc (n - (i + 1)) = omega (arith, h) in ap (range_with_len i) e

range_end : (i n : ℕ) → n ≤ i → range_with_len i (n - i) ≡ []
range_end i n h = let e : n - i ≡ 0 = omega (arith, h) in ap (range_with_len i) e

pub range_begin : (n : ℕ) → range_with_len 0 (n - 0) ≡ range_with_len 0 n
range_begin n = let e : n - 0 ≡ n = omega arith in ap (range_with_len 0) e

-- ---- all pass

pub passes_here : (p : ℕ → Bool) (i n : ℕ) (whole : Bool) → i < n → p i ≡ true → list_all p (range_with_len i (n - i)) ≡ whole → list_all p (range_with_len (i + 1) (n - (i + 1))) ≡ whole
passes_here p i n whole h e so_far =
    sym (ap (list_all p) (range_next i n h) ∙ ap (λ (b : Bool). b && list_all p (range_with_len (i + 1) (n - (i + 1)))) e) ∙ so_far

pub fails_here : (p : ℕ → Bool) (i n : ℕ) (whole : Bool) → i < n → p i ≡ false → list_all p (range_with_len i (n - i)) ≡ whole → false ≡ whole
fails_here p i n whole h e so_far =
    sym (ap (list_all p) (range_next i n h) ∙ ap (λ (b : Bool). b && list_all p (range_with_len (i + 1) (n - (i + 1)))) e) ∙ so_far

pub passes_all : (p : ℕ → Bool) (i n : ℕ) (whole : Bool) → n ≤ i → list_all p (range_with_len i (n - i)) ≡ whole → true ≡ whole
passes_all p i n whole h so_far = sym (ap (list_all p) (range_end i n h)) ∙ so_far

pub with_two : (n : ℕ) (all result : Bool) → 2 ≤ n → result ≡ all → result ≡ (nat_lt 1 n && all)
with_two n all result h e = e ∙ ap (λ (b : Bool). b && all) (sym (lt-ltb 1 n (omega (arith, h))))

pub without_two : (n : ℕ) (all : Bool) → n < 2 → false ≡ (nat_lt 1 n && all)
without_two n all h = ap (λ (b : Bool). b && all) (sym (le-ltb 1 n (omega (arith, h))))

-- ---- the first that passes

pub found_here : (p : ℕ → Bool) (i n : ℕ) (whole : Option ℕ) → i < n → p i ≡ true → find p (range_with_len i (n - i)) ≡ whole → Some i ≡ whole
found_here p i n whole h e so_far =
    sym (ap (find p) (range_next i n h) ∙ ap (λ (b : Bool). cond b (Some i) (find p (range_with_len (i + 1) (n - (i + 1))))) e) ∙ so_far

pub found_later : (p : ℕ → Bool) (i n : ℕ) (whole : Option ℕ) → i < n → p i ≡ false → find p (range_with_len i (n - i)) ≡ whole → find p (range_with_len (i + 1) (n - (i + 1))) ≡ whole
found_later p i n whole h e so_far =
    sym (ap (find p) (range_next i n h) ∙ ap (λ (b : Bool). cond b (Some i) (find p (range_with_len (i + 1) (n - (i + 1))))) e) ∙ so_far

pub found_none : (p : ℕ → Bool) (i n : ℕ) (whole : Option ℕ) → n ≤ i → find p (range_with_len i (n - i)) ≡ whole → None ≡ whole
found_none p i n whole h so_far = sym (ap (find p) (range_end i n h)) ∙ so_far
