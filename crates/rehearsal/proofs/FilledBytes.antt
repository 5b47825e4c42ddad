-- A file by a rule, byte after byte.
use Rattle.rehearsal.proofs.Words.{◌≡◌, ℕ, zero, suc, ◌+◌, List, [], ◌∷◌, ◌++◌, map, sym, ap, ◌∙◌, arith, filled_bytes, filled_byte}
use Rattle.std.proofs.lemmas.List.{map-append}
use Rattle.std.specs.List.{range_with_len}

range_more : (a n : ℕ) → range_with_len a (suc n) ≡ range_with_len a n ++ (a + n) ∷ []
range_more a zero = let e : a ≡ a + 0 = omega arith in ap (λ k. k ∷ []) e
range_more a (suc n) = let e : (a + 1) + n ≡ a + suc n = omega arith in
    ap (λ (ks : List ℕ). a ∷ ks) (range_more (a + 1) n ∙ ap (λ k. range_with_len (a + 1) n ++ k ∷ []) e)

filled_more : (from n : ℕ) → filled_bytes (n + 1) from ≡ filled_bytes n from ++ filled_byte from n ∷ []
filled_more from n = let next : n + 1 ≡ suc n = omega arith in let last : 0 + n ≡ n = omega arith in
    ap (λ k. filled_bytes k from) next ∙ ap (map (filled_byte from)) (range_more 0 n ∙ ap (λ k. range_with_len 0 n ++ k ∷ []) last)
    ∙ map-append (filled_byte from) (range_with_len 0 n) (n ∷ [])

pub fills_more : (from n : ℕ) (bytes : List ℕ) (b : ℕ) (more : List ℕ) → bytes ≡ filled_bytes n from → b ≡ filled_byte from n → more ≡ bytes ++ b ∷ [] → more ≡ filled_bytes (n + 1) from
fills_more from n bytes b more so_far is pushed =
    pushed ∙ ap (λ (xs : List ℕ). xs ++ b ∷ []) so_far ∙ ap (λ x. filled_bytes n from ++ x ∷ []) is ∙ sym (filled_more from n)
