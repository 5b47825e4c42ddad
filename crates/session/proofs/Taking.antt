-- The lists of actors, one taken out more.
use Rattle.session.proofs.Words.{◌≡◌, ◌≢◌, ℕ, ◌+◌, ◌<◌, ◌≤◌, ◌==◌, List, [], length, sym, ap, ◌∙◌, arith, eq-eqb, ne_eqb, Bool, slice_index_or, if◌then◌else◌, dite, ℕ_discrete, AreApart}

pub either_side : (a b : ℕ) → (a == b) ≡ (b == a)
either_side a b = dite (ℕ_discrete a b) (λ e. eq-eqb a b e ∙ sym (eq-eqb b a (sym e))) (λ ne. ne_eqb a b ne ∙ sym (ne_eqb b a (λ e. ne (sym e))))

-- of the numbers after the first ones, the lists are those of before
abbrev pub AreLeft : {T : Type 0} → List ℕ → ℕ → (old new : ℕ → List T) → Type 0
AreLeft numbers taken old new = (k : ℕ) → taken ≤ k → k < length numbers → new (slice_index_or numbers k 0) ≡ old (slice_index_or numbers k 0)

-- the next one's list is taken out
pub left_on : {T : Type 0} (numbers : List ℕ) (taken : ℕ) (old mid new : ℕ → List T) (n : ℕ) → AreApart numbers → taken < length numbers → n ≡ slice_index_or numbers taken 0
    → AreLeft numbers taken old mid → ((m : ℕ) → new m ≡ (if m == n then [] else mid m)) → AreLeft numbers (taken + 1) old new
left_on numbers taken old mid new n apart lt is left took = λ k le below.
    let m = slice_index_or numbers k 0 in let other : m ≢ n = λ e. let same : k ≡ taken = apart k taken below lt (e ∙ is) in omega (arith, same, le) in
    took m ∙ ap (λ (t : Bool). if t then [] else mid m) (ne_eqb m n other) ∙ left k (omega (arith, le)) below
