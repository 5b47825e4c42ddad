-- Opens whose counts of draws never fall, cut by these counts, are all the opens.
use Rattle.history_merge.proofs.Words.{◌≡◌, ◌≢◌, ℕ, zero, suc, ◌+◌, ◌<◌, ◌≤◌, List, [], ◌∷◌, ◌++◌, filter, sym, ap, ◌∙◌, refl, arith, eq-eqb, ne_eqb, dite, ℕ_discrete, OpenEntry, has_heard, NeverFall}
use Rattle.history_merge.proofs.Lists.{filter_takes, filter_skips}

pub heard_first : (k : ℕ) (o : OpenEntry) (os : List OpenEntry) → o.draws ≡ k → filter (has_heard k) (o ∷ os) ≡ o ∷ filter (has_heard k) os
heard_first k o os e = filter_takes (has_heard k) o os (eq-eqb o.draws k e)

pub not_heard : (k : ℕ) (o : OpenEntry) (os : List OpenEntry) → o.draws ≢ k → filter (has_heard k) (o ∷ os) ≡ filter (has_heard k) os
not_heard k o os ne = filter_skips (has_heard k) o os (ne_eqb o.draws k ne)

-- the opens of each count from b on, n counts
abbrev pub cuts : List OpenEntry → ℕ → ℕ → List OpenEntry
cuts os b zero = []
cuts os b (suc n) = filter (has_heard b) os ++ cuts os (suc b) n

lower : (a b last : ℕ) (os : List OpenEntry) → a ≤ b → NeverFall b last os → NeverFall a last os
lower a b last [] h k = tt
lower a b last (o ∷ os) h k = (let j = k.0 in omega arith, k.1, k.2)

-- none has a count below the first
none_early : (k b last : ℕ) (os : List OpenEntry) → k < b → NeverFall b last os → filter (has_heard k) os ≡ []
none_early k b last [] less h = refl
none_early k b last (o ∷ os) less h = let first = h.0 in not_heard k o os (λ e. omega arith) ∙ none_early k o.draws last os (omega arith) h.2

cuts_none : (b n : ℕ) → cuts [] b n ≡ []
cuts_none b zero = refl
cuts_none b (suc n) = cuts_none (suc b) n

-- an open of a count below is in none of the cuts
cuts_past : (o : OpenEntry) (os : List OpenEntry) (b n : ℕ) → o.draws < b → cuts (o ∷ os) b n ≡ cuts os b n
cuts_past o os b zero h = refl
cuts_past o os b (suc n) h = λ i. not_heard b o os (λ e. omega arith) i ++ cuts_past o os (suc b) n (omega arith) i

-- an open that has the first of the counts, or a later one, with none before it, stands first
cuts_first : (o : OpenEntry) (os : List OpenEntry) (last b n : ℕ) → b ≤ o.draws → o.draws < b + n → NeverFall o.draws last os → cuts (o ∷ os) b n ≡ o ∷ cuts os b n
cuts_first o os last b zero h k f = absurd (omega arith)
cuts_first o os last b (suc n) h k f = dite (ℕ_discrete o.draws b) (λ e. λ i. heard_first b o os e i ++ cuts_past o os (suc b) n (omega arith) i)
    (λ ne. let none : filter (has_heard b) os ≡ [] = none_early b o.draws last os (omega arith) f in
    (λ i. not_heard b o os ne i ++ cuts_first o os last (suc b) n (omega arith) (omega arith) f i)
    ∙ (λ i. none i ++ o ∷ cuts os (suc b) n)
    ∙ (λ i. o ∷ (sym none i ++ cuts os (suc b) n)))

pub cuts_all : (os : List OpenEntry) (b last n : ℕ) → NeverFall b last os → last < b + n → cuts os b n ≡ os
cuts_all [] b last n h k = cuts_none b n
cuts_all (o ∷ os) b last n h k = let low = h.0 in let high = h.1 in
    cuts_first o os last b n low (omega arith) h.2 ∙ ap (λ (l : List OpenEntry). o ∷ l) (cuts_all os b last n (lower b o.draws last os low h.2) k)
