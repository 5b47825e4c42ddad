-- Readers that share no number: each has its own opens.
use Rattle.history_merge.proofs.Words.{◌≡◌, ◌≢◌, ℕ, zero, suc, List, [], ◌∷◌, ◌++◌, Some, sym, ◌∙◌, refl, subst, append-nil, eq-eqb, ne_eqb, if◌then◌else◌, slice_get, dite, ℕ_discrete, ReaderView, Each, opens_by, NeverFall, IsInOrder, AreApart}

each_at : {A : Type 0} (Q : A → Type 0) (xs : List A) (k : ℕ) (x : A) → Each Q xs → slice_get xs k ≡ Some x → Q x
each_at Q [] k x h e = absurd (cc)
each_at Q (y ∷ ys) zero x h e = let s : y ≡ x = cc in subst Q s h.0
each_at Q (y ∷ ys) (suc k) x h e = each_at Q ys k x h.1 e

none_by : (r : ℕ) (ps : List ReaderView) → Each (λ (q : ReaderView). q.reader ≢ r) ps → opens_by r ps ≡ []
none_by r [] h = refl
none_by r (q ∷ qs) h = λ i. (if ne_eqb q.reader r h.0 i then q.opens else []) ++ none_by r qs h.1 i

own_first : (p : ReaderView) (ps : List ReaderView) (r : ℕ) → p.reader ≡ r → Each (λ (q : ReaderView). q.reader ≢ p.reader) ps → opens_by r (p ∷ ps) ≡ p.opens
own_first p ps r e apart = let none : opens_by r ps ≡ [] = none_by r ps (subst (λ (s : ℕ). Each (λ (q : ReaderView). q.reader ≢ s) ps) e apart) in
    (λ i. (if eq-eqb p.reader r e i then p.opens else []) ++ none i) ∙ append-nil p.opens

own_later : (p : ReaderView) (ps : List ReaderView) (r : ℕ) → p.reader ≢ r → opens_by r (p ∷ ps) ≡ opens_by r ps
own_later p ps r ne = λ i. (if ne_eqb p.reader r ne i then p.opens else []) ++ opens_by r ps

pub own_of : (ps : List ReaderView) (place : ℕ) (p : ReaderView) → AreApart ps → slice_get ps place ≡ Some p → opens_by p.reader ps ≡ p.opens
own_of [] place p apart h = absurd (cc)
own_of (q ∷ qs) zero p apart h = let s : q ≡ p = cc in subst (λ (x : ReaderView). opens_by x.reader (q ∷ qs) ≡ x.opens) s (own_first q qs q.reader refl apart.0)
own_of (q ∷ qs) (suc k) p apart h =
    own_later q qs p.reader (λ e. each_at (λ (x : ReaderView). x.reader ≢ q.reader) qs k p apart.0 h (sym e)) ∙ own_of qs k p apart.1 h

pub rising_by : (r last : ℕ) (ps : List ReaderView) → AreApart ps → Each (IsInOrder last) ps → NeverFall 0 last (opens_by r ps)
rising_by r last [] apart h = tt
rising_by r last (p ∷ ps) apart h = dite (ℕ_discrete p.reader r) (λ e. subst (NeverFall 0 last) (sym (own_first p ps r e apart.0)) h.0.rising)
    (λ ne. subst (NeverFall 0 last) (sym (own_later p ps r ne)) (rising_by r last ps apart.1 h.1))
