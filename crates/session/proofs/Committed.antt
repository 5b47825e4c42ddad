-- Each editor's commits in the history are its lines in order, but for those that found no room.
use Rattle.session.proofs.Words.{◌≡◌, ◌≢◌, ℕ, zero, suc, ◌<◌, cond, List, [], ◌∷◌, ◌++◌, length, map, get_or, Some, slice_get, Contains, Ok, Err, ◌⊎◌, inl, inr, ap, ◌∙◌, refl, subst, arith, get_or_default, dite, ℕ_discrete, Fate, Edit, put_bytes_of, Entry, Commit, commit_reply, event_of, AreNumbers, is_made, IsFullAfter, AreEntered, entries_to_next, IsFull, AreCommitted, up_to_next, is_accepted, put_by_step}
use Rattle.generation_catalogue.specs.declared.entry.Entry.TheVariants as entries
use Rattle.session.proofs.Telling.{Told, IsToldBy, Tells, tells_append, tells_cut, sum_told, none_told, tells_to_next}

accepted_same : (editors : List ℕ) (e : Entry) (fates : List Fate) → cond {A = ℕ} (is_accepted (event_of editors e fates).1) 1 0 ≡ cond {A = ℕ} (is_made e) 1 0
accepted_same editors (entries.Commit editor edits (Ok number)) fates = refl
accepted_same editors (entries.Commit editor edits (Err refusal)) fates = refl
accepted_same editors (entries.Draw asked generation first count) fates = refl

put_same : (editors : List ℕ) (e : Entry) (fates : List Fate) → put_by_step (event_of editors e fates).0 ≡ put_bytes_of e
put_same editors (entries.Commit editor edits outcome) fates = refl
put_same editors (entries.Draw asked generation first count) fates = refl

full_told : (editors : List ℕ) (es : List Entry) (told : List Told) (edits : List Edit) → Tells editors es told → IsFullAfter es edits → IsFull told edits
full_told editors es told edits h (inl full) =
    inl (let a = sum_told editors (λ x. cond {A = ℕ} (is_accepted x.1) 1 0) (λ e. cond {A = ℕ} (is_made e) 1 0) (λ r o. refl) (accepted_same editors) es told h in omega (arith, a, full))
full_told editors es told edits h (inr full) =
    inr (let a = sum_told editors (λ x. put_by_step x.0) put_bytes_of (λ r o. refl) (put_same editors) es told h in omega (arith, a, full))

-- where `before` tells the entries up to here and `told` those that follow
pub committed : (editors : List ℕ) → AreNumbers editors → (place : ℕ) → place < length editors → (lines : List (List Edit)) (up es : List Entry) (before told : List Told)
    → Tells editors up before → Tells editors es told → AreEntered place up lines es → AreCommitted (get_or editors place 0) before lines told
committed editors n place within [] up es before told b h none = none_told editors n place within es told h none
committed editors n place within (edits ∷ lines) up es before told b h (inl r) = let between = r.0 in let outcome = r.1 in let later = r.2 in
    let e : Entry = entries.Commit place edits outcome in let cut = tells_cut editors between later e told (subst (λ l. Tells editors l told) r.3 h) in
    let x : Told = (Commit (get_or editors place 0) edits, commit_reply outcome) in let is : cut.1 ≡ x = (cut.5).1 in
    let one : Tells editors (e ∷ []) (x ∷ []) = inr (e, [], refl, subst (λ y. IsToldBy editors e y) is cut.5, refl) in
    let longer : Tells editors (up ++ between ++ e ∷ []) (before ++ cut.0 ++ x ∷ []) =
    tells_append editors (up ++ between) (e ∷ []) (before ++ cut.0) (x ∷ []) (tells_append editors up between before cut.0 b cut.4) one in
    inl (
      cut.0,
      commit_reply outcome,
      cut.2,
      cut.3 ∙ ap (λ y. cut.0 ++ y ∷ cut.2) is,
      none_told editors n place within between cut.0 cut.4 r.4,
      committed editors n place within lines (up ++ between ++ e ∷ []) later (before ++ cut.0 ++ x ∷ []) cut.2 longer cut.6 r.5,
    )
committed editors n place within (edits ∷ lines) up es before told b h (inr r) = let next = tells_to_next editors n place within es told h in
    let part = tells_append editors up (entries_to_next place es) before (up_to_next (get_or editors place 0) told) b next in
    inr (full_told editors (up ++ entries_to_next place es) (before ++ up_to_next (get_or editors place 0) told) edits part r.0, committed editors n place within lines up es before told b h r.1)

-- ---- who is among the editors, or the readers

abbrev pub HasPlace : List ℕ → ℕ → Type 0
HasPlace xs x = (p : ℕ) × (p < length xs) × (get_or xs p 0 ≡ x)

abbrev pub HasNone : List ℕ → ℕ → Type 0
HasNone xs x = (p : ℕ) → p < length xs → get_or xs p 0 ≢ x

none_more : (y x : ℕ) (xs : List ℕ) → y ≢ x → HasNone xs x → HasNone (y ∷ xs) x
none_more y x xs n h zero less e = n e
none_more y x xs n h (suc p) less e = h p (omega (arith, less)) e

pub find_place : (xs : List ℕ) (x : ℕ) → HasPlace xs x ⊎ HasNone xs x
find_place [] x = inr (λ p less e. absurd (omega (arith, less)))
find_place (y ∷ xs) x = dite (ℕ_discrete y x) (λ e. inl (0, omega arith, e)) (λ n. by n (find_place xs x))
  where
    by : y ≢ x → HasPlace xs x ⊎ HasNone xs x → HasPlace (y ∷ xs) x ⊎ HasNone (y ∷ xs) x
    by n (inl h) = inl (suc h.0, omega (arith, h.1), h.2)
    by n (inr h) = inr (none_more y x xs n h)

pub not_among : (xs : List ℕ) (x y : ℕ) → HasNone xs x → Contains xs y → y ≢ x
not_among xs x y lacks c e = lacks c.0 c.1 (get_or_default xs c.0 0 y c.1 ∙ c.2 ∙ e)

pub place_mapped : {A : Type 0} (f : ℕ → A) (xs : List ℕ) (p : ℕ) → p < length xs → slice_get (map f xs) p ≡ Some (f (get_or xs p 0))
place_mapped f [] p less = absurd (omega (arith, less))
place_mapped f (x ∷ xs) zero less = refl
place_mapped f (x ∷ xs) (suc p) less = place_mapped f xs p (omega (arith, less))
