-- A history of events that tells entries, with opens between them.
use Rattle.session.proofs.Words.{◌≡◌, ◌≢◌, ℕ, suc, ◌<◌, Bool, true, false, cond, List, [], ◌∷◌, ◌++◌, length, filter, drop, get_or, sum_by, ◌⊎◌, inl, inr, sym, ap, ◌∙◌, refl, subst, arith, ne_eqb, sum_by-cons, Fate, Entry, ReaderView, OpenEntry, Each, event_of, opened_of, opens_at, merge_entries, merge_of, IsPlaced, AreNumbers, is_commit_at, is_commit_of, entries_to_next, up_to_next, filter_skips, each_opened, commit_told}
use Rattle.generation_catalogue.specs.declared.entry.Entry.TheVariants as entries
use Rattle.session.proofs.Lists.{first_fails}
pub use Rattle.session.specs.Sessions.{Told}

abbrev pub IsOpenTold : Told → Type 0
IsOpenTold x = (reader : ℕ) × (o : OpenEntry) × (x ≡ opened_of reader o)

module _ (editors : List ℕ) where
  -- the event tells this entry, an editor's commit under its number
  abbrev pub IsToldBy : Entry → Told → Type 0
  IsToldBy e x = (fates : List Fate) × (x ≡ event_of editors e fates) × IsPlaced (length editors) e

  -- in order, each event tells the next entry, or is an open
  abbrev pub Tells : List Entry → List Told → Type 0
  Tells es [] = es ≡ []
  Tells es (x ∷ told) = (IsOpenTold x × Tells es told) ⊎ ((e : Entry) × (later : List Entry) × (es ≡ e ∷ later) × IsToldBy e x × Tells later told)

  pub tells_append : (xs ys : List Entry) (a b : List Told) → Tells xs a → Tells ys b → Tells (xs ++ ys) (a ++ b)
  tells_append xs ys [] b h k = subst (λ l. Tells (l ++ ys) b) (sym h) k
  tells_append xs ys (x ∷ a) b (inl h) k = inl (h.0, tells_append xs ys a b h.1 k)
  tells_append xs ys (x ∷ a) b (inr h) k = inr (h.0, h.1 ++ ys, ap (λ l. l ++ ys) h.2, h.3, tells_append h.1 ys a b h.4 k)

  pub behind_opens : (es : List Entry) (a b : List Told) → Each IsOpenTold a → Tells es b → Tells es (a ++ b)
  behind_opens es [] b h k = k
  behind_opens es (x ∷ a) b h k = inl (h.0, behind_opens es a b h.1 k)

  pub only_opens : (a : List Told) → Tells [] a → Each IsOpenTold a
  only_opens [] h = tt
  only_opens (x ∷ a) (inl h) = (h.0, only_opens a h.1)
  only_opens (x ∷ a) (inr h) = absurd (let e = h.2 in cc)

  -- where an entry is told, and what is told before it and after it
  abbrev pub IsCutAt : List Entry → Entry → List Entry → List Told → Type 0
  IsCutAt xs e ys told = (a : List Told) × (x : Told) × (b : List Told) × (told ≡ a ++ x ∷ b) × Tells xs a × IsToldBy e x × Tells ys b

  pub tells_cut : (xs ys : List Entry) (e : Entry) (told : List Told) → Tells (xs ++ e ∷ ys) told → IsCutAt xs e ys told
  tells_cut [] ys e [] h = absurd (cc)
  tells_cut (z ∷ xs) ys e [] h = absurd (cc)
  tells_cut xs ys e (x ∷ told) (inl h) = let r = tells_cut xs ys e told h.1 in (x ∷ r.0, r.1, r.2, ap (λ l. x ∷ l) r.3, inl (h.0, r.4), r.5, r.6)
  tells_cut [] ys e (x ∷ told) (inr h) = let same : e ∷ ys ≡ h.0 ∷ h.1 = h.2 in let first : h.0 ≡ e = cc in let rest : h.1 ≡ ys = cc in
      ([], x, told, refl, refl, subst (λ z. IsToldBy z x) first h.3, subst (λ l. Tells l told) rest h.4)
  tells_cut (z ∷ xs) ys e (x ∷ told) (inr h) = let same : z ∷ (xs ++ e ∷ ys) ≡ h.0 ∷ h.1 = h.2 in let first : h.0 ≡ z = cc in
      let rest : h.1 ≡ xs ++ e ∷ ys = cc in let r = tells_cut xs ys e told (subst (λ l. Tells l told) rest h.4) in
      (x ∷ r.0, r.1, r.2, ap (λ l. x ∷ l) r.3, inr (z, xs, refl, subst (λ w. IsToldBy w x) first h.3, r.4), r.5, r.6)

  -- ---- a merge tells the entries

  all_told : (readers : List ReaderView) (k : ℕ) → Each IsOpenTold (opens_at readers k)
  all_told readers k = each_opened IsOpenTold readers (λ r low high o. (r, o, refl)) k

  tells_entries : (readers : List ReaderView) (k : ℕ) (fates : List (List Fate)) (es : List Entry) → Each (IsPlaced (length editors)) es → Tells es (merge_entries editors readers k fates es)
  tells_entries readers k fates [] h = refl
  tells_entries readers k fates (entries.Commit editor edits outcome ∷ es) h =
      inr (entries.Commit editor edits outcome, es, refl, ([], refl, h.0), tells_entries readers k fates es h.1)
  tells_entries readers k fates (entries.Draw asked generation first count ∷ es) h = inr (
    entries.Draw asked generation first count,
    es,
    refl,
    (get_or fates 0 [], refl, h.0),
    behind_opens es (opens_at readers (suc k)) (merge_entries editors readers (suc k) (drop 1 fates) es) (all_told readers (suc k)) (tells_entries readers (suc k) (drop 1 fates) es h.1),
  )

  pub merge_tells : (readers : List ReaderView) (fates : List (List Fate)) (es : List Entry) → Each (IsPlaced (length editors)) es → Tells es (merge_of editors readers fates es)
  merge_tells readers fates es h = behind_opens es (opens_at readers 0) (merge_entries editors readers 0 fates es) (all_told readers 0) (tells_entries readers 0 fates es h)

  -- ---- sums

  pub sum_told : (F : Told → ℕ) (G : Entry → ℕ) → ((reader : ℕ) (o : OpenEntry) → F (opened_of reader o) ≡ 0) → ((e : Entry) (fates : List Fate) → F (event_of editors e fates) ≡ G e)
      → (es : List Entry) (told : List Told) → Tells es told → sum_by F told ≡ sum_by G es
  sum_told F G none same es [] h = ap (sum_by G) (sym h)
  sum_told F G none same es (x ∷ told) (inl h) = let o = h.0 in let zero_here : F x ≡ 0 = ap F o.2 ∙ none o.0 o.1 in
      let rest = sum_told F G none same es told h.1 in let parts = sum_by-cons F x told in omega (arith, parts, zero_here, rest)
  sum_told F G none same es (x ∷ told) (inr h) = let here : F x ≡ G h.0 = ap F (h.3).1 ∙ same h.0 (h.3).0 in let rest = sum_told F G none same h.1 told h.4 in
      let parts = sum_by-cons F x told in let others = sum_by-cons G h.0 h.1 in let all = ap (sum_by G) h.2 in omega (arith, parts, here, rest, others, all)

-- ---- an editor's commits

module _ (editors : List ℕ) (n : AreNumbers editors) (place : ℕ) (within : place < length editors) where
  abbrev is_its : Told → Bool
  is_its x = is_commit_of (get_or editors place 0) x.0

  told_same : (e : Entry) (x : Told) → IsToldBy editors e x → is_its x ≡ is_commit_at place e
  told_same e x t = ap is_its t.1 ∙ commit_told editors n place within e t.0

  open_not : (x : Told) → IsOpenTold x → is_its x ≡ false
  open_not x o = ap is_its o.2

  pub none_told : (es : List Entry) (told : List Told) → Tells editors es told → filter (is_commit_at place) es ≡ [] → filter (λ x. is_commit_of (get_or editors place 0) x.0) told ≡ []
  none_told es [] h none = refl
  none_told es (x ∷ told) (inl h) none = filter_skips is_its x told (open_not x h.0) ∙ none_told es told h.1 none
  none_told es (x ∷ told) (inr h) none = let f = first_fails (is_commit_at place) h.0 h.1 (ap (filter (is_commit_at place)) (sym h.2) ∙ none) in
      filter_skips is_its x told (told_same h.0 x h.3 ∙ f.0) ∙ none_told h.1 told h.4 f.1

  cut_both : (e : Entry) (later : List Entry) (x : Told) (told : List Told) → IsToldBy editors e x → Tells editors later told → (b : Bool)
      → Tells editors (cond b [] (e ∷ later)) (cond b [] (x ∷ told))
  cut_both e later x told t h true = refl
  cut_both e later x told t h false = inr (e, later, refl, t, h)

  pub tells_to_next : (es : List Entry) (told : List Told) → Tells editors es told → Tells editors (entries_to_next place es) (up_to_next (get_or editors place 0) told)
  tells_to_next es [] h = ap (entries_to_next place) h
  tells_to_next es (x ∷ told) (inl h) =
      subst (λ (b : Bool). Tells editors (entries_to_next place es) (cond b [] (x ∷ up_to_next (get_or editors place 0) told))) (sym (open_not x h.0))
      (inl (h.0, tells_to_next es told h.1))
  tells_to_next es (x ∷ told) (inr h) = subst (λ l. Tells editors (entries_to_next place l) (up_to_next (get_or editors place 0) (x ∷ told))) (sym h.2)
      (subst (λ (b : Bool). Tells editors (entries_to_next place (h.0 ∷ h.1)) (cond b [] (x ∷ up_to_next (get_or editors place 0) told))) (sym (told_same h.0 x h.3))
      (cut_both h.0 (entries_to_next place h.1) x (up_to_next (get_or editors place 0) told) h.3 (tells_to_next h.1 told h.4) (is_commit_at place h.0)))

-- a number that is no editor's is in no event
pub none_of_other : (editors : List ℕ) (number : ℕ) → ((p : ℕ) → p < length editors → get_or editors p 0 ≢ number) → (es : List Entry) (told : List Told) → Tells editors es told
    → filter (λ x. is_commit_of number x.0) told ≡ []
none_of_other editors number lacks es [] h = refl
none_of_other editors number lacks es (x ∷ told) (inl h) = filter_skips (λ x. is_commit_of number x.0) x told (ap (λ (y : Told). is_commit_of number y.0) (h.0).2) ∙ none_of_other editors number lacks es told h.1
none_of_other editors number lacks es (x ∷ told) (inr h) =
    filter_skips (λ x. is_commit_of number x.0) x told (ap (λ (y : Told). is_commit_of number y.0) (h.3).1 ∙ other h.0 (h.3).0 (h.3).2) ∙ none_of_other editors number lacks h.1 told h.4
  where
    other : (e : Entry) (fates : List Fate) → IsPlaced (length editors) e → is_commit_of number (event_of editors e fates).0 ≡ false
    other (entries.Commit editor edits outcome) fates placed = ne_eqb (get_or editors editor 0) number (lacks editor placed)
    other (entries.Draw asked generation first count) fates placed = refl
