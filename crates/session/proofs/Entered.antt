-- From the commits that an editor made to its entries in the whole history.
use Rattle.session.proofs.Words.{◌≡◌, ℕ, ◌+◌, ◌<◌, ◌≤◌, ◌==◌, Bool, true, false, cond, List, [], ◌∷◌, ◌++◌, length, filter, Some, slice_get, Result, inl, inr, sym, ap, ◌∙◌, refl, subst, arith, append_assoc, append-nil, length-append, append_cancel_left, slice_get_within, Edit, Begins, times, HistoriesGrow, CatalogueState, outcome_of, is_entered, Entry, is_commit_at, Seen, GoesOnWith, Commits, IsFullAfter, AreEntered, entries_to_next}
use Rattle.generation_catalogue.specs.declared.entry.Refusal.{Refusal}
use Rattle.generation_catalogue.specs.declared.entry.Entry.TheVariants as entries
use Rattle.session.proofs.Lists.{get_behind, get_front, none_pass, first_fails, begins_on, times_append, times_other}
use Rattle.session.proofs.Entering.{seen_with, seen_of, Commits1, first_commit, commits_enter, enters_begins, enters_keeps}
use Rattle.session.proofs.Rooms.{not_entered, full_later}

-- the entries before the next commit begin with these, if no commit is among them
pub past_these : (place : ℕ) (xs ys : List Entry) → filter (is_commit_at place) xs ≡ [] → entries_to_next place (xs ++ ys) ≡ xs ++ entries_to_next place ys
past_these place [] ys h = refl
past_these place (x ∷ xs) ys h = let f = first_fails (is_commit_at place) x xs h in
    ap (λ (b : Bool). cond b [] (x ∷ entries_to_next place (xs ++ ys))) f.0 ∙ ap (λ (l : List Entry). x ∷ l) (past_these place xs ys f.1)

-- where one more place is one's own, further on the same are still to come
pub still_own : (s : Seen) (before : List Entry) (k : ℕ) → length before < k → times k (s.own ++ length before ∷ []) ≡ times k s.own
still_own s before k more = let a = times_append k s.own (length before ∷ []) in let o = times_other k (length before) (λ e. omega (arith, e, more)) in omega (arith, a, o)

-- from this place on, the entries that pass the test are still to become one's own
abbrev pub AreToCome : (Entry → Bool) → List Entry → ℕ → Seen → Seen → Type 0
AreToCome picked history from s t = (k : ℕ) (e : Entry) → from ≤ k → slice_get history k ≡ Some e → picked e ≡ true → times k s.own < times k t.own

-- none of them is among what was seen
pub none_between : (picked : Entry → Bool) (history : List Entry) (s t : Seen) (before between rest : List Entry) → history ≡ (before ++ between) ++ rest
    → AreToCome picked history (length before) s t
    → ((k : ℕ) → k < length (before ++ between) → times k t.own ≡ times k s.own)
    → filter picked between ≡ []
none_between picked history s t before between rest is come keeps = none_pass picked between (λ k e here passes.
    let there : slice_get history (length before + k) ≡ Some e =
    ap (λ l. slice_get l (length before + k)) is ∙ get_front (before ++ between) rest (length before + k) e (get_behind before between k e here) in
    let less = come (length before + k) e (omega arith) there passes in let below = slice_get_within between k e here in
    let size = length-append before between in let same = keeps (length before + k) (omega (arith, below, size)) in omega (arith, less, same))

-- how the history goes on after what a call saw
pub goes_on : (history before es : List Entry) (between rest : List Entry) → history ≡ before ++ es → history ≡ (before ++ between) ++ rest → es ≡ between ++ rest
goes_on history before es between rest a b = append_cancel_left before es (between ++ rest) (sym a ∙ b ∙ append_assoc before between rest)

module _ (grow : HistoriesGrow) (id : ℕ) (ws : List ℕ) (place : ℕ) (itself : (place == place) ≡ true) (history : List Entry) where
  entered_next : (edits : List Edit) (lines : List (List Edit)) (s t : Seen) (before es : List Entry) → (c : CatalogueState) → GoesOnWith id ws s c
      → (outcome : Result ℕ Refusal) → Commits id ws place (seen_with s c.entries (entries.Commit place edits outcome)) lines t
      → Begins t.entries history → Begins before s.entries → history ≡ before ++ es
      → AreToCome (is_commit_at place) history (length before) s t
      → ((between later : List Entry) → c.entries ≡ before ++ between → history ≡ (before ++ between ++ entries.Commit place edits outcome ∷ []) ++ later
      → Begins (before ++ between ++ entries.Commit place edits outcome ∷ []) (c.entries ++ entries.Commit place edits outcome ∷ [])
      → AreToCome (is_commit_at place) history (length (before ++ between ++ entries.Commit place edits outcome ∷ [])) (seen_with s c.entries (entries.Commit place edits outcome)) t
      → AreEntered place (before ++ between ++ entries.Commit place edits outcome ∷ []) lines later)
      → AreEntered place before (edits ∷ lines) es
  entered_next edits lines s t before es c on outcome chain ends begins is come rest = let e : Entry = entries.Commit place edits outcome in
      let next : Seen = seen_with s c.entries e in let came = commits_enter id ws place lines next t itself chain in
      let whole : Begins (c.entries ++ e ∷ []) history = begins_on (c.entries ++ e ∷ []) t.entries history (enters_begins next came.0 t came.1) ends in
      let b = begins_on before s.entries c.entries begins on.begins in let between = b.0 in let later = whole.0 in
      let longer : c.entries ++ e ∷ [] ≡ before ++ between ++ e ∷ [] = ap (λ l. l ++ e ∷ []) b.1 in
      let all : history ≡ (before ++ between ++ e ∷ []) ++ later = whole.1 ∙ ap (λ l. l ++ later) longer in
      let cut : history ≡ (before ++ between) ++ e ∷ later = whole.1 ∙ append_assoc c.entries (e ∷ []) later ∙ ap (λ l. l ++ e ∷ later) b.1 in
      let size = ap length longer in let long = length-append c.entries (e ∷ []) in let same_size = ap length b.1 in inl (
        between,
        outcome,
        later,
        goes_on history before es between (e ∷ later) is cut,
        none_between (is_commit_at place) history s t before between (e ∷ later) cut come (λ k below.
            let kept = enters_keeps next came.0 t came.1 k (omega (arith, below, long, same_size)) in
            let parts = times_append k s.own (length c.entries ∷ []) in
            let other = times_other k (length c.entries) (λ q. omega (arith, q, below, same_size)) in omega (arith, kept, parts, other)),
        rest between later b.1 all ([], longer ∙ sym (append-nil (before ++ between ++ e ∷ []))) (λ k x far here passes.
            let more = come k x (omega (arith, far, size, long, same_size, length-append before between)) here passes in
            let still = still_own s c.entries k (omega (arith, far, size, long)) in omega (arith, more, still)),
      )

  missing_next : (edits : List Edit) (lines : List (List Edit)) (s t : Seen) (before es : List Entry) → (c : CatalogueState) → GoesOnWith id ws s c
      → is_entered (outcome_of c edits) ≡ false → Commits id ws place (seen_of s c.entries) lines t
      → Begins t.entries history → Begins before s.entries → history ≡ before ++ es
      → AreToCome (is_commit_at place) history (length before) s t
      → AreEntered place before lines es
      → AreEntered place before (edits ∷ lines) es
  missing_next edits lines s t before es c on full chain ends begins is come rest = let next : Seen = seen_of s c.entries in
      let came = commits_enter id ws place lines next t itself chain in
      let whole : Begins c.entries history = begins_on c.entries t.entries history (enters_begins next came.0 t came.1) ends in
      let b = begins_on before s.entries c.entries begins on.begins in let between = b.0 in
      let cut : history ≡ (before ++ between) ++ whole.0 = whole.1 ∙ ap (λ l. l ++ whole.0) b.1 in let same_size = ap length b.1 in
      let none : filter (is_commit_at place) between ≡ [] =
      none_between (is_commit_at place) history s t before between whole.0 cut come (λ k below. enters_keeps next came.0 t came.1 k (omega (arith, below, same_size))) in
      let part : before ++ entries_to_next place es ≡ c.entries ++ entries_to_next place whole.0 =
      ap (λ l. before ++ entries_to_next place l) (goes_on history before es between whole.0 is cut) ∙ ap (λ l. before ++ l) (past_these place between whole.0 none)
      ∙ sym (append_assoc before between (entries_to_next place whole.0)) ∙ ap (λ l. l ++ entries_to_next place whole.0) (sym b.1) in
      inr (subst (λ l. IsFullAfter l edits) (sym part) (full_later c.entries (entries_to_next place whole.0) edits (not_entered grow c edits full)), rest)

  -- Where the entries up to here hold all that became its own so far, what comes holds its further commits, in order
  pub are_entered : (lines : List (List Edit)) (s t : Seen) (before es : List Entry) → Commits id ws place s lines t
      → Begins t.entries history → Begins before s.entries → history ≡ before ++ es
      → AreToCome (is_commit_at place) history (length before) s t
      → AreEntered place before lines es
  are_entered [] s t before es chain ends begins is come = none_pass (is_commit_at place) es (λ k e here passes.
      let there : slice_get history (length before + k) ≡ Some e = ap (λ l. slice_get l (length before + k)) is ∙ get_behind before es k e here in
      let less = come (length before + k) e (omega arith) there passes in let same = ap (λ (u : Seen). times (length before + k) u.own) chain in
      omega (arith, less, same))
  are_entered (edits ∷ lines) s t before es chain ends begins is come = by (first_commit id ws place s edits lines t chain)
      (λ c between later entry. are_entered lines (seen_with s c entry) t (before ++ between ++ entry ∷ []) later)
      (λ c. are_entered lines (seen_of s c) t before es)
    where
      by : Commits1 id ws place s edits lines t chain.0
          → ((c between later : List Entry) (entry : Entry) → Commits id ws place (seen_with s c entry) lines t → Begins t.entries history
          → Begins (before ++ between ++ entry ∷ []) (c ++ entry ∷ []) → history ≡ (before ++ between ++ entry ∷ []) ++ later
          → AreToCome (is_commit_at place) history (length (before ++ between ++ entry ∷ [])) (seen_with s c entry) t
          → AreEntered place (before ++ between ++ entry ∷ []) lines later)
          → ((c : List Entry) → Commits id ws place (seen_of s c) lines t → Begins t.entries history → Begins before c → history ≡ before ++ es
          → AreToCome (is_commit_at place) history (length before) s t
          → AreEntered place before lines es)
          → AreEntered place before (edits ∷ lines) es
      by (inl e) entered missing = let c : CatalogueState = chain.0 in let outcome : Result ℕ Refusal = outcome_of c edits in
          entered_next edits lines s t before es c chain.1 outcome e.1 ends begins is come
          (λ between later cut all first own. entered c.entries between later (entries.Commit place edits outcome) e.1 ends first all own)
      by (inr e) entered missing = let c : CatalogueState = chain.0 in let on : GoesOnWith id ws s c = chain.1 in
          missing_next edits lines s t before es c on e.0 e.1 ends begins is come (missing c.entries e.1 ends (begins_on before s.entries c.entries begins on.begins) is come)
