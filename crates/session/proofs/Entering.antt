-- What an actor of a station enters, one entry after another.
use Rattle.session.proofs.Words.{◌≡◌, ℕ, ◌-◌, ◌<◌, ◌==◌, Bool, true, false, cond, List, [], ◌∷◌, ◌++◌, length, Some, slice_get, ◌⊎◌, inl, inr, sym, ap, ◌∙◌, refl, subst, arith, append-nil, length-append, cases_Bool, dite, ℕ_discrete, Edit, Begins, times, places, CatalogueState, with_draw, current_of, cursor_of, count_drawn, outcome_of, is_entered, with_entry, is_draw, Entry, Drawing, Each, is_commit_at, get_next, Seen, seen_after, Commits, Draws, DrawFields}
use Rattle.generation_catalogue.specs.declared.entry.Entry.TheVariants as entries
use Rattle.session.proofs.Lists.{begins_self, begins_more, begins_on, begins_le, begins_get, times_append, times_other}

-- all that came before, and one entry of one's own
abbrev pub seen_with : Seen → List Entry → Entry → Seen
seen_with s before e = record { entries = before ++ e ∷ []; own = s.own ++ length before ∷ [] }

-- all that came before
abbrev pub seen_of : Seen → List Entry → Seen
seen_of s before = record { entries = before; own = s.own }

-- from s to t these are entered, each after what was seen and perhaps more
abbrev pub Enters : Seen → List Entry → Seen → Type 0
Enters s [] t = Begins s.entries t.entries × (t.own ≡ s.own)
Enters s (e ∷ es) t = (before : List Entry) × Begins s.entries before × Enters (seen_with s before e) es t

pub enters_none : (s : Seen) → Enters s [] s
enters_none s = (begins_self s.entries, refl)

pub enters_later : (s : Seen) (before : List Entry) (es : List Entry) (t : Seen) → Begins s.entries before → Enters (seen_of s before) es t → Enters s es t
enters_later s before [] t b h = (begins_on s.entries before t.entries b h.0, h.1)
enters_later s before (e ∷ es) t b h = (h.0, begins_on s.entries before h.0 b h.1, h.2)

pub enters_begins : (s : Seen) (es : List Entry) (t : Seen) → Enters s es t → Begins s.entries t.entries
enters_begins s [] t h = h.0
enters_begins s (e ∷ es) t h =
    begins_on s.entries h.0 t.entries h.1 (begins_on h.0 (h.0 ++ e ∷ []) t.entries (begins_more h.0 (e ∷ [])) (enters_begins (seen_with s h.0 e) es t h.2))

-- nothing becomes one's own among what was seen
pub enters_keeps : (s : Seen) (es : List Entry) (t : Seen) → Enters s es t → (k : ℕ) → k < length s.entries → times k t.own ≡ times k s.own
enters_keeps s [] t h k below = ap (times k) h.1
enters_keeps s (e ∷ es) t h k below = let before = h.0 in let le = begins_le s.entries before h.1 in let long = length-append before (e ∷ []) in
    let rest : times k t.own ≡ times k (s.own ++ length before ∷ []) = enters_keeps (seen_with s before e) es t h.2 k (omega (arith, le, long, below)) in
    let parts = times_append k s.own (length before ∷ []) in let other = times_other k (length before) (λ e. omega (arith, e, le, below)) in
    omega (arith, rest, parts, other)

-- what became one's own is one of the entries
pub enters_own : (P : Entry → Type 0) (s : Seen) (es : List Entry) (t : Seen) (history : List Entry) → Enters s es t → Each P es → Begins t.entries history
    → (k : ℕ) → times k s.own < times k t.own → (e : Entry) × (slice_get history k ≡ Some e) × P e
enters_own P s [] t history h each begins k more = absurd (let e = ap (times k) h.1 in omega (arith, e, more))
enters_own P s (e ∷ es) t history h each begins k more = let before = h.0 in let next = seen_with s before e in
    let parts = times_append k s.own (length before ∷ []) in dite (ℕ_discrete k (length before))
    (λ here.
    let all : Begins (before ++ e ∷ []) history = begins_on (before ++ e ∷ []) t.entries history (enters_begins next es t h.2) begins in
    (e, ap (slice_get history) here ∙ begins_get (before ++ e ∷ []) history (length before) e all (get_next before [] e), each.0))
    (λ other. enters_own P next es t history h.2 each.1 begins k (let none = times_other k (length before) other in omega (arith, parts, none, more)))

-- ---- a commit

-- one commit more: it was entered, or it found no room
abbrev pub Commits1 : (id : ℕ) (weights : List ℕ) (place : ℕ) → Seen → List Edit → List (List Edit) → Seen → CatalogueState → Type 0
Commits1 id ws place s edits lines t c =
    ((is_entered (outcome_of c edits) ≡ true) × Commits id ws place (seen_with s c.entries (entries.Commit place edits (outcome_of c edits))) lines t)
    ⊎ ((is_entered (outcome_of c edits) ≡ false) × Commits id ws place (seen_of s c.entries) lines t)

pub first_commit : (id : ℕ) (ws : List ℕ) (place : ℕ) (s : Seen) (edits : List Edit) (lines : List (List Edit)) (t : Seen) → (h : Commits id ws place s (edits ∷ lines) t)
    → Commits1 id ws place s edits lines t h.0
first_commit id ws place s edits lines t h = elim (cases_Bool (is_entered (outcome_of h.0 edits))) [
  | inl is ↦ inl (is, subst (λ (u : Seen). Commits id ws place u lines t) (ap after is ∙ (λ i. record { entries = (h.0).entries ++ entry ∷ []; own = s.own ++ places (length (h.0).entries) (one i) })) h.2)
  | inr is ↦ inr (
    is,
    subst (λ (u : Seen). Commits id ws place u lines t)
        (ap after is ∙ (λ i. record { entries = (h.0).entries; own = s.own ++ places (length (h.0).entries) (none i) }) ∙ (λ i. record { entries = (h.0).entries; own = append-nil s.own i })) h.2,
  )
] where
  entry : Entry
  entry = entries.Commit place edits (outcome_of h.0 edits)

  after : Bool → Seen
  after b = seen_after s h.0 (cond b (with_entry h.0 entry) h.0)

  one : length ((h.0).entries ++ entry ∷ []) - length (h.0).entries ≡ 1
  one = omega (arith, length-append (h.0).entries (entry ∷ []))

  none : length (h.0).entries - length (h.0).entries ≡ 0
  none = omega arith

abbrev pub IsCommitAt : ℕ → Entry → Type 0
IsCommitAt place e = is_commit_at place e ≡ true

abbrev pub HasEntered : (P : Entry → Type 0) → Seen → Seen → Type 0
HasEntered P s t = (es : List Entry) × Enters s es t × Each P es

pub commits_enter : (id : ℕ) (ws : List ℕ) (place : ℕ) (lines : List (List Edit)) (s t : Seen) → (place == place) ≡ true → Commits id ws place s lines t → HasEntered (IsCommitAt place) s t
commits_enter id ws place [] s t itself h = ([], subst (λ (u : Seen). Enters s [] u) (sym h) (enters_none s), tt)
commits_enter id ws place (edits ∷ lines) s t itself h = by (first_commit id ws place s edits lines t h)
    (λ r. commits_enter id ws place lines (seen_with s (h.0).entries (entries.Commit place edits (outcome_of h.0 edits))) t itself r)
    (λ r. commits_enter id ws place lines (seen_of s (h.0).entries) t itself r)
  where
    by : Commits1 id ws place s edits lines t h.0 → (Commits id ws place (seen_with s (h.0).entries (entries.Commit place edits (outcome_of h.0 edits))) lines t
        → HasEntered (IsCommitAt place) (seen_with s (h.0).entries (entries.Commit place edits (outcome_of h.0 edits))) t)
        → (Commits id ws place (seen_of s (h.0).entries) lines t → HasEntered (IsCommitAt place) (seen_of s (h.0).entries) t)
        → HasEntered (IsCommitAt place) s t
    by (inl e) with_it without = let r = with_it e.1 in
        (entries.Commit place edits (outcome_of h.0 edits) ∷ r.0, ((h.0).entries, (h.1).begins, r.1), (itself, r.2))
    by (inr e) with_it without = let r = without e.1 in (r.0, enters_later s (h.0).entries r.0 t (h.1).begins r.1, r.2)

-- ---- a draw

abbrev pub draw_entry : CatalogueState → ℕ → Entry
draw_entry c asked = entries.Draw asked (current_of c).number (cursor_of c) (count_drawn c asked)

pub first_draw : (id : ℕ) (ws : List ℕ) (s : Seen) (l : DrawFields) (lines : List DrawFields) (d : Drawing) (ds : List Drawing) (t : Seen) → (h : Draws id ws s (l ∷ lines) (d ∷ ds) t)
    → Draws id ws (seen_with s (h.0).entries (draw_entry h.0 l.asked)) lines ds t
first_draw id ws s l lines d ds t h = let c : CatalogueState = h.0 in
    let one : length (c.entries ++ draw_entry c l.asked ∷ []) - length c.entries ≡ 1 = omega (arith, length-append c.entries (draw_entry c l.asked ∷ [])) in
    let same : seen_after s c (with_draw c l.asked) ≡ seen_with s c.entries (draw_entry c l.asked) =
    (λ i. record { entries = c.entries ++ draw_entry c l.asked ∷ []; own = s.own ++ places (length c.entries) (one i) }) in
    subst (λ (u : Seen). Draws id ws u lines ds t) same h.4

abbrev pub IsDrawn : Entry → Type 0
IsDrawn e = is_draw e ≡ true

pub draws_enter : (id : ℕ) (ws : List ℕ) (lines : List DrawFields) (ds : List Drawing) (s t : Seen) → Draws id ws s lines ds t → HasEntered IsDrawn s t
draws_enter id ws [] [] s t h = ([], subst (λ (u : Seen). Enters s [] u) (sym h) (enters_none s), tt)
draws_enter id ws [] (d ∷ ds) s t h = absurd h
draws_enter id ws (l ∷ lines) [] s t h = absurd h
draws_enter id ws (l ∷ lines) (d ∷ ds) s t h =
    let r = draws_enter id ws lines ds (seen_with s (h.0).entries (draw_entry h.0 l.asked)) t (first_draw id ws s l lines d ds t h) in
    (draw_entry h.0 l.asked ∷ r.0, ((h.0).entries, (h.1).begins, r.1), (refl, r.2))
