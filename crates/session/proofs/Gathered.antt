-- What a station's actors did, gathered to its whole history.
use Rattle.session.proofs.Words.{◌≡◌, ℕ, zero, suc, ◌+◌, ◌<◌, true, List, [], ◌∷◌, ◌++◌, length, Some, slice_get, ◌⊎◌, inl, inr, sym, ap, ◌∙◌, refl, subst, arith, eqb-true, eq-eqb, slice_get_within, get_next, Edit, Begins, total, times, once_within, HistoriesGrow, is_draw, Entry, Drawing, IsPlaced, is_commit_at, Seen, nothing_seen, Commits, Draws, DrawFields, AllCommitted, AreEntered, ActorsGather}
use Rattle.history_lock.specs.History as histories
use Rattle.generation_catalogue.specs.declared.entry.Entry.TheVariants as entries
use Rattle.session.proofs.Lists.{get_front, get_one, get_last, total_some, once_inside, each_from_get}
use Rattle.session.proofs.Entering.{HasEntered, IsCommitAt, IsDrawn, commits_enter, draws_enter, enters_own}
use Rattle.session.proofs.Entered.{are_entered}
use Rattle.session.proofs.Feeding.{AreDrawn, are_drawn}

each_get : {A : Type 0} (P : A → Type 0) (xs : List A) (k : ℕ) (x : A) → histories.Each P xs → slice_get xs k ≡ Some x → P x
each_get P [] k x h at = absurd (cc)
each_get P (y ∷ ys) zero x h at = let e : y ≡ x = cc in subst P e h.0
each_get P (y ∷ ys) (suc k) x h at = each_get P ys k x h.1 at

-- ---- the actors by their places

chain_at : (id : ℕ) (ws : List ℕ) (first : ℕ) (editors : List (List (List Edit))) (ss : List Seen) → AllCommitted id ws first editors ss → (place : ℕ) (lines : List (List Edit)) → slice_get editors place ≡ Some lines
    → (s : Seen) × (slice_get ss place ≡ Some s) × Commits id ws (first + place) nothing_seen lines s
chain_at id ws first [] ss all place lines h = absurd (cc)
chain_at id ws first (l ∷ more) [] all place lines h = absurd all
chain_at id ws first (l ∷ more) (s ∷ ss) all zero lines h = let same : l ≡ lines = cc in let here : first ≡ first + 0 = omega arith in
    (s, refl, subst (λ (p : ℕ). Commits id ws p nothing_seen lines s) here (subst (λ (x : List (List Edit)). Commits id ws first nothing_seen x s) same all.0))
chain_at id ws first (l ∷ more) (s ∷ ss) all (suc place) lines h = let r = chain_at id ws (suc first) more ss all.1 place lines h in
    let further : suc first + place ≡ first + suc place = omega arith in (r.0, r.1, subst (λ (p : ℕ). Commits id ws p nothing_seen lines r.0) further r.2)

editor_at : (id : ℕ) (ws : List ℕ) (first : ℕ) (editors : List (List (List Edit))) (ss : List Seen) → AllCommitted id ws first editors ss → (place : ℕ) (s : Seen) → slice_get ss place ≡ Some s
    → (place < length editors) × HasEntered (IsCommitAt (first + place)) nothing_seen s
editor_at id ws first [] [] all place s h = absurd (cc)
editor_at id ws first [] (x ∷ ss) all place s h = absurd all
editor_at id ws first (l ∷ more) [] all place s h = absurd (cc)
editor_at id ws first (l ∷ more) (x ∷ ss) all zero s h = let same : x ≡ s = cc in let here : first ≡ first + 0 = omega arith in (
  omega arith,
  subst (λ (p : ℕ). HasEntered (IsCommitAt p) nothing_seen s) here
      (subst (λ (y : Seen). HasEntered (IsCommitAt first) nothing_seen y) same (commits_enter id ws first l nothing_seen x (eq-eqb first first refl) all.0)),
)
editor_at id ws first (l ∷ more) (x ∷ ss) all (suc place) s h = let r = editor_at id ws (suc first) more ss all.1 place s h in
    let further : suc first + place ≡ first + suc place = omega arith in
    (omega (arith, r.0), subst (λ (p : ℕ). HasEntered (IsCommitAt p) nothing_seen s) further r.1)

one_place : (j place : ℕ) (e : Entry) → is_commit_at j e ≡ true → is_commit_at place e ≡ true → j ≡ place
one_place j place (entries.Commit editor edits outcome) h g = sym (eqb-true editor j h) ∙ eqb-true editor place g
one_place j place (entries.Draw asked generation first count) h g = absurd (cc)

no_draw : (place : ℕ) (e : Entry) → is_commit_at place e ≡ true → is_draw e ≡ true → ⊥
no_draw place (entries.Commit editor edits outcome) h g = cc
no_draw place (entries.Draw asked generation first count) h g = cc

placed_commit : (n place : ℕ) (e : Entry) → place < n → is_commit_at place e ≡ true → IsPlaced n e
placed_commit n place (entries.Commit editor edits outcome) less h = let e = eqb-true editor place h in omega (arith, e, less)
placed_commit n place (entries.Draw asked generation first count) less h = tt

placed_draw : (n : ℕ) (e : Entry) → is_draw e ≡ true → IsPlaced n e
placed_draw n (entries.Commit editor edits outcome) h = absurd (cc)
placed_draw n (entries.Draw asked generation first count) h = tt

-- ---- who an entry is of

module _ (id : ℕ) (ws : List ℕ) (history : List Entry) (editors : List (List (List Edit))) (editors_seen : List Seen) (feeder : Seen)
    (all : AllCommitted id ws 0 editors editors_seen)
    (fed : HasEntered IsDrawn nothing_seen feeder)
    (seen : histories.Each (λ (s : Seen). Begins s.entries history) (editors_seen ++ feeder ∷ []))
    (owned : (place : ℕ) → total (λ (s : Seen). times place s.own) (editors_seen ++ feeder ∷ []) ≡ once_within 0 (length history) place) where
  abbrev IsEditors : ℕ → Entry → Type 0
  IsEditors k e = (j : ℕ) × (s : Seen) × (j < length editors) × (slice_get editors_seen j ≡ Some s) × (is_commit_at j e ≡ true) × (0 < times k s.own)

  abbrev IsFeeders : ℕ → Entry → Type 0
  IsFeeders k e = (is_draw e ≡ true) × (0 < times k feeder.own)

  by_editor : (k : ℕ) (e : Entry) → slice_get history k ≡ Some e → (i : ℕ) (s : Seen) → Begins s.entries history → 0 < times k s.own → slice_get editors_seen i ≡ Some s → IsEditors k e
  by_editor k e here i s begins more at = let r = editor_at id ws 0 editors editors_seen all i s at in let itself : 0 + i ≡ i = omega arith in
      let entered : HasEntered (IsCommitAt i) nothing_seen s = subst (λ (p : ℕ). HasEntered (IsCommitAt p) nothing_seen s) itself r.1 in
      let one = enters_own (IsCommitAt i) nothing_seen entered.0 s history entered.1 entered.2 begins k more in
      (i, s, r.0, at, subst (IsCommitAt i) (get_one history k one.0 e one.1 here) one.2, more)

  by_feeder : (k : ℕ) (e : Entry) → slice_get history k ≡ Some e → Begins feeder.entries history → 0 < times k feeder.own → IsFeeders k e
  by_feeder k e here begins more = let one = enters_own IsDrawn nothing_seen fed.0 feeder history fed.1 fed.2 begins k more in
      (subst IsDrawn (get_one history k one.0 e one.1 here) one.2, more)

  pub owner : (k : ℕ) (e : Entry) → slice_get history k ≡ Some e → IsEditors k e ⊎ IsFeeders k e
  owner k e here = let once = owned k in let one = once_inside (length history) k (slice_get_within history k e here) in
      let r = total_some (λ (s : Seen). times k s.own) (editors_seen ++ feeder ∷ []) (omega (arith, once, one)) in
      let begins : Begins (r.1).entries history = each_get (λ (s : Seen). Begins s.entries history) (editors_seen ++ feeder ∷ []) r.0 r.1 seen r.2 in
      by r.0 r.1 begins r.3 (get_last editors_seen feeder r.1 r.0 r.2)
    where
      by : (i : ℕ) (s : Seen) → Begins s.entries history → 0 < times k s.own → (slice_get editors_seen i ≡ Some s) ⊎ (s ≡ feeder) → IsEditors k e ⊎ IsFeeders k e
      by i s begins more (inl at) = inl (by_editor k e here i s begins more at)
      by i s begins more (inr is) =
          inr (by_feeder k e here (subst (λ (u : Seen). Begins u.entries history) is begins) (subst (λ (u : Seen). 0 < times k u.own) is more))

  pub editor_owns : (place k : ℕ) (s : Seen) (e : Entry) → slice_get editors_seen place ≡ Some s → slice_get history k ≡ Some e → is_commit_at place e ≡ true → 0 < times k s.own
  editor_owns place k s e at here passes = by (owner k e here)
    where
      by : IsEditors k e ⊎ IsFeeders k e → 0 < times k s.own
      by (inl o) = let same : o.0 ≡ place = one_place o.0 place e o.4 passes in
          let is : o.1 ≡ s = get_one editors_seen place o.1 s (ap (slice_get editors_seen) (sym same) ∙ o.3) at in
          subst (λ (u : Seen). 0 < times k u.own) is o.5
      by (inr o) = absurd (no_draw place e passes o.0)

  pub feeder_owns : (k : ℕ) (e : Entry) → slice_get history k ≡ Some e → is_draw e ≡ true → 0 < times k feeder.own
  feeder_owns k e here passes = by (owner k e here)
    where
      by : IsEditors k e ⊎ IsFeeders k e → 0 < times k feeder.own
      by (inl o) = absurd (no_draw o.0 e o.4 passes)
      by (inr o) = o.1

  pub is_placed : (k : ℕ) (e : Entry) → slice_get history k ≡ Some e → IsPlaced (length editors) e
  is_placed k e here = by (owner k e here)
    where
      by : IsEditors k e ⊎ IsFeeders k e → IsPlaced (length editors) e
      by (inl o) = placed_commit (length editors) o.0 e o.2 o.4
      by (inr o) = placed_draw (length editors) e o.0

  abbrev BeginsIt : Seen → Type 0
  BeginsIt s = Begins s.entries history

  pub feeder_begins : Begins feeder.entries history
  feeder_begins = each_get BeginsIt (editors_seen ++ feeder ∷ []) (length editors_seen) feeder seen (get_next editors_seen [] feeder)

  pub editor_begins : (place : ℕ) (s : Seen) → slice_get editors_seen place ≡ Some s → Begins s.entries history
  editor_begins place s at = each_get BeginsIt (editors_seen ++ feeder ∷ []) place s seen (get_front editors_seen (feeder ∷ []) place s at)

  pub editors_lines : HistoriesGrow → (place : ℕ) (lines : List (List Edit)) → slice_get editors place ≡ Some lines → AreEntered place [] lines history
  editors_lines grow place lines at = let r = chain_at id ws 0 editors editors_seen all place lines at in let itself : 0 + place ≡ place = omega arith in
      let s : Seen = r.0 in let chain : Commits id ws place nothing_seen lines s = subst (λ (p : ℕ). Commits id ws p nothing_seen lines s) itself r.2 in
      are_entered grow id ws place (eq-eqb place place refl) history lines nothing_seen s [] history chain (editor_begins place s r.1) ([], refl) refl
      (λ k e far here passes. editor_owns place k s e r.1 here passes)

  pub feeders_lines : (draws : List DrawFields) (drawings : List Drawing) → Draws id ws nothing_seen draws drawings feeder → AreDrawn id ws history draws drawings [] history
  feeders_lines draws drawings chain =
      are_drawn id ws history draws drawings nothing_seen feeder [] history chain feeder_begins ([], refl) refl (λ k e far here passes. feeder_owns k e here passes)

pub actors : HistoriesGrow → ActorsGather
actors grow editors draws drawings c editors_seen feeder is all chain seen owned =
    let fed = draws_enter c.carousel c.weights draws drawings nothing_seen feeder chain in
    let lines = feeders_lines c.carousel c.weights c.entries editors editors_seen feeder all fed seen owned draws drawings chain in record {
      history = is;
      placed = each_from_get (IsPlaced (length editors)) c.entries (is_placed c.carousel c.weights c.entries editors editors_seen feeder all fed seen owned);
      commits = editors_lines c.carousel c.weights c.entries editors editors_seen feeder all fed seen owned grow;
      asked = lines.0;
      drawn = lines.1;
    }
