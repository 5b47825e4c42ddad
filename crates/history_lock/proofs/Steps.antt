-- Each step of the lock keeps its rule.
use Rattle.std.proofs.Common.{◌≡◌, ◌≢◌, ℕ, zero, suc, ◌-◌, ◌<◌, eqb, true, false, true≢false, Option, Some, None, List, [], ◌∷◌, length, set, get_or, refl, sym, ap, ◌∙◌, subst, ⊎_elim, arith, length-set, get_or-set_same, eq-eqb, ne_eqb}
use mathlib.Core.Logic.{dite}
use mathlib.Core.Option.{some, none, some-injective, some-ne-none}
use mathlib.Core.Option as maybe
use native.Mathlib.Decide.{ℕ_discrete}
use lib.ListN.{get_elem?}
use lib.Seq.{set-get_or}
use prog.Atomic.{either}
use Rattle.atomic_table.specs.Table.{State, Me, step, keeps, takes, gives, stepped, Allows, Splits, Joins, opening, Final, Seen, rest}
use Rattle.atomic_table.proofs.Lists.{at_set, set_again, at_snoc, at_longer, set_else}
use Rattle.history_lock.specs.declared.rule.View.{View}
use Rattle.history_lock.specs.History.{Begins, times, places, once_within, total, Each}
use Rattle.history_lock.specs.Inner.History.{newcomer, spent_view, kept_part, given_part, join_views, while_held, after_release, Fits, Chronicle, HasTaken, HasFreed}
use Rattle.history_lock.proofs.Lists.{begins_self, begins_on, begins_le, each_on, each_both, times_append, once_more, once_nowhere, here_set, total_set, total_same, total_push, total_two, total_alone}

off : false ≡ true → ⊥
off e = true≢false (sym e)

module _ {V E : Type 0} (list : V → List E) (seats : ℕ) (opened : List E) where
  abbrev Rule : State (Option V) (View E) → Type 0
  Rule = Chronicle list seats opened

  abbrev word : State (Option V) (View E) → ℕ
  word s = get_or s.words 0 0

  -- one seat has a new view, and the others fit as they did, or otherwise
  fits_set : (K : ℕ → View E → Type 0) (views : List (View E)) (id : ℕ) (w : View E) → K id w → ((j : ℕ) (u : View E) → j ≢ id → get_elem? views j ≡ some u → K j u)
      → (j : ℕ) (u : View E) → get_elem? (set views id w) j ≡ some u → K j u
  fits_set K views id w mine others j u e =
      ⊎_elim
      (λ (t : (j ≡ id) × (w ≡ u)). subst (λ (x : ℕ × View E). K x.0 x.1) (λ i. (sym t.0 i, t.1 i)) mine)
      (λ (t : (j ≢ id) × (get_elem? views j ≡ some u)). others j u t.0 t.1)
      (at_set views id j w u e)

  pub start : (v : V) → list v ≡ opened → Rule (opening (0 ∷ []) (Some v ∷ []) (newcomer seats opened))
  start v is = record {
    now = opened;
    holder = 0;
    wide = refl;
    turn = omega arith;
    home = λ _. (v, refl, is);
    held = λ h. absurd (omega arith);
    each_seat = one;
    begins = begins_self opened;
    shared = omega arith;
    owned = λ p. none_owned p;
  }
    where
      one : (j : ℕ) (u : View E) → get_elem? (newcomer seats opened ∷ []) j ≡ some u → Fits 0 opened 0 j u
      one zero u e = subst (Fits 0 opened 0 0) (some-injective _ _ e) ((λ h. absurd (off h)), begins_self opened, tt, (λ _. (refl, refl)))
      one (suc j) u e = absurd (some-ne-none u (sym e))

      none_owned : (p : ℕ) → total (λ (v : View E). times p v.own) (newcomer seats opened ∷ []) ≡ once_within (length opened) (length opened) p
      none_owned p = sym (once_nowhere (length opened) p)

  pub take_keeps : (slots id : ℕ) (me : Me (Option V) (View E)) → 0 < me.0.parts → Allows Rule slots id me 0 (λ x. either (eqb x 0) 1 x) (HasTaken list (step slots 0 0 1 none) me)
  take_keeps slots id me some_part s r deep at small = dite (ℕ_discrete (word s) 0)
      (λ hit. let h = r.home hit in let v = h.0 in let w = while_held me.0 (list v) in let mine = r.each_seat id me.0 at in let wide = r.wide in
      let now_is : get_or (set s.words 0 1) 0 0 ≡ 1 = get_or-set_same s.words 0 1 0 (omega arith) in (
        w,
        takes 0 (Some v),
        h.1,
        subst (λ b. Rule (stepped s 0 (either b 1 (word s)) id me.1 w (takes 0 (Some v)))) (sym (eq-eqb (word s) 0 hit)) record {
          now = r.now;
          holder = id;
          wide = length-set s.words 0 1 ∙ wide;
          turn = omega arith;
          home = λ z. absurd (omega arith);
          held = λ _. (w, here_set s.views id me.0 w at, refl);
          each_seat = subst (λ (x : ℕ). (j : ℕ) (u : View E) → get_elem? (set s.views id w) j ≡ some u → Fits x r.now id j u) (sym now_is)
              (fits_set (Fits 1 r.now id) s.views id w
              ((λ _. (refl, refl, h.2)), subst (λ l. Begins l r.now) (sym h.2) (begins_self r.now), mine.2, (λ z. absurd (omega arith)))
              (λ j u apart e. let theirs = r.each_seat j u e in ((λ t. let k = (theirs.0 t).1 in absurd (omega arith)), theirs.1, theirs.2, theirs.3)));
          begins = r.begins;
          shared = total_same (λ (x : View E). x.parts) s.views id me.0 w at refl ∙ r.shared;
          owned = λ p. total_same (λ (x : View E). times p x.own) s.views id me.0 w at refl ∙ r.owned p;
        },
        ((λ _. (v, refl, refl, subst (Begins me.0.seen) (sym h.2) mine.1)), (λ n. absurd (n hit))),
      ))
      (λ miss. (
        me.0,
        keeps,
        tt,
        subst (λ b. Rule (stepped s 0 (either b 1 (word s)) id me.1 me.0 keeps)) (sym (ne_eqb (word s) 0 miss))
            (subst (λ (ws : List ℕ). Rule record { words = ws; homes = s.homes; views = set s.views id me.0 }) (sym (set-get_or s.words 0 0))
            (subst (λ (vs : List (View E)). Rule record { words = s.words; homes = s.homes; views = vs }) (sym (set_again s.views id me.0 at)) r)),
        ((λ hit. absurd (miss hit)), (λ _. refl)),
      ))

  abbrev picked : V → List (ℕ × Option V) → V
  picked d ((k, Some x) ∷ xs) = x
  picked d _ = d

  -- the seat that holds gives the value back, which stands for a list that begins with the one that it got
  free_at : (slots id : ℕ) (m : View E) (v : V) → 0 < slots → 0 < m.parts → m.holds ≡ true → Begins m.seen (list v)
      → Allows Rule slots id (m, (0, Some v) ∷ []) 0 (λ _. 0) (λ _. HasFreed list (step slots 0 0 0 none) (m, (0, Some v) ∷ []) 0)
  free_at slots id m v room some_part holds more s r deep at small =
      let mine = r.each_seat id m at in
      let h = mine.0 holds in
      let more' : Begins r.now (list v) = subst (λ l. Begins l (list v)) h.2 more in
      let w = after_release m (list v) in
      let wide = r.wide in
      let now_is : get_or (set s.words 0 0) 0 0 ≡ 0 = get_or-set_same s.words 0 0 0 (omega arith) in (
        w,
        gives,
        tt,
        record {
          now = list v;
          holder = r.holder;
          wide = length-set s.words 0 0 ∙ wide;
          turn = omega arith;
          home = λ _. (v, at_set_here s.homes (some (Some v)) (omega arith), refl);
          held = λ z. absurd (omega arith);
          each_seat = subst (λ (x : ℕ). (j : ℕ) (u : View E) → get_elem? (set s.views id w) j ≡ some u → Fits x (list v) r.holder j u) (sym now_is)
              (fits_set (Fits 0 (list v) r.holder) s.views id w
              ((λ e. absurd (off e)), begins_self (list v), each_on _ _ (λ xs b. begins_on xs r.now (list v) b more') m.heard mine.2, (λ z. absurd (omega arith)))
              (λ j u apart e. let theirs = r.each_seat j u e in ((λ t. absurd (apart ((theirs.0 t).0 ∙ sym h.0))), begins_on u.seen r.now (list v) theirs.1 more', each_on _ _ (λ xs b. begins_on xs r.now (list v) b more') u.heard theirs.2, theirs.3)));
          begins = begins_on opened r.now (list v) r.begins more';
          shared = total_same (λ (x : View E). x.parts) s.views id m w at refl ∙ r.shared;
          owned = λ p. let a = total_set (λ (x : View E). times p x.own) s.views id m w at in let b = times_append p m.own (places (length m.seen) (length (list v) - length m.seen)) in
              let c = r.owned p ∙ sym (ap (λ (l : List E). once_within (length opened) (length l) p) h.2) in let e = ap length h.2 in
              let d = once_more (length opened) (length m.seen) (length (list v)) p (let f = begins_le opened r.now r.begins in omega arith) (begins_le m.seen (list v) more) in omega arith;
        },
        (λ v' same. (refl, ap (λ (x : V). after_release m (list x)) (ap (picked v) same))),
      )
    where
      at_set_here : (hs : List (maybe.Option (Option V))) (x : maybe.Option (Option V)) → 0 < length hs → get_elem? (set hs 0 x) 0 ≡ some x
      at_set_here [] x h = absurd (omega arith)
      at_set_here (y ∷ ys) x h = refl

  pub free_keeps : (slots id : ℕ) (me : Me (Option V) (View E)) (v : V) → 0 < slots → 0 < me.0.parts → me.0.holds ≡ true → me.1 ≡ (0, Some v) ∷ [] → Begins me.0.seen (list v)
      → Allows Rule slots id me 0 (λ _. 0) (λ _. HasFreed list (step slots 0 0 0 none) me 0)
  free_keeps slots id me v room some_part holds has more =
      subst (λ (cs : List (ℕ × Option V)). Allows Rule slots id (me.0, cs) 0 (λ _. 0) (λ _. HasFreed list (step slots 0 0 0 none) (me.0, cs) 0)) (sym has) (free_at slots id me.0 v room some_part holds more)

  held_set : (views : List (View E)) (id holder : ℕ) (v w : View E) → get_elem? views id ≡ some v → w.holds ≡ v.holds → (u : View E) × (get_elem? views holder ≡ some u) × (u.holds ≡ true)
      → (u : View E) × (get_elem? (set views id w) holder ≡ some u) × (u.holds ≡ true)
  held_set views id holder v w at same h = dite (ℕ_discrete holder id)
      (λ is. (w, subst (λ (j : ℕ). get_elem? (set views id w) j ≡ some w) (sym is) (here_set views id v w at), same ∙ ap (λ (x : View E). x.holds) (some-injective _ _ (sym at ∙ ap (get_elem? views) (sym is) ∙ h.1)) ∙ h.2))
      (λ other. (h.0, set_else views id holder w other ∙ h.1, h.2))

  pub split_keeps : (id : ℕ) (v : View E) → 1 < v.parts → Splits Rule id v (kept_part v) (given_part v)
  split_keeps id v parts s r at =
      let k = kept_part v in
      let g = given_part v in
      let mine = r.each_seat id v at in record {
        now = r.now;
        holder = r.holder;
        wide = r.wide;
        turn = r.turn;
        home = r.home;
        held = λ z. let h = held_set s.views id r.holder v k at refl (r.held z) in (h.0, at_longer (set s.views id k) (g ∷ []) r.holder h.0 h.1, h.2);
        each_seat = λ j u e. ⊎_elim
            (fits_set (Fits (word s) r.now r.holder) s.views id k (mine.0, mine.1, mine.2, (λ z. absurd (omega arith))) (λ j u _ e. r.each_seat j u e) j u)
            (λ (same : g ≡ u). subst (Fits (word s) r.now r.holder j) same ((λ h. absurd (off h)), mine.1, tt, (λ z. absurd (omega arith))))
            (at_snoc (set s.views id k) g u j e);
        begins = r.begins;
        shared = let a = total_set (λ (x : View E). x.parts) s.views id v k at in let b = total_push (λ (x : View E). x.parts) (set s.views id k) g in let c = r.shared in omega arith;
        owned = λ p. let a = total_same (λ (x : View E). times p x.own) s.views id v k at refl in let b = total_push (λ (x : View E). times p x.own) (set s.views id k) g in let c = r.owned p in omega arith;
      }

  pub join_keeps : (id : ℕ) (v : View E) (other : ℕ) (w : View E) → 0 < v.parts → w.holds ≡ false → Joins Rule id v other w (join_views v w) spent_view
  join_keeps id v other w parts idle s r at apart there =
      let both = join_views v w in
      let views = set s.views id both in
      let there' : get_elem? s.views other ≡ some w = sym (set_else s.views id other both apart) ∙ there in
      let mine = r.each_seat id v at in
      let theirs = r.each_seat other w there' in record {
        now = r.now;
        holder = r.holder;
        wide = r.wide;
        turn = r.turn;
        home = r.home;
        held = λ z. held_set views other r.holder w spent_view there (sym idle) (held_set s.views id r.holder v both at refl (r.held z));
        each_seat = fits_set (Fits (word s) r.now r.holder) views other spent_view ((λ h. absurd (off h)), (r.now, refl), tt, (λ _. (refl, refl)))
            (λ j u _ e. fits_set (Fits (word s) r.now r.holder) s.views id both (mine.0, mine.1, (theirs.1, each_both _ w.heard v.heard theirs.2 mine.2), (λ z. absurd (omega arith))) (λ j u _ e. r.each_seat j u e) j u e);
        begins = r.begins;
        shared = let a = total_set (λ (x : View E). x.parts) s.views id v both at in let b = total_set (λ (x : View E). x.parts) views other w spent_view there in let c = r.shared in omega arith;
        owned = λ p. let a = total_set (λ (x : View E). times p x.own) s.views id v both at in let b = total_set (λ (x : View E). times p x.own) views other w spent_view there in let c = r.owned p in let d = times_append p v.own w.own in omega arith;
      }

  -- once one seat has every part, the value is at home, and all own places are that seat's
  pub closes : (id : ℕ) (v : View E) (ws : List ℕ) (xs : List (Option V)) → v.parts ≡ seats → v.holds ≡ false → Final (Seen Rule id v) ws xs
      → (x : V) × (get_elem? xs 0 ≡ some (Some x)) × Begins opened (list x) × Begins v.seen (list x) × Each (λ l. Begins l (list x)) v.heard × ((p : ℕ) → times p v.own ≡ once_within (length opened) (length (list x)) p)
  closes id v ws xs all idle f =
      let s = f.0 in
      let r = f.1.0 in
      let at = f.1.1 in
      let mine = r.each_seat id v at in
      let sum = r.shared in
      let others : (j : ℕ) (u : View E) → j ≢ id → get_elem? s.views j ≡ some u → u.parts ≡ 0 = λ j u n e. let h = total_two (λ (x : View E). x.parts) s.views id j v u (λ z. n (sym z)) at e in omega arith in
      let free : word s ≡ 0 = dite (ℕ_discrete (word s) 0) (λ z. z) (λ n. let t = r.turn in let h = r.held (omega arith) in dite (ℕ_discrete r.holder id)
      (λ is. absurd (off (sym idle ∙ ap (λ (x : View E). x.holds) (some-injective _ _ (sym at ∙ ap (get_elem? s.views) (sym is) ∙ h.1)) ∙ h.2)))
      (λ n'. absurd (off (sym ((r.each_seat r.holder h.0 h.1).3 (others r.holder h.0 n' h.1)).1 ∙ h.2)))) in
      let home = r.home free in
      let to : (l : List E) → Begins l r.now → Begins l (list home.0) = λ l b. subst (Begins l) (sym home.2) b in (
        home.0,
        f.4 0 (Some home.0) home.1,
        to opened r.begins,
        to v.seen mine.1,
        each_on _ _ to v.heard mine.2,
        λ p. sym (total_alone (λ (x : View E). times p x.own) s.views id v at (λ j u n e. ap (times p) ((r.each_seat j u e).3 (others j u n e)).0)) ∙ r.owned p ∙ ap (λ (l : List E). once_within (length opened) (length l) p) (sym home.2),
      )

  module _ (slots id : ℕ) (m m' : Me (Option V) (View E)) (x : V) (empty : m.1 ≡ (0, None) ∷ []) (filled : m' ≡ (m.0, (0, Some x) ∷ rest m.1)) where
    seat_filled : m' ≡ (m.0, (0, Some x) ∷ [])
    seat_filled = filled ∙ ap (λ (cs : List (ℕ × Option V)). (m.0, (0, Some x) ∷ rest cs)) empty

    -- the steps of `put_back`, at the seat that has just been given the value x
    pub free_after : 0 < slots → m.0.parts ≡ 1 → m.0.holds ≡ true → Begins m.0.seen (list x) → Allows Rule slots id m' 0 (λ _. 0) (λ _. HasFreed list (step slots 0 0 0 none) m' 0)
    free_after room one holds more = subst (λ (k : Me (Option V) (View E)). Allows Rule slots id k 0 (λ _. 0) (λ _. HasFreed list (step slots 0 0 0 none) k 0)) (sym seat_filled)
        (free_at slots id m.0 x room (omega arith) holds more)

    pub freed_after : (m'' : Me (Option V) (View E)) → HasFreed list (step slots 0 0 0 none) m' 0 m'' → (m''.0 ≡ after_release m.0 (list x)) × (m''.1 ≡ [])
    freed_after m'' f = let g = subst (λ (k : Me (Option V) (View E)). HasFreed list (step slots 0 0 0 none) k 0 m'') seat_filled f in let h = g x refl in (h.1, h.0)
