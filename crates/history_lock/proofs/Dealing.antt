-- The passes of a new lock, and what one seat has once it took in all of them.
use Rattle.std.proofs.Common.{◌≡◌, ℕ, suc, ◌+◌, ◌-◌, ◌<◌, false, Option, Some, None, List, [], ◌∷◌, ◌++◌, length, map, sym, ap, ◌∙◌, subst, arith, length-append, append_assoc}
use mathlib.Core.List.{map-append}
use mathlib.Core.Option.{some, some-injective}
use lib.ListN.{get_elem?}
use Rattle.atomic_table.specs.Table.{Me, Final, Seen}
use Rattle.atomic_table.specs.declared.shared.Seat.{Seat}
use Rattle.history_lock.specs.declared.rule.View.{View}
use Rattle.history_lock.specs.declared.pass.Pass.{Pass}
use Rattle.history_lock.specs.declared.lock.HistoryLock.{HistoryLock}
use Rattle.history_lock.specs.History.{Begins, times, total, Each, once_within}
use Rattle.history_lock.specs.Inner.History.{newcomer, kept_part, given_part, join_views, Chronicle}
use Rattle.history_lock.specs.Passes.{IsPassOf, AreFresh, seats_of, opening_of, owners, seen_of, own_of, number_of}
use Rattle.history_lock.specs.Inner.Passes.{HasAll}
use Rattle.history_lock.proofs.Lists.{times_append, total_push, each_both}
use Rattle.history_lock.proofs.Steps.{closes}

pub each_last : {A : Type 0} (P : A → Type 0) (xs : List A) (x : A) → Each P (xs ++ x ∷ []) → Each P xs × P x
each_last P [] x h = (tt, h.0)
each_last P (y ∷ ys) x h = let k = each_last P ys x h.1 in ((h.0, k.0), k.1)

pub each_map : {A B : Type 0} (Q : B → Type 0) (f : A → B) (xs : List A) → Each Q (map f xs) → Each (λ x. Q (f x)) xs
each_map Q f [] h = tt
each_map Q f (x ∷ xs) h = (h.0, each_map Q f xs h.1)

module _ {V : Type 0} where
  abbrev some_or : V → Option V → V
  some_or d (Some x) = x
  some_or d None = d

  pub some_same : (x y : V) → Some x ≡ Some y → x ≡ y
  some_same x y e = ap (some_or x) e

module _ {V E : Type 0} where
  pub kept_newcomer : (n : ℕ) (o : List E) (m : Me (Option V) (View E)) → m ≡ (newcomer n o, []) → ◌≡◌ {A = Me (Option V) (View E)} (kept_part m.0, m.1) (newcomer (n - 1) o, [])
  kept_newcomer n o m e = ap (λ (k : Me (Option V) (View E)). (kept_part k.0, k.1)) e

  module _ (l : HistoryLock V E) (seen : List E) where
    pub fresh_push : (first : ℕ) (ps : List (Pass V E)) (p : Pass V E) → AreFresh l seen first ps → IsPassOf l p → number_of p ≡ first + length ps → seen_of p ≡ seen → own_of p ≡ [] → AreFresh l seen first (ps ++ p ∷ [])
    fresh_push first [] p h own number saw none = (own, omega arith, saw, none, tt)
    fresh_push first (q ∷ qs) p h own number saw none = (h.0, h.1, h.2, h.3, fresh_push (suc first) qs p h.4 own (omega arith) saw none)

    pub given_fresh : (n first : ℕ) (ps : List (Pass V E)) (p : Pass V E) (m : Me (Option V) (View E)) → m ≡ (newcomer n seen, []) → p.seat.table_id ≡ l.table.shared.table_id → p.seat.me ≡ (given_part m.0, []) → number_of p ≡ first + length ps
        → AreFresh l seen first ps → AreFresh l seen first (ps ++ p ∷ [])
    given_fresh n first ps p m is own got number h =
        let e : p.seat.me ≡ (newcomer 1 seen, []) = got ∙ ap (λ (k : Me (Option V) (View E)). (given_part k.0, [])) is in
        fresh_push first ps p h (own, ap (λ (k : Me (Option V) (View E)). k.1) e, ap (λ (k : Me (Option V) (View E)). k.0.parts) e, ap (λ (k : Me (Option V) (View E)). k.0.holds) e, ap (λ (k : Me (Option V) (View E)). k.0.heard) e)
        number (ap (λ (k : Me (Option V) (View E)). k.0.seen) e) (ap (λ (k : Me (Option V) (View E)). k.0.own) e)

    pub last_fresh : (first : ℕ) (ps : List (Pass V E)) (p : Pass V E) → p.seat.table_id ≡ l.table.shared.table_id → p.seat.me ≡ (newcomer 1 seen, []) → number_of p ≡ first + length ps → AreFresh l seen first ps → AreFresh l seen first (ps ++ p ∷ [])
    last_fresh first ps p own e number h =
        fresh_push first ps p h (own, ap (λ (k : Me (Option V) (View E)). k.1) e, ap (λ (k : Me (Option V) (View E)). k.0.parts) e, ap (λ (k : Me (Option V) (View E)). k.0.holds) e, ap (λ (k : Me (Option V) (View E)). k.0.heard) e)
        number (ap (λ (k : Me (Option V) (View E)). k.0.seen) e) (ap (λ (k : Me (Option V) (View E)). k.0.own) e)

  -- a seat has what the passes of `all` had, but for those of `rest`, which come before
  abbrev pub HasPart : HistoryLock V E → List (Pass V E) → List (Pass V E) → Seat (Option V) (View E) → Type 0
  HasPart l rest all s =
      Each (IsPassOf l) rest × (s.table_id ≡ l.table.shared.table_id) × (s.me.1 ≡ []) × (0 < s.me.0.parts) × (s.me.0.parts + length rest ≡ length all) × (s.me.0.holds ≡ false)
      × (map (λ (p : Pass V E). seen_of p) rest ++ (s.me.0.heard ++ s.me.0.seen ∷ []) ≡ map (λ (p : Pass V E). seen_of p) all)
      × ((place : ℕ) → total (λ (p : Pass V E). times place (own_of p)) rest + times place s.me.0.own ≡ total (λ (p : Pass V E). times place (own_of p)) all)

  module _ (l : HistoryLock V E) where
    pub part_first : (rest all : List (Pass V E)) (p : Pass V E) → all ≡ rest ++ p ∷ [] → Each (IsPassOf l) all → HasPart l rest all p.seat
    part_first rest all p is each =
        let h = each_last (IsPassOf l) rest p (subst (Each (IsPassOf l)) is each) in
        let own = h.1 in
        let one = own.2 in
        let len : length all ≡ length rest + 1 = ap length is ∙ length-append rest (p ∷ []) in (
          h.0,
          own.0,
          own.1,
          omega arith,
          omega arith,
          own.3,
          ap (λ (hs : List (List E)). map (λ (p : Pass V E). seen_of p) rest ++ (hs ++ seen_of p ∷ [])) own.4 ∙ sym (map-append (λ (p : Pass V E). seen_of p) rest (p ∷ [])) ∙ sym (ap (map (λ (p : Pass V E). seen_of p)) is),
          λ place. sym (total_push (λ (p : Pass V E). times place (own_of p)) rest p) ∙ sym (ap (total (λ (p : Pass V E). times place (own_of p))) is),
        )

    pub part_more : (rest before all : List (Pass V E)) (p : Pass V E) (s s' : Seat (Option V) (View E)) → before ≡ rest ++ p ∷ [] → s'.table_id ≡ s.table_id → s'.me ≡ (join_views s.me.0 p.seat.me.0, s.me.1) → HasPart l before all s → HasPart l rest all s'
    part_more rest before all p s s' is same got h =
        let k = each_last (IsPassOf l) rest p (subst (Each (IsPassOf l)) is h.0) in
        let own = k.1 in
        let one = own.2 in
        let len : length before ≡ length rest + 1 = ap length is ∙ length-append rest (p ∷ []) in
        let parts : s'.me.0.parts ≡ s.me.0.parts + p.seat.me.0.parts = ap (λ (k : Me (Option V) (View E)). k.0.parts) got in
        let sum = h.4 in
        let some = h.3 in (
          k.0,
          same ∙ h.1,
          ap (λ (k : Me (Option V) (View E)). k.1) got ∙ h.2,
          omega arith,
          omega arith,
          ap (λ (k : Me (Option V) (View E)). k.0.holds) got ∙ h.5,
          seen_more,
          λ place. let a = h.7 place in let b = ap (total (λ (p : Pass V E). times place (own_of p))) is ∙ total_push (λ (p : Pass V E). times place (own_of p)) rest p in
              let c = ap (λ (k : Me (Option V) (View E)). times place k.0.own) got ∙ times_append place s.me.0.own p.seat.me.0.own in omega arith,
        )
      where
        seen_more : map (λ (p : Pass V E). seen_of p) rest ++ (s'.me.0.heard ++ s'.me.0.seen ∷ []) ≡ map (λ (p : Pass V E). seen_of p) all
        seen_more =
            let k = each_last (IsPassOf l) rest p (subst (Each (IsPassOf l)) is h.0) in
            let f : Pass V E → List E = λ p. seen_of p in
            let a : s'.me.0.heard ≡ seen_of p ∷ s.me.0.heard = ap (λ (m : Me (Option V) (View E)). m.0.heard) got ∙ ap (λ (hs : List (List E)). seen_of p ∷ hs ++ s.me.0.heard) k.1.4 in
            let b : s'.me.0.seen ≡ s.me.0.seen = ap (λ (m : Me (Option V) (View E)). m.0.seen) got in
            let c : map f before ≡ map f rest ++ seen_of p ∷ [] = ap (map f) is ∙ map-append f rest (p ∷ []) in
            let old = h.6 in
            (λ i. map f rest ++ (a i ++ b i ∷ [])) ∙ sym (append_assoc (map f rest) (seen_of p ∷ []) (s.me.0.heard ++ s.me.0.seen ∷ [])) ∙ sym (ap (λ (xs : List (List E)). xs ++ (s.me.0.heard ++ s.me.0.seen ∷ [])) c) ∙ old

    pub part_last : (all : List (Pass V E)) (s : Seat (Option V) (View E)) → HasPart l [] all s → HasAll l all s
    part_last all s h = let sum = h.4 in (h.1, h.2, omega arith, h.5, h.6, λ place. let a = h.7 place in omega arith)

    -- what `close` says, of the value v that was found in the slot
    module _ (list : V → List E) (ps : List (Pass V E)) (s : Seat (Option V) (View E)) (has : HasAll l ps s) (all : length ps ≡ seats_of l) (ws : List ℕ) (xs : List (Option V))
        (f : Final (Seen (Chronicle list l.table.shared.key.seats (list l.table.shared.key.first.value)) s.id s.me.0) ws xs) where
      pub found : (x : V) × (get_elem? xs 0 ≡ some (Some x)) × Begins (opening_of list l) (list x) × Begins s.me.0.seen (list x) × Each (λ y. Begins y (list x)) s.me.0.heard
          × ((p : ℕ) → times p s.me.0.own ≡ once_within (length (opening_of list l)) (length (list x)) p)
      found = let parts = has.2 in closes list l.table.shared.key.seats (list l.table.shared.key.first.value) s.id s.me.0 ws xs (omega arith) has.3 f

      pub found_some : (r : Option V) → get_elem? xs 0 ≡ some r → r ≡ Some (found.0)
      found_some r at = some-injective r (Some (found.0)) (sym at ∙ found.1)

      pub found_value : (v : V) → get_elem? xs 0 ≡ some (Some v) → v ≡ found.0
      found_value v at = some_same v found.0 (some-injective (Some v) (Some (found.0)) (sym at ∙ found.1))

      pub closed_opening : (v : V) → get_elem? xs 0 ≡ some (Some v) → Begins (opening_of list l) (list v)
      closed_opening v at = subst (λ (x : V). Begins (opening_of list l) (list x)) (sym (found_value v at)) found.2

      pub closed_seen : (v : V) → get_elem? xs 0 ≡ some (Some v) → Each (λ p. Begins (seen_of p) (list v)) ps
      closed_seen v at = subst (λ (x : V). Each (λ p. Begins (seen_of p) (list x)) ps) (sym (found_value v at))
          (each_map (λ y. Begins y (list found.0)) (λ p. seen_of p) ps (subst (Each (λ y. Begins y (list found.0))) has.4 (each_both (λ y. Begins y (list found.0)) s.me.0.heard (s.me.0.seen ∷ []) found.4 (found.3, tt))))

      pub closed_owned : (v : V) → get_elem? xs 0 ≡ some (Some v) → (place : ℕ) → owners place ps ≡ once_within (length (opening_of list l)) (length (list v)) place
      closed_owned v at place = sym (has.5 place) ∙ found.5 place ∙ ap (λ (x : V). once_within (length (opening_of list l)) (length (list x)) place) (sym (found_value v at))

  module _ (l : HistoryLock V E) (seen : List E) where
    pub one_dealt : (n number : ℕ) (ps : List (Pass V E)) (s : Seat (Option V) (View E)) (m : Me (Option V) (View E)) → m ≡ (newcomer n seen, []) → s.table_id ≡ l.table.shared.table_id → s.me ≡ (given_part m.0, []) → length ps ≡ number
        → AreFresh l seen 0 ps → AreFresh l seen 0 (ps ++ record { seat = s; number = number } ∷ [])
    one_dealt n number ps s m is own got len h = given_fresh l seen n 0 ps record { seat = s; number = number } m is own got (omega arith) h

    pub last_dealt : (n number : ℕ) (ps : List (Pass V E)) (s : Seat (Option V) (View E)) → n ≡ 1 → s.table_id ≡ l.table.shared.table_id → s.me ≡ (newcomer n seen, []) → length ps ≡ number
        → AreFresh l seen 0 ps → AreFresh l seen 0 (ps ++ record { seat = s; number = number } ∷ [])
    last_dealt n number ps s one own is len h = last_fresh l seen 0 ps record { seat = s; number = number } own (is ∙ ap (λ (k : ℕ). (newcomer k seen, [])) one) (omega arith) h
