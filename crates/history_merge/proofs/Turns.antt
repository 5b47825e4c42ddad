-- The first of a reader's opens are taken off, and so of each reader.
use Rattle.history_merge.proofs.Words.{◌≡◌, ◌≢◌, ℕ, suc, ◌+◌, ◌-◌, ◌<◌, ◌≤◌, Bool, List, [], ◌∷◌, ◌++◌, length, map, filter, take, drop, get_or, set, sym, ap, ◌∙◌, refl, subst, arith, append_assoc, append-nil, eq-eqb, ne_eqb, drop-cons, ◌==◌, if◌then◌else◌, flat_map, range_with_len, length-map, get_or-map, take-append-drop, take-set, drop-set, drop-set-lt, take_more_set, map-set, filter-append, take_rest, cond_both, map-append, dite, ℕ_discrete, ReaderView, OpenEntry, Step, Reply, Waiting, Each, has_heard, opened_of, opens_by, opens_of, NeverFall, IsInOrder, WaitingFields, view_waiting, all_wait, waited_by, opened_at, Climb, HasTold, AllClimb}
use Rattle.std.proofs.lemmas.Grind.{flat_map-append}
use Rattle.history_merge.proofs.Lists.{filter_takes, filter_skips, each_append}
use Rattle.history_merge.proofs.Cutting.{heard_first, not_heard}

-- what is left from a place on is what stands there, and what is left after it
pub left_at : {A : Type 0} (xs : List A) (i : ℕ) (x : A) → i < length xs → x ≡ get_or xs i x → drop i xs ≡ x ∷ drop (i + 1) xs
left_at xs i x less is = let one : suc i ≡ i + 1 = omega arith in drop-cons xs i x less ∙ (λ j. sym is j ∷ drop (one j) xs)

-- ---- of one reader

none_in : (k b : ℕ) (os : List OpenEntry) → Climb b os → k < b → filter (has_heard k) os ≡ []
none_in k b [] h less = refl
none_in k b (o ∷ os) h less = let first = h.0 in not_heard k o os (λ e. omega arith) ∙ none_in k o.draws os h.1 (omega arith)

-- of a reader's opens, the first are told
pub record IsTold (k : ℕ) (was now : WaitingFields) (before told : List (Step × Reply)) : Type 0 where
  pub so_far : told ++ opened_at k now ≡ before ++ opened_at k was
  pub climb : Climb k now.opens
  pub later : (j : ℕ) → k < j → opened_at j now ≡ opened_at j was

-- one more is told
pub told_one : (k : ℕ) (was : WaitingFields) (before told new : List (Step × Reply)) (r : ℕ) (o : OpenEntry) (os : List OpenEntry) → o.draws ≡ k → new ≡ told ++ opened_of r o ∷ []
    → IsTold k was (record { reader = r; opens = o ∷ os }) before told → IsTold k was (record { reader = r; opens = os }) before new
told_one k was before told new r o os e n h = record {
  so_far = ap (λ l. l ++ map (opened_of r) (filter (has_heard k) os)) n ∙ append_assoc told (opened_of r o ∷ []) (map (opened_of r) (filter (has_heard k) os))
      ∙ ap (λ l. told ++ map (opened_of r) l) (sym (heard_first k o os e)) ∙ h.so_far;
  climb = subst (λ (n : ℕ). Climb n os) e h.climb.1;
  later = λ j less. ap (map (opened_of r)) (sym (not_heard j o os (λ f. omega arith))) ∙ h.later j less;
}

pub told_next : (k : ℕ) (was : WaitingFields) (before told new : List (Step × Reply)) (r : ℕ) (o : OpenEntry) (os : List OpenEntry) → 1 ≤ length os → o ≡ get_or os 0 o → o.draws ≡ k → new ≡ told ++ opened_of r o ∷ []
    → IsTold k was (record { reader = r; opens = os }) before told → IsTold k was (record { reader = r; opens = take (length os - 1) (drop 1 os) }) before new
told_next k was before told new r o [] some is e n h = absurd (omega arith)
told_next k was before told new r o (x ∷ xs) some is e n h = subst (λ (l : List OpenEntry). IsTold k was (record { reader = r; opens = l }) before new) (sym (take_rest (x ∷ xs) 1))
    (told_one k was before told new r x xs (ap (λ (y : OpenEntry). y.draws) (sym is) ∙ e) (n ∙ ap (λ y. told ++ opened_of r y ∷ []) is) h)

-- none of so many draws is left
pub past_first : (k : ℕ) (o : OpenEntry) (os : List OpenEntry) → o ≡ get_or os 0 o → o.draws ≢ k → Climb k os → Climb (suc k) os
past_first k o [] is other h = tt
past_first k o (x ∷ xs) is other h = let low = h.0 in let ne : x.draws ≢ k = λ e. other (ap (λ (y : OpenEntry). y.draws) is ∙ e) in (omega arith, h.1)

pub none_first : (k : ℕ) (os : List OpenEntry) → length os < 1 → Climb k os
none_first k [] h = tt
none_first k (x ∷ xs) h = absurd (omega arith)

pub told_ones : (k : ℕ) (was now : WaitingFields) (before told : List (Step × Reply)) → Climb (suc k) now.opens → IsTold k was now before told → HasTold k was now before told
told_ones k was now before told climb h = record {
  told = sym (append-nil told) ∙ ap (λ l. told ++ map (opened_of now.reader) l) (sym (none_in k (suc k) now.opens climb (omega arith))) ∙ h.so_far;
  climb = climb;
  later = h.later;
}

-- ---- of all readers

swap_in : {A B : Type 0} (f : A → List B) (before : List A) (v x : A) (after : List A) → f v ≡ f x → flat_map f (before ++ v ∷ after) ≡ flat_map f (before ++ x ∷ after)
swap_in f [] v x after e = ap (λ l. l ++ flat_map f after) e
swap_in f (b ∷ bs) v x after e = ap (λ l. f b ++ l) (swap_in f bs v x after e)

-- of the readers' lists, the first are told
pub record IsTelling (k i : ℕ) (now was : List WaitingFields) (told all : List (Step × Reply)) : Type 0 where
  pub so_far : told ++ flat_map (opened_at k) (drop i now) ≡ all
  pub done : AllClimb (suc k) (take i now)
  pub rest : AllClimb k (drop i now)
  pub later : (j : ℕ) → k < j → flat_map (opened_at j) now ≡ flat_map (opened_at j) was

module _ (k : ℕ) where
  pub tell_next : (i : ℕ) (now was : List WaitingFields) (told all new : List (Step × Reply)) (x v : WaitingFields) → i < length now → drop i now ≡ x ∷ drop (i + 1) now
      → HasTold k x v told new → IsTelling k i now was told all → IsTelling k (i + 1) (set now i v) was new all
  tell_next i now was told all new x v less next left h = let before : List WaitingFields = take i now in let after : List WaitingFields = drop (i + 1) now in
      let past : drop (i + 1) (set now i v) ≡ after = drop-set-lt (i + 1) now i v (omega arith) in
      let upto : take (i + 1) (set now i v) ≡ before ++ v ∷ [] = take_more_set now i v less in
      let is_now : now ≡ before ++ x ∷ after = sym (take-append-drop i now) ∙ ap (λ l. before ++ l) next in
      let is_set : set now i v ≡ before ++ v ∷ after = sym (take-append-drop i (set now i v)) ∙ (λ j. take-set now i v j ++ drop-set now i v less j) in
      let left_over : AllClimb k (x ∷ after) = subst (AllClimb k) next h.rest in record {
        so_far = (λ j. left.told j ++ flat_map (opened_at k) (past j)) ∙ append_assoc told (opened_at k x) (flat_map (opened_at k) after) ∙ ap (λ l. told ++ flat_map (opened_at k) l) (sym next) ∙ h.so_far;
        done = subst (AllClimb (suc k)) (sym upto) (each_append (λ (w : WaitingFields). Climb (suc k) w.opens) before (v ∷ []) h.done (left.climb, tt));
        rest = subst (AllClimb k) (sym past) left_over.1;
        later = λ j over. ap (flat_map (opened_at j)) is_set ∙ swap_in (opened_at j) before v x after (left.later j over) ∙ ap (flat_map (opened_at j)) (sym is_now) ∙ h.later j over;
      }

-- the reader at a place, and those after it
pub reader_at : (ws : List Waiting) (i : ℕ) (d : Waiting) → i < length ws → drop i (map view_waiting ws) ≡ view_waiting (get_or ws i d) ∷ drop (i + 1) (map view_waiting ws)
reader_at ws i d less = let one : suc i ≡ i + 1 = omega arith in
    drop-cons (map view_waiting ws) i (view_waiting d) (omega (arith, length-map ws view_waiting, less)) ∙ (λ j. get_or-map view_waiting ws i d (view_waiting d) less j ∷ drop (one j) (map view_waiting ws))

pub reader_climbs : (k i : ℕ) (ws : List Waiting) (d : Waiting) → i < length ws → AllClimb k (drop i (map view_waiting ws)) → Climb k (get_or ws i d).opens.now
reader_climbs k i ws d less h = let here : AllClimb k (view_waiting (get_or ws i d) ∷ drop (i + 1) (map view_waiting ws)) = subst (AllClimb k) (reader_at ws i d less) h in here.0

pub reader_told : (k i : ℕ) (ws : List Waiting) (was : List WaitingFields) (told all new : List (Step × Reply)) (d v : Waiting) → i < length ws → HasTold k (view_waiting (get_or ws i d)) (view_waiting v) told new
    → IsTelling k i (map view_waiting ws) was told all → IsTelling k (i + 1) (map view_waiting (set ws i v)) was new all
reader_told k i ws was told all new d v less left h =
    subst (λ (l : List WaitingFields). IsTelling k (i + 1) l was new all) (sym (map-set view_waiting ws i v))
    (tell_next k i (map view_waiting ws) was told all new (view_waiting (get_or ws i d)) (view_waiting v) (omega (arith, length-map ws view_waiting, less)) (reader_at ws i d less) left h)

-- ---- by number

pub numbers_more : {X : Type 0} (f : ℕ → List X) (r : ℕ) (told new all : List X) → r < 65 → told ++ flat_map f (range_with_len r (65 - r)) ≡ all → new ≡ told ++ f r
    → new ++ flat_map f (range_with_len (r + 1) (65 - (r + 1))) ≡ all
numbers_more f r told new all less h n = let e : 65 - r ≡ suc (65 - (r + 1)) = omega arith in let rest = flat_map f (range_with_len (r + 1) (65 - (r + 1))) in
    ap (λ l. l ++ rest) n ∙ append_assoc told (f r) rest ∙ ap (λ (c : ℕ). told ++ flat_map f (range_with_len r c)) (sym e) ∙ h

module _ (k : ℕ) where
  one_by : (r : ℕ) (passes : List ReaderView) → flat_map (opened_at k) (waited_by passes r) ≡ opens_of passes k r
  one_by r [] = refl
  one_by r (p ∷ ps) = let rest : List OpenEntry = opens_by r ps in
      let told : Bool → List (Step × Reply) = λ b. map (opened_of r) (filter (has_heard k) ((if b then p.opens else []) ++ rest)) in
      dite (ℕ_discrete p.reader r)
      (λ e. ap (flat_map (opened_at k)) (filter_takes (λ (w : WaitingFields). w.reader == r) (all_wait p) (map all_wait ps) (eq-eqb p.reader r e))
      ∙ (λ i. map (opened_of (e i)) (filter (has_heard k) p.opens) ++ one_by r ps i)
      ∙ sym (ap told (eq-eqb p.reader r e) ∙ ap (map (opened_of r)) (filter-append (has_heard k) p.opens rest) ∙ map-append (opened_of r) (filter (has_heard k) p.opens) (filter (has_heard k) rest)))
      (λ ne. ap (flat_map (opened_at k)) (filter_skips (λ (w : WaitingFields). w.reader == r) (all_wait p) (map all_wait ps) (ne_eqb p.reader r ne))
      ∙ one_by r ps ∙ sym (ap told (ne_eqb p.reader r ne)))

  pub all_by : (passes : List ReaderView) (rs : List ℕ) → flat_map (opened_at k) (flat_map (waited_by passes) rs) ≡ flat_map (opens_of passes k) rs
  all_by passes [] = refl
  all_by passes (r ∷ rs) = flat_map-append (opened_at k) (waited_by passes r) (flat_map (waited_by passes) rs) ∙ (λ i. one_by r passes i ++ all_by passes rs i)

-- ---- that opens never fall

never_climbs : (b last : ℕ) (os : List OpenEntry) → NeverFall b last os → Climb b os
never_climbs b last [] h = tt
never_climbs b last (o ∷ os) h = (h.0, never_climbs o.draws last os h.2)

waited_climb : (last r : ℕ) (passes : List ReaderView) → Each (IsInOrder last) passes → AllClimb 0 (waited_by passes r)
waited_climb last r [] h = tt
waited_climb last r (p ∷ ps) h =
    let rest = waited_climb last r ps h.1 in cond_both (p.reader == r) (all_wait p ∷ waited_by ps r) (waited_by ps r) (AllClimb 0) (λ _. (never_climbs 0 last p.opens h.0.rising, rest)) (λ _. rest)

pub all_climb : (last : ℕ) (passes : List ReaderView) (rs : List ℕ) → Each (IsInOrder last) passes → AllClimb 0 (flat_map (waited_by passes) rs)
all_climb last passes [] h = tt
all_climb last passes (r ∷ rs) h =
    each_append (λ (w : WaitingFields). Climb 0 w.opens) (waited_by passes r) (flat_map (waited_by passes) rs) (waited_climb last r passes h) (all_climb last passes rs h)
