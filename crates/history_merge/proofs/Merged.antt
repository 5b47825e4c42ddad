-- Where the opens of one reader stand in a merge, and that each merge of a session owes what it should.
use Rattle.history_merge.proofs.Words.{◌≡◌, ℕ, ◌<◌, List, [], ◌∷◌, length, map, get_or, sym, ap, ◌∙◌, refl, subst, arith, eq-eqb, ne_eqb, ◌≢◌, zero, suc, ◌+◌, ◌≤◌, Bool, true, false, ◌++◌, filter, drop, cond, append_assoc, ◌==◌, if◌then◌else◌, All, flat_map, range_with_len, count_by, get_or_past, All-from_recursion, recursion_from_All, All-map, dite, ℕ_discrete, dec_lt, Fate, CatalogueState, draws_of, trees_of, IsEntered, is_draw, Entry, ArePublishable, ReaderView, Step, InRange, WorldState, Reply, event_of, merge_of, opened_of, has_heard, opens_by, opens_of, opens_at, merge_entries, is_commit_of, is_commit_at, IsPlaced, AreNumbers, IsReady, EveryMergeIsMerged, is_draw_step, is_open_by, map-append, sum_by-append, cond_both, OpenEntry, NeverFall, with_draws_before, OpensHavePlaces}
use Rattle.generation_catalogue.specs.declared.entry.Entry.TheVariants as entries
use Rattle.carousel_world.specs.Promises.{EveryRunMeetsTheHeadline, world_after}
use Rattle.history_merge.proofs.Ordering.{commits_stand, draws_stand, each_merged}
use Rattle.history_merge.proofs.Numbers.{trees_same}
use Rattle.history_merge.proofs.Parts.{rising_by, own_of}
use Rattle.history_merge.proofs.Replying.{run_of, world_at_end}
use Rattle.history_merge.proofs.Lists.{filter_takes, filter_skips, count_more, count_same}
use Rattle.history_merge.proofs.Cutting.{heard_first, not_heard, cuts, cuts_all}

module _ (editors : List ℕ) (passes : List ReaderView) (r : ℕ) where
  abbrev here : ℕ → List (Step × Reply) → List (ℕ × (Step × Reply))
  here n xs = with_draws_before (λ (x : Step × Reply). is_open_by r x.0) (λ (x : Step × Reply). is_draw_step x.0) n xs

  abbrev mine : List OpenEntry
  mine = opens_by r passes

  abbrev told : OpenEntry → ℕ × (Step × Reply)
  told o = (o.draws, opened_of r o)

  abbrev at : ℕ → OpenEntry → ℕ × (Step × Reply)
  at n o = (n, opened_of r o)

  own : (n : ℕ) (os : List OpenEntry) (ys : List (Step × Reply)) → here n (map (opened_of r) os ++ ys) ≡ map (at n) os ++ here n ys
  own n [] ys = refl
  own n (o ∷ os) ys = λ i. (if eq-eqb r r refl i then at n o ∷ [] else []) ++ own n os ys i

  others : (s : ℕ) → s ≢ r → (n : ℕ) (os : List OpenEntry) (ys : List (Step × Reply)) → here n (map (opened_of s) os ++ ys) ≡ here n ys
  others s ne n [] ys = refl
  others s ne n (o ∷ os) ys = λ i. (if ne_eqb s r ne i then (n, opened_of s o) ∷ [] else []) ++ others s ne n os ys i

  -- those of the readers from a on, none of them r
  none_of : (k n a c : ℕ) (ys : List (Step × Reply)) → r < a → here n (flat_map (opens_of passes k) (range_with_len a c) ++ ys) ≡ here n ys
  none_of k n a zero ys h = refl
  none_of k n a (suc c) ys h = let rest = flat_map (opens_of passes k) (range_with_len (a + 1) c) in ap (here n) (append_assoc (opens_of passes k a) rest ys)
      ∙ others a (λ e. omega arith) n (filter (has_heard k) (opens_by a passes)) (rest ++ ys)
      ∙ none_of k n (a + 1) c ys (omega arith)

  one_of : (k n a c : ℕ) (ys : List (Step × Reply)) → a ≤ r → r < a + c → here n (flat_map (opens_of passes k) (range_with_len a c) ++ ys) ≡ map (at n) (filter (has_heard k) mine) ++ here n ys
  one_of k n a zero ys h l = absurd (omega arith)
  one_of k n a (suc c) ys h l = let rest = flat_map (opens_of passes k) (range_with_len (a + 1) c) in ap (here n) (append_assoc (opens_of passes k a) rest ys)
      ∙ dite (ℕ_discrete a r)
      (λ e. subst (λ (s : ℕ). here n (opens_of passes k s ++ (rest ++ ys)) ≡ map (at n) (filter (has_heard k) mine) ++ here n ys) (sym e)
      (own n (filter (has_heard k) mine) (rest ++ ys)
      ∙ ap (λ (l : List (ℕ × (Step × Reply))). map (at n) (filter (has_heard k) mine) ++ l) (none_of k n (a + 1) c ys (omega arith))))
      (λ ne. others a ne n (filter (has_heard k) (opens_by a passes)) (rest ++ ys)
      ∙ one_of k n (a + 1) c ys (omega arith) (omega arith))

  -- with k draws before them, each is told its own count
  as_told : (k : ℕ) (os : List OpenEntry) → map (at k) (filter (has_heard k) os) ≡ map told (filter (has_heard k) os)
  as_told k [] = refl
  as_told k (o ∷ os) = dite (ℕ_discrete o.draws k)
      (λ e. ap (map (at k)) (heard_first k o os e) ∙ (λ i. (sym e i, opened_of r o) ∷ as_told k os i) ∙ ap (map told) (sym (heard_first k o os e)))
      (λ ne. ap (map (at k)) (not_heard k o os ne) ∙ as_told k os ∙ ap (map told) (sym (not_heard k o os ne)))

  module _ (low : 1 ≤ r) (high : r ≤ 64) where
    group : (k : ℕ) (ys : List (Step × Reply)) → here k (opens_at passes k ++ ys) ≡ map told (filter (has_heard k) mine) ++ here k ys
    group k ys = one_of k k 1 64 ys low (omega arith) ∙ ap (λ (l : List (ℕ × (Step × Reply))). l ++ here k ys) (as_told k mine)

    all_merged : (k : ℕ) (fates : List (List Fate)) (es : List Entry) → here k (merge_entries editors passes k fates es) ≡ map told (cuts mine (suc k) (count_by is_draw es))
    all_merged k fates [] = refl
    all_merged k fates (entries.Commit editor edits outcome ∷ es) =
        all_merged k fates es ∙ ap (λ (n : ℕ). map told (cuts mine (suc k) n)) (sym (count_same is_draw (entries.Commit editor edits outcome) es refl))
    all_merged k fates (entries.Draw asked generation first count ∷ es) = let first_ones = filter (has_heard (suc k)) mine in
        let rest = cuts mine (suc (suc k)) (count_by is_draw es) in group (suc k) (merge_entries editors passes (suc k) (drop 1 fates) es)
        ∙ ap (λ (l : List (ℕ × (Step × Reply))). map told first_ones ++ l) (all_merged (suc k) (drop 1 fates) es)
        ∙ sym (map-append told first_ones rest)
        ∙ ap (λ (n : ℕ). map told (cuts mine (suc k) n)) (sym (count_more is_draw (entries.Draw asked generation first count) es refl))

    -- each of its opens stands with as many draws before it as its shot had heard
    pub opens_stand : (fates : List (List Fate)) (es : List Entry) → NeverFall 0 (count_by is_draw es) mine → here 0 (merge_of editors passes fates es) ≡ map told mine
    opens_stand fates es never = let d = count_by is_draw es in let first_ones = filter (has_heard 0) mine in group 0 (merge_entries editors passes 0 fates es)
        ∙ ap (λ (l : List (ℕ × (Step × Reply))). map told first_ones ++ l) (all_merged 0 fates es)
        ∙ sym (map-append told first_ones (cuts mine 1 d))
        ∙ ap (map told) (cuts_all mine 0 d (suc d) never (omega arith))

module _ {X : Type 0} (p d : X → Bool) where
  abbrev pub Found : ℕ → List X → List (ℕ × X) → ℕ → X → Type 0
  Found n xs early k x = (before : List X) × (after : List X) × (xs ≡ before ++ x ∷ after) × (n + count_by d before ≡ k) × (filter p before ≡ map (λ y. y.1) early)

  -- one event more in front, which is a draw or not
  counted : (n : ℕ) (y : X) (ys : List X) (b : Bool) → d y ≡ b → (if b then suc n else n) + count_by d ys ≡ n + count_by d (y ∷ ys)
  counted n y ys true is = let c = count_more d y ys is in omega arith
  counted n y ys false is = let c = count_same d y ys is in omega arith

  -- and picked or not
  push : (n : ℕ) (y : X) (ys : List X) (early all : List (ℕ × X)) (k : ℕ) (x : X) (f : Found (if d y then suc n else n) ys early k x) → filter p (y ∷ f.0) ≡ map (λ z. z.1) all → Found n (y ∷ ys) all k x
  push n y ys early all k x f same = (y ∷ f.0, f.1, ap (λ (l : List X). y ∷ l) f.2, sym (counted n y f.0 (d y) refl) ∙ f.3, same)

  split : (n : ℕ) (y : X) (ys : List X) (early late : List (ℕ × X)) (k : ℕ) (x : X)
      → ((early : List (ℕ × X)) → with_draws_before p d (if d y then suc n else n) ys ≡ early ++ (k, x) ∷ late → Found (if d y then suc n else n) ys early k x)
      → (b : Bool) → p y ≡ b → (if b then (n, y) ∷ [] else []) ++ with_draws_before p d (if d y then suc n else n) ys ≡ early ++ (k, x) ∷ late → Found n (y ∷ ys) early k x
  split n y ys early late k x rest false no_p h = let f = rest early h in push n y ys early early k x f (filter_skips p y f.0 no_p ∙ f.4)
  split n y ys [] late k x rest true is_p h = let same : (n, y) ≡ (k, x) = cc in
      ([], ys, ap (λ (z : X). z ∷ ys) (ap (λ (q : ℕ × X). q.1) same), (let e : n ≡ k = ap (λ (q : ℕ × X). q.0) same in omega (arith, e)), refl)
  split n y ys (z ∷ early) late k x rest true is_p h = let same : (n, y) ≡ z = cc in
      let tail : with_draws_before p d (if d y then suc n else n) ys ≡ early ++ (k, x) ∷ late = cc in
      let f = rest early tail in push n y ys early (z ∷ early) k x f (filter_takes p y f.0 is_p ∙ (λ i. (same i).1 ∷ f.4 i))

  pub stands : (n : ℕ) (xs : List X) (early late : List (ℕ × X)) (k : ℕ) (x : X) → with_draws_before p d n xs ≡ early ++ (k, x) ∷ late → Found n xs early k x
  stands n [] [] late k x h = absurd (cc)
  stands n [] (z ∷ early) late k x h = absurd (cc)
  stands n (y ∷ ys) early late k x h = split n y ys early late k x (λ l g. stands (if d y then suc n else n) ys l late k x g) (p y) refl h

  -- where as many draws stand before it as there are, none stands after it
  none_drawn : (xs : List X) → count_by d xs ≡ 0 → filter d xs ≡ []
  none_drawn [] h = refl
  none_drawn (x ∷ xs) h =
      cond_both (d x) (x ∷ filter d xs) (filter d xs) (λ l. l ≡ []) (λ is. let c = count_more d x xs is in absurd (omega (arith, c, h))) (λ is. let c = count_same d x xs is in none_drawn xs (omega (arith, c, h)))

pub places : OpensHavePlaces
places reader told early late k x h = let d : Step × Reply → Bool = λ y. is_draw_step y.0 in
    let f = stands (λ y. is_open_by reader y.0) d 0 told early late k x h in let e = f.3 in
    let a : count_by d told ≡ count_by d f.0 + count_by d (x ∷ f.1) = ap (count_by d) f.2 ∙ sum_by-append (λ (y : Step × Reply). cond {A = ℕ} (d y) 1 0) f.0 (x ∷ f.1) in
    (f.0, f.1, f.2, omega arith, f.4, λ all. none_drawn (λ y. is_open_by reader y.0) d (x ∷ f.1) (omega arith))

-- ---- each merge of a session owes what it should

-- an editor's number is at its place alone
place_told : (editors : List ℕ) → AreNumbers editors → (place : ℕ) → place < length editors → (j : ℕ) → (get_or editors j 0 == get_or editors place 0) ≡ (j == place)
place_told editors n place within j = dite (ℕ_discrete j place)
    (λ e. eq-eqb (get_or editors j 0) (get_or editors place 0) (ap (λ i. get_or editors i 0) e) ∙ sym (eq-eqb j place e))
    (λ ne. ne_eqb (get_or editors j 0) (get_or editors place 0) (dite (dec_lt j (length editors))
    (λ less e. ne (n.apart j place less within e))
    (λ more e. let past = get_or_past editors j 0 (omega arith) in let some = n.some place within in absurd (omega arith))) ∙ sym (ne_eqb j place ne))

pub commit_told : (editors : List ℕ) → AreNumbers editors → (place : ℕ) → place < length editors → (e : Entry) (f : List Fate) → is_commit_of (get_or editors place 0) (event_of editors e f).0 ≡ is_commit_at place e
commit_told editors n place within (entries.Commit editor edits outcome) f = place_told editors n place within editor
commit_told editors n place within (entries.Draw asked generation first count) f = refl

-- ---- that its events are in range

step_of : (editors : List ℕ) → AreNumbers editors → (e : Entry) → IsEntered e → IsPlaced (length editors) e → (f : List Fate) → InRange (event_of editors e f).0
step_of editors n (entries.Commit editor edits outcome) entered placed f = (n.some editor placed, n.most editor placed)
step_of editors n (entries.Draw asked generation first count) entered placed f = entered

in_range : (c : CatalogueState) (editors : List ℕ) (fates : List (List Fate)) (readers : List ReaderView) → IsReady c editors fates readers → All InRange (map (λ x. x.0) (merge_of editors readers fates c.entries))
in_range c editors fates readers ready = let Q : Step × Reply → Type 0 = λ x. InRange x.0 in
    let steps = recursion_from_All (λ e. (f : List Fate) → InRange (event_of editors e f).0) c.entries (λ k d less.
    step_of editors ready.numbers _ (ready.history.entered k d less) (All-from_recursion (IsPlaced (length editors)) c.entries ready.parts.placed k d less)) in
    All-map InRange (λ (x : Step × Reply). x.0) (merge_of editors readers fates c.entries)
    (All-from_recursion Q (merge_of editors readers fates c.entries) (each_merged Q readers (λ r low high o. (low, high)) editors fates c.entries steps))

-- the trees of the world after a merge are those of the catalogue
pub merged_is_published : (c : CatalogueState) (editors : List ℕ) (fates : List (List Fate)) (readers : List ReaderView) → IsReady c editors fates readers
    → let w = world_after c.carousel c.weights (map (λ x. x.0) (merge_of editors readers fates c.entries)) in ArePublishable w.catalogue.carousel (trees_of w.catalogue)
merged_is_published c editors fates readers ready =
    subst (λ (w : WorldState). ArePublishable w.catalogue.carousel (trees_of w.catalogue)) (sym (world_at_end c ready.history editors fates readers ready.answered))
    (subst (ArePublishable c.carousel) (sym (trees_same editors [] c.entries)) ready.history.published)

pub every : EveryRunMeetsTheHeadline → EveryMergeIsMerged
every headline c editors fates readers ready = record {
  run = run_of c ready.history editors fates readers ready.answered;
  steps = in_range c editors fates readers ready;
  headline = headline c.carousel c.weights (map (λ x. x.0) (merge_of editors readers fates c.entries)) (merged_is_published c editors fates readers ready);
  drawings = ap (λ (w : WorldState). w.drawings) (world_at_end c ready.history editors fates readers ready.answered);
  commits = λ place within. commits_stand editors readers (get_or editors place 0) place (commit_told editors ready.numbers place within) fates c.entries;
  draws = draws_stand editors readers fates c.entries;
  opens = λ reader low high. opens_stand editors readers reader low high fates c.entries (rising_by reader (draws_of c) readers ready.parts.apart ready.parts.in_order);
  own = λ place p. own_of readers place p ready.parts.apart;
}
