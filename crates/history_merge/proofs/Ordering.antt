-- A merge without its opens is the entries; more entries after the others, and what each event of a merge is.
use Rattle.history_merge.proofs.Words.{◌≡◌, ℕ, suc, Bool, true, false, cond, List, [], ◌∷◌, ◌++◌, map, filter, drop, get_or, ap, ◌∙◌, refl, zero, ◌+◌, ◌≤◌, sym, arith, append_assoc, flat_map, range_with_len, count_by, filter-append, Fate, is_draw, Entry, Step, Reply, ReaderView, OpenEntry, event_of, opened_of, has_heard, opens_by, opens_of, opens_at, merge_entries, merge_of, drawn_with, Each, is_draw_step, is_commit_of, is_commit_at, MergesGrow}
use Rattle.generation_catalogue.specs.declared.entry.Entry.TheVariants as entries
use Rattle.history_merge.proofs.Lists.{filter_skips, count_more, count_same, each_append}

-- a test that no open passes
module _ (picked : Step × Reply → Bool) (not_opens : (r : ℕ) (o : OpenEntry) → picked (opened_of r o) ≡ false) (passes : List ReaderView) where
  no_opened : (r : ℕ) (os : List OpenEntry) → filter picked (map (opened_of r) os) ≡ []
  no_opened r [] = refl
  no_opened r (o ∷ os) = filter_skips picked (opened_of r o) (map (opened_of r) os) (not_opens r o) ∙ no_opened r os

  no_opens : (k : ℕ) (rs : List ℕ) → filter picked (flat_map (opens_of passes k) rs) ≡ []
  no_opens k [] = refl
  no_opens k (r ∷ rs) = filter-append picked (opens_of passes k r) (flat_map (opens_of passes k) rs)
      ∙ (λ i. no_opened r (filter (has_heard k) (opens_by r passes)) i ++ no_opens k rs i)

  past_opens : (k : ℕ) (xs : List (Step × Reply)) → filter picked (opens_at passes k ++ xs) ≡ filter picked xs
  past_opens k xs = filter-append picked (opens_at passes k) xs ∙ ap (λ (l : List (Step × Reply)). l ++ filter picked xs) (no_opens k (range_with_len 1 64))

mapped_if : {A B : Type 0} (g : A → B) (x : A) (l : List A) (b : Bool) → cond b (g x ∷ map g l) (map g l) ≡ map g (cond b (x ∷ l) l)
mapped_if g x l true = refl
mapped_if g x l false = refl

module _ (editors : List ℕ) (passes : List ReaderView) where
  -- the commits of one place, of which the events with this number tell
  module _ (number place : ℕ) (same : (e : Entry) (f : List Fate) → is_commit_of number (event_of editors e f).0 ≡ is_commit_at place e) where
    abbrev its : Step × Reply → Bool
    its x = is_commit_of number x.0

    abbrev alone : Entry → Step × Reply
    alone e = event_of editors e []

    commits_in : (k : ℕ) (fates : List (List Fate)) (es : List Entry) → filter its (merge_entries editors passes k fates es) ≡ map alone (filter (is_commit_at place) es)
    commits_in k fates [] = refl
    commits_in k fates (entries.Commit editor edits outcome ∷ es) = let e = entries.Commit editor edits outcome in
        (λ i. cond (same e [] i) (alone e ∷ commits_in k fates es i) (commits_in k fates es i)) ∙ mapped_if alone e (filter (is_commit_at place) es) (is_commit_at place e)
    commits_in k fates (entries.Draw asked generation first count ∷ es) =
        past_opens its (λ r o. refl) passes (suc k) (merge_entries editors passes (suc k) (drop 1 fates) es) ∙ commits_in (suc k) (drop 1 fates) es

    pub commits_stand : (fates : List (List Fate)) (es : List Entry) → filter its (merge_of editors passes fates es) ≡ map alone (filter (is_commit_at place) es)
    commits_stand fates es = past_opens its (λ r o. refl) passes 0 (merge_entries editors passes 0 fates es) ∙ commits_in 0 fates es

  abbrev drawn : Step × Reply → Bool
  drawn x = is_draw_step x.0

  draws_in : (k : ℕ) (fates : List (List Fate)) (es : List Entry) → filter drawn (merge_entries editors passes k fates es) ≡ drawn_with editors fates (filter is_draw es)
  draws_in k fates [] = refl
  draws_in k fates (entries.Commit editor edits outcome ∷ es) = draws_in k fates es
  draws_in k fates (entries.Draw asked generation first count ∷ es) =
      ap (λ (l : List (Step × Reply)). event_of editors (entries.Draw asked generation first count) (get_or fates 0 []) ∷ l)
      (past_opens drawn (λ r o. refl) passes (suc k) (merge_entries editors passes (suc k) (drop 1 fates) es) ∙ draws_in (suc k) (drop 1 fates) es)

  pub draws_stand : (fates : List (List Fate)) (es : List Entry) → filter drawn (merge_of editors passes fates es) ≡ drawn_with editors fates (filter is_draw es)
  draws_stand fates es = past_opens drawn (λ r o. refl) passes 0 (merge_entries editors passes 0 fates es) ∙ draws_in 0 fates es

-- ---- more entries after the others

drop_more : {A : Type 0} (n : ℕ) (xs : List A) → drop n (drop 1 xs) ≡ drop (suc n) xs
drop_more zero [] = refl
drop_more (suc n) [] = refl
drop_more n (x ∷ xs) = refl

module _ (editors : List ℕ) (passes : List ReaderView) where
  abbrev later : ℕ → List (List Fate) → List Entry → List (Step × Reply)
  later k fates es = merge_entries editors passes k fates es

  onwards_from : (k : ℕ) (fates : List (List Fate)) (es more : List Entry)
      → later k fates (es ++ more) ≡ later k fates es ++ later (k + count_by is_draw es) (drop (count_by is_draw es) fates) more
  onwards_from k fates [] more = λ i. later (same i) fates more
    where
      same : k ≡ k + 0
      same = omega arith
  onwards_from k fates (entries.Commit editor edits outcome ∷ es) more = let e = entries.Commit editor edits outcome in
      let n : count_by is_draw es ≡ count_by is_draw (e ∷ es) = sym (count_same is_draw e es refl) in
      ap (λ (l : List (Step × Reply)). event_of editors e [] ∷ l)
      (onwards_from k fates es more ∙ (λ i. later k fates es ++ later (k + n i) (drop (n i) fates) more))
  onwards_from k fates (entries.Draw asked generation first count ∷ es) more = let e = entries.Draw asked generation first count in
      let n = count_by is_draw es in let rest = later (suc k) (drop 1 fates) es in let one = count_more is_draw e es refl in
      let c : suc k + n ≡ k + count_by is_draw (e ∷ es) = omega arith in
      let f : drop n (drop 1 fates) ≡ drop (count_by is_draw (e ∷ es)) fates = drop_more n fates ∙ ap (λ (j : ℕ). drop j fates) (sym one) in
      ap (λ (l : List (Step × Reply)). event_of editors e (get_or fates 0 []) ∷ l)
      (ap (λ (l : List (Step × Reply)). opens_at passes (suc k) ++ l) (onwards_from (suc k) (drop 1 fates) es more ∙ (λ i. rest ++ later (c i) (f i) more))
      ∙ sym (append_assoc (opens_at passes (suc k)) rest (later (k + count_by is_draw (e ∷ es)) (drop (count_by is_draw (e ∷ es)) fates) more)))

pub onwards : MergesGrow
onwards editors passes fates es more = let n = count_by is_draw es in
    ap (λ (l : List (Step × Reply)). opens_at passes 0 ++ l) (onwards_from editors passes 0 fates es more)
    ∙ sym (append_assoc (opens_at passes 0) (merge_entries editors passes 0 fates es) (merge_entries editors passes (0 + n) (drop n fates) more))
    ∙ (λ i. merge_of editors passes fates es ++ merge_entries editors passes (zero_more i) (drop n fates) more)
  where
    zero_more : 0 + count_by is_draw es ≡ count_by is_draw es
    zero_more = omega arith

-- what is true of each open is true of each of those after so many draws
module _ (Q : Step × Reply → Type 0) (passes : List ReaderView) (opens : (r : ℕ) → 1 ≤ r → r ≤ 64 → (o : OpenEntry) → Q (opened_of r o)) where
  of_reader : (r : ℕ) → 1 ≤ r → r ≤ 64 → (os : List OpenEntry) → Each Q (map (opened_of r) os)
  of_reader r low high [] = tt
  of_reader r low high (o ∷ os) = (opens r low high o, of_reader r low high os)

  of_readers : (k a n : ℕ) → 1 ≤ a → a + n ≤ 65 → Each Q (flat_map (opens_of passes k) (range_with_len a n))
  of_readers k a zero low high = tt
  of_readers k a (suc n) low high = each_append Q (opens_of passes k a) (flat_map (opens_of passes k) (range_with_len (a + 1) n))
      (of_reader a low (omega arith) (filter (has_heard k) (opens_by a passes))) (of_readers k (a + 1) n (omega arith) (omega arith))

  pub each_opened : (k : ℕ) → Each Q (opens_at passes k)
  each_opened k = of_readers k 1 64 (omega arith) (omega arith)

  -- and with each entry's event, each of a merge
  module _ (editors : List ℕ) where
    of_entries : (k : ℕ) (fates : List (List Fate)) (es : List Entry) → Each (λ e. (f : List Fate) → Q (event_of editors e f)) es → Each Q (merge_entries editors passes k fates es)
    of_entries k fates [] h = tt
    of_entries k fates (entries.Commit editor edits outcome ∷ es) h = (h.0 [], of_entries k fates es h.1)
    of_entries k fates (entries.Draw asked generation first count ∷ es) h =
        (h.0 (get_or fates 0 []), each_append Q (opens_at passes (suc k)) (merge_entries editors passes (suc k) (drop 1 fates) es) (each_opened (suc k)) (of_entries (suc k) (drop 1 fates) es h.1))

    pub each_merged : (fates : List (List Fate)) (es : List Entry) → Each (λ e. (f : List Fate) → Q (event_of editors e f)) es → Each Q (merge_of editors passes fates es)
    each_merged fates es h = each_append Q (opens_at passes 0) (merge_entries editors passes 0 fates es) (each_opened 0) (of_entries 0 fates es h)
