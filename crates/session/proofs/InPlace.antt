-- The opens of a merge stand right after their draws, by their readers' numbers.
use Rattle.session.proofs.Words.{ℕ, zero, suc, ◌+◌, ◌≤◌, List, [], ◌∷◌, ◌++◌, map, filter, drop, sym, subst, arith, append_assoc, flat_map, range_with_len, Fate, Entry, ReaderView, OpenEntry, has_heard, opened_of, opens_of, merge_entries, merge_of, OpensInPlace}
use Rattle.generation_catalogue.specs.declared.entry.Entry.TheVariants as entries
use Rattle.history_merge.specs.Merging.{opens_by}
use Rattle.session.proofs.Telling.{Told}
use Rattle.session.proofs.Settled.{steps}

module _ (editors : List ℕ) (readers : List ReaderView) where
  -- those of one reader, and then what may follow
  of_reader : (reader least : ℕ) (os : List OpenEntry) (rest : List Told) → least ≤ reader → ((n : ℕ) → n ≤ reader → OpensInPlace n (steps rest))
      → OpensInPlace least (steps (map (opened_of reader) os ++ rest))
  of_reader reader least [] rest low follows = follows least low
  of_reader reader least (o ∷ os) rest low follows = (low, of_reader reader reader os rest (omega arith) follows)

  -- those of the readers from a on
  of_readers : (drawn least a n : ℕ) (rest : List Told) → least ≤ a → ((m : ℕ) → OpensInPlace m (steps rest))
      → OpensInPlace least (steps (flat_map (opens_of readers drawn) (range_with_len a n) ++ rest))
  of_readers drawn least a zero rest low follows = follows least
  of_readers drawn least a (suc n) rest low follows = subst (λ (l : List Told). OpensInPlace least (steps l))
      (sym (append_assoc (opens_of readers drawn a) (flat_map (opens_of readers drawn) (range_with_len (a + 1) n)) rest))
      (of_reader a least (filter (has_heard drawn) (opens_by a readers))
      (flat_map (opens_of readers drawn) (range_with_len (a + 1) n) ++ rest) low
      (λ m most. of_readers drawn m (a + 1) n rest (omega (arith, most)) follows))

  of_entries : (drawn least : ℕ) (fates : List (List Fate)) (es : List Entry) → OpensInPlace least (steps (merge_entries editors readers drawn fates es))
  of_entries drawn least fates [] = tt
  of_entries drawn least fates (entries.Commit editor edits outcome ∷ es) = of_entries drawn 65 fates es
  of_entries drawn least fates (entries.Draw asked generation first count ∷ es) =
      of_readers (suc drawn) 0 1 64 (merge_entries editors readers (suc drawn) (drop 1 fates) es) (omega arith) (λ m. of_entries (suc drawn) m (drop 1 fates) es)

  pub opens_in_place : (fates : List (List Fate)) (es : List Entry) → OpensInPlace 0 (steps (merge_of editors readers fates es))
  opens_in_place fates es = of_readers 0 0 1 64 (merge_entries editors readers 0 fates es) (omega arith) (λ m. of_entries 0 m fates es)
