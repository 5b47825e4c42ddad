-- One entry more of a merge.
use Rattle.history_merge.proofs.Words.{◌≡◌, ℕ, zero, suc, ◌+◌, ◌<◌, ◌≤◌, true, List, [], ◌∷◌, ◌++◌, length, drop, get_or, Result, sym, ap, ◌∙◌, refl, subst, arith, append_assoc, append-nil, flat_map, range_with_len, count_by, get_or-drop, drop_all, Edit, Fate, is_draw, Refusal, Entry, ReaderView, Step, Draw, Reply, Each, event_of, opens_at, merge_entries, merge_of, IsPlaced, AreParts, WaitingFields, waited_by, opened_at, AllClimb, HaveTold}
use Rattle.generation_catalogue.specs.declared.entry.Entry.TheVariants as entries
use Rattle.carousel_world.specs.declared.event.Reply.TheVariants as replies
use Rattle.history_merge.proofs.Lists.{count_more, count_same}
use Rattle.history_merge.proofs.Turns.{left_at, all_by, all_climb}

drops : {A : Type 0} (k : ℕ) (xs : List A) → drop (suc k) xs ≡ drop 1 (drop k xs)
drops zero xs = refl
drops (suc k) [] = refl
drops (suc k) (x ∷ xs) = drops k xs

module _ (es : List Entry) (fates : List (List Fate)) (editors : List ℕ) (readers : List ReaderView) where
  abbrev rest : ℕ → ℕ → List (Step × Reply)
  rest k i = merge_entries editors readers k (drop k fates) (drop i es)

  -- the entries before this one are told, with the opens after each draw among them
  pub record IsMerging (i k : ℕ) (waiting : List WaitingFields) (told : List (Step × Reply)) : Type 0 where
    pub so_far : told ++ rest k i ≡ merge_of editors readers fates es
    pub drawn : k + count_by is_draw (drop i es) ≡ length fates
    pub few : k ≤ i
    pub placed : Each (IsPlaced (length editors)) (drop i es)
    pub climb : AllClimb (suc k) waiting
    pub later : (j : ℕ) → k < j → flat_map (opened_at j) waiting ≡ opens_at readers j

  pub parts_climb : AreParts es fates editors readers → (waiting : List WaitingFields) → waiting ≡ flat_map (waited_by readers) (range_with_len 1 64) → AllClimb 0 waiting
  parts_climb parts waiting e = subst (AllClimb 0) (sym e) (all_climb (count_by is_draw es) readers (range_with_len 1 64) parts.in_order)

  pub merge_begins : AreParts es fates editors readers → (before waiting : List WaitingFields) (told : List (Step × Reply)) → before ≡ flat_map (waited_by readers) (range_with_len 1 64)
      → HaveTold 0 before waiting [] told → IsMerging 0 0 waiting told
  merge_begins parts before waiting told is left = record {
    so_far = ap (λ l. l ++ rest 0 0) (left.told ∙ at 0);
    drawn = (let d = parts.drawn in omega arith);
    few = omega arith;
    placed = parts.placed;
    climb = left.climb;
    later = λ j less. left.later j less ∙ at j;
  }
    where
      at : (j : ℕ) → flat_map (opened_at j) before ≡ opens_at readers j
      at j = ap (flat_map (opened_at j)) is ∙ all_by j readers (range_with_len 1 64)

  pub placed_at : (i k : ℕ) (waiting : List WaitingFields) (told : List (Step × Reply)) (e : Entry) → i < length es → e ≡ get_or es i e → IsMerging i k waiting told → IsPlaced (length editors) e
  placed_at i k waiting told e less is h = (subst (Each (IsPlaced (length editors))) (left_at es i e less is) h.placed).0

  pub drawn_at : (i k : ℕ) (waiting : List WaitingFields) (told : List (Step × Reply)) (e : Entry) → i < length es → e ≡ get_or es i e → is_draw e ≡ true → IsMerging i k waiting told → k < length fates
  drawn_at i k waiting told e less is d h =
      let c : count_by is_draw (drop i es) ≡ suc (count_by is_draw (drop (i + 1) es)) = ap (count_by is_draw) (left_at es i e less is) ∙ count_more is_draw e (drop (i + 1) es) d in
      let all = h.drawn in omega arith

  pub with_commit : (i k : ℕ) (waiting : List WaitingFields) (told new : List (Step × Reply)) (editor : ℕ) (edits : List Edit) (outcome : Result ℕ Refusal) (x : Step × Reply) → i < length es
      → entries.Commit editor edits outcome ≡ get_or es i (entries.Commit editor edits outcome) → x ≡ event_of editors (entries.Commit editor edits outcome) [] → new ≡ told ++ x ∷ []
      → IsMerging i k waiting told → IsMerging (i + 1) k waiting new
  with_commit i k waiting told new editor edits outcome x less is same n h = let e = entries.Commit editor edits outcome in
      let next : drop i es ≡ e ∷ drop (i + 1) es = left_at es i e less is in
      let c : count_by is_draw (drop i es) ≡ count_by is_draw (drop (i + 1) es) = ap (count_by is_draw) next ∙ count_same is_draw e (drop (i + 1) es) refl in
      let all = h.drawn in let low = h.few in
      let here : Each (IsPlaced (length editors)) (e ∷ drop (i + 1) es) = subst (Each (IsPlaced (length editors))) next h.placed in record {
        so_far = ap (λ l. l ++ rest k (i + 1)) n ∙ append_assoc told (x ∷ []) (rest k (i + 1)) ∙ ap (λ y. told ++ y ∷ rest k (i + 1)) same
            ∙ ap (λ l. told ++ merge_entries editors readers k (drop k fates) l) (sym next) ∙ h.so_far;
        drawn = omega arith;
        few = omega arith;
        placed = here.1;
        climb = h.climb;
        later = h.later;
      }

  pub with_draw : (i k : ℕ) (waiting after : List WaitingFields) (told mid new : List (Step × Reply)) (asked generation first count : ℕ) (fs : List Fate) → i < length es
      → entries.Draw asked generation first count ≡ get_or es i (entries.Draw asked generation first count) → fs ≡ get_or fates k []
      → mid ≡ told ++ (Draw asked fs, replies.Drawn generation first count) ∷ [] → HaveTold (k + 1) waiting after mid new
      → IsMerging i k waiting told → IsMerging (i + 1) (k + 1) after new
  with_draw i k waiting after told mid new asked generation first count fs less is under m left h = let e = entries.Draw asked generation first count in
      let next : drop i es ≡ e ∷ drop (i + 1) es = left_at es i e less is in
      let c : count_by is_draw (drop i es) ≡ suc (count_by is_draw (drop (i + 1) es)) = ap (count_by is_draw) next ∙ count_more is_draw e (drop (i + 1) es) refl in
      let all = h.drawn in let low = h.few in let more : k + 1 ≡ suc k = omega arith in let flat : k ≡ k + 0 = omega arith in
      let cut : drop (k + 1) fates ≡ drop 1 (drop k fates) = ap (λ (n : ℕ). drop n fates) more ∙ drops k fates in
      let own : fs ≡ get_or (drop k fates) 0 [] = under ∙ ap (λ (n : ℕ). get_or fates n []) flat ∙ sym (get_or-drop k fates 0 []) in
      let ops : List (Step × Reply) = opens_at readers (k + 1) in
      let drawn : List (Step × Reply) = (Draw asked fs, replies.Drawn generation first count) ∷ [] in
      let opened : flat_map (opened_at (k + 1)) waiting ≡ ops = h.later (k + 1) (omega arith) in
      let here : Each (IsPlaced (length editors)) (e ∷ drop (i + 1) es) = subst (Each (IsPlaced (length editors))) next h.placed in record {
        so_far = ap (λ l. l ++ rest (k + 1) (i + 1)) (left.told ∙ (λ j. m j ++ opened j))
            ∙ append_assoc (told ++ drawn) ops (rest (k + 1) (i + 1)) ∙ append_assoc told drawn (ops ++ rest (k + 1) (i + 1))
            ∙ (λ j. told ++ (Draw asked (own j), replies.Drawn generation first count) ∷ (opens_at readers (more j) ++ merge_entries editors readers (more j) (cut j) (drop (i + 1) es)))
            ∙ ap (λ l. told ++ merge_entries editors readers k (drop k fates) l) (sym next) ∙ h.so_far;
        drawn = omega arith;
        few = omega arith;
        placed = here.1;
        climb = subst (λ (n : ℕ). AllClimb (suc n) after) refl left.climb;
        later = λ j over. left.later j over ∙ h.later j (omega arith);
      }

  pub moved : (i k k' : ℕ) (ws ws' : List WaitingFields) (told : List (Step × Reply)) → k' ≡ k → ws' ≡ ws → IsMerging i k ws told → IsMerging i k' ws' told
  moved i k k' ws ws' told a b h = subst (λ (n : ℕ). IsMerging i n ws' told) (sym a) (subst (λ (l : List WaitingFields). IsMerging i k l told) (sym b) h)

  pub all_merged : (i k : ℕ) (waiting : List WaitingFields) (told : List (Step × Reply)) → length es ≤ i → IsMerging i k waiting told → told ≡ merge_of editors readers fates es
  all_merged i k waiting told past h =
      sym (append-nil told) ∙ ap (λ l. told ++ merge_entries editors readers k (drop k fates) l) (sym (drop_all i es past)) ∙ h.so_far
