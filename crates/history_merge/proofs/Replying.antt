-- A session's merge is a run of the world.
use Rattle.history_merge.proofs.Words.{◌≡◌, ℕ, suc, ◌+◌, ◌==◌, Bool, true, false, cond, List, [], ◌∷◌, ◌++◌, length, map, filter, drop, take, get_or, Result, sym, ap, ◌∙◌, refl, subst, arith, append_assoc, append-nil, length-append, eqb-true, if◌then◌else◌, slice_get, slice_index_or, nat_le, flat_map, range_with_len, sum_by, sum_by-append, sum_by-cons, map-append, lt-leb, cond_both, Edit, Fate, CatalogueState, IsHistory, IsEntered, entry_after, is_draw, is_entered, draws_of, with_draw, with_entry, Refusal, Entry, ReaderView, OpenEntry, Step, Commit, Draw, Open, Drawing, drawing_of, WorldState, arrivals, commit_reply, initial_world, after_all, replies_to, reply_to, happens, Reply, Each, opened_of, has_heard, opens_by, opens_of, opens_at, merge_entries, merge_of, state_of, drawings_after, drawings_of, IsAnswered, AreAnswered, IsRunOfWorld, Bytes}
use Rattle.std.proofs.Math.Seq.{take-append_seam}
use Rattle.generation_catalogue.specs.declared.entry.Entry.TheVariants as entries
use Rattle.carousel_world.specs.Receptions.{label_after}
use Rattle.tuner_core.specs.LookBack.{answer_after}
use Rattle.section_stream.specs.Cuts.{candidates}
use Rattle.carousel_world.specs.declared.event.Reply.TheVariants as replies
use Rattle.history_merge.proofs.Lists.{each_append, get_next}
use Rattle.history_merge.proofs.Numbers.{numbered, draws_same, drawing_same, entry_same}

index_next : {A : Type 0} (xs ys : List A) (e : A) → slice_index_or (xs ++ e ∷ ys) (length xs) e ≡ e
index_next [] ys e = refl
index_next (x ∷ xs) ys e = index_next xs ys e

abbrev reply_in : Entry → Reply
reply_in (entries.Commit editor edits outcome) = commit_reply outcome
reply_in (entries.Draw asked generation first count) = replies.Drawn generation first count

abbrev entered_in : Entry → Bool
entered_in (entries.Commit editor edits outcome) = is_entered outcome
entered_in (entries.Draw asked generation first count) = true

-- what the history says of its next entry
module _ (c : CatalogueState) (history : IsHistory c) where
  next_is : (before : List Entry) (e : Entry) (es : List Entry) → c.entries ≡ before ++ e ∷ es → e ≡ entry_after (state_of c.carousel c.weights before) e
  next_is before e es all = history.each (length before) e (ap (λ (l : List Entry). slice_get l (length before)) all ∙ get_next before es e)
      ∙ ap (λ (l : List Entry). entry_after (state_of c.carousel c.weights l) e) (ap (take (length before)) all ∙ take-append_seam before (e ∷ es))

  next_entered : (before : List Entry) (e : Entry) (es : List Entry) → c.entries ≡ before ++ e ∷ es → IsEntered e
  next_entered before e es all = subst IsEntered (ap (λ (l : List Entry). slice_index_or l (length before) e) all ∙ index_next before es e)
      (history.entered (length before) e (let n = ap length all ∙ length-append before (e ∷ es) in omega arith))

module _ (c : CatalogueState) (history : IsHistory c) (editors : List ℕ) (all_fates : List (List Fate)) where
  abbrev all : List Drawing
  all = drawings_of c all_fates

  abbrev stored : List Entry → CatalogueState
  stored before = state_of c.carousel c.weights (map (numbered editors) before)

  abbrev world_at : List Entry → List Drawing → WorldState
  world_at before ds = record { catalogue = stored before; drawings = ds }

  -- of the entries these are left, after so many draws
  record Stands (before es : List Entry) (drawn : List Drawing) (k : ℕ) (fates : List (List Fate)) : Type 0 where
    entries : c.entries ≡ before ++ es
    many : length drawn ≡ k
    rest : all ≡ drawn ++ drawings_after c.carousel c.weights before fates es

  module _ (before : List Entry) (e : Entry) (es : List Entry) (at : c.entries ≡ before ++ e ∷ es) where
    is_next : numbered editors e ≡ entry_after (stored before) (numbered editors e)
    is_next = ap (numbered editors) (next_is c history before e es at) ∙ sym (entry_same editors c.carousel c.weights before e)

    stored_next : with_entry (stored before) (entry_after (stored before) (numbered editors e)) ≡ stored (before ++ e ∷ [])
    stored_next = ap (with_entry (stored before)) (sym is_next) ∙ ap (state_of c.carousel c.weights) (sym (map-append (numbered editors) before (e ∷ [])))

    further : c.entries ≡ (before ++ e ∷ []) ++ es
    further = at ∙ sym (append_assoc before (e ∷ []) es)

  after_commit : (before es : List Entry) (drawn : List Drawing) (editor : ℕ) (edits : List Edit) (outcome : Result ℕ Refusal) → c.entries ≡ before ++ entries.Commit editor edits outcome ∷ es
      → happens (world_at before drawn) (Commit (get_or editors editor 0) edits) ≡ world_at (before ++ entries.Commit editor edits outcome ∷ []) drawn
  after_commit before es drawn editor edits outcome at = let e = entries.Commit editor edits outcome in
      let entered = ap entered_in (sym (is_next before e es at)) ∙ next_entered c history before e es at in
      ap (λ (b : Bool). record { catalogue = if b then with_entry (stored before) (entry_after (stored before) (numbered editors e)) else stored before; drawings = drawn }) entered
      ∙ ap (λ (s : CatalogueState). record { catalogue = s; drawings = drawn }) (stored_next before e es at)

  module _ (before : List Entry) (asked generation first count : ℕ) (es : List Entry) (at : c.entries ≡ before ++ entries.Draw asked generation first count ∷ es) where
    abbrev this : Entry
    this = entries.Draw asked generation first count

    not_full : nat_le 16777216 (draws_of (stored before)) ≡ false
    not_full = let f : Entry → ℕ = λ e. cond {A = ℕ} (is_draw e) 1 0 in
        let a : draws_of (stored before) ≡ sum_by f before = draws_same editors c.carousel c.weights before in
        let b : draws_of c ≡ sum_by f before + sum_by f (this ∷ es) = ap (sum_by f) at ∙ sum_by-append f before (this ∷ es) in
        let d : sum_by f (this ∷ es) ≡ 1 + sum_by f es = sum_by-cons f this es in
        let few = history.draws in lt-leb 16777216 (draws_of (stored before)) (omega arith)

    draw_reply : (drawn : List Drawing) (fs : List Fate) → replies.Drawn generation first count ≡ reply_to (world_at before drawn) (Draw asked fs)
    draw_reply drawn fs = ap reply_in (is_next before this es at)
        ∙ ap (λ (b : Bool). if b then replies.DrawsFull 16777216 else reply_in (entry_after (stored before) this)) (sym not_full)

    after_draw : (drawn : List Drawing) (fs : List Fate)
        → happens (world_at before drawn) (Draw asked fs) ≡ world_at (before ++ this ∷ []) (drawn ++ drawing_of (state_of c.carousel c.weights before) asked fs ∷ [])
    after_draw drawn fs =
        ap (λ (b : Bool). if b then world_at before drawn else record { catalogue = with_draw (stored before) asked; drawings = drawn ++ drawing_of (stored before) asked fs ∷ [] }) not_full
        ∙ (λ i. record { catalogue = stored_next before this es at i; drawings = drawn ++ drawing_same editors c.carousel c.weights before asked fs i ∷ [] })

  -- each reply is that of the world before it, and all entries are in the world after the last
  abbrev Runs : WorldState → List (Step × Reply) → Type 0
  Runs w [] = w ≡ world_at c.entries all
  Runs w (x ∷ xs) = (x.1 ≡ reply_to w x.0) × Runs (happens w x.0) xs

  as_replies : (w : WorldState) (xs : List (Step × Reply)) → Runs w xs → map (λ x. x.1) xs ≡ replies_to w (map (λ x. x.0) xs)
  as_replies w [] h = refl
  as_replies w (x ∷ xs) h = λ i. h.0 i ∷ as_replies (happens w x.0) xs h.1 i

  at_end : (w : WorldState) (xs : List (Step × Reply)) → Runs w xs → after_all w (map (λ x. x.0) xs) ≡ world_at c.entries all
  at_end w [] h = h
  at_end w (x ∷ xs) h = at_end (happens w x.0) xs h.1

  -- an open leaves the world as it was
  module _ (passes : List ReaderView) (answered : AreAnswered all passes) where
    by_reader : (r : ℕ) (ps : List ReaderView) → AreAnswered all ps → Each (IsAnswered all) (opens_by r ps)
    by_reader r [] h = tt
    by_reader r (p ∷ ps) h = each_append (IsAnswered all) (if p.reader == r then p.opens else []) (opens_by r ps)
        (cond_both (p.reader == r) p.opens [] (Each (IsAnswered all)) (λ _. h.0) (λ _. tt)) (by_reader r ps h.1)

    module _ (before es : List Entry) (drawn : List Drawing) (k : ℕ) (fates : List (List Fate)) (s : Stands before es drawn k fates) where
      abbrev here : WorldState
      here = world_at before drawn

      on_open : (r : ℕ) (o : OpenEntry) → IsAnswered all o → o.draws ≡ k → replies.Opened o.label o.answer ≡ reply_to here (Open r o.path)
      on_open r o h e = let more = drawings_after c.carousel c.weights before fates es in
          let cut : take o.draws all ≡ drawn = (λ i. take (e i) (s.rest i)) ∙ ap (λ n. take n (drawn ++ more)) (sym s.many) ∙ take-append_seam drawn more in
          let heard : List Drawing → List Bytes = λ ds. candidates 256 (map (λ a. a.1) (arrivals ds)) in
          λ i. replies.Opened ((h.0 ∙ ap (λ ds. label_after (heard ds)) cut) i) ((h.1 ∙ ap (λ ds. answer_after (heard ds) o.path) cut) i)

      of_one : (r : ℕ) (os : List OpenEntry) (ys : List (Step × Reply)) → Each (IsAnswered all) os → Runs here ys → Runs here (map (opened_of r) (filter (has_heard k) os) ++ ys)
      of_one r [] ys h run = run
      of_one r (o ∷ os) ys h run = let l = filter (has_heard k) os in let rest = of_one r os ys h.1 run in
          cond_both (has_heard k o) (o ∷ l) l (λ l. Runs here (map (opened_of r) l ++ ys)) (λ is. (on_open r o h.0 (eqb-true o.draws k is), rest)) (λ _. rest)

      of_readers : (rs : List ℕ) (ys : List (Step × Reply)) → Runs here ys → Runs here (flat_map (opens_of passes k) rs ++ ys)
      of_readers [] ys run = run
      of_readers (r ∷ rs) ys run = let more = flat_map (opens_of passes k) rs in
          subst (Runs here) (sym (append_assoc (opens_of passes k r) more ys)) (of_one r (opens_by r passes) (more ++ ys) (by_reader r passes answered) (of_readers rs ys run))

    of_entries : (before es : List Entry) (drawn : List Drawing) (k : ℕ) (fates : List (List Fate)) → Stands before es drawn k fates → Runs (world_at before drawn) (merge_entries editors passes k fates es)
    of_entries before [] drawn k fates s = λ i. world_at ((sym (append-nil before) ∙ sym s.entries) i) ((sym (append-nil drawn) ∙ sym s.rest) i)
    of_entries before (entries.Commit editor edits outcome ∷ es) drawn k fates s = let e = entries.Commit editor edits outcome in
        let after : Stands (before ++ e ∷ []) es drawn k fates = record { entries = further before e es s.entries; many = s.many; rest = s.rest } in (
          ap reply_in (is_next before e es s.entries),
          subst (λ w. Runs w (merge_entries editors passes k fates es)) (sym (after_commit before es drawn editor edits outcome s.entries)) (of_entries (before ++ e ∷ []) es drawn k fates after),
        )
    of_entries before (entries.Draw asked generation first count ∷ es) drawn k fates s = let e = entries.Draw asked generation first count in let fs = get_or fates 0 [] in
        let now = drawing_of (state_of c.carousel c.weights before) asked fs in let later = merge_entries editors passes (suc k) (drop 1 fates) es in
        let after : Stands (before ++ e ∷ []) es (drawn ++ now ∷ []) (suc k) (drop 1 fates) = record {
          entries = further before e es s.entries;
          many = (let n = length-append drawn (now ∷ []) in let m = s.many in omega arith);
          rest = s.rest ∙ sym (append_assoc drawn (now ∷ []) (drawings_after c.carousel c.weights (before ++ e ∷ []) (drop 1 fates) es));
        } in (
          draw_reply before asked generation first count es s.entries drawn fs,
          subst (λ w. Runs w (opens_at passes (suc k) ++ later)) (sym (after_draw before asked generation first count es s.entries drawn fs))
              (of_readers (before ++ e ∷ []) es (drawn ++ now ∷ []) (suc k) (drop 1 fates) after (range_with_len 1 64) later (of_entries (before ++ e ∷ []) es (drawn ++ now ∷ []) (suc k) (drop 1 fates) after)),
        )

    abbrev merge : List (Step × Reply)
    merge = merge_of editors passes all_fates c.entries

    runs : Runs (initial_world c.carousel c.weights) merge
    runs = let begins : Stands [] c.entries [] 0 all_fates = record { entries = refl; many = refl; rest = refl } in
        of_readers [] c.entries [] 0 all_fates begins (range_with_len 1 64) (merge_entries editors passes 0 all_fates c.entries) (of_entries [] c.entries [] 0 all_fates begins)

    pub run_of : IsRunOfWorld c.carousel c.weights merge
    run_of = as_replies (initial_world c.carousel c.weights) merge runs

    pub world_at_end : after_all (initial_world c.carousel c.weights) (map (λ x. x.0) merge) ≡ world_at c.entries all
    world_at_end = at_end (initial_world c.carousel c.weights) merge runs
