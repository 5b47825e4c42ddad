-- Commits of puts and removals, and draws, are answered as they were.
use Rattle.std.proofs.Common.{◌≡◌, ℕ, suc, ◌+◌, ◌-◌, ◌%◌, ◌==◌, min, Bool, true, false, List, [], ◌∷◌, ◌++◌, length, map, take, drop, Option, Some, None, Result, Ok, Err, refl, sym, ap, ◌∙◌, subst}
use Rattle.std.specs.Prelude.{if◌then◌else◌, nat_lt, nat_le}
use Rattle.std.specs.Option.{option_map, unwrap_or}
use Rattle.std.specs.List.{All, AllByRecursion, fold, last_or}
use Rattle.std.proofs.lemmas.List.{map-append}
use Rattle.std.proofs.lemmas.List.Elements.{All-nil, All-cons, All-head, All-tail, All-append}
use Rattle.oc_bytes.specs.Outcome.{cap_at_u64}
use Rattle.path_tree.specs.Trees.{Tree, IsTree}
use Rattle.path_tree.specs.Edits.{IsEdit, after_edit, apply_all, apply_from, fault_of, unless}
use Rattle.path_tree.specs.Files.{FileTree, FileEdit, Put, Remove, FilesStayTheSame, of_files, as_edit, as_answer}
use Rattle.path_tree.specs.Files as trees
use Rattle.path_tree.specs.declared.tree.Edit.{Edit}
use Rattle.path_tree.specs.declared.tree.EditFault.{EditFault}
use Rattle.path_tree.proofs.CallerLemmas.{edit_keeps}
use Rattle.cycle_planner.specs.Cycle.{cycle_of}
use Rattle.cycle_planner.specs.declared.Item.{Item}
use Rattle.biop_object.specs.Names.{Layout}
use Rattle.generation.specs.Layouts.{generation_of, lines_in}
use Rattle.generation_catalogue.specs.History.{CatalogueState, draws_of, drawn_since, is_entered, unless_limit}
use Rattle.generation_catalogue.specs.History as today
use Rattle.generation_catalogue.specs.Calls as calls
use Rattle.generation_catalogue.specs.declared.entry.Entry.{Entry}
use Rattle.generation_catalogue.specs.declared.entry.Entry.TheVariants as entries
use Rattle.generation_catalogue.specs.declared.entry.Refusal.{Refusal}
use Rattle.generation_catalogue.specs.declared.entry.Refusal.TheVariants as refusals
use Rattle.generation_catalogue.specs.declared.journal.TheConstants.{MOST_PUT_BYTES, MOST_DRAWS}
use Rattle.dsi_dii.specs.declared.TheConstants.{LAST_GENERATION}
use Rattle.files_alone.specs.Histories.{FileEntry, Commit, Draw, FileCatalogue, as_entry, as_catalogue}
use Rattle.files_alone.specs.Histories as histories
use Rattle.files_alone.specs.Requests.{FileRequest, IsRequest, after_request, today_after}
use Rattle.files_alone.specs.Requests as requests
use Rattle.files_alone.specs.Laws.{IsFiled, IsSameGeneration, IsSameDraw, AnswersTheSame, RepliesStayTheSame}
use Rattle.files_alone.proofs.Mapped.{sums_alike}
use Rattle.files_alone.proofs.Sized.{limits_same}
use Rattle.files_alone.proofs.Followed.{empty_tree, generations_same}

-- ---- trees

last_mapped : (before : Option FileTree) (ts : List FileTree) → last_or (option_map of_files before) (map of_files ts) ≡ option_map of_files (last_or before ts)
last_mapped before [] = refl
last_mapped before (t ∷ ts) = last_mapped (Some t) ts

last_same : (ts : List FileTree) → today.last_tree (map of_files ts) ≡ of_files (histories.last_tree ts)
last_same ts = ap (λ (o : Option Tree). unwrap_or o []) (last_mapped None ts) ∙ by (last_or None ts) where
  by : (o : Option FileTree) → unwrap_or (option_map of_files o) [] ≡ of_files (unwrap_or o [])
  by (Some t) = refl
  by None = refl

-- what a list of edits makes of the last tree
applied_same : FilesStayTheSame → (ts : List FileTree) (es : List FileEdit) → apply_all (today.last_tree (map of_files ts)) (map as_edit es) ≡ as_answer (trees.apply_all (histories.last_tree ts) es)
applied_same law ts es = ap (λ (t : Tree). apply_all t (map as_edit es)) (last_same ts) ∙ law (histories.last_tree ts) es

or_same_is : (t : FileTree) (r : Result FileTree (ℕ × EditFault)) → today.or_same (of_files t) (as_answer r) ≡ of_files (histories.or_same t r)
or_same_is t (Ok u) = refl
or_same_is t (Err fault) = refl

tree_more : FilesStayTheSame → (ts : List FileTree) (es : List FileEdit) → today.with_tree (map of_files ts) (map as_edit es) ≡ map of_files (histories.with_tree ts es)
tree_more law ts es =
    let t = histories.last_tree ts in
    let r = trees.apply_all t es in
    ap (λ (u : Tree). map of_files ts ++ u ∷ [])
    ((λ i. today.or_same (last_same ts i) (applied_same law ts es i)) ∙ or_same_is t r)
    ∙ sym (map-append of_files ts (histories.or_same t r ∷ []))

trees_same : FilesStayTheSame → (ts : List FileTree) (es : List FileEntry) → today.trees_after (map of_files ts) (map as_entry es) ≡ map of_files (histories.trees_after ts es)
trees_same law ts [] = refl
trees_same law ts (Commit editor edits (Ok number) ∷ es) =
    ap (λ (us : List Tree). today.trees_after us (map as_entry es)) (tree_more law ts edits) ∙ trees_same law (histories.with_tree ts edits) es
trees_same law ts (Commit editor edits (Err refusal) ∷ es) = trees_same law ts es
trees_same law ts (Draw asked generation first count ∷ es) = trees_same law ts es

-- ---- each of them is a tree

last_filed : (before : Option FileTree) (ts : List FileTree) → ((t : FileTree) → before ≡ Some t → IsFiled t) → All IsFiled ts → (t : FileTree) → last_or before ts ≡ Some t → IsFiled t
last_filed before [] b h t e = b t e
last_filed before (u ∷ us) b h t e =
    last_filed (Some u) us (λ v is. let same : u ≡ v = cc in subst IsFiled same (All-head IsFiled u us h)) (All-tail IsFiled u us h) t e

last_is_tree : (ts : List FileTree) → All IsFiled ts → IsFiled (histories.last_tree ts)
last_is_tree ts h = by (last_or None ts) (last_filed None ts (λ t e. cc) h) where
  by : (o : Option FileTree) → ((t : FileTree) → o ≡ Some t → IsFiled t) → IsFiled (unwrap_or o [])
  by (Some t) f = f t refl
  by None f = empty_tree

edits_keep : (at : ℕ) (t u : Tree) (es : List Edit) → IsTree t → All IsEdit es → apply_from at t es ≡ Ok u → IsTree u
edits_keep at t u [] h valid e = let same : t ≡ u = cc in subst IsTree same h
edits_keep at t u (d ∷ es) h valid e =
    by (fault_of t d) refl (λ kept rest. edits_keep (suc at) (after_edit t d) u es kept (All-tail IsEdit d es valid) rest) e
  where
    by : (o : Option EditFault) → fault_of t d ≡ o → (IsTree (after_edit t d) → apply_from (suc at) (after_edit t d) es ≡ Ok u → IsTree u)
        → unless at o (apply_from (suc at) (after_edit t d) es) ≡ Ok u → IsTree u
    by None none more rest = more (edit_keeps t d h (All-head IsEdit d es valid) none) rest
    by (Some fault) is more rest = cc

-- the tree of one more commit
more_filed : FilesStayTheSame → (ts : List FileTree) (es : List FileEdit) → All IsFiled ts → All IsEdit (map as_edit es) → All IsFiled (histories.with_tree ts es)
more_filed law ts es h valid =
    let u = histories.or_same (histories.last_tree ts) (trees.apply_all (histories.last_tree ts) es) in
    All-append IsFiled ts (u ∷ []) h (All-cons IsFiled u [] (by (trees.apply_all (histories.last_tree ts) es) refl) (All-nil IsFiled))
  where
    by : (r : Result FileTree (ℕ × EditFault)) → trees.apply_all (histories.last_tree ts) es ≡ r → IsFiled (histories.or_same (histories.last_tree ts) r)
    by (Ok u) is = edits_keep 0 (of_files (histories.last_tree ts)) (of_files u) (map as_edit es) (last_is_tree ts h) valid (law (histories.last_tree ts) es ∙ ap as_answer is)
    by (Err fault) is = last_is_tree ts h

trees_more : (ts : List FileTree) (es fs : List FileEntry) → histories.trees_after ts (es ++ fs) ≡ histories.trees_after (histories.trees_after ts es) fs
trees_more ts [] fs = refl
trees_more ts (Commit editor edits (Ok number) ∷ es) fs = trees_more (histories.with_tree ts edits) es fs
trees_more ts (Commit editor edits (Err refusal) ∷ es) fs = trees_more ts es fs
trees_more ts (Draw asked generation first count ∷ es) fs = trees_more ts es fs

-- ---- bytes that were put

put_same : (e : FileEdit) → today.put_size (as_edit e) ≡ histories.put_size e
put_same (Put p b) = refl
put_same (Remove p) = refl

puts_same : (es : List FileEdit) → today.put_bytes (map as_edit es) ≡ histories.put_bytes es
puts_same es = sums_alike today.put_size histories.put_size as_edit es (each es) where
  each : (es : List FileEdit) → AllByRecursion (λ e. today.put_size (as_edit e) ≡ histories.put_size e) es
  each [] = tt
  each (e ∷ es) = (put_same e, each es)

entry_puts : (e : FileEntry) → today.put_bytes_of (as_entry e) ≡ histories.put_bytes_of e
entry_puts (Commit editor edits outcome) = puts_same edits
entry_puts (Draw asked generation first count) = refl

journal_same : (c : FileCatalogue) → today.journal_of (as_catalogue c) ≡ histories.journal_of c
journal_same c = sums_alike today.put_bytes_of histories.put_bytes_of as_entry c.entries (each c.entries) where
  each : (es : List FileEntry) → AllByRecursion (λ e. today.put_bytes_of (as_entry e) ≡ histories.put_bytes_of e) es
  each [] = tt
  each (e ∷ es) = (entry_puts e, each es)

-- ---- a commit

unless_same : (number : ℕ) (r : Result FileTree (ℕ × EditFault)) → ((u : FileTree) → r ≡ Ok u → IsFiled u) → today.unless_edit number (as_answer r) ≡ histories.unless_edit number r
unless_same number (Ok u) filed = ap (unless_limit number) (sym (limits_same u (filed u refl)))
unless_same number (Err fault) filed = refl

-- the outcome by the number, the journal and what the edits make
outcome_from : ℕ → ℕ → Result ℕ Refusal → Result ℕ Refusal
outcome_from number total made =
    if number == LAST_GENERATION then Err (refusals.SeasonFull LAST_GENERATION)
    else (if nat_lt MOST_PUT_BYTES total then Err (refusals.JournalFull (cap_at_u64 total)) else made)

module _ (law : FilesStayTheSame) (c : FileCatalogue) (filed : All IsFiled (histories.trees_of c)) where
  all_trees : today.trees_of (as_catalogue c) ≡ map of_files (histories.trees_of c)
  all_trees = trees_same law [] c.entries

  current : IsSameGeneration (histories.current_of c) (today.current_of (as_catalogue c))
  current =
      subst (λ (ts : List Tree). IsSameGeneration (histories.current_of c) (generation_of c.carousel ts)) (sym all_trees)
      (generations_same c.carousel (histories.trees_of c) filed)

  outcome : (es : List FileEdit) → All IsEdit (map as_edit es) → histories.outcome_of c es ≡ today.outcome_of (as_catalogue c) (map as_edit es)
  unfolding outcome_from
  outcome es valid =
      let t = histories.last_tree (histories.trees_of c) in
      let r = trees.apply_all t es in
      let applied : apply_all (today.last_tree (today.trees_of (as_catalogue c))) (map as_edit es) ≡ as_answer r =
      ap (λ (ts : List Tree). apply_all (today.last_tree ts) (map as_edit es)) all_trees ∙ applied_same law (histories.trees_of c) es in
      let kept : (u : FileTree) → r ≡ Ok u → IsFiled u = λ u e.
      edits_keep 0 (of_files t) (of_files u) (map as_edit es) (last_is_tree (histories.trees_of c) filed) valid (law t es ∙ ap as_answer e) in
      let number : (histories.current_of c).number ≡ (today.current_of (as_catalogue c)).number = current.number in
      let total : histories.journal_of c + histories.put_bytes es ≡ today.journal_of (as_catalogue c) + today.put_bytes (map as_edit es) =
      λ i. sym (journal_same c) i + sym (puts_same es) i in
      let made : histories.unless_edit ((histories.current_of c).number + 1) r ≡ today.unless_edit ((today.current_of (as_catalogue c)).number + 1) (apply_all (today.last_tree (today.trees_of (as_catalogue c))) (map as_edit es)) =
      sym (unless_same ((histories.current_of c).number + 1) r kept) ∙ (λ i. today.unless_edit (number i + 1) (sym applied i)) in
      λ i. outcome_from (number i) (total i) (made i)

  -- ---- a draw

  cycle : histories.cycle_in c ≡ today.cycle_in (as_catalogue c)
  cycle = ap (λ (l : Layout). cycle_of c.weights (lines_in l)) current.layout

  cursor_in : List Item → ℕ
  cursor_in items = drawn_since 0 (map as_entry c.entries) % length items

  cursor : histories.cursor_of c ≡ today.cursor_of (as_catalogue c)
  unfolding cursor_in
  cursor = ap cursor_in cycle

  drawn : (asked : ℕ) → histories.items_drawn c asked ≡ today.items_drawn (as_catalogue c) asked
  unfolding cursor_in
  drawn asked = ap (λ (items : List Item). take (min asked (length items - cursor_in items)) (drop (cursor_in items) items)) cycle

  count : (asked : ℕ) → histories.count_drawn c asked ≡ today.count_drawn (as_catalogue c) asked
  unfolding cursor_in
  count asked = ap (λ (items : List Item). min asked (length items - cursor_in items)) cycle

  draw : (asked : ℕ) → IsSameDraw (histories.batch_of c asked) (calls.batch_of (as_catalogue c) asked)
  draw asked = by (nat_le MOST_DRAWS (draws_of (as_catalogue c))) where
    by : (b : Bool) → IsSameDraw (if b then Err MOST_DRAWS else Ok (record { generation = histories.current_of c; first = histories.cursor_of c; items = histories.items_drawn c asked }))
        (if b then Err MOST_DRAWS else Ok (record { generation = today.current_of (as_catalogue c); first = today.cursor_of (as_catalogue c); items = today.items_drawn (as_catalogue c) asked }))
    by true = refl
    by false = record { generation = current; first = cursor; items = drawn asked }

  answers : AnswersTheSame c (as_catalogue c)
  answers = record { entries = refl; trees = sym all_trees; filed = filed; generation = current; commit = outcome; draw = draw }

  -- ---- the catalogue after them

  entry_more : (e : FileEntry) → as_catalogue (histories.with_entry c e) ≡ today.with_entry (as_catalogue c) (as_entry e)
  entry_more e = ap (λ (es : List Entry). record { carousel = c.carousel; weights = c.weights; entries = es }) (map-append as_entry c.entries (e ∷ []))

  entry_filed : (editor : ℕ) (es : List FileEdit) (o : Result ℕ Refusal) → All IsEdit (map as_edit es) → All IsFiled (histories.trees_of (histories.with_entry c (Commit editor es o)))
  entry_filed editor es o valid = subst (All IsFiled) (sym (trees_more [] c.entries (Commit editor es o ∷ []))) (by o) where
    by : (o : Result ℕ Refusal) → All IsFiled (histories.trees_after (histories.trees_of c) (Commit editor es o ∷ []))
    by (Ok number) = more_filed law (histories.trees_of c) es filed valid
    by (Err refusal) = filed

  after_same : (r : FileRequest) → IsRequest r → as_catalogue (after_request c r) ≡ today_after (as_catalogue c) r
  after_same (requests.Commit editor es) valid =
      by (is_entered (histories.outcome_of c es))
      ∙ (λ i. if is_entered (outcome es valid i) then today.with_entry (as_catalogue c) (entries.Commit editor (map as_edit es) (outcome es valid i)) else as_catalogue c)
    where
      by : (b : Bool) → as_catalogue (if b then histories.with_entry c (Commit editor es (histories.outcome_of c es)) else c)
          ≡ (if b then today.with_entry (as_catalogue c) (entries.Commit editor (map as_edit es) (histories.outcome_of c es)) else as_catalogue c)
      by true = entry_more (Commit editor es (histories.outcome_of c es))
      by false = refl
  after_same (requests.Draw asked) valid = by (nat_le MOST_DRAWS (draws_of (as_catalogue c))) where
    by : (b : Bool) → as_catalogue (if b then c else histories.with_entry c (Draw asked (histories.current_of c).number (histories.cursor_of c) (histories.count_drawn c asked)))
        ≡ (if b then as_catalogue c else today.with_draw (as_catalogue c) asked)
    by true = refl
    by false =
        entry_more (Draw asked (histories.current_of c).number (histories.cursor_of c) (histories.count_drawn c asked))
        ∙ (λ i. today.with_entry (as_catalogue c) (entries.Draw asked (current.number i) (cursor i) (count asked i)))

  after_filed : (r : FileRequest) → IsRequest r → All IsFiled (histories.trees_of (after_request c r))
  after_filed (requests.Commit editor es) valid = by (is_entered (histories.outcome_of c es)) where
    by : (b : Bool) → All IsFiled (histories.trees_of (if b then histories.with_entry c (Commit editor es (histories.outcome_of c es)) else c))
    by true = entry_filed editor es (histories.outcome_of c es) valid
    by false = filed
  after_filed (requests.Draw asked) valid = by (nat_le MOST_DRAWS (draws_of (as_catalogue c))) where
    by : (b : Bool) → All IsFiled (histories.trees_of (if b then c else histories.with_entry c (Draw asked (histories.current_of c).number (histories.cursor_of c) (histories.count_drawn c asked))))
    by true = filed
    by false = subst (All IsFiled) (sym (trees_more [] c.entries (Draw asked (histories.current_of c).number (histories.cursor_of c) (histories.count_drawn c asked) ∷ []))) filed

-- ---- one request after another

replies_from : FilesStayTheSame → (c : FileCatalogue) (d : CatalogueState) (rs : List FileRequest) → as_catalogue c ≡ d → All IsFiled (histories.trees_of c) → All IsRequest rs
    → AnswersTheSame (fold after_request c rs) (fold today_after d rs)
replies_from law c d [] same filed valid = subst (AnswersTheSame c) same (answers law c filed)
replies_from law c d (r ∷ rs) same filed valid =
    let first : IsRequest r = All-head IsRequest r rs valid in
    replies_from law (after_request c r) (today_after d r) rs (after_same law c filed r first ∙ ap (λ (x : CatalogueState). today_after x r) same)
    (after_filed law c filed r first) (All-tail IsRequest r rs valid)

pub replies_same : FilesStayTheSame → RepliesStayTheSame
replies_same law carousel weights rs valid =
    replies_from law (record { carousel = carousel; weights = weights; entries = [] }) (record { carousel = carousel; weights = weights; entries = [] }) rs refl (All-nil IsFiled) valid
