-- One more entry, and what the catalogue keeps beside the entries.
use Rattle.std.proofs.Common.{◌≡◌, ◌≢◌, ℕ, zero, suc, ◌+◌, ◌<◌, ◌≤◌, Bool, true, false, List, [], ◌∷◌, ◌++◌, length, take, ◌%◌, Option, Some, None, Result, Ok, Err, MatchOption, slice_get, refl, ap, sym, ◌∙◌, subst, arith, eqb, ltb, ◌⊎◌, inl, inr, if◌then◌else◌, ◌==◌, cond}
use Rattle.std.specs.Bool.{⊤}
use Rattle.std.specs.Option.{unwrap_or}
use Rattle.std.specs.List.{fold, last_or}
use Rattle.std.proofs.lemmas.List.{take-append-le, take_at}
use Rattle.std.proofs.lemmas.List.Sums.{fold_push, sum_by_push}
use Rattle.std.proofs.lemmas.List.Elements.{All-push}
use Rattle.std.proofs.lemmas.List.{length-append}
use Rattle.std.proofs.Math.Nat.{zero-mod, mod-add-mod, mod_self, mod-eq_of_lt, add-zero}
use Rattle.std.proofs.lemmas.Option.{same_Some}
use Rattle.std.proofs.lemmas.Bool.{ne_eqb, le-ltb, eqb-false, eqb-true, ltb-false}
use Rattle.oc_bytes.specs.Outcome.{cap_at_u64}
use Rattle.path_tree.specs.Trees.{Tree}
use Rattle.path_tree.specs.Edits.{apply_all}
use Rattle.path_tree.specs.declared.tree.Edit.{Edit}
use Rattle.path_tree.specs.declared.tree.ApplyFault.{ApplyFault}
use Rattle.path_tree.specs.declared.tree.ApplyFault.TheVariants as apply_faults
use Rattle.path_tree.specs.Edits.{apply_cause}
use Rattle.generation.specs.Publication.{Passed, limit_of}
use Rattle.generation.specs.Limits.{check_of, unless_passed, limit_cause}
use Rattle.generation.specs.declared.limit.Limit.{Limit}
use Rattle.generation.specs.declared.limit.Limit.TheVariants as limits
use Rattle.generation.specs.Lawful.{IsPublishable, ArePublishable}
use Rattle.cycle_planner.specs.Cycle.{cycle_of}
use Rattle.cycle_planner.specs.declared.Item.{Item}
use Rattle.generation.specs.Layouts.{GenerationState, first_of, next_of, generation_of, lines_of}
use Rattle.generation_catalogue.specs.declared.entry.Refusal.{Refusal}
use Rattle.generation_catalogue.specs.declared.entry.Refusal.TheVariants as refusals
use Rattle.generation_catalogue.specs.declared.entry.Entry.{Entry}
use Rattle.generation_catalogue.specs.declared.entry.Entry.TheVariants as entries
use Rattle.generation_catalogue.specs.declared.entry.CommitFault.{CommitFault}
use Rattle.generation_catalogue.specs.History.{CatalogueState, put_bytes, put_bytes_of, is_draw, draws_of, drawn_since, cycle_in, cursor_of, count_drawn, with_draw, or_same, last_tree, with_tree, trees_after, trees_of, current_of, journal_of, refusal_of, unless_limit, unless_edit, outcome_of, is_entered, with_entry, entry_after, IsEntered, IsHistory}
use Rattle.generation_catalogue.specs.Requests.{commit_cause, of_edits, of_limit}
use Rattle.generation_catalogue.specs.Inner.Requests.{generation_after}

-- ---- the trees

pub trees_more : (es later : List Entry) (ts : List Tree) → trees_after ts (es ++ later) ≡ trees_after (trees_after ts es) later
trees_more [] later ts = refl
trees_more (entries.Commit e x (Ok m) ∷ es) later ts = trees_more es later (with_tree ts x)
trees_more (entries.Commit e x (Err r) ∷ es) later ts = trees_more es later ts
trees_more (entries.Draw a g f k ∷ es) later ts = trees_more es later ts

-- a generation's tree is the last of the trees that lead to it
tree_from : (ts : List Tree) (g : GenerationState) → (fold next_of g ts).tree ≡ unwrap_or (last_or (Some g.tree) ts) []
tree_from [] g = refl
tree_from (t ∷ ts) g = tree_from ts (next_of g t)

tree_of_generation : (carousel : ℕ) (ts : List Tree) → (generation_of carousel ts).tree ≡ last_tree ts
tree_of_generation carousel [] = refl
tree_of_generation carousel (t ∷ ts) = tree_from ts (next_of (first_of carousel) t)

pub current_tree : (c : CatalogueState) → (current_of c).tree ≡ last_tree (trees_of c)
current_tree c = tree_of_generation c.carousel (trees_of c)

pub current_accepted : (c : CatalogueState) (editor : ℕ) (edits : List Edit) (n : ℕ) → current_of (with_entry c (entries.Commit editor edits (Ok n))) ≡ generation_after c edits
current_accepted c editor edits n =
    ap (generation_of c.carousel) (trees_more c.entries (entries.Commit editor edits (Ok n) ∷ []) [])
    ∙ fold_push next_of (first_of c.carousel) (trees_of c) (or_same (last_tree (trees_of c)) (apply_all (last_tree (trees_of c)) edits))

pub current_refused : (c : CatalogueState) (editor : ℕ) (edits : List Edit) (r : Refusal) → current_of (with_entry c (entries.Commit editor edits (Err r))) ≡ current_of c
current_refused c editor edits r = ap (generation_of c.carousel) (trees_more c.entries (entries.Commit editor edits (Err r) ∷ []) [])

current_drawn : (c : CatalogueState) (asked generation first count : ℕ) → current_of (with_entry c (entries.Draw asked generation first count)) ≡ current_of c
current_drawn c asked generation first count = ap (generation_of c.carousel) (trees_more c.entries (entries.Draw asked generation first count ∷ []) [])

-- a generation's number is how many trees lead to it
number_from : (ts : List Tree) (g : GenerationState) → (fold next_of g ts).number ≡ g.number + length ts
number_from [] g = omega arith
number_from (t ∷ ts) g = let h = number_from ts (next_of g t) in omega (arith, h)

pub number_is : (c : CatalogueState) → (current_of c).number ≡ length (trees_of c)
number_is c = let h = number_from (trees_of c) (first_of c.carousel) in omega (arith, h)

-- ---- the draws, and the cursor

abbrev pub cycle_for : List ℕ → GenerationState → List Item
cycle_for weights g = cycle_of weights (lines_of g)

draws_more : (c : CatalogueState) (e : Entry) → draws_of (with_entry c e) ≡ draws_of c + cond (is_draw e) 1 0
draws_more c e = fold_push (λ (n : ℕ) (x : Entry). n + cond (is_draw x) 1 0) 0 c.entries e

since_more : (es later : List Entry) (n : ℕ) → drawn_since n (es ++ later) ≡ drawn_since (drawn_since n es) later
since_more [] later n = refl
since_more (entries.Commit e x (Ok m) ∷ es) later n = since_more es later 0
since_more (entries.Commit e x (Err q) ∷ es) later n = since_more es later n
since_more (entries.Draw a g f c ∷ es) later n = since_more es later (n + c)

pub cursor_accepted : (c : CatalogueState) (editor : ℕ) (edits : List Edit) (n : ℕ) → cursor_of (with_entry c (entries.Commit editor edits (Ok n))) ≡ 0
cursor_accepted c editor edits n =
    let after = with_entry c (entries.Commit editor edits (Ok n)) in
    ap (λ (x : ℕ). x % length (cycle_in after)) (since_more c.entries (entries.Commit editor edits (Ok n) ∷ []) 0) ∙ zero-mod (length (cycle_in after))

cursor_refused : (c : CatalogueState) (editor : ℕ) (edits : List Edit) (r : Refusal) → cursor_of (with_entry c (entries.Commit editor edits (Err r))) ≡ cursor_of c
cursor_refused c editor edits r =
    ap (λ (x : ℕ). x % length (cycle_in (with_entry c (entries.Commit editor edits (Err r))))) (since_more c.entries (entries.Commit editor edits (Err r) ∷ []) 0)
    ∙ ap (λ (g : GenerationState). drawn_since 0 c.entries % length (cycle_for c.weights g)) (current_refused c editor edits r)

-- the cursor is below the cycle's length
pub cursor_below : (c : CatalogueState) → cursor_of c < length (cycle_in c)
cursor_below c = omega arith

-- what a draw adds to the cursor stays within the cycle
modulo_next : (n d length : ℕ) → 0 < length → n % length + d ≤ length → (n + d) % length ≡ (if n % length + d == length then 0 else n % length + d)
modulo_next n d length some within = sym (mod-add-mod n length d) ∙ by (eqb (n % length + d) length) refl where
  by : (b : Bool) → eqb (n % length + d) length ≡ b → (n % length + d) % length ≡ (if b then 0 else n % length + d)
  by true e = ap (λ (x : ℕ). x % length) (eqb-true (n % length + d) length e) ∙ mod_self length
  by false e = let ne = eqb-false (n % length + d) length e in mod-eq_of_lt {n = n % length + d} {m = length} (omega (arith, ne, within))

pub cursor_drawn : (c : CatalogueState) (asked generation first count : ℕ) → cursor_of c + count ≤ length (cycle_in c)
    → cursor_of (with_entry c (entries.Draw asked generation first count)) ≡ (if cursor_of c + count == length (cycle_in c) then 0 else cursor_of c + count)
cursor_drawn c asked generation first count within =
    ap (λ (x : ℕ). x % length (cycle_in (with_entry c (entries.Draw asked generation first count)))) (since_more c.entries (entries.Draw asked generation first count ∷ []) 0)
    ∙ ap (λ (g : GenerationState). (drawn_since 0 c.entries + count) % length (cycle_for c.weights g)) (current_drawn c asked generation first count)
    ∙ modulo_next (drawn_since 0 c.entries) count (length (cycle_in c)) (omega arith) within

-- ---- what is admitted

by_tests : (season full : Bool) (n : ℕ) (rest : Result ℕ Refusal)
    → is_entered (if season then Err (refusals.SeasonFull 16383) else (if full then Err (refusals.JournalFull n) else rest)) ≡ true
    → (season ≡ false) × (full ≡ false)
by_tests true full n rest e = cc
by_tests false true n rest e = cc
by_tests false false n rest e = (refl, refl)

pub admitted : (c : CatalogueState) (edits : List Edit) → is_entered (outcome_of c edits) ≡ true → ((current_of c).number ≢ 16383) × (journal_of c + put_bytes edits ≤ 536870912)
admitted c edits e =
    let tests = by_tests (eqb (current_of c).number 16383) (ltb 536870912 (journal_of c + put_bytes edits)) (cap_at_u64 (journal_of c + put_bytes edits)) (unless_edit ((current_of c).number + 1) (apply_all (last_tree (trees_of c)) edits)) e in
    (eqb-false (current_of c).number 16383 tests.0, ltb-false 536870912 (journal_of c + put_bytes edits) tests.1)

pub outcome_is : (c : CatalogueState) (edits : List Edit) → (current_of c).number ≢ 16383 → journal_of c + put_bytes edits ≤ 536870912
    → outcome_of c edits ≡ unless_edit ((current_of c).number + 1) (apply_all (current_of c).tree edits)
outcome_is c edits ne h =
    rw (ne_eqb (current_of c).number 16383 ne, le-ltb 536870912 (journal_of c + put_bytes edits) h)
    (ap (λ (t : Tree). unless_edit ((current_of c).number + 1) (apply_all t edits)) (sym (current_tree c)))

no_limit : (o : Option Passed) → unless_passed o ≡ Ok 0 → o ≡ None
no_limit None e = refl
no_limit (Some p) e = cc

this_limit : (o : Option Passed) (p : Passed) → unless_passed o ≡ Err p → o ≡ Some p
this_limit None p e = cc
this_limit (Some q) p e = cc

pub passes : (t : Tree) → check_of t ≡ Ok 0 → limit_of t ≡ None
passes t e = no_limit (limit_of t) e

-- what was looked at before the edits are applied: neither the season nor the journal is full, and the tree is the current one
pub record IsLookedAt (c : CatalogueState) (edits : List Edit) (old : Tree) : Type 0 where
  pub number : (current_of c).number ≢ 16383
  pub total : journal_of c + put_bytes edits ≤ 536870912
  pub tree : old ≡ (current_of c).tree

pub seen : (s c : CatalogueState) (now g : GenerationState) → g ≡ now → now ≡ current_of s → s ≡ c → g ≡ current_of c
seen s c now g e f h = e ∙ f ∙ ap (λ (x : CatalogueState). current_of x) h

pub looked_at : (c : CatalogueState) (edits : List Edit) (g h : GenerationState) (n total : ℕ) (tree : Tree) → g ≡ current_of c → n ≡ g.number → n ≢ 16383
    → total ≡ cap_at_u64 (journal_of c + put_bytes edits) → total ≤ 536870912 → h ≡ current_of c → tree ≡ h.tree → IsLookedAt c edits tree
looked_at c edits g h n total tree e m ne t l f k = record {
  number = λ q. ne (m ∙ ap (λ (x : GenerationState). x.number) e ∙ q);
  total = omega (arith, t, l);
  tree = k ∙ ap (λ (x : GenerationState). x.tree) f;
}

outcome_looked : (c : CatalogueState) (edits : List Edit) (tree : Tree) → IsLookedAt c edits tree → outcome_of c edits ≡ unless_edit ((current_of c).number + 1) (apply_all tree edits)
outcome_looked c edits tree l = outcome_is c edits l.number l.total ∙ ap (λ (t : Tree). unless_edit ((current_of c).number + 1) (apply_all t edits)) (sym l.tree)

pub outcome_accepted : (c : CatalogueState) (edits : List Edit) (tree t : Tree) → IsLookedAt c edits tree → apply_all tree edits ≡ Ok t → check_of t ≡ Ok 0
    → (outcome_of c edits ≡ Ok ((current_of c).number + 1)) × (next_of (current_of c) t ≡ generation_after c edits)
outcome_accepted c edits tree t l a p =
    let accepted : unless_edit ((current_of c).number + 1) (apply_all tree edits) ≡ Ok ((current_of c).number + 1) =
    ap (unless_edit ((current_of c).number + 1)) a ∙ ap (unless_limit ((current_of c).number + 1)) (passes t p) in
    let new : or_same (last_tree (trees_of c)) (apply_all (last_tree (trees_of c)) edits) ≡ t =
    ap (λ (old : Tree). or_same old (apply_all old edits)) (sym (l.tree ∙ current_tree c)) ∙ ap (or_same tree) a in
    (outcome_looked c edits tree l ∙ accepted, ap (next_of (current_of c)) (sym new))

-- the next generation, by what `next` says of the current one
pub number_accepted : (c : CatalogueState) (edits : List Edit) (tree t : Tree) (g next : GenerationState) → IsLookedAt c edits tree → apply_all tree edits ≡ Ok t → check_of t ≡ Ok 0
    → g ≡ current_of c → next ≡ next_of g t → outcome_of c edits ≡ Ok next.number
number_accepted c edits tree t g next l a p e n =
    (outcome_accepted c edits tree t l a p).0 ∙ ap (λ (x : GenerationState). Ok (x.number + 1)) (sym e) ∙ ap (λ (x : GenerationState). Ok x.number) (sym n)

pub next_accepted : (c : CatalogueState) (edits : List Edit) (tree t : Tree) (g next : GenerationState) → IsLookedAt c edits tree → apply_all tree edits ≡ Ok t → check_of t ≡ Ok 0
    → g ≡ current_of c → next ≡ next_of g t → next ≡ generation_after c edits
next_accepted c edits tree t g next l a p e n = n ∙ ap (λ (x : GenerationState). next_of x t) e ∙ (outcome_accepted c edits tree t l a p).1

pub outcome_at_edit : (c : CatalogueState) (edits : List Edit) (tree : Tree) (fault : ApplyFault) (answer : CommitFault) → IsLookedAt c edits tree
    → MatchOption (apply_cause fault) ⊤ (λ f. apply_all tree edits ≡ Err f) → answer ≡ of_edits fault
    → MatchOption (commit_cause answer) ⊤ (λ r. outcome_of c edits ≡ Err r)
outcome_at_edit c edits tree fault answer l m e = subst (λ (a : CommitFault). MatchOption (commit_cause a) ⊤ (λ r. outcome_of c edits ≡ Err r)) (sym e) (by_fault fault m) where
  by_fault : (f : ApplyFault) → MatchOption (apply_cause f) ⊤ (λ x. apply_all tree edits ≡ Err x) → MatchOption (commit_cause (of_edits f)) ⊤ (λ r. outcome_of c edits ≡ Err r)
  by_fault (apply_faults.Edit place f) a = outcome_looked c edits tree l ∙ ap (unless_edit ((current_of c).number + 1)) a
  by_fault apply_faults.NoMemory a = tt

pub outcome_at_limit : (c : CatalogueState) (edits : List Edit) (tree t : Tree) (limit : Limit) (answer : CommitFault) → IsLookedAt c edits tree
    → apply_all tree edits ≡ Ok t → MatchOption (limit_cause limit) ⊤ (λ f. check_of t ≡ Err f) → answer ≡ of_limit limit
    → MatchOption (commit_cause answer) ⊤ (λ r. outcome_of c edits ≡ Err r)
outcome_at_limit c edits tree t limit answer l a m e = subst (λ (x : CommitFault). MatchOption (commit_cause x) ⊤ (λ r. outcome_of c edits ≡ Err r)) (sym e) (by_limit limit m) where
  refused : (p : Passed) → check_of t ≡ Err p → outcome_of c edits ≡ Err (refusal_of p)
  refused p q =
      outcome_looked c edits tree l ∙ ap (unless_edit ((current_of c).number + 1)) a
      ∙ ap (unless_limit ((current_of c).number + 1)) (this_limit (limit_of t) p q)

  by_limit : (l : Limit) → MatchOption (limit_cause l) ⊤ (λ x. check_of t ≡ Err x) → MatchOption (commit_cause (of_limit l)) ⊤ (λ r. outcome_of c edits ≡ Err r)
  by_limit (limits.TooManyObjects n) q = refused _ q
  by_limit (limits.FolderTooLarge p) q = refused _ q
  by_limit (limits.TooManyBytes n) q = refused _ q
  by_limit (limits.TooManyModules n) q = refused _ q
  by_limit limits.NoMemory q = tt

-- ---- one more entry

get_push : {X : Type 0} (xs : List X) (x y : X) (k : ℕ) → slice_get (xs ++ x ∷ []) k ≡ Some y → ((k < length xs) × (slice_get xs k ≡ Some y)) ⊎ ((k ≡ length xs) × (x ≡ y))
get_push [] x y zero e = inr (refl, same_Some x y e)
get_push [] x y (suc k) e = cc
get_push (z ∷ xs) x y zero e = inl (omega arith, e)
get_push (z ∷ xs) x y (suc k) e = later (get_push xs x y k e) where
  later : ((k < length xs) × (slice_get xs k ≡ Some y)) ⊎ ((k ≡ length xs) × (x ≡ y)) → ((suc k < suc (length xs)) × (slice_get xs k ≡ Some y)) ⊎ ((suc k ≡ suc (length xs)) × (x ≡ y))
  later (inl h) = inl (omega (arith, h.0), h.1)
  later (inr h) = inr (ap suc h.0, h.1)

pub history_more : (c : CatalogueState) (new : Entry) → new ≡ entry_after c new → IsEntered new → draws_of (with_entry c new) ≤ 16777216
    → ArePublishable c.carousel (trees_of (with_entry c new)) → IsHistory c → IsHistory (with_entry c new)
history_more c new itself e few published h = record {
  weights = h.weights;
  entered = All-push IsEntered c.entries new h.entered e;
  each = λ k x g. by_place k x (get_push c.entries new x k g);
  draws = few;
  published = published;
} where
  after_first : ℕ → Entry → Entry
  after_first k x = entry_after (record c { entries = take k (c.entries ++ new ∷ []) }) x

  by_place : (k : ℕ) (x : Entry) → ((k < length c.entries) × (slice_get c.entries k ≡ Some x)) ⊎ ((k ≡ length c.entries) × (new ≡ x)) → x ≡ after_first k x
  by_place k x (inl old) =
      let before : take k (c.entries ++ new ∷ []) ≡ take k c.entries = take-append-le k c.entries (new ∷ []) (omega (arith, old.0)) in
      h.each k x old.1 ∙ ap (λ (es : List Entry). entry_after (record c { entries = es }) x) (sym before)
  by_place k x (inr last) =
      let before : take k (c.entries ++ new ∷ []) ≡ c.entries = ap (λ (n : ℕ). take n (c.entries ++ new ∷ [])) last.0 ∙ take_at c.entries (new ∷ []) (length c.entries) refl in
      let here : new ≡ entry_after (record c { entries = take k (c.entries ++ new ∷ []) }) new = itself ∙ ap (λ (es : List Entry). entry_after (record c { entries = es }) new) (sym before) in
      let P : Entry → Type 0 = λ z. z ≡ after_first k z in
      subst P last.1 here

journal_more : (c : CatalogueState) (e : Entry) → journal_of (with_entry c e) ≡ journal_of c + put_bytes_of e
journal_more c e = sum_by_push put_bytes_of c.entries e

same_published : (carousel : ℕ) (ts us : List Tree) → ts ≡ us → ArePublishable carousel us → ArePublishable carousel ts
same_published carousel ts us e p = subst (ArePublishable carousel) (sym e) p

-- ---- what is kept beside the entries follows from them

pub record Follows (c : CatalogueState) (now : GenerationState) (bytes many place : ℕ) : Type 0 where
  pub current : now ≡ current_of c
  pub put_bytes : bytes ≡ journal_of c
  pub draws : many ≡ draws_of c
  pub cursor : place ≡ cursor_of c
  pub number : (current_of c).number ≤ 16383
  pub history : IsHistory c

pub follows_accepted : (c : CatalogueState) (editor : ℕ) (edits : List Edit) (n total : ℕ) (now next : GenerationState) (bytes draws cursor : ℕ)
    → outcome_of c edits ≡ Ok n → next ≡ generation_after c edits → total ≡ cap_at_u64 (journal_of c + put_bytes edits) → IsPublishable next.tree → Follows c now bytes draws cursor
    → Follows (with_entry c (entries.Commit editor edits (Ok n))) next total draws 0
follows_accepted c editor edits n total now next bytes draws cursor o g t whole_tree f =
    let new = entries.Commit editor edits (Ok n) in
    let entered : is_entered (outcome_of c edits) ≡ true = rw o refl in
    let within = admitted c edits entered in
    let whole : total ≡ journal_of c + put_bytes edits = omega (arith, t, within.1) in
    let counted : draws_of (with_entry c new) ≡ draws_of c = draws_more c new ∙ add-zero (draws_of c) in
    let more : journal_of (with_entry c new) ≡ journal_of c + put_bytes edits = journal_more c new in
    let was : length (trees_of c) ≤ 16382 = let e = number_is c in omega (arith, e, f.number, within.0) in
    let published : ArePublishable c.carousel (trees_of (with_entry c new)) = same_published c.carousel (trees_of (with_entry c new)) (with_tree (trees_of c) edits) (trees_more c.entries (entries.Commit editor edits (Ok n) ∷ []) []) (record {
      carousel_id = f.history.published.carousel_id;
      few = let e = length-append (trees_of c) (or_same (last_tree (trees_of c)) (apply_all (last_tree (trees_of c)) edits) ∷ []) in omega (arith, e, was);
      each = All-push IsPublishable (trees_of c) (or_same (last_tree (trees_of c)) (apply_all (last_tree (trees_of c)) edits)) f.history.published.each (subst (λ (x : GenerationState). IsPublishable x.tree) g whole_tree);
    }) in
    record {
      current = g ∙ sym (current_accepted c editor edits n);
      put_bytes = whole ∙ sym more;
      draws = f.draws ∙ sym counted;
      cursor = sym (cursor_accepted c editor edits n);
      number = rw (current_accepted c editor edits n) (omega (arith, f.number, within.0));
      history = history_more c new (ap (λ (x : Result ℕ Refusal). entries.Commit editor edits x) (sym o)) refl (subst (λ (x : ℕ). x ≤ 16777216) (sym counted) f.history.draws) published f.history;
    }

pub follows_refused : (c : CatalogueState) (editor : ℕ) (edits : List Edit) (r : Refusal) (total : ℕ) (now : GenerationState) (bytes draws cursor : ℕ)
    → outcome_of c edits ≡ Err r → is_entered (Err r) ≡ true → total ≡ cap_at_u64 (journal_of c + put_bytes edits) → Follows c now bytes draws cursor
    → Follows (with_entry c (entries.Commit editor edits (Err r))) now total draws cursor
follows_refused c editor edits r total now bytes draws cursor o e t f =
    let new = entries.Commit editor edits (Err r) in
    let entered : is_entered (outcome_of c edits) ≡ true = rw o e in
    let within = admitted c edits entered in
    let whole : total ≡ journal_of c + put_bytes edits = omega (arith, t, within.1) in
    let counted : draws_of (with_entry c new) ≡ draws_of c = draws_more c new ∙ add-zero (draws_of c) in
    let more : journal_of (with_entry c new) ≡ journal_of c + put_bytes edits = journal_more c new in
    record {
      current = f.current ∙ sym (current_refused c editor edits r);
      put_bytes = whole ∙ sym more;
      draws = f.draws ∙ sym counted;
      cursor = f.cursor ∙ sym (cursor_refused c editor edits r);
      number = rw (current_refused c editor edits r) f.number;
      history = history_more c new (ap (λ (x : Result ℕ Refusal). entries.Commit editor edits x) (sym o)) e (subst (λ (x : ℕ). x ≤ 16777216) (sym counted) f.history.draws)
          (same_published c.carousel (trees_of (with_entry c new)) (trees_of c) (trees_more c.entries (entries.Commit editor edits (Err r) ∷ []) []) f.history.published) f.history;
    }

pub follows_drawn : (c : CatalogueState) (asked : ℕ) (now : GenerationState) (bytes draws cursor : ℕ)
    → 1 ≤ asked → asked ≤ 1048576 → draws_of c < 16777216 → Follows c now bytes draws cursor
    → Follows (with_draw c asked) now bytes (draws + 1) (if cursor + count_drawn c asked == length (cycle_in c) then 0 else cursor + count_drawn c asked)
follows_drawn c asked now bytes draws cursor some most room f =
    let new = entries.Draw asked (current_of c).number (cursor_of c) (count_drawn c asked) in
    let same = current_drawn c asked (current_of c).number (cursor_of c) (count_drawn c asked) in
    let counted : draws_of (with_entry c new) ≡ draws_of c + 1 = draws_more c new in
    let more : journal_of (with_entry c new) ≡ journal_of c + 0 = journal_more c new in
    let below = cursor_below c in
    let within : cursor_of c + count_drawn c asked ≤ length (cycle_in c) = omega (arith, below) in
    record {
      current = f.current ∙ sym same;
      put_bytes = f.put_bytes ∙ sym (more ∙ add-zero (journal_of c));
      draws = ap (λ (x : ℕ). x + 1) f.draws ∙ sym counted;
      cursor = ap (λ (x : ℕ). if x + count_drawn c asked == length (cycle_in c) then 0 else x + count_drawn c asked) f.cursor
          ∙ sym (cursor_drawn c asked (current_of c).number (cursor_of c) (count_drawn c asked) within);
      number = rw same f.number;
      history = history_more c new refl (some, most) (omega (arith, counted, room))
          (same_published c.carousel (trees_of (with_entry c new)) (trees_of c) (trees_more c.entries (entries.Draw asked (current_of c).number (cursor_of c) (count_drawn c asked) ∷ []) []) f.history.published) f.history;
    }

-- ---- the same, as the code keeps it

abbrev pub with_entries : ℕ → List ℕ → List Entry → CatalogueState
with_entries carousel weights es = record { carousel = carousel; weights = weights; entries = es }

pub follows_same : (carousel : ℕ) (weights : List ℕ) (es more : List Entry) (now : GenerationState) (bytes draws cursor : ℕ) → more ≡ es → Follows (with_entries carousel weights es) now bytes draws cursor
    → Follows (with_entries carousel weights more) now bytes draws cursor
follows_same carousel weights es more now bytes draws cursor e f = subst (λ (xs : List Entry). Follows (with_entries carousel weights xs) now bytes draws cursor) (sym e) f

pub follows_next : (carousel : ℕ) (weights : List ℕ) (es more : List Entry) (v : CatalogueState) (editor : ℕ) (edits listed : List Edit) (n m total : ℕ) (now next made : GenerationState) (bytes draws cursor : ℕ)
    → with_entries carousel weights es ≡ v → more ≡ es ++ entries.Commit editor edits (Ok n) ∷ [] → outcome_of v edits ≡ Ok m → n ≡ m → made ≡ generation_after v edits → IsPublishable made.tree → next ≡ made
    → listed ≡ edits → total ≡ cap_at_u64 (journal_of v + put_bytes listed) → Follows (with_entries carousel weights es) now bytes draws cursor
    → Follows (with_entries carousel weights more) next total draws 0
follows_next carousel weights es more v editor edits listed n m total now next made bytes draws cursor e p o k g w h l t f =
    let c = with_entries carousel weights es in
    let outcome : outcome_of c edits ≡ Ok n = ap (λ (x : CatalogueState). outcome_of x edits) e ∙ o ∙ ap (λ (x : ℕ). Ok x) (sym k) in
    let generation : next ≡ generation_after c edits = h ∙ g ∙ ap (λ (x : CatalogueState). generation_after x edits) (sym e) in
    let sum : total ≡ cap_at_u64 (journal_of c + put_bytes edits) = t ∙ ap (λ (x : List Edit). cap_at_u64 (journal_of v + put_bytes x)) l ∙ ap (λ (x : CatalogueState). cap_at_u64 (journal_of x + put_bytes edits)) (sym e) in
    let tree : IsPublishable next.tree = subst (λ (x : GenerationState). IsPublishable x.tree) (sym h) w in
    follows_same carousel weights (es ++ entries.Commit editor edits (Ok n) ∷ []) more next total draws 0 p (follows_accepted c editor edits n total now next bytes draws cursor outcome generation sum tree f)

pub follows_entered : (carousel : ℕ) (weights : List ℕ) (es more : List Entry) (v : CatalogueState) (editor : ℕ) (edits listed : List Edit) (r : Refusal) (total : ℕ) (now : GenerationState) (bytes draws cursor : ℕ)
    → with_entries carousel weights es ≡ v → more ≡ es ++ entries.Commit editor edits (Err r) ∷ [] → outcome_of v edits ≡ Err r → is_entered (Err r) ≡ true
    → listed ≡ edits → total ≡ cap_at_u64 (journal_of v + put_bytes listed) → Follows (with_entries carousel weights es) now bytes draws cursor
    → Follows (with_entries carousel weights more) now total draws cursor
follows_entered carousel weights es more v editor edits listed r total now bytes draws cursor e p o q l t f =
    let c = with_entries carousel weights es in
    let outcome : outcome_of c edits ≡ Err r = ap (λ (x : CatalogueState). outcome_of x edits) e ∙ o in
    let sum : total ≡ cap_at_u64 (journal_of c + put_bytes edits) = t ∙ ap (λ (x : List Edit). cap_at_u64 (journal_of v + put_bytes x)) l ∙ ap (λ (x : CatalogueState). cap_at_u64 (journal_of x + put_bytes edits)) (sym e) in
    follows_same carousel weights (es ++ entries.Commit editor edits (Err r) ∷ []) more now total draws cursor p (follows_refused c editor edits r total now bytes draws cursor outcome q sum f)

pub follows_draw : (carousel : ℕ) (weights : List ℕ) (es more : List Entry) (v : CatalogueState) (asked number first count next : ℕ) (now : GenerationState) (bytes draws cursor : ℕ)
    → with_entries carousel weights es ≡ v → more ≡ es ++ entries.Draw asked number first count ∷ [] → number ≡ now.number → first ≡ cursor → count ≡ count_drawn v asked
    → next ≡ (if cursor + count == length (cycle_for weights now) then 0 else cursor + count) → 1 ≤ asked → asked ≤ 1048576 → draws_of v < 16777216 → Follows (with_entries carousel weights es) now bytes draws cursor
    → Follows (with_entries carousel weights more) now bytes (draws + 1) next
follows_draw carousel weights es more v asked number first count next now bytes draws cursor e p n g k x some most room f =
    let c = with_entries carousel weights es in
    let same_count : count ≡ count_drawn c asked = k ∙ ap (λ (x : CatalogueState). count_drawn x asked) (sym e) in
    let entry : entries.Draw asked number first count ≡ entries.Draw asked (current_of c).number (cursor_of c) (count_drawn c asked) =
    ap (λ (x : ℕ). entries.Draw asked x first count) (n ∙ ap (λ (s : GenerationState). s.number) f.current)
    ∙ ap (λ (x : ℕ). entries.Draw asked (current_of c).number x count) (g ∙ f.cursor)
    ∙ ap (λ (x : ℕ). entries.Draw asked (current_of c).number (cursor_of c) x) same_count in
    let place : next ≡ (if cursor + count_drawn c asked == length (cycle_in c) then 0 else cursor + count_drawn c asked) =
    x ∙ ap (λ (s : GenerationState). if cursor + count == length (cycle_for weights s) then 0 else cursor + count) f.current
    ∙ ap (λ (k : ℕ). if cursor + k == length (cycle_in c) then 0 else cursor + k) same_count in
    let free : draws_of c < 16777216 = subst (λ (s : CatalogueState). draws_of s < 16777216) (sym e) room in
    follows_same carousel weights (with_draw c asked).entries more now bytes (draws + 1) next (p ∙ ap (λ (x : Entry). es ++ x ∷ []) entry)
    (subst (λ (x : ℕ). Follows (with_draw c asked) now bytes (draws + 1) x) (sym place) (follows_drawn c asked now bytes draws cursor some most free f))
