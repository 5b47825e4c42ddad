-- What holds of every history: trees are added at the end, and items are drawn from the current generation.
use Rattle.std.proofs.Common.{◌≡◌, ℕ, Bool, true, false, cond, List, [], ◌∷◌, ◌++◌, Result, Ok, Err, sym, ◌∙◌}
use Rattle.std.specs.List.{All, Contains}
use Rattle.std.proofs.lemmas.List.{append-nil}
use Rattle.std.proofs.lemmas.List.Elements.{All-take, All-drop}
use Rattle.path_tree.specs.Trees.{Tree}
use Rattle.path_tree.specs.Edits.{apply_all}
use Rattle.path_tree.specs.declared.tree.Edit.{Edit}
use Rattle.cycle_planner.specs.declared.Item.{Item}
use Rattle.cycle_planner.proofs.CallerLemmas.{cycle_only}
use Rattle.generation.specs.Layouts.{items_of, lines_of}
use Rattle.generation_catalogue.specs.declared.entry.Refusal.{Refusal}
use Rattle.generation_catalogue.specs.declared.entry.Entry.TheVariants as entries
use Rattle.generation_catalogue.specs.History.{CatalogueState, current_of, cursor_of, count_drawn, cycle_in, trees_of, items_drawn, with_commit, or_same, last_tree, outcome_of, is_entered, with_entry}
use Rattle.generation_catalogue.specs.Laws.{HistoriesGrow}
use Rattle.generation_catalogue.proofs.Replay.{number_is, trees_more}

by_commit : (c : CatalogueState) (editor : ℕ) (edits : List Edit) → (rest : List Tree) × (trees_of (with_commit c editor edits) ≡ trees_of c ++ rest)
by_commit c editor edits = by (is_entered (outcome_of c edits)) (outcome_of c edits) where
  by : (entered : Bool) (o : Result ℕ Refusal) → (rest : List Tree) × (trees_of (cond entered (with_entry c (entries.Commit editor edits o)) c) ≡ trees_of c ++ rest)
  by false o = ([], sym (append-nil (trees_of c)))
  by true (Ok n) = (or_same (last_tree (trees_of c)) (apply_all (last_tree (trees_of c)) edits) ∷ [], trees_more c.entries (entries.Commit editor edits (Ok n) ∷ []) [])
  by true (Err r) = ([], trees_more c.entries (entries.Commit editor edits (Err r) ∷ []) [] ∙ sym (append-nil (trees_of c)))

pub items_are_its_own : (c : CatalogueState) (asked : ℕ) → All (Contains (items_of (current_of c))) (items_drawn c asked)
items_are_its_own c asked =
    let Own : Item → Type 0 = Contains (items_of (current_of c)) in
    All-take Own (count_drawn c asked) _ (All-drop Own (cursor_of c) (cycle_in c) (cycle_only c.weights (lines_of (current_of c))))

pub histories_grow : HistoriesGrow
histories_grow = record {
  by_commit = by_commit;
  by_draw = λ c asked. trees_more c.entries (entries.Draw asked (current_of c).number (cursor_of c) (count_drawn c asked) ∷ []) [];
  number = number_is;
  items = items_are_its_own;
}
