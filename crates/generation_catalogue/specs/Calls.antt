-- What a commit and a draw answer, and what they leave, as relations between the catalogue before and after.
use Rattle.std.specs.Prelude.{◌≡◌, ℕ, ◌<◌, true, List, Option, Some, None, Result, Ok, Err, MatchResult, IsErrOf, is_some, nat_le, if◌then◌else◌}
use Rattle.std.specs.Arc.{arc_value}
use Rattle.oc_bytes.specs.Outcome.{Gives}
use Rattle.path_tree.specs.declared.tree.Edit.{Edit}
use Rattle.cycle_planner.specs.declared.Item.{Item}
use Rattle.generation.specs.Layouts.{GenerationState}
use Rattle.generation_catalogue.specs.History.{CatalogueState, current_of, cursor_of, items_drawn, draws_of, with_draw, outcome_of, with_commit, is_entered}
use Rattle.generation_catalogue.specs.Requests.{commit_cause}
use Rattle.generation_catalogue.specs.declared.entry.CommitFault.{CommitFault}
use Rattle.generation_catalogue.specs.declared.entry.CommitFault.TheVariants as commits
use Rattle.generation_catalogue.specs.declared.entry.DrawFault.{DrawFault}
use Rattle.generation_catalogue.specs.declared.entry.DrawFault.TheVariants as draws
use Rattle.generation_catalogue.specs.declared.entry.Batch.{Batch}
use Rattle.generation_catalogue.specs.declared.journal.TheConstants.{MOST_DRAWS}

-- A commit answers what the rules give. It makes its entry where it is accepted or refused by an edit or a limit, and changes
-- nothing where the season or the journal is full, or out of memory, which comes only where neither is full.
pub record IsCommitted (c : CatalogueState) (editor : ℕ) (edits : List Edit) (result : Result ℕ CommitFault) (d : CatalogueState) : Type 0 where
  pub answer : Gives (λ n. n) commit_cause result (outcome_of c edits)
  pub entry : MatchResult result (λ _. d ≡ with_commit c editor edits) (λ e. d ≡ (if is_some (commit_cause e) then with_commit c editor edits else c))
  pub memory : IsErrOf result commits.NoMemory → is_entered (outcome_of c edits) ≡ true

-- ---- draws

-- a batch, without where its list lies in memory
pub record BatchFields : Type 0 where
  pub generation : GenerationState
  pub first : ℕ
  pub items : List Item

abbrev pub view_batch : Batch → BatchFields
view_batch b = record { generation = arc_value b.generation; first = b.first; items = b.items.items }

abbrev pub draw_cause : DrawFault → Option ℕ
draw_cause (draws.DrawsFull n) = Some n
draw_cause draws.NoMemory = None

-- what a draw gives: the items from the cursor on, of the current generation, unless so many draws are entered already
abbrev pub batch_of : CatalogueState → ℕ → Result BatchFields ℕ
batch_of c asked =
    if nat_le MOST_DRAWS (draws_of c) then Err MOST_DRAWS
    else Ok (record { generation = current_of c; first = cursor_of c; items = items_drawn c asked })

-- A draw answers what the rules give. It makes its entry where it gives items, and else changes nothing; out of memory comes
-- only where there is room for the entry.
pub record IsDrawn (c : CatalogueState) (asked : ℕ) (result : Result Batch DrawFault) (d : CatalogueState) : Type 0 where
  pub answer : Gives view_batch draw_cause result (batch_of c asked)
  pub entry : MatchResult result (λ _. d ≡ with_draw c asked) (λ _. d ≡ c)
  pub memory : IsErrOf result draws.NoMemory → draws_of c < MOST_DRAWS
