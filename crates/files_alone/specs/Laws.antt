-- Trees of files alone are published, and lists of puts and removals answered, as they were before a folder could be kept.
use Rattle.std.specs.Prelude.{◌≡◌, ℕ, List, map, Result, Ok, Err}
use Rattle.std.specs.List.{All}
use Rattle.path_tree.specs.Trees.{IsTree}
use Rattle.path_tree.specs.Edits.{IsEdit}
use Rattle.path_tree.specs.Files.{FileTree, FileEdit, of_files, as_edit}
use Rattle.generation.specs.Publication as today
use Rattle.generation.specs.Layouts as generations
use Rattle.cycle_planner.specs.declared.Item.{Item}
use Rattle.generation_catalogue.specs.History.{CatalogueState}
use Rattle.generation_catalogue.specs.History as catalogues
use Rattle.generation_catalogue.specs.Calls.{BatchFields}
use Rattle.generation_catalogue.specs.Calls as calls
use Rattle.files_alone.specs.Objects as objects
use Rattle.files_alone.specs.Generations as files
use Rattle.files_alone.specs.Histories as histories
use Rattle.files_alone.specs.Histories.{FileCatalogue, FileBatch, as_catalogue}
use Rattle.files_alone.specs.Requests.{FileRequest, IsRequest, history_of, today_of}

-- an object without its name, its number and that of its folder
abbrev pub as_spot : today.Spot → objects.Spot
as_spot s = record { path = s.path; content = s.content }

abbrev pub as_placed : generations.Placed → files.Placed
as_placed o = record { spot = as_spot o.spot; key = o.key; module_id = o.module_id }

-- The same generation: the same tree, objects, modules and counts of changes, and it sends the same.
pub record IsSameGeneration (f : files.GenerationState) (g : generations.GenerationState) : Type 0 where
  pub carousel : f.carousel ≡ g.carousel
  pub number : f.number ≡ g.number
  pub tree : of_files f.tree ≡ g.tree
  pub objects : f.objects ≡ map as_placed g.objects
  pub layout : f.layout ≡ g.layout
  pub counts : f.counts ≡ g.counts
  pub items : files.items_of f ≡ generations.items_of g
  pub sections : (item : Item) → files.section_of f item ≡ generations.section_of g item

abbrev pub IsFiled : FileTree → Type 0
IsFiled t = IsTree (of_files t)

-- the same limit is passed first
abbrev pub LimitsStayTheSame : Type 0
LimitsStayTheSame = (t : FileTree) → IsFiled t → objects.limit_of t ≡ today.limit_of (of_files t)

abbrev pub GenerationsStayTheSame : Type 0
GenerationsStayTheSame = (carousel : ℕ) (ts : List FileTree) → All IsFiled ts
    → IsSameGeneration (files.generation_of carousel ts) (generations.generation_of carousel (map of_files ts))

-- the same draw: of the same generation, from the same place in its cycle on, the same items; or refused by the same number
pub record IsSameBatch (b : FileBatch) (d : BatchFields) : Type 0 where
  pub generation : IsSameGeneration b.generation d.generation
  pub first : b.first ≡ d.first
  pub items : b.items ≡ d.items

abbrev pub IsSameDraw : Result FileBatch ℕ → Result BatchFields ℕ → Type 0
IsSameDraw (Ok b) (Ok d) = IsSameBatch b d
IsSameDraw (Err n) (Err m) = n ≡ m
IsSameDraw _ _ = ⊥

-- The same history: it has the same entries, trees and generation, its trees are trees, and it answers the next commit of puts and
-- removals alike, and the next draw.
pub record AnswersTheSame (c : FileCatalogue) (d : CatalogueState) : Type 0 where
  pub entries : as_catalogue c ≡ d
  pub trees : map of_files (histories.trees_of c) ≡ catalogues.trees_of d
  pub filed : All IsFiled (histories.trees_of c)
  pub generation : IsSameGeneration (histories.current_of c) (catalogues.current_of d)
  pub commit : (edits : List FileEdit) → All IsEdit (map as_edit edits)
      → histories.outcome_of c edits ≡ catalogues.outcome_of d (map as_edit edits)
  pub draw : (asked : ℕ) → IsSameDraw (histories.batch_of c asked) (calls.batch_of d asked)

-- after every list of requests, and so at each of them
abbrev pub RepliesStayTheSame : Type 0
RepliesStayTheSame = (carousel : ℕ) (weights : List ℕ) (requests : List FileRequest)
    → All IsRequest requests
    → AnswersTheSame (history_of carousel weights requests) (today_of carousel weights requests)
