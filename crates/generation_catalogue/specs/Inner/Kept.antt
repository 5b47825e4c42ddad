-- What is kept beside the entries follows from them.
use Rattle.std.specs.Prelude.{◌≡◌, ◌≤◌, ℕ, List, drop, length, MatchOption}
use Rattle.std.specs.Arc.{arc_value}
use Rattle.cycle_planner.specs.Cycle.{Line, cycle_of}
use Rattle.cycle_planner.specs.Walks.{IsWalk, left_of}
use Rattle.cycle_planner.specs.declared.walk.Walk.{Walk}
use Rattle.generation.specs.Layouts.{lines_of}
use Rattle.generation_catalogue.specs.History.{CatalogueState, IsHistory, current_of, cursor_of, draws_of, journal_of}
use Rattle.generation_catalogue.specs.declared.journal.Stand.{Stand}
use Rattle.generation_catalogue.specs.declared.journal.Journal.TheInside.{Inside}
use Rattle.dsi_dii.specs.declared.TheConstants.{LAST_GENERATION}
use Rattle.generation_catalogue.specs.Kept.{view_journal}

-- the length of the cycle of these lines, a walk before its first item, and one before the item at a place or behind the last
pub record StandsAt (weights : List ℕ) (lines : List Line) (at : ℕ) (s : Stand) : Type 0 where
  pub size : s.length ≡ length (cycle_of weights lines)
  pub begins : IsWalk weights lines s.first
  pub whole : left_of weights lines s.first ≡ cycle_of weights lines
  pub goes_on : IsWalk weights lines s.next
  pub left : left_of weights lines s.next ≡ drop at (cycle_of weights lines)

-- the same cycle, where the next draw begins elsewhere
abbrev pub with_next : Stand → Walk → Stand
with_next s walk = record s { next = walk }

-- so in the cycle of the current generation
abbrev pub StandsIn : CatalogueState → ℕ → Stand → Type 0
StandsIn c at s = StandsAt c.weights (lines_of (current_of c)) at s

pub record IsJournal (j : Inside) : Type 0 where
  pub current : arc_value j.current ≡ current_of (view_journal j)
  pub put_bytes : j.put_bytes ≡ journal_of (view_journal j)
  pub draws : j.draws ≡ draws_of (view_journal j)
  pub cursor : j.cursor ≡ cursor_of (view_journal j)
  pub number : (current_of (view_journal j)).number ≤ LAST_GENERATION
  pub history : IsHistory (view_journal j)
  -- nothing is kept before the first draw of a generation's cycle
  pub stand : MatchOption j.stand (j.cursor ≡ 0) (StandsAt j.weights (lines_of (arc_value j.current)) j.cursor)
