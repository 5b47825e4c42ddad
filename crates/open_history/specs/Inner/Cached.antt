-- Answers that are kept.
use Rattle.std.specs.Prelude.{ℕ, ◌≡◌, List, slice_get, Some, Ok, Contains}
use Rattle.std.specs.declared.string.String.{String}
use Rattle.std.specs.String.{string_bytes}
use Rattle.path_tree.specs.Paths.{PathNames}
use Rattle.path_tree.specs.Texts.{path_of}
use Rattle.path_resolver.specs.declared.answer.Answer.{Answer}
use Rattle.path_resolver.specs.declared.shot.Shot.{Shot}
use Rattle.path_resolver.specs.Resolving.{Held, answer_of}
use Rattle.path_resolver.specs.Shots.{held_of}

module _ {Z : Type 0} where
  -- where the text is a path's, this is the path's answer
  abbrev pub IsAnswerOn : Held → String Z × Answer → Type 0
  IsAnswerOn held e = (path : PathNames) → path_of (string_bytes e.0) ≡ Ok path → e.1 ≡ answer_of held path

  abbrev pub AreAnswersOn : Held → List (String Z × Answer) → Type 0
  AreAnswersOn held entries = (e : String Z × Answer) → Contains entries e → IsAnswerOn held e

  -- each is an answer on the shot of this number in the list
  abbrev pub AreAnswersIn : List Shot → ℕ → List (String Z × Answer) → Type 0
  AreAnswersIn known number entries = (e : String Z × Answer) → Contains entries e → (shot : Shot) × (slice_get known number ≡ Some shot) × IsAnswerOn (held_of shot) e
