-- Where a script asks for memory. Whether a text is a path is known only once the path was made, so a line whose words fit up
-- to its path asks for memory already.
use Rattle.std.specs.Prelude.{◌≡◌, Bool, true, false, ◌==◌, ◌&&◌, ◌||◌, List, [], ◌∷◌, ◌++◌, Option, Some, None, is_some, Result, Ok, if◌then◌else◌}
use Rattle.path_tree.specs.Paths.{Bytes}
use Rattle.session_script.specs.declared.line.Keyword.{Keyword}
use Rattle.session_script.specs.declared.line.Keyword.TheVariants as keywords
use Rattle.session_script.specs.declared.line.Part.{Part}
use Rattle.session_script.specs.declared.script.LineCause.{LineCause}
use Rattle.session_script.specs.Grammar.{keyword_of, actor_of, Saying, Does, Ends, said_by, may_stand, words_in, lines_in, part_of, sayings}

-- the words begin with an actor, and the word of a path follows
abbrev pub reaches_path : List Bytes → Bool
reaches_path (actor ∷ path ∷ words) = is_some (actor_of actor)
reaches_path _ = false

abbrev pub has_path : Keyword → Bool
has_path keywords.Commit = false
has_path keywords.Draw = false
has_path keywords.Start = false
has_path keywords.Settle = false
has_path _ = true

-- the line fits and does something, which is kept
abbrev pub is_kept : Result Saying LineCause → Bool
is_kept (Ok (Does act)) = true
is_kept (Ok (Ends act)) = true
is_kept _ = false

abbrev pub asks_by : Keyword → List Bytes → Bool
asks_by keyword words = is_kept (said_by keyword words) || (has_path keyword && reaches_path words)

abbrev pub asks_in_order : Part → List Bytes → Option Keyword → Bool
asks_in_order part words None = false
asks_in_order part words (Some keyword) = if may_stand part keyword then asks_by keyword words else false

abbrev pub asks_in_words : Part → List Bytes → Bool
asks_in_words part [] = false
asks_in_words part (word ∷ words) = asks_in_order part words (keyword_of word)

abbrev pub line_asks : Part → Bytes → Bool
line_asks part [] = false
line_asks part (c ∷ cs) = if c == 35 then false else asks_in_words part (words_in (c ∷ cs))

-- all lines above some line fit, and that line asks for memory
pub record AsksForMemory (text : Bytes) : Type 0 where
  pub above : List Bytes
  pub line : Bytes
  pub below : List Bytes
  pub cut : lines_in text ≡ above ++ line ∷ below
  pub said : List Saying
  pub fits : sayings [] above ≡ Ok said
  pub asks : line_asks (part_of said) line ≡ true
