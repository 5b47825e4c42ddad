-- The grammar of scripts: what a line says, which lines may stand where, and the first line that doesn't fit.
use Rattle.std.specs.Prelude.{ℕ, ◌+◌, Bool, true, false, ◌==◌, nat_le, List, [], ◌∷◌, ◌++◌, length, replicate, find, bytes_eq, codes, Option, Some, None, option_map, Result, Ok, Err, if◌then◌else◌, not, filter, filter_map}
use Rattle.std.specs.List.{list_any, slice_split}
use Rattle.std.specs.Option.{option_and_then}
use Rattle.std.specs.Result.{result_ok}
use Rattle.oc_bytes.specs.Outcome.{cap_at_u32}
use Rattle.oc_bytes.specs.Decimals.{decimal_in}
use Rattle.hex.specs.Hex.{decode_of}
use Rattle.path_tree.specs.Paths.{Bytes, PathNames}
use Rattle.path_tree.specs.Texts.{path_of}
use Rattle.ts_packet.specs.declared.Fate.{Fate}
use Rattle.ts_packet.specs.declared.Fate.TheVariants.{Keep, Lose, Flip}
use Rattle.session_script.specs.declared.line.Keyword.{Keyword}
use Rattle.session_script.specs.declared.line.Keyword.TheVariants as keywords
use Rattle.session_script.specs.declared.line.Part.{Part}
use Rattle.session_script.specs.declared.line.Part.TheVariants.{Opening, Running, Closing}
use Rattle.session_script.specs.declared.script.LineCause.{LineCause}
use Rattle.session_script.specs.declared.script.LineCause.TheVariants.{Unknown, Order, BadNumber, BadPath, BadHex, BadFate, Missing, Extra}
use Rattle.session_script.specs.declared.script.Stage.{Stage}
use Rattle.session_script.specs.declared.script.Stage.TheVariants.{Before, During, After}
use Rattle.session_script.specs.Scripts.{Fields, LineFields, Act, Put, Fill, Remove, MakeFolder, RemoveFolder, Commit, Draw, Open, Settle, editor_of, reader_of}
use Rattle.cycle_planner.specs.declared.TheConstants.{MOST_DRAWN}
use Rattle.session_script.specs.declared.words.TheConstants.{MOST_ACTORS, MOST_FATES, MOST_FILLED}

-- ---- what single words stand for

abbrev pub all_keywords : List (Bytes × Keyword)
all_keywords =
    (codes "put", keywords.Put) ∷ (codes "fill", keywords.Fill) ∷ (codes "remove", keywords.Remove) ∷ (codes "mkdir", keywords.MakeFolder)
    ∷ (codes "rmdir", keywords.RemoveFolder) ∷ (codes "commit", keywords.Commit) ∷ (codes "draw", keywords.Draw) ∷ (codes "open", keywords.Open)
    ∷ (codes "start", keywords.Start) ∷ (codes "settle", keywords.Settle) ∷ (codes "finale", keywords.Finale) ∷ []

-- the keyword that a word is, byte for byte
abbrev pub keyword_of : Bytes → Option Keyword
keyword_of word = option_map (λ k. k.1) (find (λ k. bytes_eq word k.0) all_keywords)

-- an editor or a reader
abbrev pub actor_of : Bytes → Option ℕ
actor_of word = decimal_in 1 MOST_ACTORS word

abbrev pub path_in : Bytes → Option PathNames
path_in word = result_ok (path_of word)

-- `-` for no bytes, else two digits a byte and at least one byte
abbrev pub content_in : Bytes → Option Bytes
content_in [] = None
content_in (c ∷ []) = if c == 45 then Some [] else None
content_in (c ∷ d ∷ digits) = result_ok (decode_of (c ∷ d ∷ digits))

-- `kCOUNT` keeps and `dCOUNT` loses so many packets, `fBIT` flips one bit of one packet
abbrev pub fates_in : Bytes → Option (List Fate)
fates_in [] = None
fates_in (c ∷ number) =
    if c == 107 then option_map (λ count. replicate count Keep) (decimal_in 1 MOST_FATES number)
    else (if c == 100 then option_map (λ count. replicate count Lose) (decimal_in 1 MOST_FATES number)
    else (if c == 102 then option_map (λ bit. Flip bit ∷ []) (decimal_in 0 1503 number)
    else None))

abbrev pub fates_onto : Option (List Fate) → Option (List Fate) → Option (List Fate)
fates_onto (Some fates) (Some others) = Some (fates ++ others)
fates_onto _ _ = None

abbrev pub all_fates : List Bytes → Option (List Fate)
all_fates [] = Some []
all_fates (word ∷ words) = fates_onto (fates_in word) (all_fates words)

abbrev pub within_limit : List Fate → Option (List Fate)
within_limit fates = if nat_le (length fates) MOST_FATES then Some fates else None

-- the fates of a draw, where each word is one and they aren't too many
abbrev pub fates_of : List Bytes → Option (List Fate)
fates_of words = option_and_then within_limit (all_fates words)

-- ---- lines

-- What a line says: nothing; that the session starts below it; what is done; what is done after all others.
pub data Saying : Type 0 where
  Passed : Saying
  Starts : Saying
  Does : Act → Saying
  Ends : Act → Saying

-- ---- the words of a line, from left to right

infixl 10 ◌>>=◌
abbrev pub ◌>>=◌ : {A B E : Type 0} → Result A E → (A → Result B E) → Result B E
(Ok x) >>= f = f x
(Err fault) >>= f = Err fault

abbrev pub or_cause : {A : Type 0} → LineCause → List Bytes → Option A → Result (A × List Bytes) LineCause
or_cause fault words (Some x) = Ok (x, words)
or_cause fault words None = Err fault

-- the next word, as this reading takes it, and the words after it
abbrev pub word_by : {A : Type 0} → (Bytes → Option A) → LineCause → List Bytes → Result (A × List Bytes) LineCause
word_by read fault [] = Err Missing
word_by read fault (word ∷ words) = or_cause fault words (read word)

abbrev pub no_more : {A : Type 0} → A → List Bytes → Result A LineCause
no_more x [] = Ok x
no_more x (word ∷ words) = Err Extra

abbrev pub put_by : List Bytes → Result Act LineCause
put_by words = do
  editor ← word_by actor_of BadNumber words
  path ← word_by path_in BadPath editor.1
  content ← word_by content_in BadHex path.1
  no_more (Put editor.0 path.0 content.0) content.1

abbrev pub fill_by : List Bytes → Result Act LineCause
fill_by words = do
  editor ← word_by actor_of BadNumber words
  path ← word_by path_in BadPath editor.1
  size ← word_by (decimal_in 0 MOST_FILLED) BadNumber path.1
  from ← word_by (decimal_in 0 255) BadNumber size.1
  no_more (Fill editor.0 path.0 size.0 from.0) from.1

-- an editor or a reader, and a path
abbrev pub named_by : List Bytes → Result (ℕ × PathNames) LineCause
named_by words = do
  actor ← word_by actor_of BadNumber words
  path ← word_by path_in BadPath actor.1
  no_more (actor.0, path.0) path.1

abbrev pub commit_by : List Bytes → Result Act LineCause
commit_by words = do
  editor ← word_by actor_of BadNumber words
  no_more (Commit editor.0) editor.1

abbrev pub draw_by : List Bytes → Result Act LineCause
draw_by words = do
  asked ← word_by (decimal_in 1 MOST_DRAWN) BadNumber words
  fates ← or_cause BadFate [] (fates_of asked.1)
  Ok (Draw asked.0 fates.0)

-- what the words after a line's first one say
abbrev pub said_by : Keyword → List Bytes → Result Saying LineCause
said_by keywords.Put words = put_by words >>= λ act. Ok (Does act)
said_by keywords.Fill words = fill_by words >>= λ act. Ok (Does act)
said_by keywords.Remove words = named_by words >>= λ named. Ok (Does (Remove named.0 named.1))
said_by keywords.MakeFolder words = named_by words >>= λ named. Ok (Does (MakeFolder named.0 named.1))
said_by keywords.RemoveFolder words = named_by words >>= λ named. Ok (Does (RemoveFolder named.0 named.1))
said_by keywords.Commit words = commit_by words >>= λ act. Ok (Does act)
said_by keywords.Draw words = draw_by words >>= λ act. Ok (Does act)
said_by keywords.Open words = named_by words >>= λ named. Ok (Does (Open named.0 named.1))
said_by keywords.Start words = no_more Starts words
said_by keywords.Settle words = no_more (Ends Settle) words
said_by keywords.Finale words = named_by words >>= λ named. Ok (Ends (Open named.0 named.1))

-- ---- which lines may stand where

abbrev pub is_start : Saying → Bool
is_start Starts = true
is_start _ = false

abbrev pub is_end : Saying → Bool
is_end (Ends act) = true
is_end _ = false

-- The part of a script that is reached below these lines: its closing part after `settle` or a finale, else the running
-- part after `start`, else the opening one.
abbrev pub part_of : List Saying → Part
part_of above = if list_any is_end above then Closing else (if list_any is_start above then Running else Opening)

-- `start` may stand once, and before the closing part; in that part only finales may stand
abbrev pub may_stand : Part → Keyword → Bool
may_stand Opening keyword = true
may_stand Running keywords.Start = false
may_stand Running _ = true
may_stand Closing keywords.Finale = true
may_stand Closing _ = false

abbrev pub in_order : Part → List Bytes → Option Keyword → Result Saying LineCause
in_order part words None = Err Unknown
in_order part words (Some keyword) = if may_stand part keyword then said_by keyword words else Err Order

abbrev pub in_words : Part → List Bytes → Result Saying LineCause
in_words part [] = Ok Passed
in_words part (word ∷ words) = in_order part words (keyword_of word)

abbrev pub is_space : ℕ → Bool
is_space b = b == 32

-- the words of a line, between single spaces
abbrev pub words_in : Bytes → List Bytes
words_in line = slice_split is_space line

-- What a line says, or the first cause for which it doesn't fit. An empty line and one that begins with `#` are passed over.
abbrev pub line_by : Part → Bytes → Result Saying LineCause
line_by part [] = Ok Passed
line_by part (c ∷ cs) = if c == 35 then Ok Passed else in_words part (words_in (c ∷ cs))

-- ---- the lines of a text

abbrev pub is_feed : ℕ → Bool
is_feed b = b == 10

-- The lines of a text. A line feed at its end opens one more line, with nothing in it; that line says nothing.
abbrev pub lines_in : Bytes → List Bytes
lines_in text = slice_split is_feed text

abbrev pub or_bad_line : ℕ → (Saying → Result (List Saying) (ℕ × LineCause)) → Result Saying LineCause → Result (List Saying) (ℕ × LineCause)
or_bad_line number below (Ok saying) = below saying
or_bad_line number below (Err fault) = Err (cap_at_u32 number, fault)

-- What all lines say, where some say `above` and these follow them; or the number of the first of these that doesn't fit
-- below the lines above it, and its first cause.
abbrev pub sayings : List Saying → List Bytes → Result (List Saying) (ℕ × LineCause)
sayings above [] = Ok above
sayings above (line ∷ lines) = or_bad_line (length above + 1) (λ saying. sayings (above ++ saying ∷ []) lines) (line_by (part_of above) line)

-- ---- what is said as a script

abbrev pub who : (Act → Option ℕ) → Saying → Option ℕ
who actor (Does act) = actor act
who actor (Ends act) = actor act
who actor _ = None

-- each number once, at its first place
abbrev pub first_mentions : List ℕ → List ℕ
first_mentions [] = []
first_mentions (n ∷ ns) = n ∷ filter (λ m. not (m == n)) (first_mentions ns)

abbrev pub actors : (Act → Option ℕ) → List Saying → List ℕ
actors actor all = first_mentions (filter_map (who actor) all)

-- the stage of a line that does something, above lines that say `below`
abbrev pub stage_above : List Saying → Stage
stage_above below = if list_any is_start below then Before else During

-- the lines that do something; the first of these has number n
abbrev pub lines_from : ℕ → List Saying → List LineFields
lines_from n [] = []
lines_from n (Passed ∷ below) = lines_from (n + 1) below
lines_from n (Starts ∷ below) = lines_from (n + 1) below
lines_from n (Does act ∷ below) = record { number = cap_at_u32 n; stage = stage_above below; act = act } ∷ lines_from (n + 1) below
lines_from n (Ends act ∷ below) = record { number = cap_at_u32 n; stage = After; act = act } ∷ lines_from (n + 1) below

abbrev pub script_of : List Saying → Fields
script_of all = record { editors = actors editor_of all; readers = actors reader_of all; lines = lines_from 1 all }

-- What a text says, or its first line that doesn't fit and that line's first cause.
abbrev pub meaning_of : Bytes → Result Fields (ℕ × LineCause)
meaning_of text = sayings [] (lines_in text) >>= λ all. Ok (script_of all)
