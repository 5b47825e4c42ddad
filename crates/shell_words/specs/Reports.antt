-- What the lines of a report say of an event and of its reply: this project's own texts.
use Rattle.std.specs.Prelude.{ℕ, [], ◌∷◌, ◌++◌, Option, Some, None, codes}
use Rattle.std.specs.List.{flat_map}
use Rattle.std.specs.Fmt.{decimal}
use Rattle.hex.specs.Hex.{encode_lower}
use Rattle.path_tree.specs.Paths.{Bytes}
use Rattle.path_tree.specs.Texts.{printed_byte}
use Rattle.path_resolver.specs.declared.answer.Answer.{Answer}
use Rattle.path_resolver.specs.declared.answer.Answer.TheVariants as answers
use Rattle.generation_catalogue.specs.declared.entry.Refusal.{Refusal}
use Rattle.shell_words.specs.Texts.{with_number, answer_line, refusal_line}

-- ---- what the line of an event begins with: of a commit its editor, and of an open its reader

abbrev pub commit_words : ℕ → Bytes
commit_words editor = with_number (codes "commit") editor

abbrev pub draw_words : Bytes
draw_words = codes "draw"

abbrev pub open_words : ℕ → Bytes
open_words reader = with_number (codes "open") reader

-- ---- the words of a reply

-- the number of the generation that was held, and a hyphen where none was
abbrev pub label_word : Option ℕ → Bytes
label_word (Some number) = decimal number
label_word None = codes "-"

-- two hexadecimal digits a byte, with small letters, and a hyphen for no bytes
abbrev pub content_word : Bytes → Bytes
content_word [] = codes "-"
content_word (b ∷ bs) = encode_lower (b ∷ bs)

-- a name after a space, as it stands in a path's text
abbrev pub spaced_name : Bytes → Bytes
spaced_name name = 32 ∷ flat_map printed_byte name

-- the bytes of a file, and the names of a folder
abbrev pub answer_tail : Answer → Bytes
answer_tail (answers.File content) = 32 ∷ content_word content
answer_tail (answers.Folder names) = flat_map spaced_name names
answer_tail _ = []

-- a commit that made the generation of this number, and one that made none
abbrev pub committed_words : ℕ → Bytes
committed_words number = with_number (codes "generation") number

abbrev pub refused_words : Refusal → Bytes
refused_words refusal = codes "refused" ++ 32 ∷ refusal_line refusal

-- a draw of so many items from this place of the generation's cycle on, and one that wasn't made
abbrev pub drawn_words : (generation first count : ℕ) → Bytes
drawn_words generation first count =
    decimal generation ++ (32 ∷ decimal first ++ 32 ∷ decimal count)

abbrev pub draws_full_words : ℕ → Bytes
draws_full_words draws = with_number (codes "refused draws-full") draws

-- an open of the path of this text, up to what follows the answer's line
abbrev pub opened_words : Option ℕ → Bytes → Answer → Bytes
opened_words label path answer = label_word label ++ (32 ∷ path ++ 32 ∷ answer_line answer)
