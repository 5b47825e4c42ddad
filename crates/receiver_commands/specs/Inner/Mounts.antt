-- What is written of the root.
use Rattle.std.specs.Prelude.{ℕ, List, [], ◌∷◌, ◌++◌, codes}
use Rattle.path_resolver.specs.declared.answer.Answer.TheVariants as answers
use Rattle.mount_table.specs.declared.mount.Mount.{Mount}
use Rattle.mount_table.specs.Mounts.{names_of}
use Rattle.shell_words.specs.Texts.{line, with_number, answered_line, tail_of}
use Rattle.shell_streams.specs.Cuts.{Bytes}

-- the line of a root of so many names
abbrev pub root_line : ℕ → Bytes
root_line n = line (47 ∷ 32 ∷ with_number (codes "folder") n)

-- what is written of the root
abbrev pub root_text : List Mount → Bytes
root_text table = answered_line [] (answers.Folder (names_of table)) ++ tail_of (answers.Folder (names_of table))
