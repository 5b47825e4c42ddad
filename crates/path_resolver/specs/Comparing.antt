-- When two answers are the same.
use Rattle.std.specs.Prelude.{Bool, true, false, ◌&&◌, ◌==◌, List}
use Rattle.std.specs.Cmp.Lexicographic.{pointwise}
use Rattle.path_tree.specs.Paths.{Bytes, same_name}
use Rattle.path_resolver.specs.declared.answer.Answer.{Answer}
use Rattle.path_resolver.specs.declared.answer.Answer.TheVariants as answers

-- equal names in equal order
abbrev pub same_names : List Bytes → List Bytes → Bool
same_names = pointwise same_name

-- the same variant with the same numbers: a file of the same bytes, a folder of the same names in their order
abbrev pub same_answer : Answer → Answer → Bool
same_answer (answers.File a) (answers.File b) = same_name a b
same_answer (answers.Folder a) (answers.Folder b) = same_names a b
same_answer answers.NoSuch answers.NoSuch = true
same_answer (answers.NotYet m) (answers.NotYet n) = m == n
same_answer answers.NoCarousel answers.NoCarousel = true
same_answer answers.Elsewhere answers.Elsewhere = true
same_answer (answers.Compressed m) (answers.Compressed n) = m == n
same_answer (answers.Bad m place) (answers.Bad n other) = (m == n) && (place == other)
same_answer (answers.Dangling m) (answers.Dangling n) = m == n
same_answer (answers.OtherKind m) (answers.OtherKind n) = m == n
same_answer _ _ = false
