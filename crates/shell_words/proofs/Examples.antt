-- What follows the words of answers, computed by the definitions.
use Rattle.std.proofs.Common.{◌≡◌, [], ◌∷◌, refl, codes}
use Rattle.hex.specs.Hex.{encode_with}
use Rattle.path_resolver.specs.declared.answer.Answer.TheVariants as answers
use Rattle.shell_words.specs.Reports.{content_word, answer_tail}

digits : content_word (codes "one\n") ≡ codes "6f6e650a"
unfolding encode_with
digits = refl

no_content : answer_tail (answers.File []) ≡ codes " -"
no_content = refl

names : answer_tail (answers.Folder (codes "a" ∷ codes " b" ∷ [])) ≡ codes " a %20b"
names = refl
