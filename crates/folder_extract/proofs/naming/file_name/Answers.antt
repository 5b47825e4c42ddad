use Rattle.std.proofs.Common.{sym, ◌∙◌}
use Rattle.std.proofs.lemmas.Bool.{false_from_ne_true}
use Rattle.std.proofs.lemmas.Str.{IsUtf8-from_is_utf8, is_utf8-from_IsUtf8}
use Rattle.folder_extract.proofs.Places.{no_text, text_named}
use Rattle.folder_extract.proofs.naming.file_name.Goals as goal

pub returns-in_default : goal.returns-in_default
returns-in_default c = no_text c.args.name.now (false_from_ne_true _ (λ e. c.in_default.ensures.cases.0 (IsUtf8-from_is_utf8 _ e)))

pub returns-then-not-is_taken : goal.returns-then-not-is_taken
returns-then-not-is_taken c =
    text_named c.args.name.now c.in-Ok.text.now c.in-Ok.ensures.cases.0 (is_utf8-from_IsUtf8 _ c.in-Ok.ensures.cases.1)
    (sym c.is_path_name.ensures ∙ c.if-is_path_name.true) (sym c.is_taken.ensures ∙ c.if-not-is_taken.true)
