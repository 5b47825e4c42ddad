use Rattle.std.proofs.Common.{arith, ◌∙◌, sym, ◌<◌, length, ap, map, drop, refl}
use Rattle.std.specs.String.{string_bytes}
use Rattle.std.proofs.lemmas.Bool.{eqb-true, eqb-false}
use Rattle.std.proofs.lemmas.List.{take_rest}
use Rattle.std.proofs.lemmas.Result.{err_from_is_err_and}
use Rattle.shell_words.proofs.Naming.{command_of-none, command_of-dash, command_of-named, gives_misfit}
use Rattle.shell_words.proofs.parsing.plain_command.Goals as goal
use Rattle.shell_words.proofs.parsing.plain_command.Goals.{then-is_empty-via-then-is_empty, then-is_empty-via-else-is_empty+then-has_dash}

pub returns-then-is_empty-clause-gives : goal.returns-then-is_empty-clause-gives
returns-then-is_empty-clause-gives c = elim c.then-is_empty.branch [
  | then-is_empty-via-then-is_empty w ↦ command_of-none _ c.args.words.now (eqb-true _ _ (sym c.is_empty.ensures ∙ w.if-is_empty.true))
  | then-is_empty-via-else-is_empty+then-has_dash w ↦ command_of-dash _ c.args.words.now (sym w.has_dash.ensures ∙ w.if-has_dash.true)
]

pub returns-in_default-clause-gives : goal.returns-in_default-clause-gives
returns-in_default-clause-gives c =
    let some : 0 < length c.args.words.now = omega (arith, eqb-false _ _ (sym c.is_empty.ensures ∙ c.if-is_empty.false)) in
    let name = c.as_str.ensures.value ∙ ap string_bytes c.index-words-0.is in
    rw (
      command_of-named string_bytes c.args.words.now c.index-words-0.result c.as_str.result.now some (sym c.has_dash.ensures ∙ c.if-has_dash.false) name,
      c.parse.ensures.words (map string_bytes (drop 1 c.args.words.now)),
      c.in_default.is,
    )
    refl

pub returns-in_err-count-clause-gives : goal.returns-in_err-count-clause-gives
returns-in_err-count-clause-gives c =
    let some : 0 < length c.args.words.now = omega (arith, eqb-false _ _ (sym c.is_empty.ensures ∙ c.if-is_empty.false)) in
    let name = c.as_str.ensures.value ∙ ap string_bytes c.index-words-0.is in
    let p = err_from_is_err_and c.from_residual.result c.from_residual.ensures.1 in
    rw (
      p.1,
      p.2,
      command_of-named string_bytes c.args.words.now c.index-words-0.result c.as_str.result.now some (sym c.has_dash.ensures ∙ c.if-has_dash.false) name,
      c.in-Some.ensures.words (map string_bytes (drop 1 c.args.words.now)),
    )
    (gives_misfit c.in-Some.keyword string_bytes c.args.words.now c.in_err-count.field-0.0 c.in_err-count.ensures.misfits)

pub returns-clause-gives : goal.returns-clause-gives
returns-clause-gives c =
    let some : 0 < length c.args.words.now = omega (arith, eqb-false _ _ (sym c.is_empty.ensures ∙ c.if-is_empty.false)) in
    let name = c.as_str.ensures.value ∙ ap string_bytes c.index-words-0.is in
    let read = rw (take_rest c.args.words.now 1) at c.read.ensures.gives in
    rw (command_of-named string_bytes c.args.words.now c.index-words-0.result c.as_str.result.now some (sym c.has_dash.ensures ∙ c.if-has_dash.false) name, c.in-Some.ensures.words (map string_bytes (drop 1 c.args.words.now)))
    read
