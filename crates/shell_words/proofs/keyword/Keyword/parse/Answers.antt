use Rattle.std.proofs.Common.{◌≤◌, length, sym, ◌∙◌, arith}
use Rattle.shell_words.proofs.Complaining.{reads_as}
use Rattle.shell_words.proofs.Reading.{view_entry, this_row, more_rows, no_row}
use Rattle.shell_words.proofs.keyword.Keyword.parse.Goals as goal

pub returns-then-eq : goal.returns-then-eq
returns-then-eq c =
    let is = this_row view_entry c.args.word.now c.keywords-name-items.result.now c.loop-name.name-index c.loop-name.invariant _ c.loop-name-test.true (sym c.eq.ensures ∙ c.if-eq.true) c.keywords-name-items.ensures in
    record { words = reads_as c.args.word.now _ is; keyword = is }

pub loop-name-preserved : goal.loop-name-preserved
loop-name-preserved c =
    more_rows view_entry c.args.word.now c.keywords-name-items.result.now c.loop-name.name-index c.loop-name.invariant _ c.loop-name-test.true (sym c.eq.ensures ∙ c.if-eq.false)

pub returns : goal.returns
returns c =
    let end : length c.keywords-name-items.result.now ≤ c.loop-name.name-index = omega (arith, c.loop-name-test.false) in
    let is = no_row view_entry c.args.word.now c.keywords-name-items.result.now c.loop-name.name-index c.loop-name.invariant end c.keywords-name-items.ensures in
    record { words = reads_as c.args.word.now _ is; keyword = is }
