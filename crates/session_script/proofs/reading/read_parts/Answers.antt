use Rattle.session_script.proofs.Imports.{◌≡◌, ◌∙◌, ap, sym, subst, arith, length, rules, tests, Ok, Err, Fields, length_push, line_asks, SaysSomething, IsInRanges, AreListed}
use Rattle.std.proofs.lemmas.Result.{err_from_is_err_and}
use Rattle.session_script.specs.declared.script.ScriptFault.TheVariants.{NoMemory}
use Rattle.session_script.proofs.Walking.{walks, refused, ends, asks_here, next_line, no_more_lines}
use Rattle.session_script.proofs.reading.read_parts.Goals as goal

pub loop-line-preserved : goal.loop-line-preserved
loop-line-preserved c =
    let next = next_line _ c.args.text.now c.split-line-items.result c.into_iter-line-iterator.result c.loop-line.line-iterator c.next.new.self c.into_iter-line-iterator.ensures.into_iter_gives c.split-line-items.ensures.rest c.split-line-items.ensures.done c.split-line-items.ensures.closure c.loop-line.yielded c.loop-line.yielded_by _ c.next.ensures.steps (λ x r q k. search (rules, tests)) c.in-Some.line c.in-Some.is in
    rw (length_push c.loop-line.yielded c.in-Some.line)
    (walks c.args.text.now (length c.loop-line.yielded) c.loop-line.reading c.in-Some.line.now c.loop-line.invariant next c.read.new.self (c.in_ok-read.ensures.says c.loop-line.invariant.said c.loop-line.invariant.stands))

pub returns-in_err-read-clause-grammar : goal.returns-in_err-read-clause-grammar
returns-in_err-read-clause-grammar c =
    let next = next_line _ c.args.text.now c.split-line-items.result c.into_iter-line-iterator.result c.loop-line.line-iterator c.next.new.self c.into_iter-line-iterator.ensures.into_iter_gives c.split-line-items.ensures.rest c.split-line-items.ensures.done c.split-line-items.ensures.closure c.loop-line.yielded c.loop-line.yielded_by _ c.next.ensures.steps (λ x r q k. search (rules, tests)) c.in-Some.line c.in-Some.is in
    let p = err_from_is_err_and c.from_residual.result c.from_residual.ensures.1 in rw (p.1, p.2)
    (refused c.args.text.now (length c.loop-line.yielded) c.loop-line.reading c.in-Some.line.now c.loop-line.invariant next (Unit {0}) c.read.new.self c.in_err-read.field-0.0
    (c.in_err-read.ensures.says c.loop-line.invariant.said c.loop-line.invariant.stands))

pub returns-in_err-read-clause-memory : goal.returns-in_err-read-clause-memory
returns-in_err-read-clause-memory c =
    let next = next_line _ c.args.text.now c.split-line-items.result c.into_iter-line-iterator.result c.loop-line.line-iterator c.next.new.self c.into_iter-line-iterator.ensures.into_iter_gives c.split-line-items.ensures.rest c.split-line-items.ensures.done c.split-line-items.ensures.closure c.loop-line.yielded c.loop-line.yielded_by _ c.next.ensures.steps (λ x r q k. search (rules, tests)) c.in-Some.line c.in-Some.is in
    let p = err_from_is_err_and c.from_residual.result c.from_residual.ensures.1 in λ h.
    let q = sym p.1 ∙ h in let e : c.in_err-read.field-0.0 ≡ NoMemory = cc in
    asks_here c.args.text.now (length c.loop-line.yielded) c.loop-line.reading c.in-Some.line.now c.loop-line.invariant next
    (sym (ap (λ part. line_asks part c.in-Some.line.now) c.loop-line.invariant.stands.part) ∙ c.in_err-read.ensures.memory (ap Err e))

pub returns : goal.returns
returns c =
    let all = no_more_lines _ c.args.text.now c.split-line-items.result c.into_iter-line-iterator.result c.loop-line.line-iterator c.next.new.self c.into_iter-line-iterator.ensures.into_iter_gives c.split-line-items.ensures.rest c.split-line-items.ensures.done c.split-line-items.ensures.closure c.loop-line.yielded c.loop-line.yielded_by _ c.next.ensures.steps (λ x r q k. search (rules, tests)) c.in-None.is in
    let meant = ends c.args.text.now (length c.loop-line.yielded) c.loop-line.reading c.loop-line.invariant all in
    let script = c.in_ok-finish.ensures.script ∙ c.loop-line.invariant.stands.script in record {
      grammar = meant ∙ ap Ok (sym c.in_ok-finish.ensures.script);
      memory = search rules;
      ranges = subst IsInRanges (sym script) c.loop-line.invariant.stands.ranges;
      listed = subst AreListed (sym script) c.loop-line.invariant.stands.listed;
      asks = λ some. let lines = ap (λ (fields : Fields). length fields.lines) script in c.loop-line.invariant.asked (omega (arith, some, lines));
    }

pub returns-in_err-finish-clause-memory : goal.returns-in_err-finish-clause-memory
returns-in_err-finish-clause-memory c =
    λ _. c.loop-line.invariant.asked (subst SaysSomething c.loop-line.invariant.stands.script c.in_err-finish.ensures.memory)
