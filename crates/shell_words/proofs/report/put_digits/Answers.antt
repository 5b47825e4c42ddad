use Rattle.std.proofs.Common.{[], ◌++◌, rules, ◌∙◌}
use Rattle.std.proofs.lemmas.Result.{err_from_is_err_and}
use Rattle.std.proofs.lemmas.List.{nil_from_length}
use Rattle.std.specs.Slice.Iter.{chunks_rest}
use Rattle.hex.specs.Hex.{encode_lower}
use Rattle.shell_streams.proofs.CallerLemmas.{puts_nothing, puts_none, puts_then, puts_stop, puts_as}
use Rattle.shell_words.proofs.Digits.{digits_more, digits_end}
use Rattle.shell_words.proofs.report.put_digits.Goals as goal

pub loop-piece-init : goal.loop-piece-init
loop-piece-init g c = (search rules, tt, search rules, ([], puts_nothing tt _, search rules))

pub returns-in_err-digits : goal.returns-in_err-digits
returns-in_err-digits g c =
    let p = err_from_is_err_and c.from_residual.result c.from_residual.ensures.1 in
    let so_far = c.loop-piece.invariant.3 in
    rw (p.1, p.2) (puts_as so_far.2 (puts_then so_far.1 (puts_none _ (encode_lower (chunks_rest c.loop-piece.piece-iterator)))))

pub returns-in_err-put : goal.returns-in_err-put
returns-in_err-put g c =
    let p = err_from_is_err_and c.from_residual-in_err-put.result c.from_residual-in_err-put.ensures.1 in
    let so_far = c.loop-piece.invariant.3 in
    let rest = chunks_rest c.next.new.self in
    rw (p.1, p.2) (puts_as (digits_more so_far.0 _ c.in-Some.piece.now rest _ so_far.2 c.in-Some.ensures.steps.1.0)
    (puts_stop (encode_lower rest) (puts_then so_far.1 (puts_as (c.as_bytes.ensures.value ∙ c.in_ok-digits.ensures) c.in_err-put.ensures.puts))))

pub loop-piece-preserved : goal.loop-piece-preserved
loop-piece-preserved g c =
    let steps = c.in-Some.ensures.steps in
    let so_far = c.loop-piece.invariant.3 in (
      search rules,
      tt,
      steps.0 ∙ c.loop-piece.invariant.2,
      (
        so_far.0 ++ encode_lower c.in-Some.piece.now,
        puts_then so_far.1 (puts_as (c.as_bytes.ensures.value ∙ c.in_ok-digits.ensures) c.in_ok-put.ensures.puts),
        digits_more so_far.0 _ c.in-Some.piece.now (chunks_rest c.next.new.self) _ so_far.2 steps.1.0,
      ),
    )

pub returns : goal.returns
returns g c =
    let so_far = c.loop-piece.invariant.3 in
    puts_as (digits_end so_far.0 _ _ so_far.2 (nil_from_length _ c.in-None.ensures.steps.1.0)) so_far.1
