use Rattle.std.proofs.Common.{◌≡◌, ◌+◌, take, arith, ap, map}
use Rattle.std.proofs.lemmas.Result.{err_from_is_err_and}
use Rattle.std.proofs.lemmas.List.{take_all}
use Rattle.section_stream.specs.Kept.{view_bytes}
use Rattle.shell_streams.proofs.CallerLemmas.{puts_nothing, puts_then, puts_stop, puts_as}
use Rattle.receiver_commands.specs.Accepted.{accepted_bytes}
use Rattle.receiver_commands.proofs.Recording.{accepted_next, accepted_all}
use Rattle.receiver_commands.proofs.record.put_accepted.Goals as goal

pub loop-candidate-init : goal.loop-candidate-init
loop-candidate-init g c = record { puts = puts_nothing tt _ }

pub returns-in_err-put_one : goal.returns-in_err-put_one
returns-in_err-put_one g c =
    let p = err_from_is_err_and c.from_residual.result c.from_residual.ensures.1 in
    rw (p.1, p.2) (puts_as (accepted_all c.args.candidates.now (c.loop-candidate.candidate-index + 1)) (puts_stop _
    (puts_as (accepted_next c.args.candidates.now c.loop-candidate.candidate-index c.candidate-item.result c.deref.result.now c.loop-candidate-test.true c.candidate-item.is c.deref.ensures.value)
    (puts_then c.loop-candidate.invariant.puts c.in_err-put_one.ensures))))

pub loop-candidate-preserved : goal.loop-candidate-preserved
loop-candidate-preserved g c = record {
  puts = puts_as (accepted_next c.args.candidates.now c.loop-candidate.candidate-index c.candidate-item.result c.deref.result.now c.loop-candidate-test.true c.candidate-item.is c.deref.ensures.value)
      (puts_then c.loop-candidate.invariant.puts c.in_ok-put_one.ensures);
}

pub returns : goal.returns
returns g c =
    let all : take c.loop-candidate.candidate-index c.args.candidates.now ≡ c.args.candidates.now = take_all c.loop-candidate.candidate-index c.args.candidates.now (omega (arith, c.loop-candidate-test.false)) in
    puts_as (ap (λ vs. accepted_bytes (map view_bytes vs)) all) c.loop-candidate.invariant.puts
