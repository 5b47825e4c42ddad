use Rattle.std.proofs.Common.{List, ℕ, sym, ap, ◌∙◌, arith, length}
use Rattle.psi_tables.specs.Pmts.{Stream}
use Rattle.psi_tables.specs.Inner.Pmts.{view_stream}
use Rattle.psi_tables.proofs.Runs.{streams_more, streams_end, streams_left}
use Rattle.psi_tables.proofs.pmt.left_after_streams.Goals as goal

pub loop-following-preserved : goal.loop-following-preserved
loop-following-preserved c =
    sym (ap (λ (r : List Stream × List ℕ). r.1) (streams_more c.loop-following.rest.now (view_stream c.in-Some.field-0-0) c.in-Some.following.now (sym c.in-Some.ensures)))
    ∙ c.loop-following.invariant

pub returns-clause-left : goal.returns-clause-left
returns-clause-left c =
    sym (ap (λ (r : List Stream × List ℕ). r.1) (streams_end c.loop-following.rest.now (sym c.in_default.ensures))) ∙ c.loop-following.invariant

pub returns-clause-within : goal.returns-clause-within
returns-clause-within c = omega (arith, ap (λ (xs : List ℕ). length xs) (returns-clause-left c), streams_left c.args.bytes.now)
