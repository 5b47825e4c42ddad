use Rattle.std.proofs.Common.{◌<◌, ◌≤◌, length, arith, append-nil}
use Rattle.std.proofs.lemmas.List.{take_all}
use Rattle.section_stream.specs.Kept.{view_bytes}
use Rattle.shell_streams.proofs.Hearing.{map_next}
use Rattle.shell_streams.proofs.carrier.hear_each.Goals as goal

pub loop-section-init : goal.loop-section-init
loop-section-init g c = λ start before s. rw (append-nil before) s

pub loop-section-preserved : goal.loop-section-preserved
loop-section-preserved g c = λ start before s.
    let h : c.loop-section.section-index < length c.args.sections.now = omega arith in
    rw (map_next view_bytes before c.args.sections.now c.loop-section.section-index c.section-item.result h c.section-item.is)
    at (rw c.deref.ensures.value at (c.in_ok-hear.ensures start _ (c.loop-section.invariant start before s)))

pub returns : goal.returns
returns g c = λ start before s.
    let all : length c.args.sections.now ≤ c.loop-section.section-index = omega arith in
    rw (take_all c.loop-section.section-index c.args.sections.now all) at (c.loop-section.invariant start before s)
