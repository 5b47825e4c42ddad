use Rattle.std.proofs.Common.{◌<◌, ◌≤◌, length, ap, arith, append-nil}
use Rattle.std.proofs.lemmas.List.{take_all}
use Rattle.section_stream.specs.Kept.{view_bytes}
use Rattle.mount_table.proofs.Hearing.{map_next}
use Rattle.mount_table.proofs.receiver.hear_all.Goals as goal

pub loop-section-init : goal.loop-section-init
loop-section-init c = λ heard s. rw (append-nil heard) s

pub loop-section-preserved : goal.loop-section-preserved
loop-section-preserved c = λ heard s.
    let h : c.loop-section.section-index < length c.args.sections.items = omega (arith, ap length c.deref-section-items.ensures.value) in
    rw (map_next view_bytes heard c.args.sections.items c.loop-section.section-index c.section-item.result h (rw c.deref-section-items.ensures.value at c.section-item.is))
    at (rw c.deref.ensures.value at (c.in_ok-feed.ensures.stands _ (c.loop-section.invariant heard s)))

pub returns-clause-stands : goal.returns-clause-stands
returns-clause-stands c = λ heard s.
    let all : length c.args.sections.items ≤ c.loop-section.section-index = omega (arith, ap length c.deref-section-items.ensures.value) in
    rw (take_all c.loop-section.section-index c.args.sections.items all) at (c.loop-section.invariant heard s)
