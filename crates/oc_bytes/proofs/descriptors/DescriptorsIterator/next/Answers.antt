use Rattle.std.proofs.Common.{rules, length, sym, ap, ◌∙◌}
use Rattle.oc_bytes.proofs.Runs.{descriptors_more}
use Rattle.oc_bytes.proofs.descriptors.DescriptorsIterator.next.Goals as goal

pub returns-clause-steps : goal.returns-clause-steps
returns-clause-steps c =
    let d = c.in_ok-descriptor.descriptor in
    sym c.self.view_is ∙ descriptors_more c.self.inside.rest.now (d.tag, d.bytes.now) c.in_ok-descriptor.following.now (sym c.in_ok-descriptor.ensures)

pub returns-clause-goes : goal.returns-clause-goes
returns-clause-goes c = let shorter = ap length (returns-clause-steps c) in search rules
