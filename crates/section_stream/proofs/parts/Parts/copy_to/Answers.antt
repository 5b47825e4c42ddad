use Rattle.std.proofs.Common.{◌+◌, ◌≤◌, ◌++◌, length, ◌∙◌, ap, arith, append_assoc, length-append}
use Rattle.section_stream.specs.Cuts.{Bytes}
use Rattle.section_stream.proofs.Parting.{written, one_more}
use Rattle.section_stream.proofs.parts.Parts.copy_to.Goals as goal

pub returns : goal.returns
returns c =
    let p = c.self.inside in
    let to = c.args.to.now in
    let size : c.args.at + (length p.front.now + (length p.body.now + length p.tail.now)) ≤ length to =
    omega (arith, c.requires, ap (λ (x : Bytes). length x) c.self.view_is, length-append p.front.now (p.body.now ++ p.tail.now), length-append p.body.now p.tail.now) in
    let two = one_more c.args.at _ p.front.now p.body.now to c.copy_at.new.to c.copy_at-2.new.to (omega (arith, size)) (omega arith) c.copy_at.ensures c.copy_at-2.ensures in
    one_more c.args.at _ (p.front.now ++ p.body.now) p.tail.now to c.copy_at-2.new.to _ (omega (arith, size, length-append p.front.now p.body.now)) (omega (arith, length-append p.front.now p.body.now)) two c.copy_at-3.ensures
    ∙ ap (λ x. written c.args.at x to) (append_assoc p.front.now p.body.now p.tail.now ∙ c.self.view_is)
