use Rattle.std.proofs.Common.{◌∙◌}
use Rattle.section_stream.proofs.Parting.{taken, left}
use Rattle.section_stream.proofs.parts.Parts.split_at.Goals as goal

pub returns : goal.returns
returns c =
    let p = c.self.inside in
    let front = c.cut.result in
    let body = c.cut-2.result in
    let tail = c.cut-3.result in (
      c.new.ensures ∙ taken c.args.n p.front.now p.body.now p.tail.now c.args.self.now front.0.now body.0.now tail.0.now c.self.view_is c.cut.ensures.0 c.cut-2.ensures.0 c.cut-3.ensures.0,
      c.new-2.ensures ∙ left c.args.n p.front.now p.body.now p.tail.now c.args.self.now front.0.now body.0.now front.1.now body.1.now tail.1.now c.self.view_is c.cut.ensures.0 c.cut-2.ensures.0
          c.cut.ensures.1 c.cut-2.ensures.1 c.cut-3.ensures.1,
    )
