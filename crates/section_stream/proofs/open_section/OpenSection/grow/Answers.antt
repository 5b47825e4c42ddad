use Rattle.std.proofs.Common.{ap, arith, length, length-append}
use Rattle.section_stream.proofs.Handing.{kept_bytes, grown_view}
use Rattle.section_stream.specs.Inner.Steps.{bytes_of}
use Rattle.section_stream.proofs.open_section.OpenSection.grow.Goals as goal

pub append-requires : goal.append-requires
append-requires c =
    let same = ap length (kept_bytes _ _ _ c.self.view_is c.requires.open) in
    omega (arith, same, c.requires.room, length-append (bytes_of c.args.self.now) c.args.more.now, c.self.invariant)

pub returns : goal.returns
returns c = grown_view c.args.self.now c.self.inside.is_open c.self.inside.bytes.items c.args.more.now _ c.self.view_is c.requires.open c.append.ensures.items
