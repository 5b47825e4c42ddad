use Rattle.std.proofs.Common.{◌≡◌, ◌-◌, ◌++◌, ◌∙◌, ap, take, arith, length, length-append, length-take}
use Rattle.section_stream.specs.Cuts.{Bytes}
use Rattle.section_stream.proofs.Handing.{kept_bytes, front_of_two, inserted, put_at}
use Rattle.section_stream.specs.Inner.Steps.{bytes_of}
use Rattle.section_stream.proofs.open_section.OpenSection.hand_over.Goals as goal

-- what is open is the buffer, and it lacks no more than the packet has
pub slice_bounds-last-end : goal.slice_bounds-last-end
slice_bounds-last-end c =
    let same = ap length (kept_bytes _ _ _ c.self.view_is c.requires.whole.is_open) in
    omega (arith, same, c.requires.whole.within, length-append (bytes_of c.args.self.now) c.args.more.now, length-take c.saturating_sub-missing.result c.args.more.now, c.saturating_sub-missing.ensures, c.len-had.ensures, c.self.inside.bytes.ok.0)

pub append-requires : goal.append-requires
append-requires c =
    let same = ap length (kept_bytes _ _ _ c.self.view_is c.requires.whole.is_open) in
    omega (arith, same, c.requires.whole.within, c.requires.whole.most, length-append (bytes_of c.args.self.now) c.args.more.now, length-take c.saturating_sub-missing.result c.args.more.now, c.saturating_sub-missing.ensures, c.len-had.ensures, c.self.invariant)

pub returns-clause-out : goal.returns-clause-out
returns-clause-out c =
    let same = kept_bytes _ _ _ c.self.view_is c.requires.whole.is_open in
    let room = c.insert.ensures.succeeds (omega (arith, c.in_ok-reserve.ensures.ok)) in
    let lacks : c.saturating_sub-missing.result ≡ c.args.n - length c.self.inside.bytes.items = omega (arith, c.saturating_sub-missing.ensures, c.len-had.ensures) in
    put_at c.args.out.now.items c.exchange-section.result c.args.index _ _
    (inserted _ c.args.out.now.items _ _ c.args.index c.exchange-section.result c.insert.ensures.items room c.reserve.ensures.items)
    (c.exchange-section.ensures.section ∙ c.truncate.ensures.items ∙ ap (take c.args.n) c.append.ensures.items
    ∙ front_of_two c.args.n c.saturating_sub-missing.result c.self.inside.bytes.items c.args.more.now lacks
    ∙ ap (λ (b : Bytes). take c.args.n (b ++ c.args.more.now)) same)
