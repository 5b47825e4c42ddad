use Rattle.std.proofs.Common.{◌≡◌, ◌++◌, List, ap, ◌∙◌, length, arith}
use Rattle.section_stream.specs.Cuts.{Bytes}
use Rattle.section_stream.specs.Packing.{last_of}
use Rattle.section_stream.proofs.CallerLemmas.{few_last}
use Rattle.carousel_world.proofs.downlink.Downlink.send_rest.Goals as goal

pub receive-requires : goal.receive-requires
receive-requires c =
    let mux = c.self.inside.mux in
    let packets : c.deref.result.now ≡ last_of mux = c.deref.ensures.value ∙ c.in_ok-finish.ensures.packets ∙ ap (λ (xs : List Bytes). xs ++ last_of mux) c.clear.ensures.items in
    omega (arith, ap (λ (xs : List Bytes). length xs) packets, few_last mux, c.requires)
