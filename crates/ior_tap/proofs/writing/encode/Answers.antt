use Rattle.std.proofs.Common.{List, ℕ, map, ap, ◌++◌, ◌∙◌}
use Rattle.ior_tap.specs.Iors.{view, view_tap, spelling}
use Rattle.ior_tap.proofs.Written.{encoded}
use Rattle.ior_tap.proofs.writing.encode.Goals as goal

pub returns : goal.returns
returns c =
    let x = c.unwrap.result in
    let whole = c.done.ensures ∙ c.in_ok-put_reference.ensures.put ∙ ap (λ (l : List ℕ). l ++ spelling c.args.ior.now.kind x.0.now) c.new-out.ensures in
    let e = encoded (view c.args.ior.now) c.requires.0 x.0.now (map view_tap x.1.now.taps.items) c.done.result.items c.requires.1 (rw c.unwrap.ensures at c.biop_of.ensures) whole c.in_ok-put_reference.ensures.room in
    record { spells = e.spells; reads = e.reads; size = e.size }
