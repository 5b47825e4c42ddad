use Rattle.std.proofs.Common.{◌≡◌, ◌*◌, ◌-◌, ◌∙◌, min, length, take, drop, length-drop, ap, arith}
use Rattle.std.proofs.lemmas.List.{drop_min}
use Rattle.carousel_profile.specs.declared.TheConstants.{BLOCK_SIZE}
use Rattle.generation.proofs.Words.{take_all, take_min}
use Rattle.generation.proofs.control.block_bytes.Goals as goal

pub returns-clause-block : goal.returns-clause-block
returns-clause-block c =
    let bytes = c.args.bytes.now in
    let at = c.min-first.result in
    let rest = take (length bytes - at) (drop at bytes) in
    let first : at ≡ min (c.args.block * BLOCK_SIZE) (length bytes) = omega (arith, c.min-first.ensures, c.from.ensures) in
    let size : c.min.result ≡ min BLOCK_SIZE (length rest) = omega (arith, c.min.ensures) in
    ap (λ k. take k rest) size ∙ (take_min BLOCK_SIZE rest
    ∙ ap (take BLOCK_SIZE) (take_all (length bytes - at) (drop at bytes) (omega (arith, length-drop at bytes)) ∙ (ap (λ k. drop k bytes) first ∙ drop_min (c.args.block * BLOCK_SIZE) bytes)))
