use Rattle.std.proofs.Common.{◌≡◌, ◌∙◌, take, drop, arith, length-drop}
use Rattle.std.proofs.lemmas.List.{take_all}
use Rattle.std.proofs.lemmas.Grind.{common_steps}
use Rattle.ts_packet.proofs.parse_plain.Goals as goal

pub returns : goal.returns
returns c =
    let all : take 184 (drop 4 c.args.bytes.now) ≡ drop 4 c.args.bytes.now = take_all 184 (drop 4 c.args.bytes.now) (omega (arith, length-drop 4 c.args.bytes.now, c.told-bytes)) in
    (grind (arith, common_steps), grind (arith, common_steps, all), c.with_payload.ensures.payload ∙ all)
