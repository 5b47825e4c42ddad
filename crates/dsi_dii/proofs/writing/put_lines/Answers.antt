use Rattle.std.proofs.Common.{false, take, get_or, [], ◌∷◌, append_assoc}
use Rattle.std.proofs.lemmas.Grind.{flat_map-append}
use Rattle.std.proofs.lemmas.List.{take_more}
use Rattle.std.proofs.lemmas.List.Elements.{All-push}
use Rattle.dsi_dii.specs.declared.ModuleLine.{ModuleLine}
use Rattle.dsi_dii.specs.Controls.{line_bytes, LineFits}
use Rattle.dsi_dii.proofs.writing.put_lines.Goals as goal

pub loop-line-preserved : goal.loop-line-preserved
loop-line-preserved c =
    let before = take c.loop-line.line-index c.args.lines.now in
    let none : ModuleLine = record { id = 0; size = 0; version = 0; compressed = false } in
    let line = get_or c.args.lines.now c.loop-line.line-index none in
    let so_far = c.loop-line.invariant in
    let put = c.in_ok-put_line.ensures in
    rw (take_more c.args.lines.now c.loop-line.line-index none c.loop-line-test.true) (record {
      bytes = rw (flat_map-append line_bytes before (line ∷ []), put.bytes, so_far.bytes) (simp append_assoc);
      fit = All-push LineFits before line so_far.fit put.fits;
    })
