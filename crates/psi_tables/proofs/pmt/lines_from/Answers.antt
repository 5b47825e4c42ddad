use Rattle.std.proofs.Common.{◌≡◌, List, [], ◌∷◌, ◌++◌, map, refl, sym, ap, ◌∙◌}
use Rattle.std.proofs.lemmas.List.{append-nil, map-append}
use Rattle.psi_tables.specs.declared.tables.PmtLine.{PmtLine}
use Rattle.psi_tables.specs.Pmts.{view_line, lines_of, LineFields}
use Rattle.psi_tables.specs.Inner.Pmts.{view_stream}
use Rattle.psi_tables.proofs.Runs.{listed_more, listed_end, is_line, is_no_line}
use Rattle.psi_tables.proofs.pmt.lines_from.Goals as goal

pub loop-stream-preserved-in_ok-push : goal.loop-stream-preserved-in_ok-push
loop-stream-preserved-in_ok-push c =
    let stream = view_stream c.in-Some.stream in
    let lines = c.loop-stream.lines.items in
    let line : PmtLine = record { pid = c.in-Some.stream.pid; carousels = c.in_ok-carousels.carousels } in
    let one : lines_of (stream ∷ []) ≡ view_line line ∷ [] = is_line stream line c.if-stream-eq-DSM_CC.true c.in_ok-carousels.ensures refl in
    listed_more lines c.push.new.self.items c.loop-stream.rest.now c.args.bytes.now stream c.in-Some.following.now (sym c.in-Some.ensures)
    (ap (map view_line) c.in_ok-push.ensures.items ∙ map-append view_line lines (line ∷ []) ∙ ap (λ (ls : List LineFields). map view_line lines ++ ls) (sym one)) c.loop-stream.invariant

pub loop-stream-preserved : goal.loop-stream-preserved
loop-stream-preserved c =
    let stream = view_stream c.in-Some.stream in
    let lines = c.loop-stream.lines.items in
    listed_more lines lines c.loop-stream.rest.now c.args.bytes.now stream c.in-Some.following.now (sym c.in-Some.ensures)
    (sym (append-nil (map view_line lines)) ∙ ap (λ (ls : List LineFields). map view_line lines ++ ls) (sym (is_no_line stream c.if-stream-eq-DSM_CC.false))) c.loop-stream.invariant

pub returns : goal.returns
returns c = listed_end c.loop-stream.lines.items c.loop-stream.rest.now c.args.bytes.now (sym c.in_default.ensures) c.loop-stream.invariant
