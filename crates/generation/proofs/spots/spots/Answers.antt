use Rattle.std.proofs.Common.{◌≡◌, ◌<◌, ◌∙◌, length, ap, arith}
use Rattle.generation.proofs.Words.{PathNames, Entry, path_at, get_or_read}
use Rattle.generation.proofs.Spotting.{item_is}
use Rattle.generation.proofs.Passing.{entry_begun, name_kept, entry_kept, all_kept}
use Rattle.generation.proofs.spots.spots.Goals as goal

pub loop-depth-init : goal.loop-depth-init
loop-depth-init c = rw c.shared_before-depth.ensures.shared (entry_begun c.entries-entries.result.now c.loop-at.at c.loop-at.spots.items c.loop-at.folders.items (omega arith) c.loop-at.invariant)

-- one object more
pub loop-depth-preserved : goal.loop-depth-preserved
loop-depth-preserved c =
    let es = c.entries-entries.result.now in
    let depth = c.loop-depth.depth in
    let folders = c.loop-depth.folders.items in
    let h = c.loop-depth.invariant in
    let long : c.len-depth-end.result ≡ length (path_at es c.loop-at.at) = c.len-depth-end.ensures.names ∙ ap (λ (x : PathNames × Entry). length x.0) (item_is es c.loop-at.at c.index-entries-at.result (omega arith)) in
    let small : depth < 16 = omega (arith, c.len-depth-end.ensures.names, c.len-depth-end.ensures.path.depth) in
    let parent = get_or_read folders depth c.index.result.now (omega (arith, h.many, small)) c.index.ensures 0 in
    rw c.in_ok-push-2.ensures.items
    (name_kept es c.loop-at.at depth c.loop-depth.spots.items folders c.spot_of.result c.len-number.result c.index.result.now (omega arith) (omega (arith, long)) small h
    (omega (arith, c.len-number.ensures, c.loop-depth.spots.ok.0)) c.spot_of.ensures.spot parent c.spot_of.ensures.valid)

pub loop-at-preserved : goal.loop-at-preserved
loop-at-preserved c =
    let es = c.entries-entries.result.now in
    let long : c.len-depth-end.result ≡ length (path_at es c.loop-at.at) = c.len-depth-end.ensures.names ∙ ap (λ (x : PathNames × Entry). length x.0) (item_is es c.loop-at.at c.index-entries-at.result (omega arith)) in
    entry_kept es c.loop-at.at c.loop-depth.depth c.loop-depth.spots.items c.loop-depth.folders.items (omega arith) (omega (arith, long)) c.loop-depth.invariant

pub returns-clause-spots : goal.returns-clause-spots
returns-clause-spots c = all_kept c.entries-entries.result.now c.args.tree.now _ c.loop-at.at c.loop-at.spots.items c.loop-at.folders.items c.entries-entries.ensures.entries (omega arith) c.loop-at.invariant
