use Rattle.std.proofs.Common.{sym, ap, ◌∙◌, Err}
use Rattle.generation.specs.Publication.{Folder}
use Rattle.generation.proofs.Words.{large_folder, unless_passed, spots_of}
use Rattle.generation.proofs.Weighing.{spot_at_place, top_spot}
use Rattle.generation.proofs.limit.check_folders.Goals as goal

pub returns-in-Some : goal.returns-in-Some
returns-in-Some c =
    let t = c.args.tree.now in
    let same = spot_at_place t c.args.spots.now (spots_of t) c.in-Some.index top_spot c.requires.spots.each c.in-Some.ensures.within.1 in
    ap (λ f. unless_passed (large_folder f)) (sym (c.in-Some.ensures.large t (spots_of t) c.requires.spots.each c.requires.sizes))
    ∙ ap (λ p. Err (Folder p)) (ap (λ s. s.path) same ∙ sym c.in_ok-path.ensures)

pub returns : goal.returns
returns c = ap (λ f. unless_passed (large_folder f)) (sym (c.in_default.ensures.large c.args.tree.now (spots_of c.args.tree.now) c.requires.spots.each c.requires.sizes))
