use Rattle.std.proofs.Common.{ℕ, ◌+◌, Some, take, sym, ap, subst, ◌∙◌, arith}
use Rattle.std.proofs.Math.ListN.{set}
use Rattle.mount_table.specs.Inner.Places.{pids_of, ArePlaces}
use Rattle.mount_table.proofs.Placing.{none_placed, only_none, placed_one, pid_in}
use Rattle.mount_table.proofs.places.places_of.Goals as goal

pub loop-place-init : goal.loop-place-init
loop-place-init c = none_placed c.in_ok-places.places.items (c.in_ok-places.ensures.items_if_clones_equal (only_none _ (λ n h. h)))

pub loop-place-preserved : goal.loop-place-preserved
loop-place-preserved c =
    let mounts = c.args.mounts.now in
    let i : ℕ = c.loop-place.place in
    let d = c.index-mounts-place.result in
    subst (λ (n : ℕ). ArePlaces (pids_of (take (i + 1) mounts)) (set c.loop-place.places.items n (Some i))) (sym (c.from.ensures ∙ ap pid_in c.index-mounts-place.is))
    (placed_one mounts i d c.loop-place.places.items (omega arith) c.requires c.loop-place.invariant)
