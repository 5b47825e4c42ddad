use Rattle.std.proofs.Common.{◌≡◌, ◌+◌, ◌≤◌, Some, drop, take, sym, ap, ◌∙◌, arith}
use Rattle.std.specs.Option.{is_some}
use Rattle.path_tree.specs.Texts.{with_below}
use Rattle.mount_table.proofs.Naming.{nothing_yet, is_below, all_behind}
use Rattle.mount_table.proofs.receiver.rest_of.Goals as goal

pub loop-i-init : goal.loop-i-init
loop-i-init c = c.in_ok-rest.ensures ∙ sym (nothing_yet c.args.path.now)

pub unwrap-rest-requires : goal.unwrap-rest-requires
unwrap-rest-requires c =
    let some : 1 ≤ c.loop-i.i = omega arith in
    ap is_some (c.in_ok-below.ensures.below ∙ ap (λ rest. with_below rest c.name.result.now) c.loop-i.invariant ∙ is_below c.args.path.now c.loop-i.i c.name.result.now c.len-i-end.ensures.path some c.name.ensures)

pub loop-i-preserved : goal.loop-i-preserved
loop-i-preserved c =
    let some : 1 ≤ c.loop-i.i = omega arith in
    let next : c.in_ok-below.field-0 ≡ Some (drop 1 (take (c.loop-i.i + 1) c.args.path.now)) =
    c.in_ok-below.ensures.below ∙ ap (λ rest. with_below rest c.name.result.now) c.loop-i.invariant ∙ is_below c.args.path.now c.loop-i.i c.name.result.now c.len-i-end.ensures.path some c.name.ensures in
    let taken = c.unwrap-rest.ensures in
    cc

pub returns : goal.returns
returns c = c.loop-i.invariant ∙ all_behind c.args.path.now c.loop-i.i (omega arith)
