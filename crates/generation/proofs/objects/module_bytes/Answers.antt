use Rattle.std.proofs.Common.{◌∙◌, ◌≡◌, ◌≤◌, false, length, ap, arith}
use Rattle.generation.proofs.Words.{take_all, bytes_of_all, object_bytes, objects_in, view_placed, IsSpotIn, ByModule}
use Rattle.generation.proofs.Members.{all_in_group, members_bytes}
use Rattle.generation.proofs.Placing.{folders_small}
use Rattle.biop_object.specs.declared.written.TheConstants.{MOST_FOLDER_SIZE}
use Rattle.generation.proofs.objects.module_bytes.Goals as goal

pub loop-object-init : goal.loop-object-init
loop-object-init c = c.new-bytes.ensures.items

pub object_bytes-requires-clause-object : goal.object_bytes-requires-clause-object
object_bytes-requires-clause-object c =
    let o = c.args.objects.now in
    all_in_group (λ x. IsSpotIn o.tree x.spot) ByModule c.args.id o.all.items c.in_module-members.result.now c.in_module-members.ensures c.requires.spots c.loop-object.object-index _ (omega arith)

pub object_bytes-requires-clause-small : goal.object_bytes-requires-clause-small
object_bytes-requires-clause-small c =
    let o = c.args.objects.now in
    all_in_group (λ x. x.spot.whole ≡ false → length (object_bytes c.args.carousel (objects_in o) (view_placed o.tree x)) ≤ MOST_FOLDER_SIZE) ByModule c.args.id o.all.items c.in_module-members.result.now c.in_module-members.ensures
    (folders_small c.args.carousel o.tree o.all.items c.requires.placed) c.loop-object.object-index _ (omega arith)

pub returns : goal.returns
returns c = c.loop-object.invariant ∙ (ap (bytes_of_all c.args.carousel (objects_in c.args.objects.now) c.args.objects.now.tree) (take_all c.loop-object.object-index c.in_module-members.result.now (omega arith))
    ∙ members_bytes c.args.carousel c.args.objects.now c.args.id c.in_module-members.result.now c.in_module-members.ensures)
