use Rattle.std.proofs.Common.{[], ◌∷◌, sym, ◌∙◌, ap, length, arith, length-append}
use Rattle.generation.proofs.Words.{objects_in, IsSpotIn, ByModule}
use Rattle.generation.proofs.Members.{all_in_group, members_bytes}
use Rattle.generation.proofs.Sharing.{more_same}
use Rattle.generation.proofs.unchanged.modules_that_stay.Goals as goal

pub are_same_files-requires-clause-before : goal.are_same_files-requires-clause-before
are_same_files-requires-clause-before c = all_in_group (λ o. IsSpotIn c.args.old.now.tree o.spot) ByModule c.loop-id.id c.args.old.now.all.items c.in_module-before.result.now c.in_module-before.ensures c.requires.old.spots

pub are_same_files-requires-clause-after : goal.are_same_files-requires-clause-after
are_same_files-requires-clause-after c = all_in_group (λ o. IsSpotIn c.args.objects.now.tree o.spot) ByModule c.loop-id.id c.args.objects.now.all.items c.in_module-after.result.now c.in_module-after.ensures c.requires.objects.spots

pub loop-id-preserved : goal.loop-id-preserved
loop-id-preserved c =
    let old = c.args.old.now in
    let new = c.args.objects.now in
    let id = c.loop-id.id in
    record {
      as_many = omega (arith, ap length c.in_ok-push.ensures.items, length-append c.loop-id.staying.items (c.are_same_files.result ∷ []), c.loop-id.invariant.as_many);
      same = rw c.in_ok-push.ensures.items (more_same (objects_in old) (objects_in new) c.loop-id.staying.items c.are_same_files.result id c.loop-id.invariant.same c.loop-id.invariant.as_many
          (λ e k. sym (members_bytes k old id c.in_module-before.result.now c.in_module-before.ensures)
          ∙ (c.are_same_files.ensures e k (objects_in old) (objects_in new) ∙ members_bytes k new id c.in_module-after.result.now c.in_module-after.ensures)));
    }
