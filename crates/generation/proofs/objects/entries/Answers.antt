use Rattle.std.proofs.Common.{◌++◌, ◌∷◌, [], ◌∙◌, map, sym, ap, arith}
use Rattle.generation.proofs.Words.{map_more, take_all, All-nil, All-push, IsEntry}
use Rattle.generation.proofs.Members.{binding_of, bindings_are, children, no_object}
use Rattle.generation.proofs.objects.entries.Goals as goal

pub loop-child-init : goal.loop-child-init
loop-child-init c = record { valid = rw c.new-entries.ensures.items (All-nil IsEntry); so_far = c.new-entries.ensures.items }

pub written-requires-clause-object : goal.written-requires-clause-object
written-requires-clause-object c = children c.args.objects.now c.args.folder c.in_folder-members.result.now c.requires c.in_folder-members.ensures c.loop-child.child-index _ (omega arith)

pub loop-child-preserved : goal.loop-child-preserved
loop-child-preserved c =
    let ms = c.in_folder-members.result.now in
    record {
      valid = rw c.in_ok-push.ensures.items (All-push IsEntry c.loop-child.entries.items c.in_ok-written.field-0 c.loop-child.invariant.valid c.in_ok-written.ensures.valid);
      so_far = c.in_ok-push.ensures.items
          ∙ ((λ j. c.loop-child.invariant.so_far j ++ c.in_ok-written.ensures.written j ∷ []) ∙ sym (map_more (binding_of c.args.carousel c.args.objects.now.tree) ms c.loop-child.child-index no_object (omega arith)));
    }

pub returns-clause-entries : goal.returns-clause-entries
returns-clause-entries c =
    let o = c.args.objects.now in
    c.loop-child.invariant.so_far ∙ (ap (map (binding_of c.args.carousel o.tree)) (take_all c.loop-child.child-index c.in_folder-members.result.now (omega arith) ∙ c.in_folder-members.ensures) ∙ bindings_are c.args.carousel c.args.folder o.tree o.all.items)
