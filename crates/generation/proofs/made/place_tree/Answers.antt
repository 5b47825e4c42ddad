use Rattle.std.proofs.Common.{map, sym, subst, arith}
use Rattle.generation.proofs.Words.{GREATEST_ID, AreMembers, ArePlaced, IsId, ByFolder, ByModule, view_placed, CodePlaced, all_unmap, All-map, Placed}
use Rattle.generation.proofs.Filling.{greatest_most}
use Rattle.generation.proofs.Placing.{are_objects, few_old, placed_after, placed_is, placed_valid, each_id}
use Rattle.generation.proofs.Standing.{rising_all}
use Rattle.generation.proofs.made.place_tree.Goals as goal

pub former_of-requires-clause-spots : goal.former_of-requires-clause-spots
former_of-requires-clause-spots c = rw c.deref.ensures.value c.requires.weighed.spots.valid

pub former_of-requires-clause-rising : goal.former_of-requires-clause-rising
former_of-requires-clause-rising c = rw (c.deref.ensures.value, c.requires.weighed.spots.each) (rising_all c.args.tree c.requires.weighed.spots.tree)

pub modules-requires : goal.modules-requires
modules-requires c =
    rw (c.deref-2.ensures.value, c.requires.weighed.sizes, c.deref-3.ensures.value, c.in_ok-former.ensures.modules, c.deref.ensures.value, c.requires.weighed.spots.each)
    (are_objects (map (view_placed c.args.old_tree.now) c.args.old.now) c.args.tree c.requires.old c.requires.tree)

pub keys-requires : goal.keys-requires
keys-requires c =
    rw (c.deref-4.ensures.value, c.in_ok-former.ensures.keys, c.deref.ensures.value, c.requires.weighed.spots.each)
    (few_old c.args.tree (map (view_placed c.args.old_tree.now) c.args.old.now) c.requires.tree)

pub returns-clause-objects : goal.returns-clause-objects
returns-clause-objects c =
    rw (c.in_ok-all.ensures, c.deref-5.ensures.value, c.deref-6.ensures.value, c.deref-7.ensures.value, c.in_ok-keys.ensures, c.deref-4.ensures.value)
    (rw (c.in_ok-former.ensures.keys, c.in_ok-ids.ensures, c.deref-2.ensures.value, c.deref-3.ensures.value, c.in_ok-former.ensures.modules, c.deref.ensures.value)
    (placed_is (map (view_placed c.args.old_tree.now) c.args.old.now) c.args.tree c.args.weighed.now c.requires.weighed))

pub returns-clause-ready : goal.returns-clause-ready
returns-clause-ready c =
    let t = c.args.tree in
    let os = c.in_ok-all.all.items in
    let placed = subst (ArePlaced t) (sym (returns-clause-objects c)) (placed_after c.kept_is_a_placement.ensures (map (view_placed c.args.old_tree.now) c.args.old.now) t c.requires.weighed.spots.tree c.requires.tree c.requires.old) in
    let ids = all_unmap (λ (o : Placed). IsId o.module_id) (view_placed t) os (each_id t (map (view_placed t) os) placed) in
    record {
      placed = placed;
      spots = rw (c.in_ok-all.ensures, c.deref-5.ensures.value) (placed_valid t c.args.weighed.now.spots.items c.deref-6.result.now c.deref-7.result.now c.requires.weighed.spots.valid);
      ids = ids;
      last = greatest_most (map (λ x. x.«module») os) 0 GREATEST_ID (omega arith) (All-map IsId (λ (x : CodePlaced). x.«module») os ids);
      folders = subst (λ l. AreMembers ByFolder l c.in_ok-folders.folders.items) c.deref-8.ensures.value c.in_ok-folders.ensures;
      modules = subst (λ l. AreMembers ByModule l c.in_ok-modules.modules.items) c.deref-9.ensures.value c.in_ok-modules.ensures;
    }
