use Rattle.std.proofs.Common.{◌∙◌, ap, map, get_or, arith}
use Rattle.generation.proofs.Sharing.{one_seen, rising_at}
use Rattle.generation.proofs.Words.{take_all, key_in, module_of, old_keys, old_modules, placed_at, path_total, view_spot, view_placed}
use Rattle.generation.proofs.Weighing.{top_spot}
use Rattle.generation.proofs.former.former_of.Goals as goal

pub loop-spot-preserved : goal.loop-spot-preserved
loop-spot-preserved c =
    let t = c.args.old_tree.now in
    let view = view_spot c.args.tree.now in
    let old = map (view_placed t) c.args.old.now in
    let ss = c.args.spots.now in
    let i = c.loop-spot.spot-index in
    record {
      before = λ k le lt j d l. path_total.trans _ (view (get_or ss i top_spot)).path _ (c.seek-object.ensures.before j d l) (rising_at view ss c.requires.rising i k top_spot (omega arith) lt);
      keys = rw c.in_ok-push.ensures.items (one_seen (λ s. key_in (placed_at old s)) view ss i top_spot c.loop-spot.keys.items c.key_in.result (omega arith) c.loop-spot.invariant.keys
          (c.key_in.ensures t ∙ ap key_in c.seek-object.ensures.object));
      modules = rw c.in_ok-push-2.ensures.items (one_seen (λ s. module_of (placed_at old s)) view ss i top_spot c.loop-spot.modules.items c.module_in.result (omega arith) c.loop-spot.invariant.modules
          (c.module_in.ensures t ∙ ap module_of c.seek-object.ensures.object));
    }

pub returns-clause-keys : goal.returns-clause-keys
returns-clause-keys c = c.loop-spot.invariant.keys ∙ ap (λ l. old_keys (map (view_placed c.args.old_tree.now) c.args.old.now) (map (view_spot c.args.tree.now) l)) (take_all c.loop-spot.spot-index c.args.spots.now (omega arith))

pub returns-clause-modules : goal.returns-clause-modules
returns-clause-modules c = c.loop-spot.invariant.modules ∙ ap (λ l. old_modules (map (view_placed c.args.old_tree.now) c.args.old.now) (map (view_spot c.args.tree.now) l)) (take_all c.loop-spot.spot-index c.args.spots.now (omega arith))
