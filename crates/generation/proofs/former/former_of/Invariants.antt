use Rattle.std.proofs.Common.{◌≡◌, ◌≤◌, ◌<◌, ℕ, get_or, length, map, take}
use Rattle.generation.proofs.Words.{AreBefore, old_keys, old_modules, view_spot, view_placed}
use Rattle.generation.proofs.Weighing.{top_spot}
use Rattle.generation.proofs.former.former_of.Given as goal

abbrev pub invariant-loop-spot : goal.invariant-loop-spot
invariant-loop-spot l = record {
  before : (k : ℕ) → l.spot-index ≤ k → k < length l.spots → AreBefore l.old_tree (view_spot l.tree (get_or l.spots k top_spot)).path (take l.place l.old);
  keys : l.keys.items ≡ old_keys (map (view_placed l.old_tree) l.old) (map (view_spot l.tree) (take l.spot-index l.spots));
  modules : l.modules.items ≡ old_modules (map (view_placed l.old_tree) l.old) (map (view_spot l.tree) (take l.spot-index l.spots));
}
