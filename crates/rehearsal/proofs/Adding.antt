-- One edit more is pending.
use Rattle.rehearsal.proofs.Words.{◌≡◌, ℕ, [], ◌∷◌, ◌++◌, Some, arith, BTreeMap, nat_cmp, Pending, with_edit, without, edits_in}
use Rattle.std.proofs.lemmas.Grind.{common_steps}
use Rattle.std.specs.BTreeMap.{get, Updates}
use Rattle.std.specs.declared.vec.Vec.{Vec}
use Rattle.std.specs.declared.alloc.Global.{Global}
use Rattle.path_tree.specs.declared.tree.Edit.{Edit}

pub added : (p : Pending) (editor : ℕ) (edit : Edit) (mid new : BTreeMap ℕ (Vec Edit Global)) (took pushed : Vec Edit Global) → took.items ≡ p editor
    → ((e : ℕ) → edits_in (get nat_cmp mid e) ≡ without p editor e) → pushed.items ≡ took.items ++ edit ∷ [] → Updates nat_cmp mid new editor (Some pushed)
    → (e : ℕ) → edits_in (get nat_cmp new e) ≡ with_edit p editor edit e
added p editor edit mid new took pushed was held more updates e = let at = updates.0 e in let mine = held e in grind (arith, common_steps, at, mine, was, more)
