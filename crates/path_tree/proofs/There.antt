-- What memory is asked for: a file that stands in a tree.
use Rattle.std.proofs.Common.{◌≡◌, ◌≢◌, ℕ, List, [], Option, Some, None, Result, Ok, Err, OnErr, refl}
use Rattle.std.specs.Prelude.{IfNone}
use Rattle.path_tree.specs.Paths.{PathNames}
use Rattle.path_tree.specs.Trees.{Tree, Node, File, Folder, NoSuch, content_at, node_at}
use Rattle.path_tree.proofs.Changes.{node-file}

no_other : (b : List ℕ) (n : Node) → File b ≡ n → (n ≢ NoSuch) × (n ≢ Folder [])
no_other b n e = (λ none. cc, λ empty. cc)

-- where a file stands, something stands that is no empty folder
pub file_there : (t : Tree) (p : PathNames) (b : List ℕ) → content_at t p ≡ Some b → (node_at t p ≢ NoSuch) × (node_at t p ≢ Folder [])
file_there t p b is = no_other b (node_at t p) (node-file t p b is)

pub on_err : {T E : Type 0} {P : Type 0} (r : Result T E) → P → OnErr r P
on_err (Ok x) p = tt
on_err (Err e) p = p

pub if_none : {A : Type 0} {P : Type 0} (o : Option A) → (o ≡ None → P) → IfNone o P
if_none (Some x) f = tt
if_none None f = f refl
