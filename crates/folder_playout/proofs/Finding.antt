-- An entry, and what stands at its path in another tree.
use Rattle.std.proofs.Common.{◌≡◌, Bool, true, false, not, Option, Some, None, refl, ◌∙◌, sym, ap}
use Rattle.std.specs.Option.{is_some, option_map}
use Rattle.path_tree.specs.Paths.{Bytes, PathNames, same_name}
use Rattle.path_tree.specs.Trees.{Tree, content_at, is_a_file}
use Rattle.path_tree.specs.declared.entry.Entry.{Entry}
use Rattle.path_tree.specs.declared.entry.Entry.TheVariants as entries
use Rattle.folder_playout.specs.Notices.{one_if, one_if_gone, one_if_other}

-- a file, where another one stands
pub other_there : (t : Tree) (e : PathNames × Entry) (b x : Bytes) (r : Bool) → e.1 ≡ entries.File b → content_at t e.0 ≡ Some x → r ≡ not (same_name x b) → one_if r ≡ one_if_other t e
other_there t e b x r is found test = ap one_if test ∙ rw (is, found) refl

-- a file, where none stands
pub other_none : (t : Tree) (e : PathNames × Entry) (b : Bytes) → e.1 ≡ entries.File b → content_at t e.0 ≡ None → one_if true ≡ one_if_other t e
other_none t e b is found = rw (is, found) refl

pub other_folder : (t : Tree) (e : PathNames × Entry) → e.1 ≡ entries.Folder → one_if false ≡ one_if_other t e
other_folder t e is = rw is refl

pub gone_is : {X : Type 0} (view : X → Bytes) (t : Tree) (e : PathNames × Entry) (found : Option X) (r : Bool) → is_a_file e.1 ≡ true → is_some found ≡ not r → option_map view found ≡ content_at t e.0
    → one_if r ≡ one_if_gone t e
gone_is view t e (Some x) true file test at = absurd (cc)
gone_is view t e (Some x) false file test at = rw (file, sym at) refl
gone_is view t e None true file test at = rw (file, sym at) refl
gone_is view t e None false file test at = absurd (cc)

pub kept_stays : (t : Tree) (e : PathNames × Entry) → is_a_file e.1 ≡ false → one_if false ≡ one_if_gone t e
kept_stays t e folder = rw folder refl
