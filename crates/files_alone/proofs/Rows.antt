-- Worked rows, by computation: what the definitions of before a folder could be kept give.
use Rattle.std.proofs.Common.{◌≡◌, ◌≢◌, ◌<◌, ℕ, List, [], ◌∷◌, None, Some, Ok, Err, refl, arith}
use Rattle.std.specs.List.{All}
use Rattle.std.proofs.lemmas.List.Elements.{All-nil, All-cons, All-from_recursion}
use Rattle.oc_bytes.specs.Numbers.{IsBytes}
use Rattle.path_tree.specs.Paths.{IsName, IsPath}
use Rattle.path_tree.specs.Edits.{IsEdit}
use Rattle.path_tree.specs.Files.{FileTree, Put, Remove}
use Rattle.path_tree.specs.declared.tree.Edit.TheVariants as edits
use Rattle.path_tree.specs.declared.tree.EditFault.TheVariants.{NoSuchFile}
use Rattle.module_packer.specs.Kept.{kept_modules, least_with}
use Rattle.cycle_planner.specs.Cycle.{groups_from}
use Rattle.generation_catalogue.specs.declared.entry.Refusal.TheVariants as refusals
use Rattle.files_alone.specs.Objects.{gateway_spot, spots_of, sizes_of, limit_of}
use Rattle.files_alone.specs.Histories.{FileEntry, Commit, Draw}
use Rattle.files_alone.specs.Requests.{FileRequest, IsRequest, history_of}
use Rattle.files_alone.specs.Requests as requests

-- /a/b and /c
abbrev files : FileTree
files = ((97 ∷ []) ∷ (98 ∷ []) ∷ [], 49 ∷ []) ∷ ((99 ∷ []) ∷ [], []) ∷ []

-- the folder /a is an object since a file stands in it
files-objects : spots_of files
    ≡ gateway_spot
    ∷ record { path = (97 ∷ []) ∷ []; content = None }
    ∷ record { path = (97 ∷ []) ∷ (98 ∷ []) ∷ []; content = Some (49 ∷ []) }
    ∷ record { path = (99 ∷ []) ∷ []; content = Some [] }
    ∷ []
files-objects = refl

-- the gateway binds a folder and a file, and /a a file
files-sizes : sizes_of files ≡ 192 ∷ 117 ∷ 45 ∷ 44 ∷ []
files-sizes = refl

files-pass : limit_of files ≡ None
files-pass = refl

-- /a/b is put, a removal of /c is refused, and of a cycle of three items as many are drawn as are left
asked : List FileRequest
asked =
    requests.Commit 1 (Put ((97 ∷ []) ∷ (98 ∷ []) ∷ []) (49 ∷ []) ∷ [])
    ∷ requests.Commit 2 (Remove ((99 ∷ []) ∷ []) ∷ [])
    ∷ requests.Draw 2
    ∷ requests.Draw 5
    ∷ []

answered : List FileEntry
answered =
    Commit 1 (Put ((97 ∷ []) ∷ (98 ∷ []) ∷ []) (49 ∷ []) ∷ []) (Ok 1)
    ∷ Commit 2 (Remove ((99 ∷ []) ∷ []) ∷ []) (Err (refusals.Edit 0 NoSuchFile))
    ∷ Draw 2 1 0 2
    ∷ Draw 5 1 2 1
    ∷ []

-- such requests can be made
only : {X : Type 0} (P : X → Type 0) (x : X) → P x → All P (x ∷ [])
only P x h = All-cons P x [] h (All-nil P)

a_name : (b : ℕ) → b ≢ 0 → b ≢ 47 → b < 256 → IsName (b ∷ [])
a_name b no_zero no_slash small = record {
  at_least = omega arith;
  at_most = omega arith;
  no_zero = only (λ b. b ≢ 0) b no_zero;
  no_slash = only (λ b. b ≢ 47) b no_slash;
  in_byte = only (λ b. b < 256) b small;
}

asked-made : All IsRequest asked
unfolding asked
asked-made =
    let path : IsPath ((97 ∷ []) ∷ (98 ∷ []) ∷ []) = record {
      depth = omega arith;
      names = All-cons IsName (97 ∷ []) ((98 ∷ []) ∷ []) (a_name 97 (omega arith) (omega arith) (omega arith)) (only IsName (98 ∷ []) (a_name 98 (omega arith) (omega arith) (omega arith)));
    } in
    let put = edits.Put ((97 ∷ []) ∷ (98 ∷ []) ∷ []) (49 ∷ []) in
    let bytes : IsBytes (49 ∷ []) = only (λ b. b < 256) 49 (omega arith) in
    let put_made : All IsEdit (put ∷ []) = only IsEdit put (path, bytes) in
    All-from_recursion IsRequest asked (put_made, (only IsEdit (edits.Remove ((99 ∷ []) ∷ [])) tt, (tt, (tt, tt))))

asked-answered : (history_of 7 [] asked).entries ≡ answered
unfolding asked answered kept_modules least_with groups_from
asked-answered = refl
