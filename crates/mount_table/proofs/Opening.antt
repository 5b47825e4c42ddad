-- A path on the mounts' receivers.
use Rattle.std.proofs.Common.{◌≡◌, Bool, true, false, cond, List, [], ◌∷◌, length, map, drop, Option, Some, None, refl, sym, ap, subst, ◌∙◌, arith}
use Rattle.std.specs.List.{All, find, slice_get}
use Rattle.std.specs.Option.{is_some, option_map}
use Rattle.std.proofs.lemmas.List.Elements.{All-head, All-tail}
use Rattle.section_stream.specs.Cuts.{Bytes, candidates}
use Rattle.path_tree.specs.Paths.{PathNames, same_name}
use Rattle.path_resolver.specs.declared.answer.Answer.{Answer}
use Rattle.tuner_core.specs.LookBack.{answer_after}
use Rattle.tuner_core.specs.Stands as tuners
use Rattle.mount_table.specs.declared.mount.Mount.{Mount}
use Rattle.mount_table.specs.declared.receiver.Receiver.{Receiver}
use Rattle.mount_table.specs.declared.mounts.Mounted.TheVariants.{Root, NoMount, At}
use Rattle.mount_table.specs.Mounts.{mount_named, at_mount, mounted_after, is_under_mount}
use Rattle.mount_table.specs.Stands.{Receives}
use Rattle.mount_table.proofs.Hearing.{mount_in}

-- the receiver of the mount of a name
abbrev pub named_in : Bytes → List Receiver → Option Receiver
named_in name rs = find (λ r. same_name r.mount.name name) rs

named_mount : (name : Bytes) (rs : List Receiver) → mount_named (map mount_in rs) name ≡ option_map mount_in (named_in name rs)
named_mount name [] = refl
named_mount name (r ∷ rs) = go (same_name r.mount.name name) (named_mount name rs) where
  go : (t : Bool) → mount_named (map mount_in rs) name ≡ option_map mount_in (named_in name rs)
      → cond t (Some r.mount) (mount_named (map mount_in rs) name) ≡ option_map mount_in (cond {A = Option Receiver} t (Some r) (named_in name rs))
  go true later = refl
  go false later = later

-- what holds of all holds of the one that is found
all_found : (P : Receiver → Type 0) (name : Bytes) (rs : List Receiver) (r : Receiver) → All P rs → named_in name rs ≡ Some r → P r
all_found P name [] r all e = cc
all_found P name (x ∷ xs) r all e = go (same_name x.mount.name name) e (all_found P name xs r (All-tail P x xs all)) where
  go : (t : Bool) → cond {A = Option Receiver} t (Some x) (named_in name xs) ≡ Some r → (named_in name xs ≡ Some r → P r) → P r
  go true h later = let same : x ≡ r = cc in subst P same (All-head P x xs all)
  go false h later = later h

-- the path's first name
first_name : (path : PathNames) (name : Bytes) (mounts : List Mount) (packets : List Bytes) → slice_get path 0 ≡ Some name
    → mounted_after mounts packets path ≡ at_mount packets (drop 1 path) (mount_named mounts name)
first_name [] name mounts packets e = cc
first_name (n ∷ ns) name mounts packets e = let same : n ≡ name = cc in ap (λ (x : Bytes). at_mount packets ns (mount_named mounts x)) same

pub opened_root : (mounts : List Mount) (path : PathNames) (packets : List Bytes) → length path ≡ 0 → Root ≡ mounted_after mounts packets path
opened_root mounts [] packets e = refl
opened_root mounts (n ∷ ns) packets e = absurd (omega (arith, e))

pub opened_nowhere : (rs : List Receiver) (path : PathNames) (name : Bytes) → slice_get path 0 ≡ Some name → named_in name rs ≡ None
    → (packets : List Bytes) → NoMount ≡ mounted_after (map mount_in rs) packets path
opened_nowhere rs path name first none packets =
    sym (first_name path name (map mount_in rs) packets first ∙ ap (at_mount packets (drop 1 path)) (named_mount name rs ∙ ap (option_map mount_in) none))

pub opened_at : (rs : List Receiver) (path : PathNames) (name : Bytes) (r : Receiver) (answer : Answer) → slice_get path 0 ≡ Some name → named_in name rs ≡ Some r
    → ((heard : List Bytes) → tuners.StandsFor r.tuner heard → answer ≡ answer_after heard (drop 1 path))
    → (packets : List Bytes) → All (Receives packets) rs → At r.mount.pid answer ≡ mounted_after (map mount_in rs) packets path
opened_at rs path name r answer first found says packets all =
    let here : Receives packets r = all_found (Receives packets) name rs r all found in
    ap (λ (a : Answer). At r.mount.pid a) (says (candidates r.mount.pid packets) here.tuner)
    ∙ sym (first_name path name (map mount_in rs) packets first ∙ ap (at_mount packets (drop 1 path)) (named_mount name rs ∙ ap (option_map mount_in) found))

pub under_one : (rs : List Receiver) (path : PathNames) (name : Bytes) (r : Receiver) → slice_get path 0 ≡ Some name → named_in name rs ≡ Some r
    → is_under_mount (map mount_in rs) path ≡ true
under_one rs [] name r first found = cc
under_one rs (n ∷ ns) name r first found =
    let same : n ≡ name = cc in ap (λ (x : Bytes). is_some (mount_named (map mount_in rs) x)) same ∙ ap is_some (named_mount name rs ∙ ap (option_map mount_in) found)
