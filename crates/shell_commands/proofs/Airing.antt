-- What `air` promises, by what was read, told and put.
use Rattle.std.proofs.Common.{◌≡◌, ◌⊎◌, inl, inr, ℕ, Bool, true, false, cond, List, [], ◌∷◌, ◌++◌, Option, Some, None, Result, Ok, Err, refl, ap, ◌∙◌, subst}
use Rattle.std.specs.List.{All}
use Rattle.std.specs.Option.{option_map}
use Rattle.std.specs.String.{string_bytes}
use Rattle.std.proofs.lemmas.List.Elements.{All-cons, All-head, All-nil, All-tail}
use Rattle.std.specs.Prelude.{nat_lt}
use Rattle.oc_bytes.specs.Outcome.{cap_at_u64}
use Rattle.path_tree.specs.Trees.{Tree}
use Rattle.path_tree.specs.Edits.{apply_all}
use Rattle.path_tree.specs.Texts.{text_of}
use Rattle.path_tree.specs.declared.tree.Edit.{Edit}
use Rattle.path_tree.specs.declared.tree.EditFault.{EditFault}
use Rattle.generation.specs.Publication.{Passed, limit_of}
use Rattle.generation_catalogue.specs.History.{put_bytes}
use Rattle.generation_catalogue.specs.declared.entry.Refusal.{Refusal}
use Rattle.generation_catalogue.specs.declared.entry.Refusal.TheVariants as refusals
use Rattle.generation_catalogue.specs.declared.journal.TheConstants.{MOST_PUT_BYTES}
use Rattle.folder_store.specs.Folders.{FolderTree, is_folder_at}
use Rattle.folder_store.specs.Walk.{Walked, IsTooDeep, IsBadName, edits_of}
use Rattle.shell_streams.specs.Cuts.{Bytes}
use Rattle.shell_streams.specs.Sending.{OutputState}
use Rattle.shell_streams.specs.declared.output.OutputFault.{OutputFault}
use Rattle.shell_streams.specs.declared.output.OutputFault.TheVariants as outputs
use Rattle.folder_playout.specs.Readings.{AreOfFolder, AreRead, IsFailed, Reading, Found, Refused, Failed as Unreadable, broken_path, by_judgement, by_walk, judged, reading_of, unless_fault, unless_limit}
use Rattle.folder_playout.specs.Notices.{Notice}
use Rattle.folder_playout.specs.Playing.{Sent, Airs, AirsPart, IsFull}
use Rattle.folder_playout.specs.Laws.{JudgedAsFirst, UnchangedIsPublished}
use Rattle.folder_playout.specs.declared.reading.Unread.TheVariants as unread
use Rattle.folder_playout.specs.declared.playing.AirFault.{AirFault}
use Rattle.folder_playout.specs.declared.playing.AirFault.TheVariants as airs
use Rattle.receiver_commands.specs.Over.{Over, over, sink_over}
use Rattle.shell_commands.specs.Publishing.{new_carousel, accepted_tree, tree_by, tree_of_folder}
use Rattle.shell_commands.specs.Air.{AiredPart, AiredNothing, EndsAir, IsPublishedIfKnown, StaysOnAir, WereRead}
use Rattle.shell_commands.specs.Inner.Air.{air_status}
use Rattle.receiver_commands.proofs.CallerLemmas.{writes_all, writes_prefix}

-- ---- the tree of a known folder

-- edits that are judged to make a tree make it
tree_judged : (edits : List Edit) (tree : Tree) → judged edits ≡ Ok tree → apply_all [] edits ≡ Ok tree
tree_judged edits tree e = by (nat_lt MOST_PUT_BYTES (put_bytes edits)) (apply_all [] edits) e
  where
    within : (t : Tree) (o : Option Passed) → unless_limit t o ≡ Ok tree → t ≡ tree
    within t None q = cc
    within t (Some passed) q = absurd (cc)

    by : (b : Bool) (r : Result Tree (ℕ × EditFault)) → cond b (Err (refusals.JournalFull (cap_at_u64 (put_bytes edits)))) (unless_fault r) ≡ Ok tree → r ≡ Ok tree
    by true r q = absurd (cc)
    by false (Err fault) q = absurd (cc)
    by false (Ok t) q = ap Ok (within t (limit_of t) q)

judged_found : (edits : List Edit) (tree : Tree) (r : Result Tree Refusal) → by_judgement edits r ≡ Found tree → r ≡ Ok tree
judged_found edits tree (Ok t) e = let same : t ≡ tree = cc in ap Ok same
judged_found edits tree (Err refusal) e = absurd (cc)

module _ (first : JudgedAsFirst) (carousel : ℕ) (tree : Tree) where
  tree_walked : (broken : Bytes) (w : Walked) → by_walk broken w ≡ Found tree → tree_by carousel w ≡ Some tree
  tree_walked broken (Err IsTooDeep) e = absurd (cc)
  tree_walked broken (Err IsBadName) e = absurd (cc)
  tree_walked broken (Ok edits) e =
      let found : judged edits ≡ Ok tree = judged_found edits tree (judged edits) e in
      ap (λ r. accepted_tree r (apply_all [] edits)) (first.accepted (new_carousel carousel []) edits tree refl found)
      ∙ ap (accepted_tree (Ok 1)) (tree_judged edits tree found)

  tree_read : (t : FolderTree) (folder : Bytes) → reading_of t folder ≡ Found tree → tree_of_folder folder carousel t ≡ Some tree
  tree_read t folder e = by (is_folder_at t folder) e
    where
      by : (b : Bool) → cond b (by_walk (broken_path t folder) (edits_of t folder)) (Unreadable (text_of [])) ≡ Found tree → cond b (tree_by carousel (edits_of t folder)) None ≡ Some tree
      by true q = tree_walked (broken_path t folder) (edits_of t folder) q
      by false q = absurd (cc)

-- ---- how it ends

front_all : {X : Type 0} (P : X → Type 0) (xs ys : List X) → All P (xs ++ ys) → All P xs
front_all P [] ys h = All-nil P
front_all P (x ∷ xs) ys h = All-cons P x xs (All-head P x (xs ++ ys) h) (front_all P xs ys (All-tail P x (xs ++ ys) h))

module _ (sent : Sent) (folder : Bytes) (cycles : ℕ) (Read : List Reading → Type 0) (Told : List Notice → Type 0) (folders : Over FolderTree) (old new : OutputState)
    (begin : old.pending ≡ []) (were : (rs : List Reading) → Read rs → WereRead folder folders rs) (first : JudgedAsFirst) (steady : UnchangedIsPublished) where
  full_were : (tree : Tree) (rest : List Reading) → IsFull sent Read tree rest → IsFull sent (WereRead folder folders) tree rest
  full_were tree rest f = record { next = f.next; read = were (Found tree ∷ rest ++ Found f.next ∷ []) f.read; number = f.number; other = f.other }

  known_of : (tree : Tree) (rest : List Reading) → ((t : FolderTree) → folders.before ≡ Some t → AreOfFolder t folder (Found tree ∷ rest)) → IsPublishedIfKnown sent folder folders tree rest
  known_of tree rest of t told =
      let all = steady.of_folder t folder tree rest (of t told) in
      record { tree_is = tree_read first sent.carousel tree t folder all.0; bytes = steady.bytes sent.pid sent.carousel sent.weights tree rest all.1 }

  known_read : (tree : Tree) (rest : List Reading) → Read (Found tree ∷ rest) ⊎ IsFull sent Read tree rest → IsPublishedIfKnown sent folder folders tree rest
  known_read tree rest (inl r) = known_of tree rest (λ t told. (were (Found tree ∷ rest) r).known t told)
  known_read tree rest (inr f) =
      known_of tree rest (λ t told. front_all (λ r. IsFailed r ⊎ (r ≡ reading_of t folder)) (Found tree ∷ rest) (Found f.next ∷ []) ((were (Found tree ∷ rest ++ Found f.next ∷ []) f.read).known t told))

  either_were : (tree : Tree) (rest : List Reading) → Read (Found tree ∷ rest) ⊎ IsFull sent Read tree rest → WereRead folder folders (Found tree ∷ rest) ⊎ IsFull sent (WereRead folder folders) tree rest
  either_were tree rest (inl r) = inl (were (Found tree ∷ rest) r)
  either_were tree rest (inr f) = inr (full_were tree rest f)

  part_aired : (fault : OutputFault) → AirsPart sent cycles Read Told fault old new → AiredPart sent folder cycles Told (sink_over old new) folders
  part_aired fault p = record {
    tree = p.tree;
    rest = p.rest;
    read = either_were p.tree p.rest p.read;
    few = p.few;
    lawful = p.lawful;
    known = known_read p.tree p.rest p.read;
    told = p.told;
    writes = writes_prefix begin p.puts;
  }

  nothing_aired : (readings : List Reading) → Read readings → Told [] → new ≡ old → AiredNothing folder Told readings (sink_over old new) folders
  nothing_aired readings r t same = record { read = were readings r; told = t; unwritten = ap (λ (o : OutputState). o.written) same }

  ends_aired : (r : Result (Unit {0}) AirFault) → Airs sent cycles Read Told r old new → EndsAir sent folder cycles Told (sink_over old new) folders (air_status r)
  ends_aired (Ok done) a = record {
    tree = a.tree;
    rest = a.rest;
    read = were (Found a.tree ∷ a.rest) a.read;
    many = a.many;
    lawful = a.lawful;
    known = known_read a.tree a.rest (inl a.read);
    told = a.told;
    writes = writes_all begin a.empty a.puts;
  }
  ends_aired (Err (airs.Unread (unread.Failed path))) a = (string_bytes path, nothing_aired (Unreadable (string_bytes path) ∷ []) a.read a.told a.same)
  ends_aired (Err (airs.Unread (unread.Refused fault path))) a = inl (option_map string_bytes path, nothing_aired (Refused fault (option_map string_bytes path) ∷ []) a.read a.told a.same)
  ends_aired (Err (airs.Unread unread.NoMemory)) a = inl (nothing_aired [] a.read a.told a.same)
  ends_aired (Err airs.SeasonFull) a = inr (
    refl,
    record {
      tree = a.tree;
      rest = a.rest;
      full = full_were a.tree a.rest a.full;
      few = a.few;
      lawful = a.lawful;
      told = a.told;
      writes = writes_all begin a.empty a.puts;
    },
  )
  ends_aired (Err (airs.Output outputs.Failed)) a = (a.puts.cause refl, part_aired outputs.Failed a)
  ends_aired (Err (airs.Output outputs.NoMemory)) a = inr (part_aired outputs.NoMemory a)

  pub stays : (r : Result (Unit {0}) AirFault) → Airs sent cycles Read Told r old new
      → StaysOnAir sent.pid folder sent.carousel sent.weights cycles (air_status r) (sink_over old new) folders Told
  stays r a = record { ends = ends_aired r a }

-- the folders that were read are those that were handed in
pub were_over : {X : Type 0} (folder : Bytes) (tree : X → Option FolderTree) (faults : X → ℕ) (begin end first last : X) (read : Bytes) (rs : List Reading) → read ≡ folder → begin ≡ first → end ≡ last
    → AreRead read (tree begin) (tree end) (faults begin) (faults end) rs → WereRead folder (over tree faults first last) rs
were_over {X} folder tree faults begin end first last read rs f a b h =
    let P : X → Type 0 = λ x. AreRead read (tree begin) (tree x) (faults begin) (faults x) rs in
    let Q : X → Type 0 = λ x. AreRead read (tree x) (tree last) (faults x) (faults last) rs in
    let R : Bytes → Type 0 = λ t. AreRead t (tree first) (tree last) (faults first) (faults last) rs in
    subst R f (subst Q a (subst P b h))
