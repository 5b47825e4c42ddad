-- What is answered when a folder is read once more.
use Rattle.std.proofs.Common.{◌≡◌, ◌≤◌, ◌⊎◌, inl, inr, ℕ, Bool, true, false, cond, List, [], ◌∷◌, ◌++◌, Option, Some, None, Result, Ok, Err, refl, ◌∙◌, sym, ap, subst, arith, append-nil}
use Rattle.std.specs.Prelude.{Contains}
use Rattle.std.proofs.lemmas.List.Elements.{All-nil, All-push, Contains-push_cases}
use Rattle.oc_bytes.specs.Outcome.{Rose}
use Rattle.path_tree.specs.Paths.{Bytes}
use Rattle.path_tree.specs.Texts.{text_of}
use Rattle.path_tree.specs.Trees.{Tree}
use Rattle.path_tree.specs.declared.tree.Edit.{Edit}
use Rattle.generation_catalogue.specs.declared.entry.Refusal.{Refusal}
use Rattle.folder_store.specs.Folders.{FolderTree, MayFail, is_folder_at}
use Rattle.folder_store.specs.Surveys.{Look, Stands, names_at, survey_of}
use Rattle.folder_store.specs.Walk.{WalkFault, IsTooDeep, IsBadName, edits_of}
use Rattle.folder_store.specs.declared.reading.ReadTree.{ReadTree}
use Rattle.folder_store.specs.declared.reading.ReadTree.TheVariants as walks
use Rattle.folder_store.specs.declared.reading.TreeFault.{TreeFault}
use Rattle.folder_store.specs.declared.reading.TreeFault.TheVariants as trees
use Rattle.shell_streams.proofs.CallerLemmas.{rose_first, rose_last}
use Rattle.folder_playout.specs.Inner.Faults.{Tells, of_walk}
use Rattle.folder_playout.specs.Readings.{AreRead, IsFailed, Reading, Refused, Failed, broken_in, broken_path, by_judgement, by_walk, judged, reading_in, reading_of}
use Rattle.folder_playout.specs.declared.reading.Unread.{Unread}

may_first : (t : Option FolderTree) (W : FolderTree → Type 0) (a b c : ℕ) → MayFail (Rose a b) t W → b ≤ c → MayFail (Rose a c) t W
may_first None W a b c r le = rose_first r le
may_first (Some t) W a b c (inl r) le = inl (rose_first r le)
may_first (Some t) W a b c (inr w) le = inr w

may_last : (t : Option FolderTree) (W : FolderTree → Type 0) (a b c : ℕ) → a ≤ b → MayFail (Rose b c) t W → MayFail (Rose a c) t W
may_last None W a b c le r = rose_last le r
may_last (Some t) W a b c le (inl r) = inl (rose_last le r)
may_last (Some t) W a b c le (inr w) = inr w

abbrev pub NoFolder : Bytes → FolderTree → Type 0
NoFolder folder t = is_folder_at t folder ≡ false

-- nothing was read yet
pub nothing_read : (folder : Bytes) (t : Option FolderTree) (faults : ℕ) → AreRead folder t t faults faults []
nothing_read folder t faults = record {
  same = refl;
  later = omega arith;
  known = λ u e. All-nil (λ r. IsFailed r ⊎ (r ≡ reading_of u folder));
  failed = λ path c. absurd (none path c);
} where
  none : (path : Bytes) → Contains [] (Failed path) → ⊥
  none path c = omega (arith, c.1)

-- want of memory is no answer
pub read_none : (folder : Bytes) (t u v : Option FolderTree) (a b c : ℕ) (before : List Reading) → AreRead folder t u a b before → v ≡ u → b ≤ c → AreRead folder t v a c (before ++ [])
read_none folder t u v a b c before h same le =
    let plain : AreRead folder t v a c before = record {
      same = same ∙ h.same;
      later = let l = h.later in omega (arith, l, le);
      known = h.known;
      failed = λ path x. may_first t (NoFolder folder) a b c (h.failed path x) le;
    } in
    subst (AreRead folder t v a c) (sym (append-nil before)) plain

pub read_more : (folder : Bytes) (t u v : Option FolderTree) (a b c : ℕ) (before : List Reading) (r : Reading) → AreRead folder t u a b before → v ≡ u → b ≤ c
    → ((k : FolderTree) → u ≡ Some k → IsFailed r ⊎ (r ≡ reading_of k folder)) → (IsFailed r → MayFail (Rose b c) u (NoFolder folder)) → AreRead folder t v a c (before ++ r ∷ [])
read_more folder t u v a b c before r h same le each fail = record {
  same = same ∙ h.same;
  later = let l = h.later in omega (arith, l, le);
  known = λ k e. All-push (λ x. IsFailed x ⊎ (x ≡ reading_of k folder)) before r (h.known k e) (each k (h.same ∙ e));
  failed = λ path x. by path (Contains-push_cases before r (Failed path) x);
} where
  by : (path : Bytes) → Contains before (Failed path) ⊎ (r ≡ Failed path) → MayFail (Rose a c) t (NoFolder folder)
  by path (inl x) = may_first t (NoFolder folder) a b c (h.failed path x) le
  by path (inr x) = may_last t (NoFolder folder) a b c h.later (subst (λ y. MayFail (Rose b c) y (NoFolder folder)) h.same (fail (path, x)))

-- ---- what a walk gave

pub is_there : (b : Bool) → (b ≡ false → ⊥) → b ≡ true
is_there true none = refl
is_there false none = absurd (none refl)

-- what the definitions give of a folder that is there
known_judged : (t : FolderTree) (folder : Bytes) (edits : List Edit) → is_folder_at t folder ≡ true → edits_of t folder ≡ Ok edits → reading_of t folder ≡ by_judgement edits (judged edits)
known_judged t folder edits there e = ap (λ b. cond b (by_walk (broken_path t folder) (edits_of t folder)) (Failed (text_of []))) there ∙ ap (by_walk (broken_path t folder)) e

known_broken : (t : FolderTree) (folder : Bytes) (rule : WalkFault) (s : Stands) → is_folder_at t folder ≡ true → edits_of t folder ≡ Err rule → survey_of t folder ≡ Err s
    → reading_of t folder ≡ by_walk (text_of (names_at s)) (Err rule)
known_broken t folder rule s there e at =
    ap (λ b. cond b (by_walk (broken_path t folder) (edits_of t folder)) (Failed (text_of []))) there ∙ ap (by_walk (broken_path t folder)) e
    ∙ ap (λ (l : Result Look Stands). by_walk (text_of (names_at (broken_in l))) (Err rule)) at

-- a judgement is no failure
judged_read : (edits : List Edit) (r : Result Tree Refusal) → IsFailed (by_judgement edits r) → ⊥
judged_read edits (Ok tree) f = let e = f.1 in cc
judged_read edits (Err refusal) f = let e = f.1 in cc

-- the edits were judged, or there was no memory
pub read_judged : (folder : Bytes) (t u v : Option FolderTree) (a b c : ℕ) (before : List Reading) (edits : List Edit) (read : Result Tree Unread) → AreRead folder t u a b before → v ≡ u → b ≤ c
    → ((k : FolderTree) → u ≡ Some k → edits_of k folder ≡ Ok edits) → ((k : FolderTree) → u ≡ Some k → is_folder_at k folder ≡ false → ⊥) → Tells read (by_judgement edits (judged edits) ∷ [])
    → AreRead folder t v a c (before ++ reading_in read)
read_judged folder t u v a b c before edits read h same le walked there (inr e) = subst (λ rs. AreRead folder t v a c (before ++ rs)) (sym e) (read_none folder t u v a b c before h same le)
read_judged folder t u v a b c before edits read h same le walked there (inl e) =
    subst (λ rs. AreRead folder t v a c (before ++ rs)) (sym e)
    (read_more folder t u v a b c before (by_judgement edits (judged edits)) h same le
    (λ k x. inr (sym (known_judged k folder edits (is_there (is_folder_at k folder) (there k x)) (walked k x)))) (λ f. absurd (judged_read edits (judged edits) f)))

-- the facts of a survey's fault
pub record IsFault (folder : Bytes) (u : Option FolderTree) (rose : Type 0) (cause : ReadTree) (at : Stands) : Type 0 where
  pub deep : cause ≡ walks.TooDeep → (k : FolderTree) → u ≡ Some k → (edits_of k folder ≡ Err IsTooDeep) × (survey_of k folder ≡ Err at)
  pub bad : cause ≡ walks.BadName → (k : FolderTree) → u ≡ Some k → (edits_of k folder ≡ Err IsBadName) × (survey_of k folder ≡ Err at)
  pub fault : cause ≡ walks.FolderFault → MayFail rose u (NoFolder folder)
  pub none : (k : FolderTree) → u ≡ Some k → is_folder_at k folder ≡ false → (cause ≡ walks.FolderFault) ⊎ (cause ≡ walks.NoMemory)

not_deep : (walks.TooDeep ≡ walks.FolderFault) ⊎ (walks.TooDeep ≡ walks.NoMemory) → ⊥
not_deep (inl e) = cc
not_deep (inr e) = cc

not_bad : (walks.BadName ≡ walks.FolderFault) ⊎ (walks.BadName ≡ walks.NoMemory) → ⊥
not_bad (inl e) = cc
not_bad (inr e) = cc

refused_read : (fault : TreeFault) (path : Option Bytes) → IsFailed (Refused fault path) → ⊥
refused_read fault path f = let e = f.1 in cc

read_fault : (folder : Bytes) (t u v : Option FolderTree) (a b c : ℕ) (before : List Reading) (cause : ReadTree) (at : Stands) → AreRead folder t u a b before → v ≡ u → b ≤ c → IsFault folder u (Rose b c) cause at
    → AreRead folder t v a c (before ++ of_walk cause (text_of (names_at at)))
read_fault folder t u v a b c before walks.NoMemory at h same le is = read_none folder t u v a b c before h same le
read_fault folder t u v a b c before walks.FolderFault at h same le is =
    let path = text_of (names_at at) in
    read_more folder t u v a b c before (Failed path) h same le (λ k x. inl (path, refl)) (λ f. is.fault refl)
read_fault folder t u v a b c before walks.TooDeep at h same le is =
    let path = text_of (names_at at) in
    read_more folder t u v a b c before (Refused trees.TooDeep (Some path)) h same le
    (λ k x. let d = is.deep refl k x in inr (sym (known_broken k folder IsTooDeep at (is_there (is_folder_at k folder) (λ e. not_deep (is.none k x e))) d.0 d.1)))
    (λ f. absurd (refused_read trees.TooDeep (Some path) f))
read_fault folder t u v a b c before walks.BadName at h same le is =
    let path = text_of (names_at at) in
    read_more folder t u v a b c before (Refused trees.BadName (Some path)) h same le
    (λ k x. let d = is.bad refl k x in inr (sym (known_broken k folder IsBadName at (is_there (is_folder_at k folder) (λ e. not_bad (is.none k x e))) d.0 d.1)))
    (λ f. absurd (refused_read trees.BadName (Some path) f))

-- the walk was refused, or came to what can't be read
pub read_broken : (folder : Bytes) (t u v : Option FolderTree) (a b c : ℕ) (before : List Reading) (cause : ReadTree) (at : Stands) (unread : Unread) → AreRead folder t u a b before → v ≡ u → b ≤ c
    → IsFault folder u (Rose b c) cause at → reading_in (Err unread) ≡ of_walk cause (text_of (names_at at)) → AreRead folder t v a c (before ++ reading_in (Err unread))
read_broken folder t u v a b c before cause at unread h same le is e =
    subst (λ rs. AreRead folder t v a c (before ++ rs)) (sym e) (read_fault folder t u v a b c before cause at h same le is)

-- the folder by another name for its text
pub of_same : (f g : Bytes) (t u v : Option FolderTree) (a b c : ℕ) (before after : List Reading) → f ≡ g → (AreRead f t u a b before → AreRead f t v a c after) → AreRead g t u a b before → AreRead g t v a c after
of_same f g t u v a b c before after e step = subst (λ x. AreRead x t u a b before → AreRead x t v a c after) e step
