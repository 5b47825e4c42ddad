-- One commit on a new carousel, and what is sent of the generation that it makes.
use Rattle.std.proofs.Common.{◌≡◌, ℕ, ◌+◌, ◌<◌, ◌≤◌, Bool, true, false, ◌==◌, List, [], ◌∷◌, map, Option, Some, None, Result, Ok, Err, cond, ◌⊎◌, inl, inr, refl, ◌∙◌, sym, ap, subst, lit≤, arith, append-nil}
use Rattle.std.specs.Prelude.{nat_lt, MatchOption, ⊤}
use Rattle.std.specs.List.{All}
use Rattle.std.proofs.lemmas.Bool.{cond-true, ltb-false}
use Rattle.std.proofs.lemmas.List.Elements.{All-head}
use Rattle.oc_bytes.specs.Outcome.{cap_at_u64}
use Rattle.path_tree.specs.Trees.{Tree}
use Rattle.path_tree.specs.Edits.{apply_all}
use Rattle.path_tree.specs.declared.tree.Edit.{Edit}
use Rattle.path_tree.specs.declared.tree.EditFault.{EditFault}
use Rattle.cycle_planner.specs.Cycle.{cycle_of}
use Rattle.generation.specs.Layouts.{GenerationState, generation_of, lines_of, section_of}
use Rattle.generation.specs.Lawful.{IsPublishable}
use Rattle.generation.specs.Kept.{IsGenerationOf, GenerationsAreOfTheLists}
use Rattle.generation_catalogue.specs.History.{CatalogueState, current_of, trees_of, journal_of, put_bytes, outcome_of, unless_edit, or_same, is_entered, with_entry, with_commit}
use Rattle.generation_catalogue.specs.Requests.{commit_cause}
use Rattle.generation_catalogue.specs.declared.entry.Refusal.{Refusal}
use Rattle.generation_catalogue.specs.declared.entry.Refusal.TheVariants as refusals
use Rattle.generation_catalogue.specs.declared.entry.Entry.TheVariants as entries
use Rattle.generation_catalogue.specs.declared.entry.CommitFault.{CommitFault}
use Rattle.generation_catalogue.specs.declared.entry.CommitFault.TheVariants as commits
use Rattle.folder_store.specs.Folders.{FolderTree, is_folder_at, MayFail}
use Rattle.folder_store.specs.Walk.{Walked, IsTooDeep, IsBadName, edits_of, EditsMakeTheFiles}
use Rattle.folder_store.specs.declared.reading.TreeFault.{TreeFault}
use Rattle.folder_store.specs.declared.reading.ReadTree.{ReadTree}
use Rattle.folder_store.specs.declared.reading.ReadTree.TheVariants as reads
use Rattle.section_stream.specs.Packing.{IsSectionLike}
use Rattle.carousel_world.specs.Publishing.{repeat_list, published_bytes, PublicationsCanBePacked}
use Rattle.folder_playout.proofs.CallerLemmas.{sent_sections}
use Rattle.shell_streams.specs.Cuts.{Bytes}
use Rattle.shell_streams.specs.Sending.{OutputState, Puts, HasPut}
use Rattle.shell_streams.specs.declared.output.OutputFault.{OutputFault}
use Rattle.shell_streams.specs.declared.output.OutputFault.TheVariants as outputs
use Rattle.shell_streams.proofs.CallerLemmas.{puts_as}
use Rattle.receiver_commands.specs.Over.{Over, sink_over, Failed, IsUntouched}
use Rattle.shell_commands.specs.Publishing.{new_carousel, first_outcome, unless_refused, end_by, publish_end, accepted_tree, tree_by}
use Rattle.shell_commands.specs.Publish.{IsTreeOf, EndsPublish, NeedsFolder, Sends, Publishes}
use Rattle.shell_commands.specs.Announced.{one_cycle}
use Rattle.shell_commands.specs.Inner.Cycles.{group_bytes, IsOfFolder, Refused}
use Rattle.receiver_commands.specs.Statuses.{output_status, walk_status, commit_status}
use Rattle.receiver_commands.proofs.CallerLemmas.{writes_all, writes_prefix}
use Rattle.receiver_commands.specs.declared.status.Status.{Status}
use Rattle.receiver_commands.specs.declared.status.Status.TheVariants as status

-- ---- what is sent

-- the packets of the cycles of generation 1 are those that are published
pub published_is : (pid carousel : ℕ) (weights : List ℕ) (cycles : ℕ) (t : Tree) (g : GenerationState) → GenerationsAreOfTheLists → g ≡ generation_of carousel (t ∷ [])
    → group_bytes pid (map (section_of g) (repeat_list cycles (cycle_of weights (lines_of g)))) ≡ published_bytes pid carousel weights cycles t
published_is pid carousel weights cycles t g law e =
    let P : GenerationState → Type 0 = λ s. IsGenerationOf carousel (t ∷ []) 1 s in
    ap (group_bytes pid) (sent_sections carousel weights cycles t g (subst P (sym e) (law carousel (t ∷ []) 1 (lit≤ tt))))

-- one cycle of generation 1
pub one_cycle_is : (carousel : ℕ) (weights : List ℕ) (t : Tree) (g : GenerationState) → GenerationsAreOfTheLists → g ≡ generation_of carousel (t ∷ [])
    → map (section_of g) (cycle_of weights (lines_of g)) ≡ one_cycle carousel weights t
one_cycle_is carousel weights t g law e =
    let P : GenerationState → Type 0 = λ s. IsGenerationOf carousel (t ∷ []) 1 s in
    ap (map (section_of g)) (sym (append-nil (cycle_of weights (lines_of g)))) ∙ sent_sections carousel weights 1 t g (subst P (sym e) (law carousel (t ∷ []) 1 (lit≤ tt)))

-- whose sections meet the condition of a packer
pub cycle_like : (folder : Bytes) (carousel : ℕ) (weights : List ℕ) (told : Option FolderTree) (g : GenerationState) → PublicationsCanBePacked → GenerationsAreOfTheLists → carousel < 4294967296
    → IsOfFolder folder carousel told g → All IsSectionLike (map (section_of g) (cycle_of weights (lines_of g)))
cycle_like folder carousel weights told g law lists lt of =
    subst (All IsSectionLike) (sym (one_cycle_is carousel weights of.tree g lists of.is)) (law carousel weights 1 of.tree lt of.of.publishable)

-- ---- one commit on a new carousel

-- a commit that is accepted had edits that make a tree
by_outcome : (a b : Bool) (x y : Refusal) (k n : ℕ) (r : Result Tree (ℕ × EditFault)) → cond a (Err x) (cond b (Err y) (unless_edit k r)) ≡ Ok n
    → (tree : Tree) × (r ≡ Ok tree) × (b ≡ false)
by_outcome true b x y k n r e = absurd (cc)
by_outcome false true x y k n r e = absurd (cc)
by_outcome false false x y k n (Err fault) e = absurd (cc)
by_outcome false false x y k n (Ok tree) e = (tree, refl, refl)

pub tree_accepted : (carousel n : ℕ) (edits : List Edit) → first_outcome carousel edits ≡ Ok n → (tree : Tree) × (apply_all [] edits ≡ Ok tree) × (put_bytes edits ≤ 536870912)
tree_accepted carousel n edits e =
    let c = new_carousel carousel [] in
    let r = by_outcome ((current_of c).number == 16383) (nat_lt 536870912 (journal_of c + put_bytes edits)) (refusals.SeasonFull 16383) (refusals.JournalFull (cap_at_u64 (journal_of c + put_bytes edits)))
    ((current_of c).number + 1) n (apply_all [] edits) e in
    let most : journal_of c + put_bytes edits ≤ 536870912 = ltb-false _ _ r.2 in
    (r.0, r.1, omega arith)

-- the one tree after it
trees_entered : (carousel : ℕ) (weights : List ℕ) (editor n : ℕ) (edits : List Edit) (r : Result ℕ Refusal) → r ≡ Ok n
    → trees_of (cond (is_entered r) (with_entry (new_carousel carousel weights) (entries.Commit editor edits r)) (new_carousel carousel weights)) ≡ or_same [] (apply_all [] edits) ∷ []
trees_entered carousel weights editor n edits (Ok m) e = refl
trees_entered carousel weights editor n edits (Err refusal) e = absurd (cc)

-- the generation after it is the first one's next, of that tree
entered : (carousel : ℕ) (weights : List ℕ) (editor n : ℕ) (edits : List Edit) (r : Result ℕ Refusal) → r ≡ Ok n
    → current_of (cond (is_entered r) (with_entry (new_carousel carousel weights) (entries.Commit editor edits r)) (new_carousel carousel weights)) ≡ generation_of carousel (or_same [] (apply_all [] edits) ∷ [])
entered carousel weights editor n edits (Ok m) e = refl
entered carousel weights editor n edits (Err refusal) e = absurd (cc)

pub made_of_folder : EditsMakeTheFiles → (folder : Bytes) (carousel : ℕ) (weights : List ℕ) (editor n : ℕ) (told : Option FolderTree) (edits : List Edit) (before after : CatalogueState) (g : GenerationState)
    → before ≡ new_carousel carousel weights → outcome_of before edits ≡ Ok n → after ≡ with_commit before editor edits → g ≡ current_of after → All IsPublishable (trees_of after)
    → ((t : FolderTree) → told ≡ Some t → edits_of t folder ≡ Ok edits) → ((t : FolderTree) → told ≡ Some t → is_folder_at t folder ≡ true)
    → IsOfFolder folder carousel told g
made_of_folder law folder carousel weights editor n told edits before after g b o a e published is_edits there =
    let C : CatalogueState → Type 0 = λ c. outcome_of c edits ≡ Ok n in
    let out : first_outcome carousel edits ≡ Ok n = subst C b o in
    let applied = tree_accepted carousel n edits out in
    let commit : after ≡ with_commit (new_carousel carousel weights) editor edits = a ∙ ap (λ c. with_commit c editor edits) b in
    let trees : trees_of after ≡ applied.0 ∷ [] =
    ap trees_of commit ∙ trees_entered carousel weights editor n edits (first_outcome carousel edits) out ∙ ap (λ r. or_same [] r ∷ []) applied.1 in
    let is : g ≡ generation_of carousel (applied.0 ∷ []) =
    e ∙ ap current_of commit ∙ entered carousel weights editor n edits (first_outcome carousel edits) out
    ∙ ap (λ r. generation_of carousel (or_same [] r ∷ [])) applied.1 in
    record {
      tree = applied.0;
      is = is;
      of = record {
        publishable = All-head IsPublishable applied.0 [] (subst (All IsPublishable) trees published);
        of_folder = λ t h. ap (λ v. cond v (tree_by carousel (edits_of t folder)) None) (there t h) ∙ ap (tree_by carousel) (is_edits t h)
            ∙ ap (λ r. accepted_tree r (apply_all [] edits)) out ∙ ap (accepted_tree (Ok n)) applied.1;
        accepted = λ t h. ap (λ v. cond v (end_by carousel (edits_of t folder)) status.FolderFault) (there t h) ∙ ap (end_by carousel) (is_edits t h) ∙ ap unless_refused out;
        files = λ t h valid_folder. law t folder edits applied.0 valid_folder (is_edits t h) applied.2 applied.1;
      };
    }

-- ---- where no generation is made

abbrev pub NoFolder : {T : Type 0} → Result T ReadTree → Type 0
NoFolder r = (r ≡ Err reads.FolderFault) ⊎ (r ≡ Err reads.NoMemory)

-- the walk gave edits or a fault of its own, so there is a folder
pub folder_there : {T : Type 0} (there : Bool) (r : Result T ReadTree) → (r ≡ Err reads.FolderFault → ⊥) → (r ≡ Err reads.NoMemory → ⊥) → (there ≡ false → NoFolder r) → there ≡ true
folder_there true r a b h = refl
folder_there false r a b h = absurd (elim (h refl) [ inl e ↦ a e | inr e ↦ b e ])

pub folder_found : {T : Type 0} (there : Bool) (x : T) → (there ≡ false → NoFolder {T = T} (Ok x)) → there ≡ true
folder_found there x h = folder_there there (Ok x) (λ e. cc) (λ e. cc) h

there_by : (b : Bool) → (b ≡ false → ⊥) → b ≡ true
there_by true h = refl
there_by false h = absurd (h refl)

end_there : (folder : Bytes) (carousel : ℕ) (t : FolderTree) (w : Walked) → is_folder_at t folder ≡ true → edits_of t folder ≡ w → publish_end folder carousel t ≡ end_by carousel w
end_there folder carousel t w there e = cond-true (is_folder_at t folder) (end_by carousel (edits_of t folder)) status.FolderFault there ∙ ap (end_by carousel) e

-- the walk's own fault
pub refused_walk : (folder : Bytes) (carousel : ℕ) (folders : Over FolderTree) (fault : ReadTree)
    → ((t : FolderTree) → folders.before ≡ Some t → is_folder_at t folder ≡ false → (fault ≡ reads.FolderFault) ⊎ (fault ≡ reads.NoMemory))
    → (fault ≡ reads.FolderFault → MayFail (Failed folders) folders.before (λ t. is_folder_at t folder ≡ false))
    → (fault ≡ reads.TooDeep → (t : FolderTree) → folders.before ≡ Some t → edits_of t folder ≡ Err IsTooDeep)
    → (fault ≡ reads.BadName → (t : FolderTree) → folders.before ≡ Some t → edits_of t folder ≡ Err IsBadName)
    → Refused folder carousel folders (walk_status fault)
refused_walk folder carousel folders reads.FolderFault needs failed deep bad = failed refl
refused_walk folder carousel folders reads.TooDeep needs failed deep bad = λ t h.
    end_there folder carousel t (Err IsTooDeep) (there_by (is_folder_at t folder) (λ e. elim (needs t h e) [ inl x ↦ cc | inr x ↦ cc ])) (deep refl t h)
refused_walk folder carousel folders reads.BadName needs failed deep bad = λ t h.
    end_there folder carousel t (Err IsBadName) (there_by (is_folder_at t folder) (λ e. elim (needs t h e) [ inl x ↦ cc | inr x ↦ cc ])) (bad refl t h)
refused_walk folder carousel folders reads.NoMemory needs failed deep bad = tt

-- the commit's refusal
pub refused_commit : (folder : Bytes) (carousel : ℕ) (weights : List ℕ) (folders : Over FolderTree) (edits : List Edit) (before : CatalogueState) (f : CommitFault) → before ≡ new_carousel carousel weights
    → ((t : FolderTree) → folders.before ≡ Some t → is_folder_at t folder ≡ true) → ((t : FolderTree) → folders.before ≡ Some t → edits_of t folder ≡ Ok edits)
    → MatchOption (commit_cause f) ⊤ (λ r. outcome_of before edits ≡ Err r) → Refused folder carousel folders (commit_status f)
refused_commit folder carousel weights folders edits before commits.NoMemory b there is out = tt
refused_commit folder carousel weights folders edits before (commits.Refused refusal) b there is out = λ t h.
    end_there folder carousel t (Ok edits) (there t h) (is t h) ∙ ap unless_refused (ap (λ c. outcome_of c edits) (sym b) ∙ out)

-- ---- the folder that isn't there

done_is_no_fault : status.Done ≡ status.FolderFault → ⊥
done_is_no_fault e = cc

pub wrong_folder : (folder : Bytes) (carousel : ℕ) (told : Option FolderTree) (g : GenerationState) → IsOfFolder folder carousel told g
    → (t : FolderTree) → told ≡ Some t → is_folder_at t folder ≡ false → ⊥
wrong_folder folder carousel told g of t h e =
    done_is_no_fault (sym (of.of.accepted t h) ∙ ap (λ v. cond v (end_by carousel (edits_of t folder)) status.FolderFault) e)

refusal_is_no_fault : (fault : TreeFault) → status.TreeRefused fault ≡ status.FolderFault → ⊥
refusal_is_no_fault fault e = cc

-- a folder that gives a tree is there
needs_made : (folder : Bytes) (carousel : ℕ) (folders : Over FolderTree) (g : GenerationState) (s : Status) → IsOfFolder folder carousel folders.before g → NeedsFolder folder folders s
needs_made folder carousel folders g s of t h e = absurd (wrong_folder folder carousel folders.before g of t h e)

needs_refused : (folder : Bytes) (carousel : ℕ) (folders : Over FolderTree) (s : Status) → Refused folder carousel folders s → NeedsFolder folder folders s
needs_refused folder carousel folders status.FolderFault r t h e = inl refl
needs_refused folder carousel folders status.NoMemory r t h e = inr refl
needs_refused folder carousel folders (status.TreeRefused fault) r t h e =
    absurd (refusal_is_no_fault fault (sym (r t h) ∙ ap (λ v. cond v (end_by carousel (edits_of t folder)) status.FolderFault) e))
needs_refused folder carousel folders _ r t h e = absurd r

-- ---- how it ends

ends_refused : (folder : Bytes) (carousel : ℕ) (sent_of : Tree → Bytes) (sink : Over Bytes) (folders : Over FolderTree) (s : Status) → Refused folder carousel folders s → IsUntouched sink
    → EndsPublish folder carousel sent_of sink folders s
ends_refused folder carousel sent_of sink folders status.FolderFault r none = (r, none)
ends_refused folder carousel sent_of sink folders (status.TreeRefused fault) r none = (r, none)
ends_refused folder carousel sent_of sink folders status.NoMemory r none = inl none
ends_refused folder carousel sent_of sink folders _ r none = absurd r

-- the folder gives no generation
pub ended_none : (folder : Bytes) (carousel : ℕ) (sent_of : Tree → Bytes) (sink : Over Bytes) (folders : Over FolderTree) (s : Status) → Refused folder carousel folders s → IsUntouched sink
    → Sends folder carousel sent_of s sink folders
ended_none folder carousel sent_of sink folders s r none = record {
  ends = ends_refused folder carousel sent_of sink folders s r none;
  needs = needs_refused folder carousel folders s r;
}

-- all that is sent of it was put
pub ended_all : (folder : Bytes) (carousel : ℕ) (sent_of : Tree → Bytes) (old new : OutputState) (folders : Over FolderTree) (g : GenerationState) (of : IsOfFolder folder carousel folders.before g)
    → old.pending ≡ [] → new.pending ≡ [] → HasPut old new (sent_of of.tree) → Sends folder carousel sent_of status.Done (sink_over old new) folders
ended_all folder carousel sent_of old new folders g of begin empty puts = record {
  ends = record { tree = of.tree; of = of.of; writes = writes_all begin empty puts };
  needs = needs_made folder carousel folders g status.Done of;
}

ends_part : (folder : Bytes) (carousel : ℕ) (sent_of : Tree → Bytes) (old new : OutputState) (folders : Over FolderTree) (tree : Tree) (f : OutputFault)
    → IsTreeOf folder carousel folders.before tree → old.pending ≡ [] → Puts {T = Unit {0}} (Err f) old new (sent_of tree)
    → EndsPublish folder carousel sent_of (sink_over old new) folders (output_status f)
ends_part folder carousel sent_of old new folders tree outputs.Failed of begin puts = (puts.cause refl, record { tree = tree; of = of; writes = writes_prefix begin puts })
ends_part folder carousel sent_of old new folders tree outputs.NoMemory of begin puts = inr (record { tree = tree; of = of; writes = writes_prefix begin puts })

-- a fault stopped the writing
pub ended_part : (folder : Bytes) (carousel : ℕ) (sent_of : Tree → Bytes) (old new : OutputState) (folders : Over FolderTree) (g : GenerationState) (f : OutputFault)
    (of : IsOfFolder folder carousel folders.before g) → old.pending ≡ [] → Puts {T = Unit {0}} (Err f) old new (sent_of of.tree)
    → Sends folder carousel sent_of (output_status f) (sink_over old new) folders
ended_part folder carousel sent_of old new folders g f of begin puts = record {
  ends = ends_part folder carousel sent_of old new folders of.tree f of.of begin puts;
  needs = needs_made folder carousel folders g (output_status f) of;
}

-- ---- `publish`

pub publishes_all : (pid : ℕ) (folder : Bytes) (carousel : ℕ) (weights : List ℕ) (cycles : ℕ) (old new : OutputState) (folders : Over FolderTree) (g : GenerationState) → GenerationsAreOfTheLists
    → IsOfFolder folder carousel folders.before g → old.pending ≡ [] → new.pending ≡ [] → HasPut old new (group_bytes pid (map (section_of g) (repeat_list cycles (cycle_of weights (lines_of g)))))
    → Publishes pid folder carousel weights cycles status.Done (sink_over old new) folders
publishes_all pid folder carousel weights cycles old new folders g lists of begin empty puts =
    ended_all folder carousel (published_bytes pid carousel weights cycles) old new folders g of begin empty (puts_as (published_is pid carousel weights cycles of.tree g lists of.is) puts)

pub publishes_part : (pid : ℕ) (folder : Bytes) (carousel : ℕ) (weights : List ℕ) (cycles : ℕ) (old new : OutputState) (folders : Over FolderTree) (g : GenerationState) (f : OutputFault) → GenerationsAreOfTheLists
    → IsOfFolder folder carousel folders.before g → old.pending ≡ [] → Puts {T = Unit {0}} (Err f) old new (group_bytes pid (map (section_of g) (repeat_list cycles (cycle_of weights (lines_of g)))))
    → Publishes pid folder carousel weights cycles (output_status f) (sink_over old new) folders
publishes_part pid folder carousel weights cycles old new folders g f lists of begin puts =
    ended_part folder carousel (published_bytes pid carousel weights cycles) old new folders g f of begin (puts_as (published_is pid carousel weights cycles of.tree g lists of.is) puts)
