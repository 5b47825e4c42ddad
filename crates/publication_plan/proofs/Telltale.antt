-- From what was read to what is told of it.
use Rattle.std.proofs.Common.{◌≡◌, ◌⊎◌, ℕ, ◌<◌, ◌≤◌, Bool, true, false, cond, List, [], ◌∷◌, length, map, take, Option, Some, None, Result, Ok, Err, refl, ◌∙◌, sym, ap, subst, inl, inr, lit≤, arith, append-nil}
use Rattle.std.specs.Prelude.{IfOk, IsSomeAnd, nat_lt}
use Rattle.std.specs.List.{All, Contains}
use Rattle.std.specs.Option.{option_map}
use Rattle.std.specs.String.{string_bytes}
use Rattle.std.proofs.lemmas.List.Elements.{All-head, All-tail, All-weaker}
use Rattle.oc_bytes.specs.Outcome.{Rose, cap_at_u64}
use Rattle.path_tree.specs.Paths.{Bytes}
use Rattle.path_tree.specs.Edits.{apply_all}
use Rattle.path_tree.specs.Trees.{Tree}
use Rattle.path_tree.specs.declared.tree.Edit.{Edit}
use Rattle.path_tree.specs.declared.tree.EditFault.{EditFault}
use Rattle.path_tree.specs.declared.tree.EditFault.TheVariants as edits
use Rattle.biop_object.specs.Names.{Layout}
use Rattle.cycle_planner.specs.Cycle.{cycle_of}
use Rattle.cycle_planner.specs.declared.Item.{Item}
use Rattle.cycle_planner.proofs.CallerLemmas.{cycle_only}
use Rattle.generation.specs.Kept.{GenerationsAreOfTheLists, IsGenerationOf}
use Rattle.generation.specs.Lawful.{IsPublishable, section_in}
use Rattle.generation.specs.Layouts.{GenerationState, generation_of, items_of, lines_in, lines_of, section_of}
use Rattle.generation_catalogue.specs.History.{put_bytes, unless_edit}
use Rattle.generation_catalogue.specs.declared.entry.Refusal.{Refusal}
use Rattle.generation_catalogue.specs.declared.entry.Refusal.TheVariants as refusals
use Rattle.generation_catalogue.specs.declared.entry.CommitFault.{CommitFault}
use Rattle.generation_catalogue.specs.declared.entry.CommitFault.TheVariants as commits
use Rattle.section_stream.specs.Packing.{IsSectionLike}
use Rattle.carousel_world.specs.Broadcasts.{sections}
use Rattle.carousel_world.specs.Publishing.{PublicationsCanBePacked, layouts_for, publication, repeat_list}
use Rattle.carousel_world.proofs.CallerLemmas.{published_sections}
use Rattle.folder_store.specs.Folders.{FolderTree, IsRead, IsRefused, MayFail, is_folder_at}
use Rattle.folder_store.specs.Surveys.{Look, Stands, at_in, first_large, names_at, names_to, survey_of, text_at, view_standing, view_survey}
use Rattle.folder_store.specs.Walk.{WalkFault, IsTooDeep, IsBadName, edits_of, text_below}
use Rattle.folder_store.specs.declared.reading.ReadTree.{ReadTree}
use Rattle.folder_store.specs.declared.reading.ReadTree.TheVariants as causes
use Rattle.folder_store.specs.declared.sights.Standing.{Standing}
use Rattle.folder_store.specs.declared.surveying.Surveyed.{Surveyed}
use Rattle.publication_plan.specs.Inner.Judging.{FaultTells, IsAccepted, RefusalTells, SizeFails}
use Rattle.publication_plan.specs.Plans.{CantBeRead, IsPlan, IsTextOf, NeedsFolder, broken_in, commit_text, first_outcome, look_in, plan_of, walk_text}
use Rattle.publication_plan.specs.Refusals.{IsNoFile, commit_line, rule_line, size_at}
use Rattle.publication_plan.specs.Inner.Refusals.{refused_path}
use Rattle.publication_plan.specs.Telling.{cycle_sections, plan_text, unreadable_line}
use Rattle.publication_plan.specs.declared.planning.PlanEnd.{PlanEnd}
use Rattle.publication_plan.specs.declared.planning.PlanEnd.TheVariants as ends
use Rattle.publication_plan.proofs.Judgement.{SaysWhy, outcome_is}
use Rattle.publication_plan.proofs.TooLarge.{too_large}

-- ---- what is sent

map_same : {X Y : Type 0} (f h : X → Y) (xs : List X) → All (λ x. f x ≡ h x) xs → map f xs ≡ map h xs
map_same f h [] e = refl
map_same f h (x ∷ xs) e =
    ap (λ y. y ∷ map f xs) (All-head (λ y. f y ≡ h y) x xs e) ∙ ap (λ ys. h x ∷ ys) (map_same f h xs (All-tail (λ y. f y ≡ h y) x xs e))

one_cycle : (carousel : ℕ) (weights : List ℕ) (t : Tree) (g : GenerationState) → IsGenerationOf carousel (t ∷ []) 1 g → cycle_sections weights g ≡ sections (publication carousel weights 1 t)
one_cycle carousel weights t g is =
    let layouts : List Layout = layouts_for carousel t in
    let Same : Item → Type 0 = λ item. section_of g item ≡ section_in carousel layouts 1 item in
    map_same (section_of g) (section_in carousel layouts 1) (cycle_of weights (lines_of g)) (All-weaker (Contains (items_of g)) Same is.sections (cycle_of weights (lines_of g)) (cycle_only weights (lines_of g)))
    ∙ ap (map (section_in carousel layouts 1)) (sym (append-nil (cycle_of weights (lines_of g))))
    ∙ ap (λ (l : Layout). map (section_in carousel layouts 1) (repeat_list 1 (cycle_of weights (lines_in l)))) is.layout
    ∙ sym (published_sections carousel weights 1 t)

-- the sections of a cycle of generation 1 meet the condition of a packer
pub cycle_like : (carousel : ℕ) (weights : List ℕ) (t : Tree) (g : GenerationState) → PublicationsCanBePacked → GenerationsAreOfTheLists → carousel < 4294967296 → IsPublishable t → g ≡ generation_of carousel (t ∷ [])
    → All IsSectionLike (cycle_sections weights g)
cycle_like carousel weights t g law lists lt publishable e =
    let P : GenerationState → Type 0 = λ s. IsGenerationOf carousel (t ∷ []) 1 s in
    subst (All IsSectionLike) (sym (one_cycle carousel weights t g (subst P (sym e) (lists carousel (t ∷ []) 1 (lit≤ tt))))) (law carousel weights 1 t lt publishable)

-- ---- what is told

-- the size that was read
pub size_read : (t : FolderTree) (text bytes : Bytes) → IsRead t text 536870913 bytes → Some (length bytes) ≡ size_at t (Some text)
size_read t text bytes read = ap (λ (bs : Bytes). Some (length bs)) read.front ∙ sym (ap (option_map (λ content. length (take 536870913 content))) read.file)

may_weaken : (told : Option FolderTree) (rose : Type 0) (P Q : FolderTree → Type 0) → ((t : FolderTree) → told ≡ Some t → P t → Q t) → MayFail rose told P → MayFail rose told Q
may_weaken None rose P Q f h = h
may_weaken (Some t) rose P Q f (inl h) = inl h
may_weaken (Some t) rose P Q f (inr h) = inr (f t refl h)

pub ok_weaker : {T E : Type 0} (P Q : T → Type 0) (r : Result T E) → ((x : T) → P x → Q x) → IfOk r P → IfOk r Q
ok_weaker P Q (Ok x) f h = f x h
ok_weaker P Q (Err e) f h = tt

pub ok_as : {T E : Type 0} (f : T → Bytes) (a b : Bytes) (r : Result T E) → a ≡ b → IfOk r (λ x. f x ≡ a) → IfOk r (λ x. f x ≡ b)
ok_as f a b r e h = ok_weaker (λ x. f x ≡ a) (λ x. f x ≡ b) r (λ x k. k ∙ e) h

-- a fault that is this refusal says it of each carousel
pub outcome_told : (es fs : List Edit) (f : CommitFault) (r : Refusal) (carousel : ℕ) → f ≡ commits.Refused r → SaysWhy es f → es ≡ fs → first_outcome carousel fs ≡ Err r
outcome_told es fs f r carousel is says same =
    let P : CommitFault → Type 0 = λ x. SaysWhy es x in
    let said = subst P is says in
    ap (first_outcome carousel) (sym same) ∙ said carousel

rose_wider : (a b c : ℕ) → a ≤ b → Rose b c → Rose a c
rose_wider a b c le (inl h) = inl (omega (arith, le, h))
rose_wider a b c le (inr h) = inr h

may_wider : (told : Option FolderTree) (P : FolderTree → Type 0) (a b c : ℕ) → a ≤ b → MayFail (Rose b c) told P → MayFail (Rose a c) told P
may_wider None P a b c le h = rose_wider a b c le h
may_wider (Some t) P a b c le (inl h) = inl (rose_wider a b c le h)
may_wider (Some t) P a b c le (inr h) = inr h

-- what the definitions give where the walk is refused
rule_is : (folder : Bytes) (weights : List ℕ) (carousel bitrate : ℕ) (t : FolderTree) (rule : WalkFault) (s : Stands) (text : Bytes) → edits_of t folder ≡ Err rule → survey_of t folder ≡ Err s → text ≡ rule_line rule (names_at s)
    → plan_of folder weights carousel bitrate t ≡ Err text
rule_is folder weights carousel bitrate t rule s text walked looked is =
    ap (walk_text weights carousel bitrate t (survey_of t folder)) walked ∙ ap (λ (l : Result Look Stands). Err (rule_line rule (names_at (broken_in l)))) looked ∙ ap Err (sym is)

-- the folder's own line has no names
same_line : (at : Option Standing) → unreadable_line (names_at (at_in at)) ≡ unreadable_line (names_to at)
same_line None = refl
same_line (Some s) = refl

-- a fault of the survey
pub fault_text : (folder : Bytes) (weights : List ℕ) (carousel bitrate : ℕ) (told : Option FolderTree) (rose : Type 0) (refused : Option Bytes) (cause : ReadTree) (at : Option Standing) (end : PlanEnd) (text : Bytes)
    → FaultTells (record { cause = cause; at = at }) end text
    → (cause ≡ causes.TooDeep → (t : FolderTree) → told ≡ Some t → (edits_of t folder ≡ Err IsTooDeep) × (survey_of t folder ≡ Err (at_in at)))
    → (cause ≡ causes.BadName → (t : FolderTree) → told ≡ Some t → (edits_of t folder ≡ Err IsBadName) × (survey_of t folder ≡ Err (at_in at)))
    → (cause ≡ causes.FolderFault → MayFail rose told (λ t. is_folder_at t folder ≡ false))
    → (cause ≡ causes.FolderFault → IsRefused refused (text_at folder at))
    → IsTextOf folder weights carousel bitrate told rose refused end text
fault_text folder weights carousel bitrate told rose refused causes.FolderFault at ends.Unreadable text tells deep bad failed named = record {
  path = names_to at;
  text_is = tells ∙ same_line at;
  named = named refl;
  fault = may_weaken told rose (λ t. is_folder_at t folder ≡ false) (CantBeRead folder) (λ t h e. inl e) (failed refl);
}
fault_text folder weights carousel bitrate told rose refused causes.TooDeep at ends.Refused text tells deep bad failed named = λ t h.
    let d = deep refl t h in rule_is folder weights carousel bitrate t IsTooDeep (at_in at) text d.0 d.1 tells
fault_text folder weights carousel bitrate told rose refused causes.BadName at ends.Refused text tells deep bad failed named = λ t h.
    let d = bad refl t h in rule_is folder weights carousel bitrate t IsBadName (at_in at) text d.0 d.1 tells
fault_text folder weights carousel bitrate told rose refused causes.FolderFault at ends.Published text tells deep bad failed named = absurd tells
fault_text folder weights carousel bitrate told rose refused causes.FolderFault at ends.Refused text tells deep bad failed named = absurd tells
fault_text folder weights carousel bitrate told rose refused causes.TooDeep at ends.Published text tells deep bad failed named = absurd tells
fault_text folder weights carousel bitrate told rose refused causes.TooDeep at ends.Unreadable text tells deep bad failed named = absurd tells
fault_text folder weights carousel bitrate told rose refused causes.BadName at ends.Published text tells deep bad failed named = absurd tells
fault_text folder weights carousel bitrate told rose refused causes.BadName at ends.Unreadable text tells deep bad failed named = absurd tells
fault_text folder weights carousel bitrate told rose refused causes.NoMemory at end text tells deep bad failed named = absurd tells

pub fault_needs : (folder : Bytes) (told : Option FolderTree) (cause : ReadTree) (at : Option Standing) (end : PlanEnd) (text : Bytes) → FaultTells (record { cause = cause; at = at }) end text
    → ((t : FolderTree) → told ≡ Some t → is_folder_at t folder ≡ false → (cause ≡ causes.FolderFault) ⊎ (cause ≡ causes.NoMemory)) → NeedsFolder folder told (Ok end)
fault_needs folder told causes.FolderFault at ends.Unreadable text tells none = tt
fault_needs folder told causes.TooDeep at ends.Refused text tells none = λ t h e. elim (none t h e) [ inl x ↦ cc | inr x ↦ cc ]
fault_needs folder told causes.BadName at ends.Refused text tells none = λ t h e. elim (none t h e) [ inl x ↦ cc | inr x ↦ cc ]
fault_needs folder told causes.FolderFault at ends.Published text tells none = absurd tells
fault_needs folder told causes.FolderFault at ends.Refused text tells none = absurd tells
fault_needs folder told causes.TooDeep at ends.Published text tells none = absurd tells
fault_needs folder told causes.TooDeep at ends.Unreadable text tells none = tt
fault_needs folder told causes.BadName at ends.Published text tells none = absurd tells
fault_needs folder told causes.BadName at ends.Unreadable text tells none = tt
fault_needs folder told causes.NoMemory at end text tells none = absurd tells

-- what a survey that isn't refused says of a known tree
pub record Surveys (folder : Bytes) (told : Option FolderTree) (s : Surveyed) : Type 0 where
  pub edits : (t : FolderTree) → told ≡ Some t → edits_of t folder ≡ Ok s.edits.items
  pub large : option_map string_bytes s.large ≡ first_large folder s.edits.items
  pub look : (t : FolderTree) → told ≡ Some t → nat_lt 536870912 (put_bytes s.edits.items) ≡ false → survey_of t folder ≡ Ok (view_survey s)

-- the plan of an accepted commit
pub plan_is : (folder : Bytes) (weights : List ℕ) (carousel bitrate : ℕ) (told : Option FolderTree) (s : Surveyed) (tree : Tree) (text : Bytes) → Surveys folder told s → IsAccepted s.edits.items tree
    → text ≡ plan_text weights bitrate (generation_of carousel (tree ∷ [])) (map view_standing s.left.items) → IsPlan folder weights carousel bitrate told text
plan_is folder weights carousel bitrate told s tree text surveys accepted is = record {
  tree = tree;
  left = map view_standing s.left.items;
  publishable = accepted.publishable;
  text_is = is;
  known = λ t h.
      let es : List Edit = s.edits.items in
      ap (walk_text weights carousel bitrate t (survey_of t folder)) (surveys.edits t h)
      ∙ ap (λ (l : Result Look Stands). walk_text weights carousel bitrate t l (Ok es)) (surveys.look t h accepted.small)
      ∙ ap (λ (r : Result ℕ Refusal). commit_text weights carousel bitrate t (view_survey s) es r (apply_all [] es)) (accepted.outcome carousel)
      ∙ ap (λ (r : Result Tree (ℕ × EditFault)). commit_text weights carousel bitrate t (view_survey s) es (Ok 1) r) accepted.applied
      ∙ ap Ok (sym is);
}

-- whether the journal is full, which then is the refusal
full_or : (carousel : ℕ) (es : List Edit) (refusal : Refusal) → first_outcome carousel es ≡ Err refusal
    → (nat_lt 536870912 (put_bytes es) ≡ false) ⊎ ((n : ℕ) × (refusal ≡ refusals.JournalFull n))
full_or carousel es refusal out = by (nat_lt 536870912 (put_bytes es)) refl (sym (outcome_is carousel es) ∙ out) where
  by : (b : Bool) → nat_lt 536870912 (put_bytes es) ≡ b → cond b (Err (refusals.JournalFull (cap_at_u64 (put_bytes es)))) (unless_edit 1 (apply_all [] es)) ≡ Err refusal
      → (nat_lt 536870912 (put_bytes es) ≡ false) ⊎ ((n : ℕ) × (refusal ≡ refusals.JournalFull n))
  by false is e = inl is
  by true is e = let same : refusal ≡ refusals.JournalFull (cap_at_u64 (put_bytes es)) = cc in inr (cap_at_u64 (put_bytes es), same)

-- the line of a refusal, by what the survey saw
line_is : (folder : Bytes) (carousel : ℕ) (told : Option FolderTree) (s : Surveyed) (refusal : Refusal) (t : FolderTree) → Surveys folder told s → first_outcome carousel s.edits.items ≡ Err refusal → told ≡ Some t
    → (applied : Result Tree (ℕ × EditFault)) → commit_line t (look_in (survey_of t folder)) s.edits.items applied refusal ≡ commit_line t (view_survey s) s.edits.items applied refusal
line_is folder carousel told s refusal t surveys out h applied = elim (full_or carousel s.edits.items refusal out) [
  | inl small ↦ ap (λ (l : Result Look Stands). commit_line t (look_in l) s.edits.items applied refusal) (surveys.look t h small)
  | inr full ↦ rw full.1 refl
]

-- a refusal of the commit, or a size that can't be read
pub refusal_text : (folder : Bytes) (weights : List ℕ) (carousel bitrate : ℕ) (told : Option FolderTree) (rose : Type 0) (refused : Option Bytes) (s : Surveyed) (refusal : Refusal) (end : PlanEnd) (text : Bytes) → Surveys folder told s
    → first_outcome carousel s.edits.items ≡ Err refusal → RefusalTells told rose refused s refusal end text → IsTextOf folder weights carousel bitrate told rose refused end text
refusal_text folder weights carousel bitrate told rose refused s refusal ends.Published text surveys out tells = absurd tells
refusal_text folder weights carousel bitrate told rose refused s refusal ends.Refused text surveys out tells = λ t h.
    let es : List Edit = s.edits.items in
    ap (walk_text weights carousel bitrate t (survey_of t folder)) (surveys.edits t h)
    ∙ ap (λ (r : Result ℕ Refusal). commit_text weights carousel bitrate t (look_in (survey_of t folder)) es r (apply_all [] es)) out
    ∙ ap Err (line_is folder carousel told s refusal t surveys out h (apply_all [] es) ∙ sym (tells t h))
refusal_text folder weights carousel bitrate told rose refused s refusal ends.Unreadable text surveys out tells = record {
  path = refused_path s.edits.items refusal;
  text_is = tells.0;
  named = names refusal tells.1 out;
  fault = may_weaken told rose (IsNoFile (option_map string_bytes s.large)) (CantBeRead folder)
      (λ t h none. inr (subst (λ (l : Option Bytes). IsNoFile l t) (sym (large_is t h)) none)) (fails refusal tells.1);
}
  where
    fails : (r : Refusal) → SizeFails told rose refused s r → MayFail rose told (IsNoFile (option_map string_bytes s.large))
    fails (refusals.Edit place edits.FileTooLarge) h = h.0
    fails (refusals.Edit place edits.NoSuchFile) h = absurd h
    fails (refusals.Edit place edits.FolderThere) h = absurd h
    fails (refusals.Edit place edits.ThroughFile) h = absurd h
    fails (refusals.Edit place edits.FileThere) h = absurd h
    fails (refusals.Edit place edits.NoSuchFolder) h = absurd h
    fails (refusals.Edit place edits.NotEmpty) h = absurd h
    fails (refusals.SeasonFull n) h = absurd h
    fails (refusals.JournalFull n) h = absurd h
    fails (refusals.TooManyObjects n) h = absurd h
    fails (refusals.FolderTooLarge p) h = absurd h
    fails (refusals.TooManyBytes n) h = absurd h
    fails (refusals.TooManyModules n) h = absurd h

    names : (r : Refusal) → SizeFails told rose refused s r → first_outcome carousel s.edits.items ≡ Err r → IsRefused refused (text_below folder (refused_path s.edits.items r))
    names (refusals.Edit place edits.FileTooLarge) h why =
        subst (λ (l : Option Bytes). IsSomeAnd l (IsRefused refused)) (surveys.large ∙ too_large folder carousel s.edits.items place why) h.1
    names (refusals.Edit place edits.NoSuchFile) h why = absurd h
    names (refusals.Edit place edits.FolderThere) h why = absurd h
    names (refusals.Edit place edits.ThroughFile) h why = absurd h
    names (refusals.Edit place edits.FileThere) h why = absurd h
    names (refusals.Edit place edits.NoSuchFolder) h why = absurd h
    names (refusals.Edit place edits.NotEmpty) h why = absurd h
    names (refusals.SeasonFull n) h why = absurd h
    names (refusals.JournalFull n) h why = absurd h
    names (refusals.TooManyObjects n) h why = absurd h
    names (refusals.FolderTooLarge p) h why = absurd h
    names (refusals.TooManyBytes n) h why = absurd h
    names (refusals.TooManyModules n) h why = absurd h

    journal_fails : (r : Refusal) (n : ℕ) → r ≡ refusals.JournalFull n → SizeFails told rose refused s r → ⊥
    journal_fails r n e h = let g : SizeFails told rose refused s (refusals.JournalFull n) = subst (SizeFails told rose refused s) e h in g

    large_is : (t : FolderTree) → told ≡ Some t → (look_in (survey_of t folder)).large ≡ option_map string_bytes s.large
    large_is t h = elim (full_or carousel s.edits.items refusal out) [
      | inl small ↦ ap (λ (l : Result Look Stands). (look_in l).large) (surveys.look t h small)
      | inr full ↦ absurd (journal_fails refusal full.0 full.1 tells.1)
    ]

fails_wider : (told : Option FolderTree) (refused : Option Bytes) (s : Surveyed) (r : Refusal) (a b c : ℕ) → a ≤ b → SizeFails told (Rose b c) refused s r → SizeFails told (Rose a c) refused s r
fails_wider told refused s (refusals.Edit place edits.FileTooLarge) a b c le h = (may_wider told (IsNoFile (option_map string_bytes s.large)) a b c le h.0, h.1)
fails_wider told refused s (refusals.Edit place edits.NoSuchFile) a b c le h = absurd h
fails_wider told refused s (refusals.Edit place edits.FolderThere) a b c le h = absurd h
fails_wider told refused s (refusals.Edit place edits.ThroughFile) a b c le h = absurd h
fails_wider told refused s (refusals.Edit place edits.FileThere) a b c le h = absurd h
fails_wider told refused s (refusals.Edit place edits.NoSuchFolder) a b c le h = absurd h
fails_wider told refused s (refusals.Edit place edits.NotEmpty) a b c le h = absurd h
fails_wider told refused s (refusals.SeasonFull n) a b c le h = absurd h
fails_wider told refused s (refusals.JournalFull n) a b c le h = absurd h
fails_wider told refused s (refusals.TooManyObjects n) a b c le h = absurd h
fails_wider told refused s (refusals.FolderTooLarge p) a b c le h = absurd h
fails_wider told refused s (refusals.TooManyBytes n) a b c le h = absurd h
fails_wider told refused s (refusals.TooManyModules n) a b c le h = absurd h

-- faults are counted from the beginning on, and what is known stays
pub refusal_wider : (told later : Option FolderTree) (refused : Option Bytes) (s : Surveyed) (r : Refusal) (end : PlanEnd) (text : Bytes) (a b c : ℕ) → a ≤ b → later ≡ told → RefusalTells later (Rose b c) refused s r end text → RefusalTells told (Rose a c) refused s r end text
refusal_wider told later refused s r end text a b c le same h = by end (subst (λ (o : Option FolderTree). RefusalTells o (Rose b c) refused s r end text) same h) where
  by : (end : PlanEnd) → RefusalTells told (Rose b c) refused s r end text → RefusalTells told (Rose a c) refused s r end text
  by ends.Refused k = k
  by ends.Unreadable k = (k.0, fails_wider told refused s r a b c le k.1)
  by ends.Published k = absurd k

pub surveyed_needs : (folder : Bytes) (told : Option FolderTree) (end : PlanEnd) → ((t : FolderTree) → told ≡ Some t → is_folder_at t folder ≡ false → ⊥) → NeedsFolder folder told (Ok end)
surveyed_needs folder told ends.Published none = none
surveyed_needs folder told ends.Refused none = none
surveyed_needs folder told ends.Unreadable none = tt
