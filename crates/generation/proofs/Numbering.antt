-- The objects of a tree: their numbers, the folders that they stand in, their names and contents.
use Rattle.std.proofs.Common.{◌≡◌, ℕ, zero, suc, ◌+◌, ◌<◌, ◌≤◌, ◌++◌, true, List, [], ◌∷◌, length, map, Option, Some, None, refl, sym, ◌∙◌, ap, subst, arith, get_or, length-append, inl, inr}
use Rattle.std.proofs.lemmas.List.{get_or_append_left, get_or-append-add}
use Rattle.std.proofs.lemmas.List.FromFn.{get_or-range_with_len}
use Rattle.generation.proofs.Words.{All, AllByRecursion, same_Some, cases_Bool, All-nil, All-cons, All-append, All-map, All-tail, recursion_from_All, get_or-map, get_or_default, IsIn, ObjectsAreWhatStands, Bytes, PathNames, IsName, Tree, IsTree, HasContent, Nesting, Empty, FileThen, FolderThen, nested, Entry, IsBytes, same_name, gateway_spot, below, spots_in, spots_of, is_child, Spot, option_cases, all_unmap}
use Rattle.path_tree.specs.Nestings.{put_before, first_inside, beside_first}
use Rattle.path_tree.specs.Trees.{Fits}
use Rattle.path_tree.specs.declared.entry.Entry.TheVariants as entries
use Rattle.generation.specs.Publication.{count_in}
use Rattle.generation.proofs.Standing.{rising_all, all_stands, numbered, length-spots}

pub numbers : (t : Tree) → IsTree t → (i : ℕ) (d : Spot) → i < length (spots_of t) → (get_or (spots_of t) i d).number ≡ i
numbers t tree i d lt =
    let all = ap (λ l. 0 ∷ l) (numbered 0 1 (nested t)) in
    sym (get_or-map (λ (s : Spot). s.number) (spots_of t) i d 0 lt) ∙ ap (λ ns. get_or ns i 0) all ∙ omega (arith, get_or-range_with_len 0 (suc (count_in (nested t))) i 0 (omega (arith, lt, length-spots 0 1 (nested t))))

-- an object that stands in a folder names one
pub child_has : (folder : ℕ) (s : Spot) → is_child folder s ≡ true → (p : ℕ) × (s.parent ≡ Some p)
child_has folder s e = elim (option_cases s.parent) [ inl h ↦ h | inr h ↦ let bad = rw h at e in cc ]

-- ---- what a tree says of its names and files

abbrev Holds : Option Bytes → Type 0
Holds (Some b) = IsBytes b × (length b ≤ 16777216)
Holds None = Unit {0}

abbrev IsSound : Nesting → Type 0
IsSound Empty = Unit {0}
IsSound (FileThen n b rest) = IsName n × Holds (Some b) × IsSound rest
IsSound (FolderThen n made inside rest) = IsName n × IsSound inside × IsSound rest

sound_parts : (n : Bytes) (g : Nesting) → IsSound g → IsSound (first_inside n g) × IsSound (beside_first n g)
sound_parts n Empty h = (tt, tt)
sound_parts n (FileThen m b rest) h = (tt, h)
sound_parts n (FolderThen m made inside rest) h = elim (cases_Bool (same_name n m)) [ inl is ↦ rw is (h.1, h.2) | inr is ↦ rw is (tt, h) ]

sound_put : (p : PathNames) (x : Entry) (g : Nesting) → AllByRecursion IsName p → HasContent x → Fits x → IsSound g → IsSound (put_before p x g)
sound_put [] x g names content fits h = h
sound_put (n ∷ []) (entries.File b) g names content fits h = (names.0, (content, fits), h)
sound_put (n ∷ []) entries.Folder g names content fits h = let parts = sound_parts n g h in (names.0, parts.0, parts.1)
sound_put (n ∷ k ∷ ks) x g names content fits h =
    let parts = sound_parts n g h in (names.0, sound_put (k ∷ ks) x (first_inside n g) names.1 content fits parts.0, parts.1)

abbrev Valid : PathNames × Entry → Type 0
Valid e = AllByRecursion IsName e.0 × HasContent e.1 × Fits e.1

sound_all : (es : Tree) → AllByRecursion Valid es → IsSound (nested es)
sound_all [] valid = tt
sound_all (e ∷ es) valid = sound_put e.0 e.1 (nested es) valid.0.0 valid.0.1 valid.0.2 (sound_all es valid.1)

-- ---- folders

-- what is said of the number and the path of each folder
abbrev OfFolder : (ℕ → PathNames → Type 0) → Spot → Type 0
OfFolder F s = s.content ≡ None → F s.number s.path

-- and so of those of the folder that an object stands in; and the object's name and content are a tree's
abbrev Under : (ℕ → PathNames → Type 0) → Spot → Type 0
Under F s = (p : ℕ) × (folder : PathNames) × (s.parent ≡ Some p) × (s.path ≡ folder ++ s.name ∷ []) × F p folder × IsName s.name × Holds s.content

pub all_parts : {A : Type 0} (P : A → Type 0) (xs ys : List A) → All P (xs ++ ys) → All P xs × All P ys
all_parts P xs ys all = (
  (λ i d lt. subst P (get_or_append_left xs ys d i lt) (all i d (omega (arith, lt, length-append xs ys)))),
  (λ i d lt. subst P (get_or-append-add xs ys i d) (all (length xs + i) d (omega (arith, lt, length-append xs ys)))),
)

under_in : (F : ℕ → PathNames → Type 0) (parent next : ℕ) (g : Nesting) → F parent [] → IsSound g → All (OfFolder F) (spots_in parent next g) → All (Under F) (spots_in parent next g)
under_in F parent next Empty top sound folders = All-nil (Under F)
under_in F parent next (FileThen n b rest) top sound folders =
    let more = spots_in parent (suc next) rest in
    All-cons (Under F) _ more (parent, [], refl, refl, top, sound.0, sound.1) (under_in F parent (suc next) rest top sound.2 (All-tail (OfFolder F) _ more folders))
under_in F parent next (FolderThen n made inside rest) top sound folders =
    let down = spots_in next (suc next) inside in
    let more = suc (next + count_in inside) in
    let parts = all_parts (OfFolder F) (map (below n) down) (spots_in parent more rest) (All-tail (OfFolder F) _ (map (below n) down ++ spots_in parent more rest) folders) in
    let deep = under_in (λ p path. F p (n ∷ path)) next (suc next) inside (folders 0 gateway_spot (omega arith) refl) sound.1 (all_unmap (OfFolder F) (below n) down parts.0) in
    All-cons (Under F) _ (map (below n) down ++ spots_in parent more rest) (parent, [], refl, refl, top, sound.0, tt)
    (All-append (Under F) (map (below n) down) (spots_in parent more rest)
    (All-map (Under F) (below n) down (λ i d lt. let u = deep i d lt in (u.0, n ∷ u.1, u.2, ap (λ path. n ∷ path) u.3, u.4, u.5, u.6)))
    (under_in F parent more rest top sound.2 parts.1))

-- a number is that of a folder among the objects
abbrev pub IsFolderOf : List Spot → ℕ → Type 0
IsFolderOf ss p = (p < length ss) × ((get_or ss p gateway_spot).content ≡ None)

abbrev IsAt : List Spot → ℕ → PathNames → Type 0
IsAt ss p path = IsFolderOf ss p × ((get_or ss p gateway_spot).path ≡ path)

all_under : (t : Tree) → IsTree t → All (Under (IsAt (spots_of t))) (spots_in 0 1 (nested t))
all_under t tree = under_in (IsAt (spots_of t)) 0 1 (nested t) ((omega arith, refl), refl) (sound_all t (recursion_from_All Valid t valid)) folders where
  valid : All Valid t
  valid i d lt = (recursion_from_All IsName (get_or t i d).0 (tree.paths i d lt).0.names, tree.contents i d lt, tree.sizes i d lt)

  folders : All (OfFolder (IsAt (spots_of t))) (spots_in 0 1 (nested t))
  folders i d lt none =
      let same = get_or_default (spots_in 0 1 (nested t)) i gateway_spot d lt in
      subst (λ k. IsAt (spots_of t) k (get_or (spots_in 0 1 (nested t)) i d).path) (sym (numbers t tree (suc i) d (omega (arith, lt))))
      ((omega (arith, lt), ap (λ (s : Spot). s.content) same ∙ none), ap (λ (s : Spot). s.path) same)

pub in_folder : (t : Tree) → IsTree t → (i : ℕ) (d : Spot) (p : ℕ) → i < length (spots_of t) → (get_or (spots_of t) i d).parent ≡ Some p → IsFolderOf (spots_of t) p
in_folder t tree zero d p lt e = cc
in_folder t tree (suc i) d p lt e = let u = all_under t tree i d (omega (arith, lt)) in subst (IsFolderOf (spots_of t)) (same_Some u.0 p (sym u.2 ∙ e)) u.4.0

-- what is said of each object: its name, where it stands in a folder, and its content
pub record IsValidSpot (s : Spot) : Type 0 where
  pub name : (p : ℕ) → s.parent ≡ Some p → IsName s.name
  pub bytes : (b : Bytes) → s.content ≡ Some b → IsBytes b
  pub small : (b : Bytes) → s.content ≡ Some b → length b ≤ 16777216

pub all_valid : (t : Tree) → IsTree t → All IsValidSpot (spots_of t)
all_valid t tree = All-cons IsValidSpot gateway_spot (spots_in 0 1 (nested t)) (record { name = λ p e. cc; bytes = λ b e. cc; small = λ b e. cc }) (λ i d lt.
    let u = all_under t tree i d lt in record { name = λ p e. u.5; bytes = λ b e. (subst Holds e u.6).0; small = λ b e. (subst Holds e u.6).1 })

-- ---- all that is said of the objects

pub objects_stand : ObjectsAreWhatStands
objects_stand t tree = record { rising = rising_all t tree; numbered = record { numbers = numbers t tree; parents = parents }; each = all_stands t tree } where
  parents : All (λ s. IsIn (spots_of t) s s.parent) (spots_of t)
  parents = All-cons (λ s. IsIn (spots_of t) s s.parent) gateway_spot (spots_in 0 1 (nested t)) refl (λ i d lt.
      let s = get_or (spots_in 0 1 (nested t)) i d in
      let u = all_under t tree i d lt in
      subst (IsIn (spots_of t) s) (sym u.2) (u.4.0.0, u.3 ∙ ap (λ path. path ++ s.name ∷ []) (sym u.4.1)))
