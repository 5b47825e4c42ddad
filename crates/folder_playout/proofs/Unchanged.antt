-- A playout in which no other tree is read is a publication.
use Rattle.std.proofs.Common.{◌≡◌, ℕ, zero, suc, ◌+◌, true, List, [], ◌∷◌, ◌++◌, map, length, ◌⊎◌, inl, inr, refl, ◌∙◌, sym, ap, subst, arith, cond, lit≤, append-nil, append_assoc}
use Rattle.std.specs.List.{All, Contains, concat, fold}
use Rattle.std.proofs.lemmas.List.{map-append}
use Rattle.std.proofs.lemmas.List.Elements.{All-append, All-head, All-nil, All-tail, All-weaker}
use Rattle.path_tree.specs.Paths.{Bytes}
use Rattle.path_tree.specs.Trees.{Tree}
use Rattle.cycle_planner.specs.Cycle.{cycle_of}
use Rattle.cycle_planner.specs.declared.Item.{Item}
use Rattle.cycle_planner.proofs.CallerLemmas.{cycle_only}
use Rattle.biop_object.specs.Names.{Layout}
use Rattle.generation.specs.Layouts.{GenerationState, first_of, items_of, lines_in, lines_of, next_of, section_of}
use Rattle.generation.specs.Lawful.{section_in}
use Rattle.generation.specs.Kept.{IsGenerationOf, GenerationsAreOfTheLists}
use Rattle.folder_store.specs.Folders.{FolderTree}
use Rattle.section_stream.specs.Groups.{packets_of_group}
use Rattle.section_stream.specs.Packing.{idle}
use Rattle.carousel_world.specs.Broadcasts.{sections}
use Rattle.carousel_world.specs.Publishing.{layouts_for, publication, published_bytes, repeat_list}
use Rattle.carousel_world.proofs.CallerLemmas.{published_sections}
use Rattle.folder_playout.specs.OnAir.{OnAir, air_bytes, on_air, same_tree, taken, turn, with_cycle, with_tree}
use Rattle.folder_playout.specs.Readings.{AreOfFolder, Reading, Found, Refused, Failed, IsFailed, reading_of}
use Rattle.folder_playout.specs.Laws.{Stays, UnchangedIsPublished}
use Rattle.folder_playout.proofs.Changing.{same_alike}

-- ---- what is published

map_same : {X Y : Type 0} (f h : X → Y) (xs : List X) → All (λ x. f x ≡ h x) xs → map f xs ≡ map h xs
map_same f h [] e = refl
map_same f h (x ∷ xs) e =
    ap (λ y. y ∷ map f xs) (All-head (λ y. f y ≡ h y) x xs e) ∙ ap (λ ys. h x ∷ ys) (map_same f h xs (All-tail (λ y. f y ≡ h y) x xs e))

All-repeated : {X : Type 0} (P : X → Type 0) (n : ℕ) (xs : List X) → All P xs → All P (repeat_list n xs)
All-repeated P zero xs h = All-nil P
All-repeated P (suc n) xs h = All-append P xs (repeat_list n xs) h (All-repeated P n xs h)

sent_items : (carousel : ℕ) (weights : List ℕ) (cycles : ℕ) (layouts : List Layout) (g : GenerationState)
    → ((item : Item) → Contains (items_of g) item → section_of g item ≡ section_in carousel layouts 1 item)
    → map (section_of g) (repeat_list cycles (cycle_of weights (lines_of g))) ≡ map (section_in carousel layouts 1) (repeat_list cycles (cycle_of weights (lines_of g)))
sent_items carousel weights cycles layouts g same =
    map_same (section_of g) (section_in carousel layouts 1) (repeat_list cycles (cycle_of weights (lines_of g)))
    (All-repeated (λ item. section_of g item ≡ section_in carousel layouts 1 item) cycles (cycle_of weights (lines_of g))
    (All-weaker (Contains (items_of g)) (λ item. section_of g item ≡ section_in carousel layouts 1 item) same (cycle_of weights (lines_of g)) (cycle_only weights (lines_of g))))

pub sent_sections : (carousel : ℕ) (weights : List ℕ) (cycles : ℕ) (t : Tree) (g : GenerationState) → IsGenerationOf carousel (t ∷ []) 1 g
    → map (section_of g) (repeat_list cycles (cycle_of weights (lines_of g))) ≡ sections (publication carousel weights cycles t)
sent_sections carousel weights cycles t g is =
    sent_items carousel weights cycles (layouts_for carousel t) g is.sections
    ∙ ap (λ (l : Layout). map (section_in carousel (layouts_for carousel t) 1) (repeat_list cycles (cycle_of weights (lines_in l)))) is.layout
    ∙ sym (published_sections carousel weights cycles t)

-- ---- what is on the air

abbrev pub only : ℕ → Tree → GenerationState
only carousel tree = next_of (first_of carousel) tree

-- so many cycles of generation 1 are sent
abbrev pub steady : ℕ → List ℕ → Tree → ℕ → OnAir
steady carousel weights tree n = record {
  trees = tree ∷ [];
  generation = only carousel tree;
  ended = [];
  running = map (section_of (only carousel tree)) (repeat_list n (cycle_of weights (lines_of (only carousel tree))));
}

repeated_more : {X : Type 0} (n : ℕ) (xs : List X) → repeat_list n xs ++ xs ≡ repeat_list (suc n) xs
repeated_more zero xs = sym (append-nil xs)
repeated_more (suc n) xs = append_assoc xs (repeat_list n xs) xs ∙ ap (λ ys. xs ++ ys) (repeated_more n xs)

abbrev pub with_running : ℕ → Tree → List Bytes → OnAir
with_running carousel tree r = record { trees = tree ∷ []; generation = only carousel tree; ended = []; running = r }

steady_more : (carousel : ℕ) (weights : List ℕ) (tree : Tree) (n : ℕ) → with_cycle weights (steady carousel weights tree n) ≡ steady carousel weights tree (suc n)
steady_more carousel weights tree n =
    let g = only carousel tree in
    let cycle = cycle_of weights (lines_of g) in
    ap (with_running carousel tree) (sym (map-append (section_of g) (repeat_list n cycle) cycle) ∙ ap (map (section_of g)) (repeated_more n cycle))

steady_taken : (carousel : ℕ) (weights : List ℕ) (tree : Tree) (n : ℕ) (r : Reading) → Stays tree r → taken (steady carousel weights tree n) r ≡ steady carousel weights tree n
steady_taken carousel weights tree n (Found t) e =
    let s = steady carousel weights tree n in
    let same : same_tree t tree ≡ true = ap (λ u. same_tree u tree) e ∙ same_alike tree in
    ap (λ b. cond b s (with_tree t s)) same
steady_taken carousel weights tree n (Refused fault path) e = refl
steady_taken carousel weights tree n (Failed path) e = refl

steady_turns : (carousel : ℕ) (weights : List ℕ) (tree : Tree) (n : ℕ) (readings : List Reading) → All (Stays tree) readings
    → fold (turn weights) (steady carousel weights tree n) readings ≡ steady carousel weights tree (n + length readings)
steady_turns carousel weights tree n [] all = ap (steady carousel weights tree) (omega arith)
steady_turns carousel weights tree n (r ∷ rs) all =
    let here = ap (with_cycle weights) (steady_taken carousel weights tree n r (All-head (Stays tree) r rs all)) ∙ steady_more carousel weights tree n in
    ap (λ s. fold (turn weights) s rs) here ∙ steady_turns carousel weights tree (suc n) rs (All-tail (Stays tree) r rs all) ∙ ap (steady carousel weights tree) (omega arith)

steady_air : (carousel : ℕ) (weights : List ℕ) (tree : Tree) (readings : List Reading) → All (Stays tree) readings
    → on_air carousel weights tree readings ≡ steady carousel weights tree (length readings + 1)
steady_air carousel weights tree readings all =
    ap (λ s. fold (turn weights) s readings) (steady_more carousel weights tree 0) ∙ steady_turns carousel weights tree 1 readings all ∙ ap (steady carousel weights tree) (omega arith)

unchanged_bytes : GenerationsAreOfTheLists → (pid carousel : ℕ) (weights : List ℕ) (tree : Tree) (readings : List Reading) → All (Stays tree) readings
    → air_bytes pid (on_air carousel weights tree readings) ≡ published_bytes pid carousel weights (length readings + 1) tree
unchanged_bytes law pid carousel weights tree readings all =
    let n = length readings + 1 in
    ap (air_bytes pid) (steady_air carousel weights tree readings all)
    ∙ ap concat (append-nil (packets_of_group (idle pid 0) (steady carousel weights tree n).running))
    ∙ ap (λ ss. concat (packets_of_group (idle pid 0) ss)) (sent_sections carousel weights n tree (only carousel tree) (law carousel (tree ∷ []) 1 (lit≤ tt)))

-- ---- a known folder

not_failed : (t : Tree) (path : Bytes) → Found t ≡ Failed path → ⊥
not_failed t path e = cc

stays_of : (tree : Tree) (r : Reading) → IsFailed r ⊎ (r ≡ Found tree) → Stays tree r
stays_of tree (Found t) (inl f) = absurd (not_failed t f.0 f.1)
stays_of tree (Found t) (inr e) = cc
stays_of tree (Refused fault path) e = tt
stays_of tree (Failed path) e = tt

first_read : (t : FolderTree) (folder : Bytes) (tree : Tree) → IsFailed (Found tree) ⊎ (Found tree ≡ reading_of t folder) → reading_of t folder ≡ Found tree
first_read t folder tree (inl f) = absurd (not_failed tree f.0 f.1)
first_read t folder tree (inr e) = sym e

known_stays : (t : FolderTree) (folder : Bytes) (tree : Tree) (readings : List Reading) → AreOfFolder t folder (Found tree ∷ readings)
    → (reading_of t folder ≡ Found tree) × All (Stays tree) readings
known_stays t folder tree readings all =
    let P : Reading → Type 0 = λ r. IsFailed r ⊎ (r ≡ reading_of t folder) in
    let Q : Reading → Type 0 = λ r. IsFailed r ⊎ (r ≡ Found tree) in
    let first = first_read t folder tree (All-head P (Found tree) readings all) in
    (first, All-weaker P (Stays tree) (λ r h. stays_of tree r (subst (λ x. IsFailed r ⊎ (r ≡ x)) first h)) readings (All-tail P (Found tree) readings all))

pub unchanged : GenerationsAreOfTheLists → UnchangedIsPublished
unchanged law = record { bytes = unchanged_bytes law; of_folder = known_stays }
