-- What two draws of the most items draw: the rest of a cycle, and the next one whole.
use Rattle.std.proofs.Common.{◌≡◌, ℕ, ◌+◌, ◌-◌, ◌*◌, ◌%◌, ◌<◌, ◌≤◌, List, [], ◌∷◌, ◌++◌, length, map, take, drop, min, cond, Ok, Err, refl, ap, sym, ◌∙◌, subst, arith, lit<}
use Rattle.std.specs.List.{Contains, sum_by}
use Rattle.std.proofs.Math.Nat.{mod-add-mod, mod_self, mod-lt}
use Rattle.std.proofs.lemmas.Grind.{div_ceil_times}
use Rattle.std.proofs.lemmas.List.{length-drop, take_all}
use Rattle.std.proofs.lemmas.List.Elements.{All-weaker}
use Rattle.std.proofs.lemmas.List.Sums.{sum_by-cons, sum_by-append}
use Rattle.carousel_profile.specs.declared.TheConstants.{BLOCK_SIZE}
use Rattle.path_tree.specs.Paths.{Bytes}
use Rattle.path_tree.specs.Trees.{Tree}
use Rattle.biop_object.specs.Names.{Layout}
use Rattle.cycle_planner.specs.Cycle.{Line, cycle_of}
use Rattle.cycle_planner.specs.Weights.{AreWeights}
use Rattle.cycle_planner.specs.declared.Item.{Item}
use Rattle.cycle_planner.proofs.CallerLemmas.{cycle_at_most}
use Rattle.ddb_block.specs.Blocks as ddb
use Rattle.generation.specs.Layouts.{generation_of, items_of, lines_in, lines_of, section_of}
use Rattle.generation.specs.Kept.{layouts_of, GenerationsAreOfTheLists, IsGenerationOf}
use Rattle.generation.specs.Lawful.{layout_at, section_in}
use Rattle.generation_catalogue.specs.History.{CatalogueState, trees_of, current_of, cycle_in, cursor_of, count_drawn, items_drawn, draws_of, with_draw, drawn_since, is_draw}
use Rattle.generation_catalogue.specs.Laws.{HistoriesGrow}
use Rattle.generation_catalogue.specs.declared.entry.Entry.{Entry}
use Rattle.generation_catalogue.specs.declared.entry.Entry.TheVariants as entries
use Rattle.carousel_world.proofs.Drawn.{alike}
use Rattle.carousel_world.proofs.Modules.{IsSent, few_modules}

-- ---- a cycle is short

module_blocks : (size : ℕ) → BLOCK_SIZE * ddb.block_count_of size BLOCK_SIZE ≤ size + 4065
module_blocks size = let times = div_ceil_times size BLOCK_SIZE (lit< tt) in omega (arith, times.1)

blocks_fit : (ms : Layout) → BLOCK_SIZE * sum_by (λ l. l.1) (lines_in ms) ≤ sum_by (λ m. length m.1) ms + 4065 * length ms
blocks_fit [] = omega arith
blocks_fit (m ∷ ms) =
    let here = sum_by-cons (λ (l : Line). l.1) (m.0, ddb.block_count_of (length m.1) BLOCK_SIZE) (lines_in ms) in
    let total = sum_by-cons (λ (x : ℕ × Bytes). length x.1) m ms in
    let fit = module_blocks (length m.1) in
    let fits = blocks_fit ms in
    omega (arith, here, total, fit, fits)

-- 268,435,456 bytes in 2,224 modules have at most 68,242 blocks, each of which is sent up to eight times, as are 16 DIIs
pub short_cycle : (carousel : ℕ) (ls : List Layout) (g : ℕ) (weights : List ℕ) → AreWeights weights → IsSent carousel ls g → length (cycle_of weights (lines_in (layout_at ls g))) ≤ 546065
short_cycle carousel ls g weights are sent =
    let fit = blocks_fit (layout_at ls g) in
    let size = cycle_at_most weights (lines_in (layout_at ls g)) are in
    let few = few_modules carousel ls g sent in
    let total = sent.total in
    omega (arith, fit, size, few, total)

-- ---- a draw of the most items

abbrev pub IsShort : CatalogueState → Type 0
IsShort c = length (cycle_in c) ≤ 1048576

-- the catalogue after a draw of the most items
abbrev pub turned : CatalogueState → CatalogueState
turned c = with_draw c 1048576

lesser : (a b : ℕ) → b ≤ a → min a b ≡ b
lesser a b le = omega (arith, le)

below : (c : CatalogueState) → cursor_of c < length (cycle_in c)
below c = mod-lt (drawn_since 0 c.entries) (omega arith)

to_end : (c : CatalogueState) → IsShort c → count_drawn c 1048576 ≡ length (cycle_in c) - cursor_of c
to_end c short = lesser 1048576 (length (cycle_in c) - cursor_of c) (omega (arith, short))

-- it draws what is left of the cycle
rest_drawn : (c : CatalogueState) → IsShort c → items_drawn c 1048576 ≡ drop (cursor_of c) (cycle_in c)
rest_drawn c short =
    let left = drop (cursor_of c) (cycle_in c) in
    let size : length left ≡ length (cycle_in c) - cursor_of c = length-drop (cursor_of c) (cycle_in c) in
    ap (λ k. take k left) (to_end c short) ∙ take_all (length (cycle_in c) - cursor_of c) left (omega (arith, size))

pub some_drawn : (c : CatalogueState) → IsShort c → 0 < length (items_drawn c 1048576)
some_drawn c short =
    let size : length (items_drawn c 1048576) ≡ length (cycle_in c) - cursor_of c = ap length (rest_drawn c short) ∙ length-drop (cursor_of c) (cycle_in c) in
    let inside = below c in
    omega (arith, size, inside)

-- ---- and the next one begins the cycle again

since-append : (n : ℕ) (es fs : List Entry) → drawn_since n (es ++ fs) ≡ drawn_since (drawn_since n es) fs
since-append n [] fs = refl
since-append n (entries.Commit editor edits (Ok number) ∷ es) fs = since-append 0 es fs
since-append n (entries.Commit editor edits (Err refusal) ∷ es) fs = since-append n es fs
since-append n (entries.Draw asked generation first count ∷ es) fs = since-append (n + count) es fs

begins_again : (n size : ℕ) → n % size < size → (n + (size - n % size)) % size ≡ 0
begins_again n size inside =
    let whole : n % size + (size - n % size) ≡ size = omega (arith, inside) in
    sym (mod-add-mod n size (size - n % size)) ∙ ap (λ k. k % size) whole ∙ mod_self size

same_cycle : HistoriesGrow → (c : CatalogueState) → cycle_in (turned c) ≡ cycle_in c
same_cycle grow c = ap (λ ts. cycle_of c.weights (lines_of (generation_of c.carousel ts))) (grow.by_draw c 1048576)

at_start : HistoriesGrow → (c : CatalogueState) → IsShort c → cursor_of (turned c) ≡ 0
at_start grow c short =
    let entry = entries.Draw 1048576 (current_of c).number (cursor_of c) (count_drawn c 1048576) in
    ap (λ n. n % length (cycle_in (turned c))) (since-append 0 c.entries (entry ∷ []))
    ∙ ap (λ items. (drawn_since 0 c.entries + count_drawn c 1048576) % length items) (same_cycle grow c)
    ∙ ap (λ k. (drawn_since 0 c.entries + k) % length (cycle_in c)) (to_end c short)
    ∙ begins_again (drawn_since 0 c.entries) (length (cycle_in c)) (below c)

pub cycle_drawn : HistoriesGrow → (c : CatalogueState) → IsShort c → items_drawn (turned c) 1048576 ≡ cycle_in c
cycle_drawn grow c short =
    rest_drawn (turned c) (subst (λ items. length items ≤ 1048576) (sym (same_cycle grow c)) short)
    ∙ ap (λ k. drop k (cycle_in (turned c))) (at_start grow c short)
    ∙ same_cycle grow c

pub draws_more : (c : CatalogueState) → draws_of (turned c) ≡ draws_of c + 1
draws_more c =
    let entry = entries.Draw 1048576 (current_of c).number (cursor_of c) (count_drawn c 1048576) in
    sum_by-append (λ e. cond (is_draw e) 1 0) c.entries (entry ∷ [])

-- ---- the sections of a draw

pub is_of_lists : GenerationsAreOfTheLists → (c : CatalogueState) → IsGenerationOf c.carousel (trees_of c) (length (trees_of c)) (current_of c)
is_of_lists lists c =
    let trees = trees_of c in
    subst (λ ts. IsGenerationOf c.carousel trees (length trees) (generation_of c.carousel ts)) (take_all (length trees) trees (omega arith))
    (lists c.carousel trees (length trees) (omega arith))

-- a section of the last generation of these trees
abbrev pub last_section : ℕ → List Tree → Item → Bytes
last_section carousel trees item = section_in carousel (layouts_of carousel trees) (length trees) item

pub sent_by : HistoriesGrow → GenerationsAreOfTheLists → (c : CatalogueState) (asked : ℕ)
    → map (section_of (current_of c)) (items_drawn c asked) ≡ map (last_section c.carousel (trees_of c)) (items_drawn c asked)
sent_by grow lists c asked =
    alike (section_of (current_of c)) (last_section c.carousel (trees_of c)) (items_drawn c asked)
    (All-weaker (Contains (items_of (current_of c))) (λ item. section_of (current_of c) item ≡ last_section c.carousel (trees_of c) item) (is_of_lists lists c).sections (items_drawn c asked) (grow.items c asked))
