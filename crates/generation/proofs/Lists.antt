-- A generation is the one that the lists of trees and layouts give, and so is the one after it.
use Rattle.std.proofs.Common.{◌≡◌, ℕ, zero, suc, ◌+◌, ◌<◌, ◌≤◌, List, [], ◌∷◌, ◌++◌, length, take, Some, None, ◌==◌, refl, sym, ◌∙◌, ap, subst, arith, get_or, inl, inr}
use Rattle.std.proofs.Math.Seq.{take-suc}
use Rattle.std.proofs.lemmas.List.Elements.{All-contains}
use Rattle.std.proofs.lemmas.List.Concat.{get_or-flat_map}
use Rattle.std.proofs.lemmas.List.Folds.{length-flat_map-take}
use Rattle.std.proofs.lemmas.List.Recursion.{found_at}
use Rattle.generation.proofs.Words.{get_or-map, length-map, length-map-range_with_len, get_or-map-range_with_len, All, Contains, flat_map, AllPairs, All-cons, All-append, Contains-append_left, Contains-append_right, eq-eqb, ne_eqb, Bytes, Tree, Layout, module_in, Line, diis_of, blocks_of, IsGroupOf, Dsi, Dii, Block, block_count_of, GenerationState, first_of, next_of, layout_of, lines_in, section_of, generation_of, layout_at, tree_at, count_of, section_in, IsItem, HasDii, layouts_of, GenerationsAreOfTheLists, StandsFor, all_diis, all_blocks_of, group_known, group_has, dii_contained, fold_push, Item, count_in, one_if_changed}
use Rattle.generation.proofs.Filling.{layout_listed}
use Rattle.generation.proofs.Counting.{count_step}
use Rattle.generation.proofs.Grouping.{dii_of_lines, line_of, line_there}
use Rattle.carousel_profile.specs.declared.TheConstants.{BLOCK_SIZE}

-- ---- the states on the way

abbrev pub state_at : ℕ → List Tree → ℕ → GenerationState
state_at c ts g = generation_of c (take g ts)

pub layout_is : (c : ℕ) (ts : List Tree) (g : ℕ) → g ≤ length ts → layout_at (layouts_of c ts) g ≡ (state_at c ts g).layout
layout_is c ts g le = get_or-map-range_with_len (λ k. (state_at c ts k).layout) 0 (suc (length ts)) g g [] (omega arith) (omega arith)

pub record IsReached (c : ℕ) (ts : List Tree) (g : ℕ) (s : GenerationState) : Type 0 where
  pub number : s.number ≡ g
  pub carousel : s.carousel ≡ c
  pub tree : s.tree ≡ tree_at ([] ∷ ts) g
  pub made : s.layout ≡ layout_of c s.objects
  pub counts : (m : ℕ) → count_in s.counts m ≡ count_of (layouts_of c ts) g m

pub reached : (c : ℕ) (ts : List Tree) (g : ℕ) → g ≤ length ts → IsReached c ts g (state_at c ts g)
reached c ts zero le = record { number = refl; carousel = refl; tree = refl; made = refl; counts = λ m. refl }
reached c ts (suc g) le =
    let s = state_at c ts g in
    let r = reached c ts g (omega arith) in
    let next : state_at c ts (suc g) ≡ next_of s (tree_at ts g) = ap (generation_of c) (take-suc ts g [] (omega arith)) ∙ fold_push next_of (first_of c) (take g ts) (tree_at ts g) in
    let after : (next_of s (tree_at ts g)).layout ≡ layout_at (layouts_of c ts) (suc g) = sym (layout_is c ts (suc g) le ∙ ap (λ x. x.layout) next) in
    subst (IsReached c ts (suc g)) (sym next) (record {
      number = omega (arith, r.number);
      carousel = r.carousel;
      tree = refl;
      made = ap (λ k. layout_of k (next_of s (tree_at ts g)).objects) r.carousel;
      counts = λ m. count_step s.layout (next_of s (tree_at ts g)).layout s.counts m
          ∙ (λ i. r.counts m i + one_if_changed (module_in (sym (layout_is c ts g (omega arith)) i) m) (module_in (after i) m));
    })

-- ---- items

-- the module of a line of the layout
listed_at : (layout : Layout) → AllPairs (λ m n. m.0 < n.0) layout → (line : Line) → Contains (lines_in layout) line
    → (bytes : Bytes) × (module_in layout line.0 ≡ Some bytes) × (line.1 ≡ block_count_of (length bytes) BLOCK_SIZE)
listed_at layout up line c =
    let x = get_or layout c.0 (0, []) in
    let lt : c.0 < length layout = omega (arith, c.1, length-map layout line_of) in
    let is : line ≡ line_of x = sym c.2 ∙ get_or-map line_of layout c.0 (0, []) line lt in
    let found = found_at (λ l. module_in l x.0) (λ m. m.0 == x.0) (λ m. Some m.1) None refl (λ m ms. refl) layout c.0 (0, []) lt
    (λ k before. ne_eqb (get_or layout k (0, [])).0 x.0 (λ same. omega (arith, up k c.0 (0, []) before lt, same))) (eq-eqb x.0 x.0 refl) in
    (x.1, ap (λ (l : Line). module_in layout l.0) is ∙ found, ap (λ (l : Line). l.1) is)

abbrev items_in : Layout → List Item
items_in layout = Dsi ∷ (diis_of (lines_in layout) ++ flat_map blocks_of (lines_in layout))

all_items : (ls : List Layout) (g : ℕ) → g < length ls → AllPairs (λ m n. m.0 < n.0) (layout_at ls g) → All (IsItem ls g) (items_in (layout_at ls g))
all_items ls g within up =
    let lines = lines_in (layout_at ls g) in
    let known : (j : ℕ) → IsGroupOf lines j → HasDii ls g j = λ j is. elim is [ inl e ↦ inl e | inr h ↦ let r = listed_at (layout_at ls g) up h.0 h.1 in inr (h.0.0, r.0, r.1, h.2) ] in
    All-cons (IsItem ls g) Dsi _ within (All-append (IsItem ls g) (diis_of lines) (flat_map blocks_of lines)
    (all_diis (IsItem ls g) lines (λ j is. (within, known j (group_known lines j is.has), is.above, is.within)))
    (all_blocks_of (IsItem ls g) lines (λ line b c lt. let r = listed_at (layout_at ls g) up line c in (within, (r.0, r.1, subst (λ n. b < n) r.2 lt)))))

item_listed : (ls : List Layout) (g : ℕ) (item : Item) → IsItem ls g item → Contains (items_in (layout_at ls g)) item
item_listed ls g Dsi is = (0, omega arith, refl)
item_listed ls g (Dii j) is =
    let lines = lines_in (layout_at ls g) in
    let there = dii_contained lines j (record { above = is.2; within = is.3; has = group_has lines j (dii_of_lines ls g j is.1) }) in
    Contains-append_left (Dsi ∷ diis_of lines) (flat_map blocks_of lines) (Dii j) (suc there.0, omega (arith, there.1), there.2)
item_listed ls g (Block m b) is =
    let lines = lines_in (layout_at ls g) in
    let line : Line = (m, block_count_of (length is.1.0) BLOCK_SIZE) in
    let at = line_there (layout_at ls g) m is.1.0 is.1.1 in
    let many : length (blocks_of (get_or lines at.0 line)) ≡ line.1 = ap (λ l. length (blocks_of l)) at.2 ∙ length-map-range_with_len (λ k. Block m k) 0 line.1 in
    let here : get_or (blocks_of (get_or lines at.0 line)) b (Block m b) ≡ Block m b = ap (λ l. get_or (blocks_of l) b (Block m b)) at.2 ∙ get_or-map-range_with_len (λ k. Block m k) 0 line.1 b b (Block m b) is.1.2 (omega arith) in
    let there = get_or-flat_map blocks_of lines at.0 b line (Block m b) at.1 (omega (arith, many, is.1.2)) ∙ here in
    let own : Contains (flat_map blocks_of lines) (Block m b) = (length (flat_map blocks_of (take at.0 lines)) + b, omega (arith, many, is.1.2, length-flat_map-take blocks_of lines at.0 line at.1), there) in
    Contains-append_right (Dsi ∷ diis_of lines) (flat_map blocks_of lines) (Block m b) own

-- ---- sections

section_same : (c g : ℕ) (ls : List Layout) (s : GenerationState) → s.carousel ≡ c → s.number ≡ g → s.layout ≡ layout_at ls g → ((m : ℕ) → count_in s.counts m ≡ count_of ls g m)
    → (item : Item) → section_of s item ≡ section_in c ls g item
section_same c g ls s ec en el ek Dsi = simp ec
section_same c g ls s ec en el ek (Dii j) = simp (ec, en, el, ek)
section_same c g ls s ec en el ek (Block m b) = simp (ec, el, ek)

-- ---- all of it

pub of_the_lists : GenerationsAreOfTheLists
of_the_lists c ts g le =
    let s = state_at c ts g in
    let r = reached c ts g le in
    let ls = layouts_of c ts in
    let is : layout_at ls g ≡ s.layout = layout_is c ts g le in
    let up : AllPairs (λ m n. m.0 < n.0) (layout_at ls g) = subst (AllPairs (λ m n. m.0 < n.0)) (sym (is ∙ r.made)) (layout_listed c s.objects).rising in
    let all = all_items ls g (omega (arith, le, length-map-range_with_len (λ k. (state_at c ts k).layout) 0 (suc (length ts)))) up in
    record {
      number = r.number;
      tree = r.tree;
      layout = sym is;
      counts = r.counts;
      items = λ item has. All-contains (IsItem ls g) (items_in (layout_at ls g)) item all (subst (λ l. Contains (items_in l) item) (sym is) has);
      listed = λ item own. subst (λ l. Contains (items_in l) item) is (item_listed ls g item own);
      sections = λ item has. section_same c g ls s r.carousel r.number (sym is) r.counts item;
    }

-- what comes after a generation of these trees is one of these and the new one
pub stands_next : (s g : GenerationState) (t : Tree) → g ≡ next_of s t → (trees : List Tree) → StandsFor s trees → StandsFor g (trees ++ t ∷ [])
stands_next s g t e trees stands =
    e ∙ (ap (λ x. next_of x t) stands ∙ sym (fold_push next_of (first_of s.carousel) trees t)) ∙ ap (λ k. generation_of k (trees ++ t ∷ [])) (sym (ap (λ x. x.carousel) e))
