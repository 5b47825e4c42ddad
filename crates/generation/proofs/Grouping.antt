-- Which DII lists which module, and how many one lists.
use Rattle.std.proofs.Common.{◌≡◌, ℕ, zero, suc, ◌+◌, ◌-◌, ◌*◌, ◌<◌, ◌≤◌, inl, inr, ◌==◌, List, [], ◌∷◌, ◌++◌, length, get_or, Some, ◌∙◌, ap, subst, arith}
use Rattle.carousel_profile.specs.declared.TheConstants.{BLOCK_SIZE}
use Rattle.generation.proofs.Words.{All, AllPairs, Contains, flat_map, eqb-true, cases_Bool, same_Some, All-head, All-tail, All-cons, All-append, All-filter, filter_passes, AllPairs-filter, Bytes, block_count_of, GROUP_SIZE, id_of_group, Layout, module_in, Line, IsGroupOf, diis_of, blocks_of, Dsi, Dii, all_diis, all_blocks_of, is_in_group, group_in, GenerationState, lines_in, lines_of, items_of, layout_at, HasDii, IsRising, Item, group_of}
use Rattle.cycle_planner.specs.Places.{IsListed}
use Rattle.module_groups.specs.Groups.{IsIdOf}

-- ---- how many modules a DII lists

-- ids that rise between two numbers are few
pub rising_few : (ms : Layout) (a u : ℕ) → a ≤ u → AllPairs (λ m n. m.0 < n.0) ms → All (λ m. a ≤ m.0) ms → All (λ m. m.0 < u) ms → length ms + a ≤ u
rising_few [] a u le rising low high = omega (arith, le)
rising_few (m ∷ ms) a u le rising low high =
    let here : a ≤ m.0 = low 0 m (omega arith) in
    let below : m.0 < u = high 0 m (omega arith) in
    let above : All (λ n. m.0 + 1 ≤ n.0) ms = λ k d lt. let up : m.0 < (get_or ms k d).0 = rising 0 (suc k) d (omega arith) (omega (arith, lt)) in omega (arith, up) in
    let later : AllPairs (λ m n. m.0 < n.0) ms = λ i j d lt inside. rising (suc i) (suc j) d (omega (arith, lt)) (omega (arith, inside)) in
    omega (arith, here, rising_few ms (m.0 + 1) u (omega (arith, below)) later above (All-tail (λ n. n.0 < u) m ms high))

pub all_of_group : (j : ℕ) (ms : Layout) → All (λ m. group_of m.0 ≡ j) (group_in ms j)
all_of_group j ms = λ k d lt. eqb-true _ j (filter_passes (is_in_group j) ms k d lt)

pub few_of_group : (ms : Layout) (j : ℕ) → IsRising ms → 1 ≤ j → length (group_in ms j) ≤ GROUP_SIZE
few_of_group ms j is some =
    let ids : All (λ m. IsIdOf j m.0) (group_in ms j) = λ k d lt. id_of_group j _ some (All-filter (is_in_group j) (λ m. 1 ≤ m.0) ms is.from_one k d lt) (all_of_group j ms k d lt) in
    let count = rising_few (group_in ms j) ((j - 1) * GROUP_SIZE + 1) (j * GROUP_SIZE + 1) (omega (arith, some)) (AllPairs-filter (λ m n. m.0 < n.0) (is_in_group j) ms is.rising)
    (λ k d lt. let above = (ids k d lt).above in omega (arith, above)) (λ k d lt. let within = (ids k d lt).within in omega (arith, within)) in
    omega (arith, some, count)

-- ---- which groups have a DII: by the layout, and by its lines

pub line_there : (layout : Layout) (m : ℕ) (bytes : Bytes) → module_in layout m ≡ Some bytes → Contains (lines_in layout) (m, block_count_of (length bytes) BLOCK_SIZE)
line_there [] m bytes e = cc
line_there (x ∷ xs) m bytes e = elim (cases_Bool (x.0 == m)) [
  | inl t ↦ (0, omega arith, ap (λ i. (i, block_count_of (length x.1) BLOCK_SIZE)) (eqb-true x.0 m t) ∙ ap (λ b. (m, block_count_of (length b) BLOCK_SIZE)) (same_Some x.1 bytes (rw t at e)))
  | inr t ↦ let r = line_there xs m bytes (rw t at e) in (suc r.0, omega (arith, r.1), r.2)
]

pub dii_of_lines : (ls : List Layout) (g j : ℕ) → HasDii ls g j → IsGroupOf (lines_in (layout_at ls g)) j
dii_of_lines ls g j (inl e) = inl e
dii_of_lines ls g j (inr has) = inr ((has.0, block_count_of (length has.1) BLOCK_SIZE), line_there (layout_at ls g) has.0 has.1 has.2, has.3)

-- what holds of each layout
pub at_layout : (P : Layout → Type 0) (ls : List Layout) (g : ℕ) → All P ls → g < length ls → P (layout_at ls g)
at_layout P [] g all lt = absurd (omega (arith, lt))
at_layout P (l ∷ ls) zero all lt = All-head P l ls all
at_layout P (l ∷ ls) (suc g) all lt = at_layout P ls g (All-tail P l ls all) (omega (arith, lt))

abbrev pub line_of : ℕ × Bytes → Line
line_of m = (m.0, block_count_of (length m.1) BLOCK_SIZE)

-- ---- the DIIs among the items of a generation

abbrev IsOwn : List Line → Item → Type 0
IsOwn lines (Dii j) = IsListed lines j
IsOwn lines _ = Unit {0}

pub dii_listed : (s : GenerationState) (j : ℕ) → Contains (items_of s) (Dii j) → IsListed (lines_of s) j
dii_listed s j has =
    let P = IsOwn (lines_of s) in
    let behind : All P (diis_of (lines_of s) ++ flat_map blocks_of (lines_of s)) = All-append P _ _ (all_diis P (lines_of s) (λ i is. is)) (all_blocks_of P (lines_of s) (λ line b c lt. tt)) in
    subst P has.2 (All-cons P Dsi _ tt behind has.0 (Dii j) has.1)
