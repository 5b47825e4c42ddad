-- The place of an item, and what is still to come from it on.
use Rattle.std.proofs.Common.{◌≡◌, ℕ, zero, suc, ◌+◌, ◌-◌, ◌<◌, ◌≤◌, true, List, [], ◌∷◌, ◌++◌, length, map, drop, refl, sym, ap, ◌∙◌, arith, length-append}
use Rattle.std.specs.List.{flat_map, range_with_len}
use Rattle.std.specs.Prelude.{Option, Some, None, MatchOption, slice_get}
use Rattle.std.specs.Option.{is_some}
use Rattle.std.proofs.lemmas.Option.{MatchOption-at_some}
use Rattle.std.proofs.lemmas.List.{drop-append-le, drop-map, drop_more, length-drop, drop_all}
use Rattle.std.proofs.Math.Seq.{drop-append-add, drop-nil}
use Rattle.cycle_planner.specs.declared.Item.{Item}
use Rattle.cycle_planner.specs.declared.Item.TheVariants.{Dii, Block}
use Rattle.cycle_planner.specs.Cycle.{Line, blocks_of, diis_of, diis_from, round, greatest_weight}
use Rattle.cycle_planner.specs.Rounds.{blocks_in_round}
use Rattle.cycle_planner.specs.Places.{blocks_from, rounds_from, lines_from, line_at, IsListed}
use Rattle.cycle_planner.proofs.Order.{first_round, round_is, all_blocks, within_line}
use Rattle.cycle_planner.proofs.Stepping.{round_begins, rounds_past, line_begins}

-- ---- the item at a place

pub item_behind : (xs rest : List Item) (at : ℕ) (item : Item) → drop at xs ≡ item ∷ rest → slice_get xs at ≡ Some item
item_behind [] rest zero item e = cc
item_behind [] rest (suc n) item e = cc
item_behind (x ∷ xs) rest zero item e = let same : x ≡ item = cc in ap (λ (y : Item). Some y) same
item_behind (x ∷ xs) rest (suc n) item e = item_behind xs rest n item e

-- and what is left behind it
pub behind_item : (xs rest : List Item) (at : ℕ) (item : Item) → drop at xs ≡ item ∷ rest → rest ≡ drop (at + 1) xs
behind_item [] rest zero item e = cc
behind_item [] rest (suc n) item e = cc
behind_item (x ∷ xs) rest zero item e = cc
behind_item (x ∷ xs) rest (suc n) item e = let next : suc (n + 1) ≡ suc n + 1 = omega arith in behind_item xs rest n item e ∙ ap (λ k. drop k (x ∷ xs)) next

pub item_there : (xs : List Item) (at : ℕ) → at < length xs → drop at xs ≡ [] → ⊥
item_there xs at lt e = omega (arith, lt, ap length e, length-drop at xs)

-- the next item of what is left from a place on
pub some_next : (xs now later : List Item) (at : ℕ) (r : Option Item) → at < length xs → now ≡ drop at xs → MatchOption r ((now ≡ []) × (later ≡ [])) (λ item. now ≡ item ∷ later) → is_some r ≡ true
some_next xs now later at None lt e none = absurd (item_there xs at lt (sym e ∙ none.0))
some_next xs now later at (Some item) lt e first = refl

pub next_is : (xs now later : List Item) (at : ℕ) (r : Option Item) (item : Item) → now ≡ drop at xs → r ≡ Some item → MatchOption r ((now ≡ []) × (later ≡ [])) (λ item. now ≡ item ∷ later) → slice_get xs at ≡ Some item
next_is xs now later at r item e is m =
    let First : Item → Type 0 = λ x. now ≡ x ∷ later in
    let first : now ≡ item ∷ later = MatchOption-at_some ((now ≡ []) × (later ≡ [])) First item is m in
    item_behind xs later at item (sym e ∙ first)

-- ---- what is passed over

-- what is left behind a part that is passed over
pub passed : {X : Type 0} (whole front back : List X) (n : ℕ) → whole ≡ front ++ back → length front ≤ n → drop (n - length front) back ≡ drop n whole
passed whole front back n e h =
    let sum : n ≡ length front + (n - length front) = omega (arith, h) in
    sym (ap (drop n) e ∙ ap (λ k. drop k (front ++ back)) sum ∙ drop-append-add front back (n - length front))

-- ---- rounds

pub round_passed : (ws : List ℕ) (lines : List Line) (r left items : ℕ) (rest : List Item) → r < greatest_weight ws lines → items ≡ length (round ws lines r) → items ≤ left
    → drop left (rounds_from ws lines r) ≡ rest → drop (left - items) (rounds_from ws lines (r + 1)) ≡ rest
round_passed ws lines r left items rest h is le e =
    ap (λ n. drop (left - n) (rounds_from ws lines (r + 1))) is
    ∙ passed (rounds_from ws lines r) (round ws lines r) (rounds_from ws lines (r + 1)) left (first_round ws lines r h) (omega (arith, is, le))
    ∙ e

pub none_left : (ws : List ℕ) (lines : List Line) (r left : ℕ) (rest : List Item) → greatest_weight ws lines ≤ r → drop left (rounds_from ws lines r) ≡ rest → [] ≡ rest
none_left ws lines r left rest h e = sym (drop-nil left) ∙ sym (ap (drop left) (rounds_past ws lines r h)) ∙ e

-- ---- DIIs

pub dii_place : (ws : List ℕ) (lines : List Line) (r at j : ℕ) → r < greatest_weight ws lines → at < length (diis_of lines) → diis_from lines j ≡ drop at (diis_of lines)
    → diis_from lines j ++ lines_from ws lines r 0 ≡ drop at (rounds_from ws lines r)
dii_place ws lines r at j h lt e =
    ap (λ (xs : List Item). xs ++ lines_from ws lines r 0) e
    ∙ sym (drop-append-le at (diis_of lines) (lines_from ws lines r 0) (omega (arith, lt)))
    ∙ sym (ap (drop at) (round_begins ws lines r h))

pub diis_passed : (ws : List ℕ) (lines : List Line) (r at diis : ℕ) → r < greatest_weight ws lines → diis ≡ length (diis_of lines) → diis ≤ at
    → drop (at - diis) (lines_from ws lines r 0) ≡ drop at (rounds_from ws lines r)
diis_passed ws lines r at diis h is le =
    ap (λ n. drop (at - n) (lines_from ws lines r 0)) is
    ∙ passed (rounds_from ws lines r) (diis_of lines) (lines_from ws lines r 0) at (round_begins ws lines r h) (omega (arith, is, le))

pub among_blocks : (ws : List ℕ) (lines : List Line) (r at diis : ℕ) → diis ≡ length (diis_of lines) → diis ≤ at → at < length (round ws lines r) → at - diis < length (flat_map (blocks_in_round ws r) lines)
among_blocks ws lines r at diis is le lt =
    omega (arith, is, le, lt, ap length (round_is ws lines r), length-append (diis_of lines) (flat_map (blocks_in_round ws r) lines))

-- the next DII of a round
pub dii_next : (lines : List Line) (j k before : ℕ) → diis_from lines j ≡ drop before (diis_of lines) → diis_from lines j ≡ Dii j ∷ diis_from lines (j + 1) → diis_from lines k ≡ diis_from lines (j + 1)
    → diis_from lines k ≡ drop (before + 1) (diis_of lines)
dii_next lines j k before here first next = next ∙ behind_item (diis_of lines) (diis_from lines (j + 1)) before (Dii j) (sym here ∙ first)

-- there is one
pub dii_there : (lines : List Line) (j before : ℕ) → before + 1 < length (diis_of lines) → diis_from lines j ≡ drop before (diis_of lines) → diis_from lines j ≡ Dii j ∷ diis_from lines (j + 1)
    → diis_from lines (j + 1) ≡ [] → ⊥
dii_there lines j before lt here first none =
    omega (arith, lt, ap length here, ap length first, ap length none, length-drop before (diis_of lines))

-- the group that is found
pub some_after : (lines : List Line) (j : ℕ) (r : Option ℕ) → MatchOption r (diis_from lines (j + 1) ≡ []) (λ g. IsListed lines g × (diis_from lines g ≡ diis_from lines (j + 1)))
    → (diis_from lines (j + 1) ≡ [] → ⊥) → is_some r ≡ true
some_after lines j None none there = absurd (there none)
some_after lines j (Some g) next there = refl

pub group_after_is : (lines : List Line) (j : ℕ) (r : Option ℕ) (k : ℕ) → r ≡ Some k → MatchOption r (diis_from lines (j + 1) ≡ []) (λ g. IsListed lines g × (diis_from lines g ≡ diis_from lines (j + 1)))
    → IsListed lines k × (diis_from lines k ≡ diis_from lines (j + 1))
group_after_is lines j r k is m =
    let Next : ℕ → Type 0 = λ g. IsListed lines g × (diis_from lines g ≡ diis_from lines (j + 1)) in
    MatchOption-at_some (diis_from lines (j + 1) ≡ []) Next k is m

-- ---- blocks

drop_range : (k a n : ℕ) → k ≤ n → drop k (range_with_len a n) ≡ range_with_len (a + k) (n - k)
drop_range zero a n h =
    let first : a ≡ a + 0 = omega arith in
    let all : n ≡ n - 0 = omega arith in
    ap (λ b. range_with_len b n) first ∙ ap (range_with_len (a + 0)) all
drop_range (suc k) a zero h = absurd (omega (arith, h))
drop_range (suc k) a (suc n) h =
    let first : a + 1 + k ≡ a + suc k = omega arith in
    let all : n - k ≡ suc n - suc k = omega arith in
    drop_range k (a + 1) n (omega (arith, h)) ∙ ap (λ b. range_with_len b (n - k)) first ∙ ap (range_with_len (a + suc k)) all

blocks_dropped : (line : Line) (b : ℕ) → b ≤ line.1 → drop b (blocks_of line) ≡ blocks_from line b
blocks_dropped line b h =
    let first : 0 + b ≡ b = omega arith in
    drop-map (λ (k : ℕ). Block line.0 k) b (range_with_len 0 line.1)
    ∙ ap (map (λ (k : ℕ). Block line.0 k)) (drop_range b 0 line.1 h ∙ ap (λ n. range_with_len n (line.1 - b)) first)

-- the place that is left to go among the lines from one on
pub record IsAhead (ws : List ℕ) (r : ℕ) (lines : List Line) (at i left : ℕ) : Type 0 where
  pub same : drop left (lines_from ws lines r i) ≡ drop at (lines_from ws lines r 0)
  pub within : left < length (flat_map (blocks_in_round ws r) (drop i lines))

pub block_here : (ws : List ℕ) (r : ℕ) (lines : List Line) (at i left : ℕ) → i < length lines → left < length (blocks_in_round ws r (line_at lines i)) → IsAhead ws r lines at i left
    → blocks_from (line_at lines i) left ++ lines_from ws lines r (i + 1) ≡ drop at (lines_from ws lines r 0)
block_here ws r lines at i left h lt a =
    let line : Line = line_at lines i in
    let later = lines_from ws lines r (i + 1) in
    let all = all_blocks ws r line left lt in
    sym (
    ap (drop left) (line_begins ws lines r i h)
    ∙ drop-append-le left (blocks_in_round ws r line) later (omega (arith, lt))
    ∙ ap (λ (xs : List Item). drop left xs ++ later) all
    ∙ ap (λ (xs : List Item). xs ++ later) (blocks_dropped line left (omega (arith, within_line ws r line left lt)))
    )
    ∙ a.same

pub line_passed : (ws : List ℕ) (r : ℕ) (lines : List Line) (at i left blocks : ℕ) → i < length lines → blocks ≡ length (blocks_in_round ws r (line_at lines i)) → blocks ≤ left → IsAhead ws r lines at i left
    → IsAhead ws r lines at (i + 1) (left - blocks)
line_passed ws r lines at i left blocks h is le a =
    let line : Line = line_at lines i in
    let front = blocks_in_round ws r line in
    let rest = flat_map (blocks_in_round ws r) (drop (i + 1) lines) in
    record {
      same = ap (λ n. drop (left - n) (lines_from ws lines r (i + 1))) is
          ∙ passed (lines_from ws lines r i) front (lines_from ws lines r (i + 1)) left (line_begins ws lines r i h) (omega (arith, is, le))
          ∙ a.same;
      within = omega (arith, is, le, a.within, length-append front rest, ap (λ (ls : List Line). length (flat_map (blocks_in_round ws r) ls)) (drop_more lines i (0, 0) h));
    }

pub ahead_first : (ws : List ℕ) (r : ℕ) (lines : List Line) (at : ℕ) → at < length (flat_map (blocks_in_round ws r) lines) → IsAhead ws r lines at 0 at
ahead_first ws r lines at lt = record { same = refl; within = lt }

pub no_line : (ws : List ℕ) (r : ℕ) (lines : List Line) (at i left : ℕ) → length lines ≤ i → IsAhead ws r lines at i left → ⊥
no_line ws r lines at i left h a = omega (arith, a.within, ap (λ (ls : List Line). length (flat_map (blocks_in_round ws r) ls)) (drop_all i lines h))
