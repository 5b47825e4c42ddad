-- The items of a draw.
use Rattle.std.proofs.Common.{◌≡◌, ℕ, refl, ◌==◌, if◌then◌else◌, ◌+◌, ◌-◌, ◌≤◌, min, Bool, true, false, cond, nat_le, List, [], ◌∷◌, ◌++◌, length, take, drop, Some, Result, Ok, Err, IfOk, slice_get, ap, sym, ◌∙◌, subst, arith}
use Rattle.std.specs.Arc.{arc_value}
use Rattle.std.specs.List.{All, Contains}
use Rattle.std.proofs.lemmas.List.{take_more, drop-drop, length-take, length-drop}
use Rattle.std.proofs.lemmas.Option.{get_or_from_slice_get, slice_get_within}
use Rattle.cycle_planner.specs.Cycle.{Line, cycle_of}
use Rattle.std.proofs.lemmas.Bool.{eqb-false, eqb-true}
use Rattle.cycle_planner.specs.Walks.{IsWalk, left_of}
use Rattle.cycle_planner.specs.declared.walk.Walk.{Walk}
use Rattle.cycle_planner.specs.declared.Item.{Item}
use Rattle.generation_catalogue.specs.declared.journal.Stand.{Stand}
use Rattle.generation_catalogue.specs.Inner.Kept.{StandsAt, StandsIn, with_next}
use Rattle.generation.specs.Layouts.{GenerationState, items_of, lines_of}
use Rattle.generation_catalogue.specs.History.{CatalogueState, current_of, cursor_of, count_drawn, cycle_in, draws_of, items_drawn}
use Rattle.generation_catalogue.specs.Calls.{BatchFields, view_batch, batch_of, draw_cause, IsDrawn}
use Rattle.oc_bytes.specs.Outcome.{Gives}
use Rattle.generation_catalogue.specs.declared.entry.Batch.{Batch}
use Rattle.generation_catalogue.specs.declared.entry.DrawFault.{DrawFault}
use Rattle.generation_catalogue.proofs.Growing.{items_are_its_own}
use Rattle.generation_catalogue.proofs.Replay.{cursor_below}

-- the lines at hand are those of the current generation
pub same_lines : (s c : CatalogueState) (now g : GenerationState) (lines : List Line) → lines ≡ lines_of g → g ≡ now → now ≡ current_of s → s ≡ c
    → lines ≡ lines_of (current_of c)
same_lines s c now g lines l e f h = l ∙ ap lines_of (e ∙ f ∙ ap current_of h)

pub one_more_item : (left items more : List Item) (at : ℕ) (x : Item) → more ≡ items ++ x ∷ [] → items ≡ take at left → slice_get left at ≡ Some x
    → more ≡ take (at + 1) left
one_more_item left items more at x m e here =
    let lt = slice_get_within left at x here in
    m ∙ ap (λ (xs : List Item). xs ++ x ∷ []) e
    ∙ sym (take_more left at x lt ∙ ap (λ (y : Item). take at left ++ y ∷ []) (get_or_from_slice_get left at x x here))

-- where nothing is left, the place is behind the last item
pub none_left : (cycle : List Item) (at : ℕ) → drop at cycle ≡ [] → length cycle ≤ at
none_left cycle at e = let none = ap length e in let left = length-drop at cycle in omega (arith, none, left)

-- ---- where draws stand

stands_by : (ws vs : List ℕ) (ls ms : List Line) (a b : ℕ) (x : Stand) → ws ≡ vs → ls ≡ ms → a ≡ b → StandsAt ws ls a x → StandsAt vs ms b x
stands_by ws vs ls ms a b x w l e h =
    subst (λ (v : List ℕ). StandsAt v ms b x) w
    (subst (λ (m : List Line). StandsAt ws m b x) l
    (subst (λ (n : ℕ). StandsAt ws ls n x) e h))

-- in the lines and the weights at hand
pub stand_here : (c : CatalogueState) (weights : List ℕ) (lines : List Line) (at : ℕ) (x : Stand) → weights ≡ c.weights → lines ≡ lines_of (current_of c) → StandsIn c at x
    → StandsAt weights lines at x
stand_here c weights lines at x w l h = stands_by c.weights weights (lines_of (current_of c)) lines at at x (sym w) (sym l) refl h

-- so many items are left
pub few_left : (c : CatalogueState) (weights : List ℕ) (lines : List Line) (x : Stand) (asked cursor count : ℕ) → cursor ≡ cursor_of c → StandsAt weights lines (cursor_of c) x
    → count ≡ min asked (x.length - cursor) → count ≤ length (left_of weights lines x.next)
few_left c weights lines x asked cursor count k h n =
    let many : length (left_of weights lines x.next) ≡ length (cycle_of weights lines) - cursor_of c = ap length h.left ∙ length-drop (cursor_of c) (cycle_of weights lines) in
    omega (arith, many, n, k, h.size)

-- what was taken of the cycle are the items of the draw, and the walk stands behind them
pub drawn_items : (c : CatalogueState) (weights : List ℕ) (lines : List Line) (x : Stand) (next : Walk) (asked cursor count : ℕ) (items : List Item)
    → weights ≡ c.weights → lines ≡ lines_of (current_of c) → cursor ≡ cursor_of c → StandsIn c (cursor_of c) x → count ≡ min asked (x.length - cursor)
    → items ≡ take count (left_of weights lines x.next) → IsWalk weights lines next → left_of weights lines next ≡ drop count (left_of weights lines x.next)
    → (items ≡ items_drawn c asked) × (length items ≡ count_drawn c asked) × StandsIn c (cursor_of c + count_drawn c asked) (with_next x next)
drawn_items c weights lines x next asked cursor count items w l k h n i walk rest =
    let here = stand_here c weights lines (cursor_of c) x w l h in
    let cycle = cycle_of weights lines in
    let same : cycle ≡ cycle_in c = ap (λ (v : List ℕ). cycle_of v lines) w ∙ ap (cycle_of c.weights) l in
    let few = few_left c weights lines x asked cursor count k here n in
    let counted : count ≡ count_drawn c asked = n ∙ ap (λ (a : ℕ). min asked (a - cursor)) (h.size) ∙ ap (λ (a : ℕ). min asked (length (cycle_in c) - a)) k in
    let size : length items ≡ count = ap length i ∙ length-take count (left_of weights lines x.next) ∙ omega (arith, few) in
    let taken : items ≡ take count (drop (cursor_of c) (cycle_in c)) =
    i ∙ ap (take count) (here.left ∙ ap (drop (cursor_of c)) same) in
    let left : left_of weights lines next ≡ drop (cursor_of c + count) cycle = rest ∙ ap (drop count) here.left ∙ drop-drop count (cursor_of c) cycle in (
      taken ∙ ap (λ (a : ℕ). take a (drop (cursor_of c) (cycle_in c))) counted,
      size ∙ counted,
      stands_by weights c.weights lines (lines_of (current_of c)) (cursor_of c + count) (cursor_of c + count_drawn c asked) (with_next x next) w l (ap (λ (a : ℕ). cursor_of c + a) counted)
          (record { size = here.size; begins = here.begins; whole = here.whole; goes_on = walk; left = left }),
    )

-- a draw ends within the cycle
pub within_cycle : (s c : CatalogueState) (cursor count asked at : ℕ) (x : Stand) → s ≡ c → cursor ≡ cursor_of s → count ≡ count_drawn c asked → StandsIn c at x → cursor + count ≤ x.length
within_cycle s c cursor count asked at x h k n stands =
    let place : cursor ≡ cursor_of c = k ∙ ap cursor_of h in
    let below = cursor_below c in
    omega (arith, stands.size, place, below, n)

-- behind a draw, as it is kept
pub stand_behind : (s c : CatalogueState) (now : GenerationState) (cursor count asked : ℕ) (x : Stand) → s ≡ c → now ≡ current_of s → cursor ≡ cursor_of s → count ≡ count_drawn c asked
    → StandsIn c (cursor_of c + count_drawn c asked) x → StandsAt s.weights (lines_of now) (cursor + count) x
stand_behind s c now cursor count asked x h f k n stands =
    stands_by c.weights s.weights (lines_of (current_of c)) (lines_of now) (cursor_of c + count_drawn c asked) (cursor + count) x
    (ap (λ (z : CatalogueState). z.weights) (sym h)) (ap lines_of (sym (f ∙ ap current_of h)))
    (ap (λ (a : ℕ). a + count_drawn c asked) (sym (k ∙ ap cursor_of h)) ∙ ap (λ (a : ℕ). cursor + a) (sym n)) stands

pub stand_next : (weights : List ℕ) (lines : List Line) (end next : ℕ) (x y : Stand) → StandsAt weights lines end x → next ≡ (if end == x.length then 0 else end)
    → y ≡ (if next == 0 then with_next x x.first else x) → StandsAt weights lines next y
stand_next weights lines end next x y h n e = subst (StandsAt weights lines next) (sym e) (by (next == 0) (end == x.length) refl n) where
  by : (first over : Bool) → (next == 0) ≡ first → next ≡ (if over then 0 else end) → StandsAt weights lines next (if first then with_next x x.first else x)
  by true over q p =
      let zero : 0 ≡ next = sym (eqb-true next 0 q) in
      subst (λ (a : ℕ). StandsAt weights lines a (with_next x x.first)) zero (record { size = h.size; begins = h.begins; whole = h.whole; goes_on = h.begins; left = h.whole })
  by false true q p = absurd (eqb-false next 0 q p)
  by false false q p = subst (λ (a : ℕ). StandsAt weights lines a x) (sym p) h

-- ---- what is drawn

given : (full : Bool) (n : ℕ) (given asked : BatchFields) → cond full (Err n) (Ok given) ≡ Ok asked → given ≡ asked
given true n a b e = cc
given false n a b e = cc

-- what is drawn are items of the batch's generation
pub items_of_batch : (c d : CatalogueState) (asked : ℕ) (result : Result Batch DrawFault) → IsDrawn c asked result d
    → IfOk result (λ b. All (λ item. Contains (items_of (arc_value b.generation)) item) b.items.items)
items_of_batch c d asked result is = by result is.answer where
  by : (r : Result Batch DrawFault) → Gives view_batch draw_cause r (batch_of c asked) → IfOk r (λ b. All (λ item. Contains (items_of (arc_value b.generation)) item) b.items.items)
  by (Ok b) e =
      let P : BatchFields → Type 0 = λ x. All (Contains (items_of x.generation)) x.items in
      subst P (given (nat_le 16777216 (draws_of c)) 16777216 _ (view_batch b) e) (items_are_its_own c asked)
  by (Err fault) e = tt
