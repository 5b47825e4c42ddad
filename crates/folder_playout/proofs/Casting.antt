-- A playout as groups of items of its generations.
use Rattle.std.proofs.Common.{◌≡◌, ℕ, zero, suc, ◌≤◌, Bool, true, false, List, [], ◌∷◌, ◌++◌, length, map, take, refl, sym, ap, ◌∙◌, subst, arith, cond, append_assoc, append-nil, length-append}
use Rattle.std.specs.List.{All, AllPairs, Contains, flat_map, fold}
use Rattle.std.proofs.lemmas.List.{map-append, take-append-le}
use Rattle.std.proofs.lemmas.List.Elements.{All-append, All-cons, All-head, All-nil, All-push, All-tail}
use Rattle.std.proofs.lemmas.List.Kept.{AllPairs-cons}
use Rattle.std.proofs.lemmas.List.Sums.{fold_push}
use Rattle.std.proofs.Math.Seq.{take-append_seam, take-length}
use Rattle.cycle_planner.specs.Cycle.{cycle_of}
use Rattle.cycle_planner.proofs.CallerLemmas.{cycle_only}
use Rattle.cycle_planner.specs.declared.Item.{Item}
use Rattle.path_tree.specs.Trees.{Tree}
use Rattle.section_stream.specs.Cuts.{Bytes}
use Rattle.generation.specs.Kept.{GenerationsAreOfTheLists, LayoutsAreLawful, layouts_of}
use Rattle.biop_object.specs.Names.{Layout}
use Rattle.generation.specs.Lawful.{IsItem, IsPublishable, section_in}
use Rattle.generation.specs.Layouts.{GenerationState, first_of, generation_of, items_of, lines_in, lines_of, next_of, section_of}
use Rattle.carousel_world.specs.Broadcasts.{Broadcast, Group, Sending, sendings_of}
use Rattle.carousel_world.specs.Publishing.{repeat_list}
use Rattle.folder_playout.specs.OnAir.{OnAir, begun, cycle_in, on_air, same_tree, taken, turn, with_cycle, with_tree}
use Rattle.folder_playout.specs.Readings.{Reading, Found, Refused, Failed}
use Rattle.folder_playout.specs.Laws.{CanBeSent, IsOfCycles, PlayoutsAreBroadcasts}

-- the generation of so many of these trees
abbrev pub generation_at : ℕ → List Tree → ℕ → GenerationState
generation_at carousel trees g = generation_of carousel (take g trees)

-- so many cycles of a generation
abbrev pub cycles_of : List ℕ → GenerationState → ℕ → List Item
cycles_of weights g n = repeat_list n (cycle_of weights (lines_of g))

-- the items of a group are one or more cycles of its generation, one of these trees'
pub record IsGroup (carousel : ℕ) (weights : List ℕ) (trees : List Tree) (g : Group) : Type 0 where
  pub within : g.generation ≤ length trees
  pub own : All (Contains (items_of (generation_at carousel trees g.generation))) g.items
  pub more : ℕ
  pub cycles : g.items ≡ cycles_of weights (generation_at carousel trees g.generation) (suc more)

abbrev pub sections_at : ℕ → List Tree → Group → List Bytes
sections_at carousel trees g = map (section_of (generation_at carousel trees g.generation)) g.items

-- the generations of groups, from one on, never fall, and end at another one
abbrev pub Climb : ℕ → ℕ → List Group → Type 0
Climb low high [] = low ≤ high
Climb low high (g ∷ gs) = (low ≤ g.generation) × Climb g.generation high gs

-- what is on the air, by items: the groups that have ended, and the one that goes on
pub record IsCast (carousel : ℕ) (weights : List ℕ) (s : OnAir) : Type 0 where
  pub groups : List Group
  pub items : List Item
  pub count : ℕ
  pub cycles : items ≡ cycles_of weights s.generation count
  pub generation : s.generation ≡ generation_of carousel s.trees
  pub published : All IsPublishable s.trees
  pub each : All (IsGroup carousel weights s.trees) groups
  pub rises : Climb 0 (length s.trees) groups
  pub own : All (Contains (items_of s.generation)) items
  pub ended : s.ended ≡ map (sections_at carousel s.trees) groups
  pub running : s.running ≡ map (section_of s.generation) items

pub cast_begun : (carousel : ℕ) (weights : List ℕ) (tree : Tree) → IsPublishable tree → IsCast carousel weights (begun carousel tree)
cast_begun carousel weights tree is = record {
  groups = [];
  items = [];
  count = 0;
  cycles = refl;
  generation = refl;
  published = All-cons IsPublishable tree [] is (All-nil IsPublishable);
  each = All-nil (IsGroup carousel weights (tree ∷ []));
  rises = omega arith;
  own = All-nil (Contains (items_of (next_of (first_of carousel) tree)));
  ended = refl;
  running = refl;
}

-- one cycle more
repeated_more : {X : Type 0} (n : ℕ) (xs : List X) → repeat_list n xs ++ xs ≡ repeat_list (suc n) xs
repeated_more zero xs = sym (append-nil xs)
repeated_more (suc n) xs = append_assoc xs (repeat_list n xs) xs ∙ ap (λ ys. xs ++ ys) (repeated_more n xs)

pub cast_cycle : (carousel : ℕ) (weights : List ℕ) (s : OnAir) → IsCast carousel weights s → IsCast carousel weights (with_cycle weights s)
cast_cycle carousel weights s c =
    let cycle = cycle_of weights (lines_of s.generation) in
    record {
      groups = c.groups;
      items = c.items ++ cycle;
      count = suc c.count;
      cycles = ap (λ is. is ++ cycle) c.cycles ∙ repeated_more c.count cycle;
      generation = c.generation;
      published = c.published;
      each = c.each;
      rises = c.rises;
      own = All-append (Contains (items_of s.generation)) c.items cycle c.own (cycle_only weights (lines_of s.generation));
      ended = c.ended;
      running = ap (λ ss. ss ++ cycle_in weights s.generation) c.running ∙ sym (map-append (section_of s.generation) c.items cycle);
    }

-- ---- a tree more

-- the generation at a place stays the same with a tree more
at_more : (carousel : ℕ) (trees : List Tree) (tree : Tree) (g : ℕ) → g ≤ length trees → generation_at carousel (trees ++ tree ∷ []) g ≡ generation_at carousel trees g
at_more carousel trees tree g le = ap (generation_of carousel) (take-append-le g trees (tree ∷ []) le)

group_more : (carousel : ℕ) (weights : List ℕ) (trees : List Tree) (tree : Tree) (g : Group) → IsGroup carousel weights trees g → IsGroup carousel weights (trees ++ tree ∷ []) g
group_more carousel weights trees tree g is = record {
  within = omega (arith, is.within, length-append trees (tree ∷ []));
  own = subst (λ s. All (Contains (items_of s)) g.items) (sym (at_more carousel trees tree g.generation is.within)) is.own;
  more = is.more;
  cycles = is.cycles ∙ ap (λ s. cycles_of weights s (suc is.more)) (sym (at_more carousel trees tree g.generation is.within));
}

groups_more : (carousel : ℕ) (weights : List ℕ) (trees : List Tree) (tree : Tree) (gs : List Group) → All (IsGroup carousel weights trees) gs → All (IsGroup carousel weights (trees ++ tree ∷ [])) gs
groups_more carousel weights trees tree [] all = All-nil (IsGroup carousel weights (trees ++ tree ∷ []))
groups_more carousel weights trees tree (g ∷ gs) all =
    All-cons (IsGroup carousel weights (trees ++ tree ∷ [])) g gs (group_more carousel weights trees tree g (All-head (IsGroup carousel weights trees) g gs all))
    (groups_more carousel weights trees tree gs (All-tail (IsGroup carousel weights trees) g gs all))

sections_more : (carousel : ℕ) (weights : List ℕ) (trees : List Tree) (tree : Tree) (gs : List Group) → All (IsGroup carousel weights trees) gs
    → map (sections_at carousel trees) gs ≡ map (sections_at carousel (trees ++ tree ∷ [])) gs
sections_more carousel weights trees tree [] all = refl
sections_more carousel weights trees tree (g ∷ gs) all =
    let head : IsGroup carousel weights trees g = All-head (IsGroup carousel weights trees) g gs all in
    ap (λ s. map (section_of s) g.items ∷ map (sections_at carousel trees) gs) (sym (at_more carousel trees tree g.generation head.within))
    ∙ ap (λ ss. sections_at carousel (trees ++ tree ∷ []) g ∷ ss) (sections_more carousel weights trees tree gs (All-tail (IsGroup carousel weights trees) g gs all))

-- one group more, at the end
climb_push : (low high next : ℕ) (gs : List Group) (items : List Item) → high ≤ next → Climb low high gs → Climb low next (gs ++ record { generation = high; items = items } ∷ [])
climb_push low high next [] items le c = (c, le)
climb_push low high next (g ∷ gs) items le c = (c.0, climb_push g.generation high next gs items le c.1)

-- the generation of which a cycle was sent ends as a group
pub cast_tree : (carousel : ℕ) (weights : List ℕ) (tree : Tree) (s : OnAir) → IsPublishable tree → (c : IsCast carousel weights s) → (more : ℕ) → c.count ≡ suc more → IsCast carousel weights (with_tree tree s)
cast_tree carousel weights tree s is c more some =
    let trees = s.trees ++ tree ∷ [] in
    let group : Group = record { generation = length s.trees; items = c.items } in
    let seam : generation_at carousel trees (length s.trees) ≡ s.generation = ap (generation_of carousel) (take-append_seam s.trees (tree ∷ [])) ∙ sym c.generation in
    record {
      groups = c.groups ++ group ∷ [];
      items = [];
      count = 0;
      cycles = refl;
      generation = ap (λ g. next_of g tree) c.generation ∙ sym (fold_push next_of (first_of carousel) s.trees tree);
      published = All-push IsPublishable s.trees tree c.published is;
      each = All-push (IsGroup carousel weights trees) c.groups group (groups_more carousel weights s.trees tree c.groups c.each) (record {
        within = omega (arith, length-append s.trees (tree ∷ []));
        own = subst (λ g. All (Contains (items_of g)) c.items) (sym seam) c.own;
        more = more;
        cycles = c.cycles ∙ ap (cycles_of weights s.generation) some ∙ ap (λ g. cycles_of weights g (suc more)) (sym seam);
      });
      rises = climb_push 0 (length s.trees) (length trees) c.groups c.items (omega (arith, length-append s.trees (tree ∷ []))) c.rises;
      own = All-nil (Contains (items_of (next_of s.generation tree)));
      ended = ap (λ ss. ss ++ s.running ∷ []) (c.ended ∙ sections_more carousel weights s.trees tree c.groups c.each)
          ∙ ap (λ r. map (sections_at carousel trees) c.groups ++ r ∷ []) (c.running ∙ ap (λ g. map (section_of g) c.items) (sym seam))
          ∙ sym (map-append (sections_at carousel trees) c.groups (group ∷ []));
      running = refl;
    }

-- ---- all readings

-- some cycle of the generation on the air was sent
pub record IsRunning (carousel : ℕ) (weights : List ℕ) (s : OnAir) : Type 0 where
  pub cast : IsCast carousel weights s
  pub more : ℕ
  pub some : cast.count ≡ suc more

cycle_runs : (carousel : ℕ) (weights : List ℕ) (s : OnAir) → IsCast carousel weights s → IsRunning carousel weights (with_cycle weights s)
unfolding cast_cycle
cycle_runs carousel weights s c = record { cast = cast_cycle carousel weights s c; more = c.count; some = refl }

cast_taken : (carousel : ℕ) (weights : List ℕ) (s : OnAir) (reading : Reading) → CanBeSent reading → IsRunning carousel weights s → IsCast carousel weights (taken s reading)
cast_taken carousel weights s (Found tree) is r = by (same_tree tree s.generation.tree) where
  by : (b : Bool) → IsCast carousel weights (cond b s (with_tree tree s))
  by true = r.cast
  by false = cast_tree carousel weights tree s is r.cast r.more r.some
cast_taken carousel weights s (Refused fault path) is r = r.cast
cast_taken carousel weights s (Failed path) is r = r.cast

cast_turns : (carousel : ℕ) (weights : List ℕ) (s : OnAir) (readings : List Reading) → All CanBeSent readings → IsRunning carousel weights s → IsRunning carousel weights (fold (turn weights) s readings)
cast_turns carousel weights s [] all r = r
cast_turns carousel weights s (x ∷ xs) all r =
    cast_turns carousel weights (turn weights s x) xs (All-tail CanBeSent x xs all)
    (cycle_runs carousel weights (taken s x) (cast_taken carousel weights s x (All-head CanBeSent x xs all) r))

pub cast_on_air : (carousel : ℕ) (weights : List ℕ) (tree : Tree) (readings : List Reading) → IsPublishable tree → All CanBeSent readings → IsRunning carousel weights (on_air carousel weights tree readings)
cast_on_air carousel weights tree readings is all =
    cast_turns carousel weights (with_cycle weights (begun carousel tree)) readings all (cycle_runs carousel weights (begun carousel tree) (cast_begun carousel weights tree is))

-- ---- the broadcast

-- the group of all that goes on
abbrev pub last_group : (carousel : ℕ) (weights : List ℕ) (s : OnAir) → IsCast carousel weights s → Group
last_group carousel weights s c = record { generation = length s.trees; items = c.items }

abbrev pub broadcast_of : (carousel : ℕ) (weights : List ℕ) (s : OnAir) → IsCast carousel weights s → Broadcast
broadcast_of carousel weights s c = record {
  carousel = carousel;
  trees = [] ∷ s.trees;
  layouts = layouts_of carousel s.trees;
  groups = c.groups ++ last_group carousel weights s c ∷ [];
}

-- the sections of a group are those that the lists give
sections_of_group : GenerationsAreOfTheLists → (carousel : ℕ) (trees : List Tree) (g : ℕ) (items : List Item) → g ≤ length trees → All (Contains (items_of (generation_at carousel trees g))) items
    → map (section_of (generation_at carousel trees g)) items ≡ map (section_in carousel (layouts_of carousel trees) g) items
sections_of_group lists carousel trees g [] le own = refl
sections_of_group lists carousel trees g (i ∷ is) le own =
    let Own = Contains (items_of (generation_at carousel trees g)) in
    ap (λ s. s ∷ map (section_of (generation_at carousel trees g)) is) ((lists carousel trees g le).sections i (All-head Own i is own))
    ∙ ap (λ ss. section_in carousel (layouts_of carousel trees) g i ∷ ss) (sections_of_group lists carousel trees g is le (All-tail Own i is own))

sections_of_groups : GenerationsAreOfTheLists → (carousel : ℕ) (weights : List ℕ) (trees : List Tree) (gs : List Group) → All (IsGroup carousel weights trees) gs
    → map (λ g. map (section_in carousel (layouts_of carousel trees) g.generation) g.items) gs ≡ map (sections_at carousel trees) gs
sections_of_groups lists carousel weights trees [] all = refl
sections_of_groups lists carousel weights trees (g ∷ gs) all =
    let is : IsGroup carousel weights trees g = All-head (IsGroup carousel weights trees) g gs all in
    ap (λ ss. ss ∷ map (λ (h : Group). map (section_in carousel (layouts_of carousel trees) h.generation) h.items) gs) (sym (sections_of_group lists carousel trees g.generation g.items is.within is.own))
    ∙ ap (λ ss. sections_at carousel trees g ∷ ss) (sections_of_groups lists carousel weights trees gs (All-tail (IsGroup carousel weights trees) g gs all))

items_of_group : GenerationsAreOfTheLists → (carousel : ℕ) (trees : List Tree) (g : ℕ) (items : List Item) → g ≤ length trees → All (Contains (items_of (generation_at carousel trees g))) items
    → All (λ (s : Sending). IsItem (layouts_of carousel trees) s.0 s.1) (map (λ item. (g, item)) items)
items_of_group lists carousel trees g [] le own = All-nil (λ (s : Sending). IsItem (layouts_of carousel trees) s.0 s.1)
items_of_group lists carousel trees g (i ∷ is) le own =
    let Own = Contains (items_of (generation_at carousel trees g)) in
    All-cons (λ (s : Sending). IsItem (layouts_of carousel trees) s.0 s.1) (g, i) (map (λ item. (g, item)) is)
    ((lists carousel trees g le).items i (All-head Own i is own))
    (items_of_group lists carousel trees g is le (All-tail Own i is own))

items_of_groups : GenerationsAreOfTheLists → (carousel : ℕ) (weights : List ℕ) (trees : List Tree) (gs : List Group) → All (IsGroup carousel weights trees) gs
    → All (λ (s : Sending). IsItem (layouts_of carousel trees) s.0 s.1) (flat_map sendings_of gs)
items_of_groups lists carousel weights trees [] all = All-nil (λ (s : Sending). IsItem (layouts_of carousel trees) s.0 s.1)
items_of_groups lists carousel weights trees (g ∷ gs) all =
    let is : IsGroup carousel weights trees g = All-head (IsGroup carousel weights trees) g gs all in
    All-append (λ (s : Sending). IsItem (layouts_of carousel trees) s.0 s.1) (sendings_of g) (flat_map sendings_of gs)
    (items_of_group lists carousel trees g.generation g.items is.within is.own)
    (items_of_groups lists carousel weights trees gs (All-tail (IsGroup carousel weights trees) g gs all))

-- and each is of whole cycles
cycles_of_groups : GenerationsAreOfTheLists → (carousel : ℕ) (weights : List ℕ) (trees : List Tree) (gs : List Group) → All (IsGroup carousel weights trees) gs
    → All (IsOfCycles weights (layouts_of carousel trees)) gs
cycles_of_groups lists carousel weights trees [] all = All-nil (IsOfCycles weights (layouts_of carousel trees))
cycles_of_groups lists carousel weights trees (g ∷ gs) all =
    let is : IsGroup carousel weights trees g = All-head (IsGroup carousel weights trees) g gs all in
    All-cons (IsOfCycles weights (layouts_of carousel trees)) g gs
    (is.more, is.cycles ∙ ap (λ (l : Layout). repeat_list (suc is.more) (cycle_of weights (lines_in l))) (lists carousel trees g.generation is.within).layout)
    (cycles_of_groups lists carousel weights trees gs (All-tail (IsGroup carousel weights trees) g gs all))

-- ---- in order

abbrev pub Later : Sending → Sending → Type 0
Later s t = s.0 ≤ t.0

abbrev pub From : ℕ → Sending → Type 0
From low s = low ≤ s.0

from_group : (low g : ℕ) (items : List Item) → low ≤ g → All (From low) (map (λ item. (g, item)) items)
from_group low g [] le = All-nil (From low)
from_group low g (i ∷ is) le = All-cons (From low) (g, i) (map (λ item. (g, item)) is) le (from_group low g is le)

from_groups : (low high : ℕ) (gs : List Group) → Climb low high gs → All (From low) (flat_map sendings_of gs)
from_groups low high [] c = All-nil (From low)
from_groups low high (g ∷ gs) c =
    All-append (From low) (sendings_of g) (flat_map sendings_of gs) (from_group low g.generation g.items c.0)
    (weaker (flat_map sendings_of gs) c.0 (from_groups g.generation high gs c.1)) where
      weaker : (ss : List Sending) → low ≤ g.generation → All (From g.generation) ss → All (From low) ss
      weaker [] le all = All-nil (From low)
      weaker (s ∷ ss) le all =
          let head = All-head (From g.generation) s ss all in
          All-cons (From low) s ss (omega (arith, le, head)) (weaker ss le (All-tail (From g.generation) s ss all))

one_group : (g : ℕ) (items : List Item) (rest : List Sending) → All (From g) rest → AllPairs Later rest → AllPairs Later (map (λ item. (g, item)) items ++ rest)
one_group g [] rest all pairs = pairs
one_group g (i ∷ is) rest all pairs =
    AllPairs-cons Later (g, i) (map (λ item. (g, item)) is ++ rest)
    (All-append (From g) (map (λ item. (g, item)) is) rest (from_group g g is (omega arith)) all)
    (one_group g is rest all pairs)

in_order : (low high : ℕ) (gs : List Group) → Climb low high gs → AllPairs Later (flat_map sendings_of gs)
in_order low high [] c = λ i j d lt within. absurd (omega (arith, within))
in_order low high (g ∷ gs) c = one_group g.generation g.items (flat_map sendings_of gs) (from_groups g.generation high gs c.1) (in_order g.generation high gs c.1)

-- ---- the law

pub playouts_are : LayoutsAreLawful → GenerationsAreOfTheLists → PlayoutsAreBroadcasts
playouts_are lawful lists carousel weights tree readings small is all few =
    let s = on_air carousel weights tree readings in
    let r : IsRunning carousel weights s = cast_on_air carousel weights tree readings is all in
    let c : IsCast carousel weights s = r.cast in
    let last : Group = last_group carousel weights s c in
    let whole : take (length s.trees) s.trees ≡ s.trees = take-length s.trees in
    let here : generation_at carousel s.trees (length s.trees) ≡ s.generation = ap (generation_of carousel) whole ∙ sym c.generation in
    let own : All (Contains (items_of (generation_at carousel s.trees (length s.trees)))) c.items = subst (λ g. All (Contains (items_of g)) c.items) (sym here) c.own in
    let cycles : c.items ≡ cycles_of weights (generation_at carousel s.trees (length s.trees)) (suc r.more) =
    c.cycles ∙ ap (cycles_of weights s.generation) r.some ∙ ap (λ g. cycles_of weights g (suc r.more)) (sym here) in
    let each : All (IsGroup carousel weights s.trees) (c.groups ++ last ∷ []) =
    All-push (IsGroup carousel weights s.trees) c.groups last c.each (record { within = omega arith; own = own; more = r.more; cycles = cycles }) in
    record {
      broadcast = broadcast_of carousel weights s c;
      id = refl;
      trees = refl;
      layouts = refl;
      lawful = lawful carousel s.trees (record { carousel_id = small; few = few; each = c.published });
      cycles = cycles_of_groups lists carousel weights s.trees (c.groups ++ last ∷ []) each;
      in_order = record {
        items = items_of_groups lists carousel weights s.trees (c.groups ++ last ∷ []) each;
        order = in_order 0 (length s.trees) (c.groups ++ last ∷ []) (climb_push 0 (length s.trees) (length s.trees) c.groups c.items (omega arith) c.rises);
      };
      sections = sections_of_groups lists carousel weights s.trees (c.groups ++ last ∷ []) each
          ∙ map-append (sections_at carousel s.trees) c.groups (last ∷ [])
          ∙ ap (λ ss. ss ++ sections_at carousel s.trees last ∷ []) (sym c.ended)
          ∙ ap (λ g. s.ended ++ map (section_of g) c.items ∷ []) here
          ∙ ap (λ r. s.ended ++ r ∷ []) (sym c.running);
    }
