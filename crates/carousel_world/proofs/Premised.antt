-- Premises of a reception that are found by computing.
use Rattle.std.proofs.Common.{◌≡◌, ℕ, zero, suc, ◌+◌, ◌<◌, ◌≤◌, Bool, true, false, cond, ◌&&◌, ◌==◌, nat_le, nat_lt, List, [], ◌∷◌, length, map, get_or, Some, None, refl, ap, sym, ◌∙◌, subst, arith, inl, inr}
use Rattle.std.specs.Prelude.{slice_get}
use Rattle.std.specs.List.{All, AllPairs, Contains, list_all}
use Rattle.std.proofs.lemmas.Bool.{and_parts, eqb-true, ltb-true, leb-true}
use Rattle.std.proofs.lemmas.List.Elements.{All-nil, All-append, All-map, All-head, All-tail}
use Rattle.std.proofs.lemmas.List.Sums.{AllPass-from_list_all}
use Rattle.std.proofs.lemmas.List.{get_or-map, length-map}
use Rattle.std.proofs.lemmas.Option.{same_Some, slice_get-get_or}
use Rattle.carousel_profile.specs.declared.TheConstants.{BLOCK_SIZE}
use Rattle.path_tree.specs.Paths.{Bytes}
use Rattle.path_tree.specs.Trees.{Tree}
use Rattle.biop_object.specs.Names.{Layout, module_in}
use Rattle.cycle_planner.specs.Cycle.{cycle_of}
use Rattle.cycle_planner.specs.declared.Item.{Item}
use Rattle.cycle_planner.specs.declared.Item.TheVariants.{Block}
use Rattle.ddb_block.specs.Blocks.{block_count_of}
use Rattle.generation.specs.Layouts.{lines_in}
use Rattle.generation.specs.Kept.{LayoutsAreLawful, layouts_of}
use Rattle.generation.specs.Lawful.{Lawful, ArePublishable, HasDii, IsItem, layout_at, section_in}
use Rattle.carousel_world.specs.Broadcasts.{Broadcast, Sending, sendings_of, sendings, NeverBack}
use Rattle.generation.specs.Groups.{group_of}
use Rattle.carousel_world.specs.Premises.{Ascribed, AcceptedAreSent, BlocksAreNear, HasRound, IsHeardOf}
use Rattle.carousel_world.specs.Instances.{cycles_with}
use Rattle.carousel_world.specs.Runs.{ones}
use Rattle.carousel_world.proofs.Climbing.{Climbs, climbs_at}
use Rattle.carousel_world.proofs.Cycles.{cycle_items}
use Rattle.carousel_world.proofs.Modules.{is_sent}

-- ---- numbers that never fall

abbrev pub is_climbing : ℕ → List ℕ → Bool
is_climbing lo [] = true
is_climbing lo (n ∷ ns) = nat_le lo n && is_climbing n ns

climbs_by : (lo : ℕ) (ns : List ℕ) → is_climbing lo ns ≡ true → Climbs lo ns
climbs_by lo [] e = tt
climbs_by lo (n ∷ ns) e = let p = and_parts (nat_le lo n) (is_climbing n ns) e in (leb-true lo n p.0, climbs_by n ns p.1)

pub never_back_by : (ns : List ℕ) → is_climbing 0 ns ≡ true → NeverBack (slice_get ns)
never_back_by ns e i j a b lt p q = climbs_at 0 ns (climbs_by 0 ns e) i j a b lt p q

pub pairs_by : (xs : List Sending) → is_climbing 0 (map (λ s. s.0) xs) ≡ true → AllPairs (λ s t. s.0 ≤ t.0) xs
pairs_by xs e i j d lt inside =
    climbs_at 0 (map (λ (s : Sending). s.0) xs) (climbs_by 0 (map (λ (s : Sending). s.0) xs) e) i j (get_or xs i d).0 (get_or xs j d).0 lt (at i (omega (arith, lt, inside))) (at j inside) where
      at : (k : ℕ) → k < length xs → slice_get (map (λ (s : Sending). s.0) xs) k ≡ Some (get_or xs k d).0
      at k below =
          slice_get-get_or (map (λ (s : Sending). s.0) xs) k d.0 (omega (arith, below, length-map xs (λ (s : Sending). s.0)))
          ∙ ap (λ (n : ℕ). Some n) (get_or-map (λ (s : Sending). s.0) xs k d d.0 below)

-- ---- whole cycles

-- these items of each of these generations
abbrev pub cycles_given : List Layout → List Tree → List ℕ → List Item → Broadcast
cycles_given ls trees generations items = record {
  carousel = 1;
  trees = [] ∷ trees;
  layouts = ls;
  groups = map (λ g. record { generation = g; items = items }) generations;
}

items_of_groups : (carousel : ℕ) (ls : List Layout) (trees : List Tree) → Lawful carousel ls trees → (gs : List ℕ) → All (λ g. nat_lt g (length ls) ≡ true) gs
    → All (λ s. IsItem ls s.0 s.1) (sendings (record { carousel = carousel; trees = trees; layouts = ls; groups = map (λ g. record { generation = g; items = cycle_of ones (lines_in (layout_at ls g)) }) gs }))
items_of_groups carousel ls trees lawful [] all = All-nil (λ s. IsItem ls s.0 s.1)
items_of_groups carousel ls trees lawful (g ∷ gs) all =
    let lt : g < length ls = ltb-true g (length ls) (All-head (λ g. nat_lt g (length ls) ≡ true) g gs all) in
    let items = cycle_items carousel ls g ones (is_sent carousel ls trees g lawful lt) lt in
    All-append (λ s. IsItem ls s.0 s.1) (sendings_of (record { generation = g; items = cycle_of ones (lines_in (layout_at ls g)) }))
    (sendings (record { carousel = carousel; trees = trees; layouts = ls; groups = map (λ g. record { generation = g; items = cycle_of ones (lines_in (layout_at ls g)) }) gs }))
    (All-map (λ s. IsItem ls s.0 s.1) (λ (item : Item). (g, item)) (cycle_of ones (lines_in (layout_at ls g))) items)
    (items_of_groups carousel ls trees lawful gs (All-tail (λ g. nat_lt g (length ls) ≡ true) g gs all))

-- what holds of each thing sent holds of the one at a place
each_at : (test : Sending → Bool) (xs : List Sending) → list_all test xs ≡ true → (k : ℕ) (s : Sending) → slice_get xs k ≡ Some s → test s ≡ true
each_at test [] all k s e = cc
each_at test (x ∷ xs) all zero s e = subst (λ y. test y ≡ true) (same_Some x s e) (and_parts (test x) (list_all test xs) all).0
each_at test (x ∷ xs) all (suc k) s e = each_at test xs (and_parts (test x) (list_all test xs) all).1 k s e

-- of the 256 generations from this one on
abbrev pub is_within : ℕ → Sending → Bool
is_within lo s = nat_le lo s.0 && nat_lt s.0 (lo + 256)

within : (lo : ℕ) (xs : List Sending) → list_all (is_within lo) xs ≡ true
    → (k : ℕ) (s : Sending) → slice_get xs k ≡ Some s → (lo ≤ s.0) × (s.0 < lo + 256)
within lo xs all k s e =
    let one = each_at (is_within lo) xs all k s e in
    let p = and_parts (nat_le lo s.0) (nat_lt s.0 (lo + 256)) one in
    (leb-true lo s.0 p.0, ltb-true s.0 (lo + 256) p.1)

-- what is heard of them is near
pub near_within : (lo : ℕ) (b : Broadcast) (cs : List Bytes) (is_from : Ascribed)
    → list_all (is_within lo) (sendings b) ≡ true → BlocksAreNear b cs is_from
near_within lo b cs is_from all i j g h block last p q =
    let first : g ≡ p.1.0 = sym p.4 in
    let next : h ≡ q.1.0 = sym q.4 in
    let low : lo ≤ p.1.0 = (within lo (sendings b) all p.0 p.1 p.3).0 in
    let high : q.1.0 < lo + 256 = (within lo (sendings b) all q.0 q.1 q.3).1 in
    omega (arith, first, next, low, high)

-- where these are the layouts that the rules make, and the broadcast is a whole cycle of each of these generations
pub heard_by : LayoutsAreLawful → (ls : List Layout) (trees : List Tree) (gs : List ℕ) (b : Broadcast) (cs : List Bytes) (is_from : Ascribed)
    → layouts_of 1 trees ≡ ls → ArePublishable 1 trees → list_all (λ g. nat_lt g (length ls)) gs ≡ true → cycles_with ls trees gs ≡ b
    → is_climbing 0 (map (λ s. s.0) (sendings b)) ≡ true → list_all (is_within 0) (sendings b) ≡ true → AcceptedAreSent b cs is_from → IsHeardOf b cs is_from
heard_by lawful ls trees gs b cs is_from laid publishable below cycles climbing few accepted =
    let l : Lawful 1 ls ([] ∷ trees) = subst (λ x. Lawful 1 x ([] ∷ trees)) laid (lawful 1 trees publishable) in
    let some : 0 < length ls = omega (arith, l.as_many) in
    let items = items_of_groups 1 ls ([] ∷ trees) l gs (AllPass-from_list_all (λ g. nat_lt g (length ls)) gs below) in
    record {
      first = subst (λ (c : Broadcast). 0 < length c.layouts) cycles some;
      lawful = subst (λ (c : Broadcast). Lawful c.carousel c.layouts c.trees) cycles l;
      in_order = record {
        items = subst (λ (c : Broadcast). All (λ s. IsItem c.layouts s.0 s.1) (sendings c)) cycles items;
        order = pairs_by (sendings b) climbing;
      };
      accepted = accepted;
      near = near_within 0 b cs is_from few;
    }

-- ---- a generation of one module

alone : (bytes : Bytes) (m : ℕ) (x : Bytes) → module_in ((1, bytes) ∷ []) m ≡ Some x → (1 ≡ m) × (x ≡ bytes)
alone bytes m x e = go (1 == m) refl e where
  go : (t : Bool) → (1 == m) ≡ t → cond t (Some bytes) None ≡ Some x → (1 ≡ m) × (x ≡ bytes)
  go true h e = (eqb-true 1 m h, sym (same_Some bytes x e))
  go false h e = cc

pub its_blocks : (ls : List Layout) (g : ℕ) (bytes : Bytes) (after : List Bytes) (carousel count : ℕ) → layout_at ls g ≡ (1, bytes) ∷ [] → block_count_of (length bytes) BLOCK_SIZE ≡ count
    → ((b : ℕ) → b < count → Contains after (section_in carousel ls g (Block 1 b))) → (m b : ℕ) → IsItem ls g (Block m b) → Contains after (section_in carousel ls g (Block m b))
its_blocks ls g bytes after carousel count layout is has m b item =
    let there : module_in ((1, bytes) ∷ []) m ≡ Some item.1.0 = subst (λ l. module_in l m ≡ Some item.1.0) layout item.1.1 in
    let which = alone bytes m item.1.0 there in
    let below : b < block_count_of (length bytes) BLOCK_SIZE = subst (λ x. b < block_count_of (length x) BLOCK_SIZE) which.1 item.1.2 in
    subst (λ k. Contains after (section_in carousel ls g (Block k b))) which.0 (has b (subst (λ n. b < n) is below))

-- DII 1 is its one DII
pub one_round : (carousel : ℕ) (ls : List Layout) (g : ℕ) (cs : List Bytes) (bytes : Bytes) → layout_at ls g ≡ (1, bytes) ∷ [] → HasRound carousel ls g 1 cs → (j : ℕ) → HasDii ls g j → HasRound carousel ls g j cs
one_round carousel ls g cs bytes layout round j has =
    subst (λ i. HasRound carousel ls g i cs) (one j has) round where
      one : (j : ℕ) → HasDii ls g j → 1 ≡ j
      one j (inl e) = sym e
      one j (inr has) =
          let there : module_in ((1, bytes) ∷ []) has.0 ≡ Some has.1 = subst (λ l. module_in l has.0 ≡ Some has.1) layout has.2 in
          ap group_of (alone bytes has.0 has.1 there).0 ∙ has.3
