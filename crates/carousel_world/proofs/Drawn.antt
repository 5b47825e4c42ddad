-- What was drawn is of published generations, in order.
use Rattle.std.proofs.Common.{◌≡◌, ℕ, ◌≤◌, Bool, true, false, cond, nat_le, List, [], ◌∷◌, ◌++◌, length, map, take, refl, ap, sym, ◌∙◌, subst, arith}
use Rattle.std.specs.List.{All, AllPairs, Contains, flat_map}
use Rattle.std.proofs.lemmas.List.{map-append, length-append, take-append-le, take_all}
use Rattle.std.proofs.lemmas.List.Elements.{All-nil, All-head, All-tail, All-append, All-push, All-weaker, All-map}
use Rattle.std.proofs.lemmas.List.Kept.{AllPairs-cons}
use Rattle.path_tree.specs.Trees.{Tree}
use Rattle.path_tree.specs.declared.tree.Edit.{Edit}
use Rattle.biop_object.specs.Names.{Layout}
use Rattle.ts_packet.specs.declared.Fate.{Fate}
use Rattle.cycle_planner.specs.declared.Item.{Item}
use Rattle.generation.specs.Layouts.{generation_of, items_of, section_of}
use Rattle.generation.specs.Kept.{layouts_of, GenerationsAreOfTheLists}
use Rattle.generation.specs.Lawful.{IsItem, section_in}
use Rattle.generation_catalogue.specs.History.{CatalogueState, current_of, trees_of, draws_of, with_commit, with_draw, outcome_of, is_entered, with_entry}
use Rattle.generation_catalogue.specs.Laws.{HistoriesGrow}
use Rattle.generation_catalogue.specs.declared.entry.Entry.{Entry}
use Rattle.generation_catalogue.specs.declared.entry.Entry.TheVariants as entries
use Rattle.carousel_world.specs.Broadcasts.{Sending, sendings_of, sections, SendsInOrder}
use Rattle.carousel_world.specs.Events.{Step, Commit, Draw, Open}
use Rattle.carousel_world.specs.World.{WorldState, Drawing, drawing_of, sections_of, sections_sent, initial_world, happens, after_all}
use Rattle.carousel_world.specs.Promises.{group_of, broadcast_of}

-- a draw's generation is the one of that number, and its items are items of it
pub record IsDrawnOf (carousel : ℕ) (trees : List Tree) (d : Drawing) : Type 0 where
  pub published : d.generation.number ≤ length trees
  pub generation : d.generation ≡ generation_of carousel (take d.generation.number trees)
  pub items : All (Contains (items_of d.generation)) d.items

-- the numbers of the generations never fall
abbrev pub Rise : ℕ → List Drawing → Type 0
Rise lo [] = Unit {0}
Rise lo (d ∷ ds) = (lo ≤ d.generation.number) × Rise d.generation.number ds

pub record AreDrawn (w : WorldState) : Type 0 where
  pub each : All (IsDrawnOf w.catalogue.carousel (trees_of w.catalogue)) w.drawings
  pub order : Rise 0 w.drawings

-- ---- one event more

longer : (carousel : ℕ) (trees more : List Tree) (d : Drawing) → IsDrawnOf carousel trees d → IsDrawnOf carousel (trees ++ more) d
longer carousel trees more d is = record {
  published = let n = length-append trees more in let p = is.published in omega (arith, n, p);
  generation = is.generation ∙ ap (generation_of carousel) (sym (take-append-le d.generation.number trees more is.published));
  items = is.items;
}

risen : (lo n : ℕ) (ds : List Drawing) (d : Drawing) → lo ≤ n → n ≡ d.generation.number → All (λ x. x.generation.number ≤ n) ds → Rise lo ds → Rise lo (ds ++ d ∷ [])
risen lo n [] d le e below r = (subst (λ k. lo ≤ k) e le, tt)
risen lo n (x ∷ ds) d le e below r = (r.0, risen x.generation.number n ds d (All-head (λ y. y.generation.number ≤ n) x ds below) e (All-tail (λ y. y.generation.number ≤ n) x ds below) r.1)

carousel_stays : (c : CatalogueState) (editor : ℕ) (edits : List Edit) → (with_commit c editor edits).carousel ≡ c.carousel
carousel_stays c editor edits = go (is_entered (outcome_of c edits)) (entries.Commit editor edits (outcome_of c edits)) where
  go : (b : Bool) (e : Entry) → (cond b (with_entry c e) c).carousel ≡ c.carousel
  go true e = refl
  go false e = refl

by_commit : HistoriesGrow → (w : WorldState) (editor : ℕ) (edits : List Edit) → AreDrawn w → AreDrawn (happens w (Commit editor edits))
by_commit grow w editor edits a =
    let more = grow.by_commit w.catalogue editor edits in
    record {
      each = subst (λ c. All (IsDrawnOf c (trees_of (with_commit w.catalogue editor edits))) w.drawings) (sym (carousel_stays w.catalogue editor edits))
          (subst (λ ts. All (IsDrawnOf w.catalogue.carousel ts) w.drawings) (sym more.1)
          (All-weaker (IsDrawnOf w.catalogue.carousel (trees_of w.catalogue)) (IsDrawnOf w.catalogue.carousel (trees_of w.catalogue ++ more.0)) (longer w.catalogue.carousel (trees_of w.catalogue) more.0) w.drawings a.each));
      order = a.order;
    }

by_draw : HistoriesGrow → (w : WorldState) (asked : ℕ) (fates : List Fate) → AreDrawn w → AreDrawn (happens w (Draw asked fates))
by_draw grow w asked fates a = go (nat_le 16777216 (draws_of w.catalogue)) where
  number : (current_of w.catalogue).number ≡ length (trees_of w.catalogue)
  number = grow.number w.catalogue

  one : IsDrawnOf w.catalogue.carousel (trees_of w.catalogue) (drawing_of w.catalogue asked fates)
  one = record {
    published = let n = grow.number w.catalogue in omega (arith, n);
    generation = ap (generation_of w.catalogue.carousel) (sym (take_all (current_of w.catalogue).number (trees_of w.catalogue) (let n = grow.number w.catalogue in omega (arith, n))));
    items = grow.items w.catalogue asked;
  }

  all : AreDrawn (record { catalogue = with_draw w.catalogue asked; drawings = w.drawings ++ drawing_of w.catalogue asked fates ∷ [] })
  all = record {
    each = subst (λ ts. All (IsDrawnOf w.catalogue.carousel ts) (w.drawings ++ drawing_of w.catalogue asked fates ∷ [])) (sym (grow.by_draw w.catalogue asked))
        (All-push (IsDrawnOf w.catalogue.carousel (trees_of w.catalogue)) w.drawings (drawing_of w.catalogue asked fates) a.each one);
    order = risen 0 (length (trees_of w.catalogue)) w.drawings (drawing_of w.catalogue asked fates) (omega arith) (sym number)
        (All-weaker (IsDrawnOf w.catalogue.carousel (trees_of w.catalogue)) (λ x. x.generation.number ≤ length (trees_of w.catalogue)) (λ x is. is.published) w.drawings a.each) a.order;
  }

  go : (full : Bool) → AreDrawn (cond full w (record { catalogue = with_draw w.catalogue asked; drawings = w.drawings ++ drawing_of w.catalogue asked fates ∷ [] }))
  go true = a
  go false = all

pub drawn_on : HistoriesGrow → (w : WorldState) (e : Step) → AreDrawn w → AreDrawn (happens w e)
drawn_on grow w (Commit editor edits) a = by_commit grow w editor edits a
drawn_on grow w (Draw asked fates) a = by_draw grow w asked fates a
drawn_on grow w (Open reader path) a = a

pub drawn_all : HistoriesGrow → (w : WorldState) (es : List Step) → AreDrawn w → AreDrawn (after_all w es)
drawn_all grow w [] a = a
drawn_all grow w (e ∷ es) a = drawn_all grow (happens w e) es (drawn_on grow w e a)

pub nothing_drawn : (carousel : ℕ) (weights : List ℕ) → AreDrawn (initial_world carousel weights)
nothing_drawn carousel weights = record { each = All-nil (IsDrawnOf carousel []); order = tt }

-- ---- what was sent

abbrev pub sendings_in : List Drawing → List Sending
sendings_in ds = flat_map sendings_of (map group_of ds)

items_all : GenerationsAreOfTheLists → (carousel : ℕ) (trees : List Tree) (ds : List Drawing) → All (IsDrawnOf carousel trees) ds
    → All (λ s. IsItem (layouts_of carousel trees) s.0 s.1) (sendings_in ds)
items_all law carousel trees [] all = All-nil (λ s. IsItem (layouts_of carousel trees) s.0 s.1)
items_all law carousel trees (d ∷ ds) all =
    let is = All-head (IsDrawnOf carousel trees) d ds all in
    let g = law carousel trees d.generation.number is.published in
    let P : Sending → Type 0 = λ s. IsItem (layouts_of carousel trees) s.0 s.1 in
    let its : All (Contains (items_of (generation_of carousel (take d.generation.number trees)))) d.items = subst (λ s. All (Contains (items_of s)) d.items) is.generation is.items in
    All-append P (sendings_of (group_of d)) (sendings_in ds)
    (All-map P (λ item. (d.generation.number, item)) d.items
    (All-weaker (Contains (items_of (generation_of carousel (take d.generation.number trees)))) (λ item. IsItem (layouts_of carousel trees) d.generation.number item) g.items d.items its))
    (items_all law carousel trees ds (All-tail (IsDrawnOf carousel trees) d ds all))

above : (lo : ℕ) (ds : List Drawing) → Rise lo ds → All (λ s. lo ≤ s.0) (sendings_in ds)
above lo [] r = All-nil (λ s. lo ≤ s.0)
above lo (d ∷ ds) r =
    All-append (λ (s : Sending). lo ≤ s.0) (sendings_of (group_of d)) (sendings_in ds)
    (All-map (λ (s : Sending). lo ≤ s.0) (λ item. (d.generation.number, item)) d.items (λ k x lt. r.0))
    (All-weaker (λ (s : Sending). d.generation.number ≤ s.0) (λ (s : Sending). lo ≤ s.0) (λ s le. let first = r.0 in omega (arith, le, first)) (sendings_in ds) (above d.generation.number ds r.1))

abbrev pub Later : Sending → Sending → Type 0
Later s t = s.0 ≤ t.0

one_group : (g : ℕ) (items : List Item) (rest : List Sending) → All (λ s. g ≤ s.0) rest → AllPairs Later rest → AllPairs Later (map (λ item. (g, item)) items ++ rest)
one_group g [] rest up pairs = pairs
one_group g (x ∷ items) rest up pairs =
    AllPairs-cons Later (g, x) (map (λ item. (g, item)) items ++ rest)
    (All-append (λ (s : Sending). g ≤ s.0) (map (λ item. (g, item)) items) rest (All-map (λ (s : Sending). g ≤ s.0) (λ item. (g, item)) items (λ k y lt. omega arith)) up)
    (one_group g items rest up pairs)

pairs_all : (lo : ℕ) (ds : List Drawing) → Rise lo ds → AllPairs Later (sendings_in ds)
pairs_all lo [] r = λ i j d lt within. absurd (omega (arith, within))
pairs_all lo (d ∷ ds) r = one_group d.generation.number d.items (sendings_in ds) (above d.generation.number ds r.1) (pairs_all d.generation.number ds r.1)

pub sends_in_order : GenerationsAreOfTheLists → (w : WorldState) → AreDrawn w → SendsInOrder (broadcast_of w)
sends_in_order law w a = record {
  items = items_all law w.catalogue.carousel (trees_of w.catalogue) w.drawings a.each;
  order = pairs_all 0 w.drawings a.order;
}

-- ---- its sections

pub alike : {X Y : Type 0} (f h : X → Y) (xs : List X) → All (λ x. f x ≡ h x) xs → map f xs ≡ map h xs
alike f h [] all = refl
alike f h (x ∷ xs) all = ap (λ y. y ∷ map f xs) (All-head (λ y. f y ≡ h y) x xs all) ∙ ap (λ ys. h x ∷ ys) (alike f h xs (All-tail (λ y. f y ≡ h y) x xs all))

grouped : (carousel : ℕ) (ls : List Layout) (g : ℕ) (items : List Item) → map (λ (s : Sending). section_in carousel ls s.0 s.1) (map (λ item. (g, item)) items) ≡ map (section_in carousel ls g) items
grouped carousel ls g [] = refl
grouped carousel ls g (x ∷ items) = ap (λ ys. section_in carousel ls g x ∷ ys) (grouped carousel ls g items)

sections_all : GenerationsAreOfTheLists → (carousel : ℕ) (trees : List Tree) (ds : List Drawing) → All (IsDrawnOf carousel trees) ds
    → map (λ (s : Sending). section_in carousel (layouts_of carousel trees) s.0 s.1) (sendings_in ds) ≡ sections_sent ds
sections_all law carousel trees [] all = refl
sections_all law carousel trees (d ∷ ds) all =
    let ls = layouts_of carousel trees in
    let is = All-head (IsDrawnOf carousel trees) d ds all in
    let g = law carousel trees d.generation.number is.published in
    let s = generation_of carousel (take d.generation.number trees) in
    let its : All (Contains (items_of s)) d.items = subst (λ x. All (Contains (items_of x)) d.items) is.generation is.items in
    let here : map (section_of s) d.items ≡ map (section_in carousel ls d.generation.number) d.items =
    alike (section_of s) (section_in carousel ls d.generation.number) d.items (All-weaker (Contains (items_of s)) (λ item. section_of s item ≡ section_in carousel ls d.generation.number item) g.sections d.items its) in
    map-append (λ (x : Sending). section_in carousel ls x.0 x.1) (sendings_of (group_of d)) (sendings_in ds)
    ∙ ap (λ ys. ys ++ map (λ (x : Sending). section_in carousel ls x.0 x.1) (sendings_in ds)) (grouped carousel ls d.generation.number d.items ∙ sym here ∙ ap (λ x. map (section_of x) d.items) (sym is.generation))
    ∙ ap (λ ys. sections_of d ++ ys) (sections_all law carousel trees ds (All-tail (IsDrawnOf carousel trees) d ds all))

pub sections_are_sent : GenerationsAreOfTheLists → (w : WorldState) → AreDrawn w → sections (broadcast_of w) ≡ sections_sent w.drawings
sections_are_sent law w a = sections_all law w.catalogue.carousel (trees_of w.catalogue) w.drawings a.each
