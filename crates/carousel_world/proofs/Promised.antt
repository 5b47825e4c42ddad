-- Every list of events meets the headline.
use Rattle.std.proofs.Common.{◌≡◌, ℕ, ◌<◌, Bool, true, false, cond, nat_le, List, [], ◌∷◌, ◌++◌, length, map, refl, ap, sym, ◌∙◌, subst, append_assoc, arith}
use Rattle.std.specs.List.{All}
use Rattle.std.proofs.lemmas.List.{append-nil, map-append, length-append}
use Rattle.std.proofs.lemmas.List.Elements.{All-head, All-tail, All-nil, All-cons}
use Rattle.path_tree.specs.Trees.{Tree}
use Rattle.generation.specs.Lawful.{ArePublishable, IsPublishable}
use Rattle.generation.specs.Kept.{LayoutsAreLawful, GenerationsAreOfTheLists}
use Rattle.generation_catalogue.specs.History.{CatalogueState, IsHistory, trees_of, draws_of, with_draw, outcome_of, is_entered, with_entry}
use Rattle.generation_catalogue.specs.Laws.{HistoriesGrow}
use Rattle.generation_catalogue.specs.declared.entry.Entry.{Entry}
use Rattle.generation_catalogue.specs.declared.entry.Entry.TheVariants as entries
use Rattle.carousel_world.specs.Receptions.{GoesOn, EveryReceptionMeets, LabelsNeverFall, Meets, label_after}
use Rattle.section_stream.specs.Cuts.{candidates}
use Rattle.carousel_world.specs.Fates.{Arrival}
use Rattle.carousel_world.specs.Events.{Step, Commit, Draw, Open}
use Rattle.carousel_world.specs.World.{WorldState, Drawing, drawing_of, arrivals, first_packet, received_in, candidates_in, initial_world, happens, after_all}
use Rattle.carousel_world.specs.Promises.{broadcast_of, from_of, IsUndamaged, HoldsAfter, MeetsHeadline, EveryRunMeetsTheHeadline, world_after, label_in_world}
use Rattle.carousel_world.specs.View.{Kept, StandsFor}
use Rattle.carousel_world.proofs.Drawn.{AreDrawn, drawn_all, nothing_drawn, sends_in_order, sections_are_sent}
use Rattle.carousel_world.proofs.Arriving.{never_back, arrivals_grow}

-- ---- what is there stays

pub after-append : (w : WorldState) (xs ys : List Step) → after_all w (xs ++ ys) ≡ after_all (after_all w xs) ys
after-append w [] ys = refl
after-append w (x ∷ xs) ys = after-append (happens w x) xs ys

-- a later world has the trees and the draws of an earlier one, and others after them
pub record Grows (v w : WorldState) : Type 0 where
  pub carousel : w.catalogue.carousel ≡ v.catalogue.carousel
  pub weights : w.catalogue.weights ≡ v.catalogue.weights
  pub trees : List Tree
  pub same_trees : trees_of w.catalogue ≡ trees_of v.catalogue ++ trees
  pub drawings : List Drawing
  pub same_drawings : w.drawings ≡ v.drawings ++ drawings

still : (w : WorldState) → Grows w w
still w = record { carousel = refl; weights = refl; trees = []; same_trees = sym (append-nil (trees_of w.catalogue)); drawings = []; same_drawings = sym (append-nil w.drawings) }

grows_on : (u v w : WorldState) → Grows u v → Grows v w → Grows u w
grows_on u v w g h = record {
  carousel = h.carousel ∙ g.carousel;
  weights = h.weights ∙ g.weights;
  trees = g.trees ++ h.trees;
  same_trees = h.same_trees ∙ ap (λ ts. ts ++ h.trees) g.same_trees ∙ append_assoc (trees_of u.catalogue) g.trees h.trees;
  drawings = g.drawings ++ h.drawings;
  same_drawings = h.same_drawings ∙ ap (λ ds. ds ++ h.drawings) g.same_drawings ∙ append_assoc u.drawings g.drawings h.drawings;
}

grows_by : HistoriesGrow → (w : WorldState) (e : Step) → Grows w (happens w e)
grows_by grow w (Open reader path) = still w
grows_by grow w (Commit editor edits) =
    let more = grow.by_commit w.catalogue editor edits in
    record {
      carousel = stays (is_entered (outcome_of w.catalogue edits)) (entries.Commit editor edits (outcome_of w.catalogue edits));
      weights = weigh_alike (is_entered (outcome_of w.catalogue edits)) (entries.Commit editor edits (outcome_of w.catalogue edits));
      trees = more.0;
      same_trees = more.1;
      drawings = [];
      same_drawings = sym (append-nil w.drawings);
    } where
      stays : (b : Bool) (e : Entry) → (cond b (with_entry w.catalogue e) w.catalogue).carousel ≡ w.catalogue.carousel
      stays true e = refl
      stays false e = refl

      weigh_alike : (b : Bool) (e : Entry) → (cond b (with_entry w.catalogue e) w.catalogue).weights ≡ w.catalogue.weights
      weigh_alike true e = refl
      weigh_alike false e = refl
grows_by grow w (Draw asked fates) = go (nat_le 16777216 (draws_of w.catalogue)) where
  go : (full : Bool) → Grows w (cond full w (record { catalogue = with_draw w.catalogue asked; drawings = w.drawings ++ drawing_of w.catalogue asked fates ∷ [] }))
  go true = still w
  go false = record {
    carousel = refl;
    weights = refl;
    trees = [];
    same_trees = grow.by_draw w.catalogue asked ∙ sym (append-nil (trees_of w.catalogue));
    drawings = drawing_of w.catalogue asked fates ∷ [];
    same_drawings = refl;
  }

pub grows_all : HistoriesGrow → (w : WorldState) (es : List Step) → Grows w (after_all w es)
grows_all grow w [] = still w
grows_all grow w (e ∷ es) = grows_on w (happens w e) (after_all (happens w e) es) (grows_by grow w e) (grows_all grow (happens w e) es)

first_of_all : {X : Type 0} (P : X → Type 0) (xs ys : List X) → All P (xs ++ ys) → All P xs
first_of_all P [] ys all = All-nil P
first_of_all P (x ∷ xs) ys all = All-cons P x xs (All-head P x (xs ++ ys) all) (first_of_all P xs ys (All-tail P x (xs ++ ys) all))

publishable_before : (v w : WorldState) → Grows v w → ArePublishable w.catalogue.carousel (trees_of w.catalogue) → ArePublishable v.catalogue.carousel (trees_of v.catalogue)
publishable_before v w g p = record {
  carousel_id = subst (λ c. c < 4294967296) g.carousel p.carousel_id;
  few = let n = p.few in let e = ap length g.same_trees in let k = length-append (trees_of v.catalogue) g.trees in omega (arith, n, e, k);
  each = first_of_all IsPublishable (trees_of v.catalogue) g.trees (subst (All IsPublishable) g.same_trees p.each);
}

-- ---- what holds after events

pub record Laws : Type 0 where
  pub grow : HistoriesGrow
  pub lists : GenerationsAreOfTheLists
  pub lawful : LayoutsAreLawful
  pub receptions : EveryReceptionMeets
  pub labels : LabelsNeverFall

holds_after : Laws → (w : WorldState) → AreDrawn w → ArePublishable w.catalogue.carousel (trees_of w.catalogue) → HoldsAfter w
holds_after laws w a p =
    let lawful = laws.lawful w.catalogue.carousel (trees_of w.catalogue) p in
    let in_order = sends_in_order laws.lists w a in
    let back = never_back w.drawings in
    let meets : IsUndamaged w → Meets (broadcast_of w) (candidates_in w) = λ u.
    laws.receptions.packets 256 (received_in w) (broadcast_of w) (from_of w) back (record {
      first = let n = lawful.as_many in omega (arith, n);
      lawful = lawful;
      in_order = in_order;
      accepted = u.accepted;
      near = u.near;
    }) in
    record {
      lawful = lawful;
      in_order = in_order;
      sent = sections_are_sent laws.lists w a;
      never_back = back;
      meets = meets;
      each = λ u reader path. (meets u).answers path;
    }

label_goes_on : Laws → (v w : WorldState) → Grows v w → GoesOn (label_in_world v) (label_in_world w)
label_goes_on laws v w g =
    let more = arrivals_grow first_packet 0 v.drawings g.drawings in
    let received : received_in w ≡ received_in v ++ map (λ a. a.1) more.0 =
    ap (λ ds. map (λ a. a.1) (arrivals ds)) g.same_drawings ∙ ap (map (λ a. a.1)) more.1 ∙ map-append (λ (a : Arrival). a.1) (arrivals v.drawings) more.0 in
    subst (λ ps. GoesOn (label_in_world v) (label_after (candidates 256 ps))) (sym received) (laws.labels.packets 256 (received_in v) (map (λ a. a.1) more.0))

pub every_run : Laws → EveryRunMeetsTheHeadline
every_run laws carousel weights events published = record {
  holds = λ before after e.
      let v = world_after carousel weights before in
      let all : world_after carousel weights events ≡ after_all v after = ap (world_after carousel weights) e ∙ after-append (initial_world carousel weights) before after in
      let g : Grows v (world_after carousel weights events) = subst (Grows v) (sym all) (grows_all laws.grow v after) in
      holds_after laws v (drawn_all laws.grow (initial_world carousel weights) before (nothing_drawn carousel weights)) (publishable_before v (world_after carousel weights events) g published);
  forward = λ before between after e.
      let v = world_after carousel weights before in
      let w = world_after carousel weights (before ++ between) in
      label_goes_on laws v w (subst (Grows v) (sym (after-append (initial_world carousel weights) before between)) (grows_all laws.grow v between));
}

-- of what a world's parts stand for
pub kept_headline : EveryRunMeetsTheHeadline → (k : Kept) → IsHistory k.catalogue → (carousel : ℕ) (weights : List ℕ) (events : List Step) → StandsFor k (world_after carousel weights events) → MeetsHeadline carousel weights events
kept_headline law k history carousel weights events st = law carousel weights events (subst (λ (c : CatalogueState). ArePublishable c.carousel (trees_of c)) st.catalogue history.published)
