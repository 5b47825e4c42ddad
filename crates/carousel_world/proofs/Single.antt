-- One published tree is a case of many generations.
use Rattle.std.proofs.Common.{◌≡◌, ℕ, ◌<◌, zero, suc, List, [], ◌∷◌, ◌++◌, map, length, Some, sym, ◌∙◌, subst, arith, append-nil, lit≤, refl}
use Rattle.std.specs.Prelude.{slice_get}
use Rattle.std.specs.List.{All}
use Rattle.std.proofs.lemmas.List.Elements.{All-head, All-tail, All-nil, All-cons, All-map}
use Rattle.path_tree.specs.Paths.{Bytes}
use Rattle.path_tree.specs.Trees.{Tree, node_at}
use Rattle.biop_object.specs.Names.{Layout}
use Rattle.cycle_planner.specs.declared.Item.{Item}
use Rattle.generation.specs.Lawful.{ArePublishable, Lawful, Carries, IsPublishable, IsItem, layout_at, tree_at}
use Rattle.generation.specs.Kept.{LayoutsAreLawful}
use Rattle.section_stream.specs.Cuts.{candidates}
use Rattle.tuner_core.specs.LookBack.{answer_after}
use Rattle.carousel_world.specs.Headline.{IsAnswer, first_missing}
use Rattle.carousel_world.specs.Broadcasts.{Sending, sendings, SendsInOrder, IsAscribed}
use Rattle.carousel_world.specs.Premises.{Ascribed, AcceptedAreSent, BlocksAreNear, IsHeardOf}
use Rattle.carousel_world.specs.Receptions.{Meets, EveryReceptionMeets}
use Rattle.carousel_world.specs.Publishing.{layouts_for, items_sent, publication, MeetsTree, EveryPublicationMeets}
use Rattle.carousel_world.proofs.Modules.{IsSent, is_sent}
use Rattle.carousel_world.proofs.Cycles.{sent_items}

-- ---- what a lawful list of the empty tree's layout and another's promises of the other

pub record IsSecond (carousel : ℕ) (ls : List Layout) (t : Tree) : Type 0 where
  pub lawful : Lawful carousel ls ([] ∷ t ∷ [])
  pub sent : IsSent carousel ls 1
  pub two : length ls ≡ 2
  pub listed : 1 < length ls
  pub carries : Carries carousel (layout_at ls 1) t

second : (carousel : ℕ) (ls : List Layout) (t : Tree) → Lawful carousel ls ([] ∷ t ∷ []) → IsSecond carousel ls t
second carousel ls t lawful =
    let listed : 1 < length ls = omega (arith, lawful.as_many) in
    record {
      lawful = lawful;
      sent = is_sent carousel ls ([] ∷ t ∷ []) 1 lawful listed;
      two = lawful.as_many;
      listed = listed;
      carries = lawful.carries 1 listed;
    }

published : (carousel : ℕ) (t : Tree) → carousel < 4294967296 → IsPublishable t → ArePublishable carousel (t ∷ [])
published carousel t lt is = record { carousel_id = lt; few = lit≤ tt; each = All-cons IsPublishable t [] is (All-nil IsPublishable) }

pub second_of : LayoutsAreLawful → (carousel : ℕ) (t : Tree) → carousel < 4294967296 → IsPublishable t → IsSecond carousel (layouts_for carousel t) t
second_of lawful carousel t lt is =
    second carousel (layouts_for carousel t) t (lawful carousel (t ∷ []) (published carousel t lt is))

-- ---- all that is sent is of generation 1

ones : (items : List Item) (P : Sending → Type 0) → All (λ item. P (1, item)) items → All P (map (λ (item : Item). (1, item)) items ++ [])
ones items P all = subst (All P) (sym (append-nil (map (λ (item : Item). (1, item)) items))) (All-map P (λ (item : Item). (1, item)) items all)

all_ones : (carousel : ℕ) (weights : List ℕ) (cycles : ℕ) (t : Tree) → All (λ (s : Sending). s.0 ≡ 1) (sendings (publication carousel weights cycles t))
all_ones carousel weights cycles t = ones (items_sent carousel weights cycles t) (λ s. s.0 ≡ 1) (λ k d lt. refl)

one_at : (xs : List Sending) → All (λ s. s.0 ≡ 1) xs → (k : ℕ) (s : Sending) → slice_get xs k ≡ Some s → s.0 ≡ 1
one_at [] all k s e = cc
one_at (x ∷ xs) all zero s e = let same : x ≡ s = cc in subst (λ y. y.0 ≡ 1) same (All-head (λ s. s.0 ≡ 1) x xs all)
one_at (x ∷ xs) all (suc k) s e = one_at xs (All-tail (λ s. s.0 ≡ 1) x xs all) k s e

sent_one : (carousel : ℕ) (weights : List ℕ) (cycles : ℕ) (t : Tree) (k : ℕ) (s : Sending) → slice_get (sendings (publication carousel weights cycles t)) k ≡ Some s → s.0 ≡ 1
sent_one carousel weights cycles t k s e = one_at (sendings (publication carousel weights cycles t)) (all_ones carousel weights cycles t) k s e

-- each item is one of its generation, and the generation never falls
pub in_order : (carousel : ℕ) (weights : List ℕ) (cycles : ℕ) (t : Tree) → IsSecond carousel (layouts_for carousel t) t → SendsInOrder (publication carousel weights cycles t)
in_order carousel weights cycles t is = record {
  items = ones (items_sent carousel weights cycles t) (λ s. IsItem (layouts_for carousel t) s.0 s.1) (sent_items carousel (layouts_for carousel t) 1 weights cycles is.sent is.listed);
  order = λ i j d lt inside.
      let a = all_ones carousel weights cycles t i d (omega (arith, lt, inside)) in
      let b = all_ones carousel weights cycles t j d inside in
      omega (arith, a, b);
}

near : (carousel : ℕ) (weights : List ℕ) (cycles : ℕ) (t : Tree) (cs : List Bytes) (is_from : Ascribed) → BlocksAreNear (publication carousel weights cycles t) cs is_from
near carousel weights cycles t cs is_from i j g h block last p q =
    let one : h ≡ 1 = sym q.4 ∙ sent_one carousel weights cycles t q.0 q.1 q.3 in
    omega (arith, one)

-- damaged sections fail their CRC: nothing else is premised
pub heard_of : (carousel : ℕ) (weights : List ℕ) (cycles : ℕ) (t : Tree) (cs : List Bytes) (is_from : Ascribed) → IsSecond carousel (layouts_for carousel t) t
    → AcceptedAreSent (publication carousel weights cycles t) cs is_from → IsHeardOf (publication carousel weights cycles t) cs is_from
heard_of carousel weights cycles t cs is_from is accepted = record {
  first = omega (arith, is.two);
  lawful = is.lawful;
  in_order = in_order carousel weights cycles t is;
  accepted = accepted;
  near = near carousel weights cycles t cs is_from;
}

pub meets_tree : (carousel : ℕ) (weights : List ℕ) (cycles : ℕ) (t : Tree) (cs : List Bytes) → Meets (publication carousel weights cycles t) cs → MeetsTree carousel t cs
meets_tree carousel weights cycles t cs m = record {
  silent = λ p e. (m.answers p).silent e;
  known = λ p e.
      let o = (m.answers p).known e in
      let one : o.generation ≡ 1 = sym o.holds.sent.3 ∙ sent_one carousel weights cycles t o.holds.sent.0 o.holds.sent.1 o.holds.sent.2 in
      subst (λ g. IsAnswer (first_missing carousel (layout_at (layouts_for carousel t) g) cs p) (node_at (tree_at ([] ∷ t ∷ []) g) p) (answer_after cs p)) one o.answered;
  opens = λ p whole. m.opens 1 p whole;
}

pub every_publication : EveryReceptionMeets → LayoutsAreLawful → EveryPublicationMeets
every_publication every lawful = record {
  packets = λ pid packets carousel weights cycles t from never lt is accepted.
      meets_tree carousel weights cycles t (candidates pid packets) (every.packets pid packets (publication carousel weights cycles t) from never
      (heard_of carousel weights cycles t (candidates pid packets) (IsAscribed (publication carousel weights cycles t) pid packets from) (second_of lawful carousel t lt is) accepted));
  sections = λ cs carousel weights cycles t from never lt is accepted.
      meets_tree carousel weights cycles t cs (every.sections cs (publication carousel weights cycles t) from never
      (heard_of carousel weights cycles t cs (λ i k. from i ≡ Some k) (second_of lawful carousel t lt is) accepted));
}
