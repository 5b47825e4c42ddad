-- The packets of a cycle, counted section by section.
use Rattle.std.proofs.Common.{◌≡◌, ℕ, suc, ◌+◌, ◌*◌, ◌<◌, ◌≤◌, List, [], ◌∷◌, length, map, ◌∙◌, sym, ap, subst, arith, length-append}
use Rattle.std.specs.List.{All, AllPairs, fold, sum_by}
use Rattle.std.proofs.lemmas.List.{length-map}
use Rattle.std.proofs.lemmas.List.Elements.{All-head, All-tail}
use Rattle.std.proofs.lemmas.List.Sums.{sum_by-le}
use Rattle.cycle_planner.specs.Cycle.{AreLines, Line, cycle_of}
use Rattle.cycle_planner.specs.Weights.{AreWeights}
use Rattle.cycle_planner.proofs.CallerLemmas.{cycle_at_most}
use Rattle.path_tree.specs.Paths.{Bytes}
use Rattle.section_stream.specs.Groups.{packets_of_group}
use Rattle.section_stream.specs.Packing.{IsSectionLike, MuxState, idle, last_of, packets_of, packets_of_all, past}
use Rattle.section_stream.proofs.CallerLemmas.{between_idle, calls_give, few_packets}

-- these items are still to be sent, and so many packets were given for those before them
pub record IsCounting {X : Type 0} (f : X → Bytes) (start mux : MuxState) (all left : List X) (packets : ℕ) : Type 0 where
  pub like : All IsSectionLike (map f left)
  pub count : packets + length (packets_of_all mux (map f left)) ≡ length (packets_of_all start (map f all))
  pub muxes : fold past mux (map f left) ≡ fold past start (map f all)

pub counting_begins : {X : Type 0} (f : X → Bytes) (start : MuxState) (all left : List X) → left ≡ all → All IsSectionLike (map f all) → IsCounting f start start all left 0
counting_begins f start all left e like = record {
  like = subst (λ xs. All IsSectionLike (map f xs)) (sym e) like;
  count = let n = ap (λ xs. length (packets_of_all start (map f xs))) e in omega (arith, n);
  muxes = ap (λ xs. fold past start (map f xs)) e;
}

packets_first : (mux : MuxState) (s : Bytes) (ss : List Bytes) → length (packets_of_all mux (s ∷ ss)) ≡ length (packets_of mux s) + length (packets_of_all (past mux s) ss)
packets_first mux s ss = length-append (packets_of mux s) (packets_of_all (past mux s) ss)

pub counting_like : {X : Type 0} (f : X → Bytes) (start mux : MuxState) (all old new : List X) (x : X) (packets : ℕ) → old ≡ x ∷ new → IsCounting f start mux all old packets → IsSectionLike (f x)
counting_like f start mux all old new x packets o c = All-head IsSectionLike (f x) (map f new) (subst (λ xs. All IsSectionLike (map f xs)) o c.like)

pub counting_more : {X : Type 0} (f : X → Bytes) (start mux next : MuxState) (all old new : List X) (x : X) (packets given : ℕ) → old ≡ x ∷ new → next ≡ past mux (f x) → given ≡ length (packets_of mux (f x))
    → IsCounting f start mux all old packets → IsCounting f start next all new (packets + given)
counting_more f start mux next all old new x packets given o n g c =
    let from : IsCounting f start mux all (x ∷ new) packets = subst (λ xs. IsCounting f start mux all xs packets) o c in
    let first = packets_first mux (f x) (map f new) in
    subst (λ m. IsCounting f start m all new (packets + given)) (sym n)
    (record {
      like = All-tail IsSectionLike (f x) (map f new) from.like;
      count = omega (arith, from.count, first, g);
      muxes = from.muxes;
    })

-- what was counted so far is no more than all
pub counting_within : {X : Type 0} (f : X → Bytes) (start mux : MuxState) (all old new : List X) (x : X) (packets given : ℕ) → old ≡ x ∷ new → given ≡ length (packets_of mux (f x))
    → IsCounting f start mux all old packets → packets + given ≤ length (packets_of_all start (map f all))
counting_within f start mux all old new x packets given o g c =
    let from : IsCounting f start mux all (x ∷ new) packets = subst (λ xs. IsCounting f start mux all xs packets) o c in
    let first = packets_first mux (f x) (map f new) in
    omega (arith, from.count, first, g)

-- no item is left
pub counting_ends : {X : Type 0} (f : X → Bytes) (start mux : MuxState) (all left : List X) (packets : ℕ) → left ≡ [] → IsCounting f start mux all left packets
    → (packets ≡ length (packets_of_all start (map f all))) × (mux ≡ fold past start (map f all))
counting_ends f start mux all left packets e c =
    let from : IsCounting f start mux all [] packets = subst (λ xs. IsCounting f start mux all xs packets) e c in
    (omega (arith, from.count), from.muxes)

-- and the end of the group
pub counting_all : (start mux : MuxState) (group : List Bytes) (packets last : ℕ) → start ≡ idle 256 0 → All IsSectionLike group → packets ≡ length (packets_of_all start group) → mux ≡ fold past start group
    → last ≡ length (last_of mux) → packets + last ≡ length (packets_of_group (idle 256 0) group)
counting_all start mux group packets last s like p m l =
    let given = (calls_give (idle 256 0) group (between_idle 256 0) like).0 in
    let sum = length-append (packets_of_all (idle 256 0) group) (last_of (fold past (idle 256 0) group)) in
    let whole : length (packets_of_all (idle 256 0) group) + length (last_of (fold past (idle 256 0) group)) ≡ length (packets_of_group (idle 256 0) group) = sym sum ∙ ap length given in
    let first : packets ≡ length (packets_of_all (idle 256 0) group) = p ∙ ap (λ x. length (packets_of_all x group)) s in
    let end : last ≡ length (last_of (fold past (idle 256 0) group)) = l ∙ ap (λ x. length (last_of x)) (m ∙ ap (λ x. fold past x group) s) in
    omega (arith, whole, first, end)

-- ---- how many they are

few_all : (m : MuxState) (ss : List Bytes) → All IsSectionLike ss → length (packets_of_all m ss) ≤ 23 * length ss
few_all m [] like = omega arith
few_all m (s ∷ ss) like =
    let first = packets_first m s ss in
    let here = few_packets m s (All-head IsSectionLike s ss like) in
    let rest = few_all (past m s) ss (All-tail IsSectionLike s ss like) in
    omega (arith, first, here, rest)

few_from : (lines : List Line) (low : ℕ) → AllPairs (λ a b. a.0 < b.0) lines → All (λ l. low ≤ l.0) lines → All (λ l. l.0 ≤ 2224) lines → low ≤ 2225 → low + length lines ≤ 2225
few_from [] low rising above below h = omega arith
few_from (line ∷ lines) low rising above below h =
    let here : low ≤ line.0 = All-head (λ l. low ≤ l.0) line lines above in
    let top : line.0 ≤ 2224 = All-head (λ l. l.0 ≤ 2224) line lines below in
    let later : All (λ l. low + 1 ≤ l.0) lines = λ k d q. omega (arith, here, rising 0 (suc k) d (omega arith) (omega arith)) in
    omega (arith, few_from lines (low + 1) (λ i j d p q. rising (suc i) (suc j) d (omega arith) (omega arith)) later (All-tail (λ l. l.0 ≤ 2224) line lines below) (omega arith))

few_blocks : (lines : List Line) → AreLines lines → sum_by (λ l. l.1) lines ≤ 2224 * 65536
few_blocks lines are =
    let few : 1 + length lines ≤ 2225 = few_from lines 1 are.rising (λ k d q. (are.ids k d q).0) (λ k d q. (are.ids k d q).1) (omega arith) in
    let most = sum_by-le (λ (l : Line). l.1) 65536 lines are.blocks in
    omega (arith, few, most)

-- a cycle's packets are far fewer than a number of 64 bits says
pub few_in_cycle : {X : Type 0} (f : X → Bytes) (m : MuxState) (all : List X) (n : ℕ) → All IsSectionLike (map f all) → length all ≤ n → length (packets_of_all m (map f all)) ≤ 23 * n
few_in_cycle f m all n like few = let most = few_all m (map f all) like in let size = length-map all f in omega (arith, most, size, few)

pub few_items : (ws : List ℕ) (lines : List Line) → AreWeights ws → AreLines lines → length (cycle_of ws lines) ≤ 1166016641
few_items ws lines weights are = let most = cycle_at_most ws lines weights in let blocks = few_blocks lines are in omega (arith, most, blocks)
