-- What arrives keeps its order, and stays when more comes.
use Rattle.std.proofs.Common.{◌≡◌, ℕ, ◌+◌, ◌≤◌, List, [], ◌∷◌, ◌++◌, length, map, Option, Some, None, refl, ap, sym, ◌∙◌, append_assoc, arith}
use Rattle.std.proofs.lemmas.Option.{slice_get-map}
use Rattle.path_tree.specs.Paths.{Bytes}
use Rattle.ts_packet.specs.declared.Fate.{Fate}
use Rattle.ts_packet.specs.Fates.{arrival_of}
use Rattle.section_stream.specs.Packing.{MuxState}
use Rattle.section_stream.specs.Groups.{packets_of_group, past_group}
use Rattle.carousel_world.specs.Broadcasts.{NeverBack}
use Rattle.carousel_world.specs.Fates.{Arrival, fate_of, onto_arrivals, under}
use Rattle.carousel_world.specs.World.{Drawing, sections_of, arrivals_from, arrivals, first_packet}
use Rattle.carousel_world.specs.Promises.{from_in}
use Rattle.carousel_world.proofs.Climbing.{Climbs, climbs_at}

lower : (lo hi : ℕ) (ns : List ℕ) → lo ≤ hi → Climbs hi ns → Climbs lo ns
lower lo hi [] le c = tt
lower lo hi (n ∷ ns) le c = (let first = c.0 in omega (arith, le, first), c.1)

-- packets that arrive have rising numbers
under_climbs : (fates : List Fate) (i n : ℕ) (ps : List Bytes) (rest : List Arrival) → Climbs (n + length ps) (map (λ a. a.0) rest) → Climbs n (map (λ a. a.0) (under fates i n ps ++ rest))
under_climbs fates i n [] rest c = lower n (n + length {A = Bytes} []) (map (λ a. a.0) rest) (omega arith) c
under_climbs fates i n (p ∷ ps) rest c =
    go (arrival_of (fate_of fates i) p) (under_climbs fates (i + 1) (n + 1) ps rest (lower (n + 1 + length ps) (n + length (p ∷ ps)) (map (λ a. a.0) rest) (omega arith) c)) where
      go : (o : Option Bytes) → Climbs (n + 1) (map (λ a. a.0) (under fates (i + 1) (n + 1) ps ++ rest)) → Climbs n (map (λ a. a.0) (onto_arrivals n o (under fates (i + 1) (n + 1) ps) ++ rest))
      go (Some x) h = (omega arith, lower n (n + 1) (map (λ a. a.0) (under fates (i + 1) (n + 1) ps ++ rest)) (omega arith) h)
      go None h = lower n (n + 1) (map (λ a. a.0) (under fates (i + 1) (n + 1) ps ++ rest)) (omega arith) h

arrivals_climb : (m : MuxState) (n : ℕ) (ds : List Drawing) → Climbs n (map (λ a. a.0) (arrivals_from m n ds))
arrivals_climb m n [] = tt
arrivals_climb m n (d ∷ ds) =
    under_climbs d.fates 0 n (packets_of_group m (sections_of d)) (arrivals_from (past_group m (sections_of d)) (n + length (packets_of_group m (sections_of d))) ds)
    (arrivals_climb (past_group m (sections_of d)) (n + length (packets_of_group m (sections_of d))) ds)

pub never_back : (ds : List Drawing) → NeverBack (from_in (arrivals ds))
never_back ds i j a b lt e f =
    climbs_at 0 (map (λ x. x.0) (arrivals ds)) (arrivals_climb first_packet 0 ds) i j a b lt
    (slice_get-map (λ (x : Arrival). x.0) (arrivals ds) i ∙ e) (slice_get-map (λ (x : Arrival). x.0) (arrivals ds) j ∙ f)

-- with more draws more arrives, after what has arrived
pub arrivals_grow : (m : MuxState) (n : ℕ) (ds es : List Drawing) → (rest : List Arrival) × (arrivals_from m n (ds ++ es) ≡ arrivals_from m n ds ++ rest)
arrivals_grow m n [] es = (arrivals_from m n es, refl)
arrivals_grow m n (d ∷ ds) es =
    let here = under d.fates 0 n (packets_of_group m (sections_of d)) in
    let next = past_group m (sections_of d) in
    let k = n + length (packets_of_group m (sections_of d)) in
    let more = arrivals_grow next k ds es in
    (more.0, ap (λ xs. here ++ xs) more.1 ∙ sym (append_assoc here (arrivals_from next k ds) more.0))
