-- One draw more.
use Rattle.std.proofs.Common.{◌≡◌, ℕ, ◌+◌, List, [], ◌∷◌, ◌++◌, length, map, ap, sym, ◌∙◌, subst, append_assoc}
use Rattle.std.specs.List.{fold}
use Rattle.std.proofs.lemmas.List.{append-nil, map-append}
use Rattle.section_stream.specs.Packing.{MuxState}
use Rattle.section_stream.specs.Groups.{packets_of_group, past_group}
use Rattle.carousel_world.specs.Fates.{Arrival, under, received_under}
use Rattle.carousel_world.specs.DownView.{DownlinkState, DownlinkStands}
use Rattle.carousel_world.specs.World.{WorldState, Drawing, sections_of, groups_sent, arrivals_from, arrivals, first_packet, received_in}
use Rattle.carousel_world.proofs.Carrying.{same_packets}

-- what arrives of the packets of a draw after others, of which the first has some number
pub arrivals_push : (m : MuxState) (n : ℕ) (ds : List Drawing) (d : Drawing)
    → (k : ℕ) × (arrivals_from m n (ds ++ d ∷ []) ≡ arrivals_from m n ds ++ under d.fates 0 k (packets_of_group (fold past_group m (groups_sent ds)) (sections_of d)))
arrivals_push m n [] d = (n, append-nil (under d.fates 0 n (packets_of_group m (sections_of d))))
arrivals_push m n (x ∷ ds) d =
    let here = under x.fates 0 n (packets_of_group m (sections_of x)) in
    let next = past_group m (sections_of x) in
    let k = n + length (packets_of_group m (sections_of x)) in
    let more = arrivals_push next k ds d in (
      more.0,
      ap (λ xs. here ++ xs) more.1 ∙ sym (append_assoc here (arrivals_from next k ds) (under d.fates 0 more.0 (packets_of_group (fold past_group next (groups_sent ds)) (sections_of d)))),
    )

pub received_push : (ds : List Drawing) (d : Drawing)
    → map (λ a. a.1) (arrivals (ds ++ d ∷ [])) ≡ map (λ a. a.1) (arrivals ds) ++ received_under d.fates 0 (packets_of_group (fold past_group first_packet (groups_sent ds)) (sections_of d))
received_push ds d =
    let more = arrivals_push first_packet 0 ds d in
    let packets = packets_of_group (fold past_group first_packet (groups_sent ds)) (sections_of d) in
    ap (map (λ a. a.1)) more.1 ∙ map-append (λ (a : Arrival). a.1) (arrivals ds) (under d.fates 0 more.0 packets)
    ∙ ap (λ xs. map (λ a. a.1) (arrivals ds) ++ xs) (same_packets d.fates 0 more.0 0 packets)

-- a downlink that stands for the draws so far, and for what it sent and heard then, stands for the draws with one more
pub stands_after_draw : (w : WorldState) (d : Drawing) (old new : DownlinkState) → DownlinkStands old 256 (groups_sent w.drawings) [] (received_in w)
    → DownlinkStands new 256 (groups_sent w.drawings ++ sections_of d ∷ []) [] (received_in w ++ received_under d.fates 0 (packets_of_group old.mux (sections_of d)))
    → DownlinkStands new 256 (groups_sent (w.drawings ++ d ∷ [])) [] (map (λ a. a.1) (arrivals (w.drawings ++ d ∷ [])))
stands_after_draw w d old new before after =
    let packets : received_in w ++ received_under d.fates 0 (packets_of_group old.mux (sections_of d)) ≡ map (λ a. a.1) (arrivals (w.drawings ++ d ∷ [])) =
    ap (λ m. received_in w ++ received_under d.fates 0 (packets_of_group m (sections_of d))) before.mux ∙ sym (received_push w.drawings d) in
    subst (λ gs. DownlinkStands new 256 gs [] (map (λ a. a.1) (arrivals (w.drawings ++ d ∷ [])))) (sym (map-append sections_of w.drawings (d ∷ [])))
    (subst (λ ps. DownlinkStands new 256 (groups_sent w.drawings ++ sections_of d ∷ []) [] ps) packets after)
