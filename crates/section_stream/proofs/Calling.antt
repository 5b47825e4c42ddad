-- The packets that calls give are those of the group.
use Rattle.std.proofs.Common.{◌≡◌, ℕ, ◌+◌, ◌%◌, ◌<◌, Bool, List, [], ◌∷◌, ◌++◌, length, map, refl, sym, ◌∙◌, ap, arith, append_assoc, length-append}
use Rattle.std.specs.List.{fold}
use Rattle.std.proofs.lemmas.List.{length-map}
use Rattle.ts_packet.specs.Packets.{packet_bytes}
use Rattle.section_stream.specs.Cuts.{Bytes}
use Rattle.section_stream.specs.Packing.{MuxState, with_stuffing, idle, put, number_packets, packets_of, packets_of_all, past, last_of, after_finish}
use Rattle.section_stream.specs.Groups.{Laid, layout_of, packets_from, CallsGiveTheGroup}
use Rattle.section_stream.proofs.Holding.{packed, packed-is-layout, shape}

numbered_laid : (pid counter : ℕ) (ls : List Laid) → number_packets pid counter (map shape ls) ≡ packets_from pid counter ls
numbered_laid pid counter [] = refl
numbered_laid pid counter (l ∷ ls) = ap (λ xs. packet_bytes pid l.start counter (with_stuffing l.bytes) ∷ xs) (numbered_laid pid ((counter + 1) % 16) ls)

numbered_both : (pid counter : ℕ) (first second : List (Bool × Bytes)) → counter < 16
    → number_packets pid counter (first ++ second) ≡ number_packets pid counter first ++ number_packets pid ((counter + length first) % 16) second
numbered_both pid counter [] second h = ap (λ c. number_packets pid c second) (omega (arith, h))
numbered_both pid counter (p ∷ ps) second h =
    let on : ((counter + 1) % 16 + length ps) % 16 ≡ (counter + length (p ∷ ps)) % 16 = omega arith in
    ap (λ xs. packet_bytes pid p.0 counter (with_stuffing p.1) ∷ xs)
    (numbered_both pid ((counter + 1) % 16) ps second (omega arith) ∙ ap (λ c. number_packets pid ((counter + 1) % 16) ps ++ number_packets pid c second) on)

calls_give : (m : MuxState) (ss : List Bytes) → m.counter < 16 → packets_of_all m ss ++ last_of (fold past m ss) ≡ number_packets m.pid m.counter (packed m.tail m.body ss)
calls_give m [] h = refl
calls_give m (s ∷ ss) h =
    append_assoc (packets_of m s) (packets_of_all (past m s) ss) (last_of (fold past (past m s) ss))
    ∙ ap (λ xs. packets_of m s ++ xs) (calls_give (past m s) ss (omega arith))
    ∙ sym (numbered_both m.pid m.counter (put m.tail m.body s).given (packed (past m s).tail (past m s).body ss) h)

calls_leave : (m : MuxState) (ss : List Bytes) → after_finish (fold past m ss) ≡ idle m.pid ((m.counter + length (packed m.tail m.body ss)) % 16)
calls_leave m [] = refl
calls_leave m (s ∷ ss) =
    let given = (put m.tail m.body s).given in
    let rest = packed (past m s).tail (past m s).body ss in
    let on : ((m.counter + length given) % 16 + length rest) % 16 ≡ (m.counter + length (given ++ rest)) % 16 = omega (arith, length-append given rest) in
    calls_leave (past m s) ss ∙ ap (idle m.pid) on

pub calls-give-the-group : CallsGiveTheGroup
calls-give-the-group m group b all =
    let is : packed m.tail m.body group ≡ map shape (layout_of group) =
    ap (λ x. packed x m.body group) b.tail ∙ ap (λ x. packed [] x group) b.body ∙ packed-is-layout group all in (
      calls_give m group b.counter ∙ ap (number_packets m.pid m.counter) is ∙ numbered_laid m.pid m.counter (layout_of group),
      calls_leave m group ∙ ap (λ xs. idle m.pid ((m.counter + length xs) % 16)) is ∙ ap (λ n. idle m.pid ((m.counter + n) % 16)) (length-map (layout_of group) shape),
    )
