-- What a beginning of an input brings comes first in what the whole input brings; so the generation that is held never falls.
use Rattle.std.proofs.Common.{◌≡◌, ℕ, zero, suc, ◌+◌, ◌<◌, ◌≤◌, Bool, true, false, ◌&&◌, nat_le, List, [], ◌∷◌, ◌++◌, length, take, drop, refl, sym, ap, subst, ◌∙◌, arith, length-append}
use Rattle.std.proofs.lemmas.Bool.{and_parts, and_from, cond-true, cond-false, leb-true, le-leb}
use Rattle.std.proofs.lemmas.List.{get_or_append_left, take-append-le, drop-append-le, take-append-drop, take-take}
use Rattle.carousel_profile.specs.declared.TheConstants.{PACKET_LENGTH}
use Rattle.oc_bytes.specs.Numbers.{section_length}
use Rattle.carousel_world.specs.Receptions.{label_after, GoesOn, LabelsNeverFall}
use Rattle.shell_streams.specs.Cuts.{Bytes, back_to_back_in, back_to_back}
use Rattle.shell_streams.specs.Packets.{packets_in, packets_of, candidates_of}
use Rattle.shell_streams.specs.Carriers.{sections_by}
use Rattle.shell_streams.specs.declared.carrier.Carrier.{Carrier}
use Rattle.shell_streams.specs.declared.carrier.Carrier.TheVariants as carriers
use Rattle.section_stream.specs.Cuts.{candidates}
use Rattle.shell_commands.specs.Reception.{NeverFalls}

-- this list begins with that one
abbrev Begins : List Bytes → List Bytes → Type 0
Begins whole front = (more : List Bytes) × (whole ≡ front ++ more)

nothing_begins : (whole front : List Bytes) → front ≡ [] → Begins whole front
nothing_begins whole front e = (whole, ap (λ xs. xs ++ whole) (sym e))

-- the same piece in front of both
piece_begins : (whole front later last : List Bytes) (piece : Bytes) → whole ≡ piece ∷ later → front ≡ piece ∷ last → Begins later last → Begins whole front
piece_begins whole front later last piece w f b = (b.0, w ∙ ap (λ xs. piece ∷ xs) b.1 ∙ ap (λ xs. xs ++ b.0) (sym f))

-- ---- packets

packets_begin_in : (n m : ℕ) (front rest : Bytes) → n ≤ m → Begins (packets_in m (front ++ rest)) (packets_in n front)
packets_begin_in zero m front rest h = nothing_begins (packets_in m (front ++ rest)) [] refl
packets_begin_in (suc n) zero front rest h = absurd (omega (arith, h))
packets_begin_in (suc n) (suc m) front rest h = by (nat_le PACKET_LENGTH (length front)) refl (packets_begin_in n m (drop PACKET_LENGTH front) rest (omega (arith, h)))
  where
    by : (b : Bool) → nat_le PACKET_LENGTH (length front) ≡ b → Begins (packets_in m (drop PACKET_LENGTH front ++ rest)) (packets_in n (drop PACKET_LENGTH front)) → Begins (packets_in (suc m) (front ++ rest)) (packets_in (suc n) front)
    by false e later = nothing_begins _ _ (cond-false _ (take PACKET_LENGTH front ∷ packets_in n (drop PACKET_LENGTH front)) [] e)
    by true e later =
        let long : PACKET_LENGTH ≤ length front = leb-true PACKET_LENGTH (length front) e in
        let whole : nat_le PACKET_LENGTH (length (front ++ rest)) ≡ true = le-leb PACKET_LENGTH (length (front ++ rest)) (omega (arith, long, length-append front rest)) in
        piece_begins _ _ _ _ (take PACKET_LENGTH front)
        (cond-true _ (take PACKET_LENGTH (front ++ rest) ∷ packets_in m (drop PACKET_LENGTH (front ++ rest))) [] whole
        ∙ ap (λ p. p ∷ packets_in m (drop PACKET_LENGTH (front ++ rest))) (take-append-le PACKET_LENGTH front rest long)
        ∙ ap (λ bs. take PACKET_LENGTH front ∷ packets_in m bs) (drop-append-le PACKET_LENGTH front rest long))
        (cond-true _ (take PACKET_LENGTH front ∷ packets_in n (drop PACKET_LENGTH front)) [] e) later

packets_begin : (front rest : Bytes) → Begins (packets_of (front ++ rest)) (packets_of front)
packets_begin front rest = packets_begin_in (length front) (length (front ++ rest)) front rest (omega (arith, length-append front rest))

-- ---- sections back to back

abbrev span : Bytes → ℕ
span bytes = 3 + section_length bytes

abbrev has_front : Bytes → Bool
has_front bytes = nat_le 3 (length bytes) && nat_le (span bytes) (length bytes)

span_same : (front rest : Bytes) → 3 ≤ length front → span (front ++ rest) ≡ span front
span_same front rest h =
    let one : 1 < length front = omega (arith, h) in
    let two : 2 < length front = omega (arith, h) in
    rw (get_or_append_left front rest 0 1 one, get_or_append_left front rest 0 2 two) refl

sections_begin_in : (n m : ℕ) (front rest : Bytes) → n ≤ m → Begins (back_to_back_in m (front ++ rest)) (back_to_back_in n front)
sections_begin_in zero m front rest h = nothing_begins (back_to_back_in m (front ++ rest)) [] refl
sections_begin_in (suc n) zero front rest h = absurd (omega (arith, h))
sections_begin_in (suc n) (suc m) front rest h = by (has_front front) refl (sections_begin_in n m (drop (span front) front) rest (omega (arith, h)))
  where
    by : (b : Bool) → has_front front ≡ b → Begins (back_to_back_in m (drop (span front) front ++ rest)) (back_to_back_in n (drop (span front) front))
        → Begins (back_to_back_in (suc m) (front ++ rest)) (back_to_back_in (suc n) front)
    by false e later = nothing_begins _ _ (cond-false _ (take (span front) front ∷ back_to_back_in n (drop (span front) front)) [] e)
    by true e later =
        let parts = and_parts _ _ e in
        let header : 3 ≤ length front = leb-true 3 (length front) parts.0 in
        let long : span front ≤ length front = leb-true (span front) (length front) parts.1 in
        let same : span (front ++ rest) ≡ span front = span_same front rest header in
        let sum = length-append front rest in
        let whole : has_front (front ++ rest) ≡ true =
        and_from _ _ (le-leb 3 (length (front ++ rest)) (omega (arith, header, sum))) (le-leb (span (front ++ rest)) (length (front ++ rest)) (omega (arith, same, long, sum))) in
        piece_begins _ _ _ _ (take (span front) front)
        (cond-true _ (take (span (front ++ rest)) (front ++ rest) ∷ back_to_back_in m (drop (span (front ++ rest)) (front ++ rest))) [] whole
        ∙ ap (λ k. take k (front ++ rest) ∷ back_to_back_in m (drop k (front ++ rest))) same
        ∙ ap (λ s. s ∷ back_to_back_in m (drop (span front) (front ++ rest))) (take-append-le (span front) front rest long)
        ∙ ap (λ bs. take (span front) front ∷ back_to_back_in m bs) (drop-append-le (span front) front rest long))
        (cond-true _ (take (span front) front ∷ back_to_back_in n (drop (span front) front)) [] e) later

sections_begin : (front rest : Bytes) → Begins (back_to_back (front ++ rest)) (back_to_back front)
sections_begin front rest = sections_begin_in (length front) (length (front ++ rest)) front rest (omega (arith, length-append front rest))

-- ---- the label

-- the first n of them, as the first m and the others
split_at : {X : Type 0} (xs : List X) (m n : ℕ) → m ≤ n → take m xs ++ drop m (take n xs) ≡ take n xs
split_at xs m n h = ap (λ front. front ++ drop m (take n xs)) (sym (take-take m n xs h)) ∙ take-append-drop m (take n xs)

heard_on : LabelsNeverFall → (sections : List Bytes) (m n : ℕ) → m ≤ n → GoesOn (label_after (take m sections)) (label_after (take n sections))
heard_on law sections m n h =
    subst (λ ss. GoesOn (label_after (take m sections)) (label_after ss)) (split_at sections m n h) (law.sections (take m sections) (drop m (take n sections)))

read_on : LabelsNeverFall → (carrier : Carrier) (front rest : Bytes) → GoesOn (label_after ((sections_by carrier).standing_in front)) (label_after ((sections_by carrier).standing_in (front ++ rest)))
read_on law (carriers.Sections most) front rest =
    let more = sections_begin front rest in
    subst (λ ss. GoesOn (label_after (back_to_back front)) (label_after ss)) (sym more.1) (law.sections (back_to_back front) more.0)
read_on law (carriers.Packets pid) front rest =
    let more = packets_begin front rest in
    subst (λ ps. GoesOn (label_after (candidates_of pid front)) (label_after (candidates pid ps))) (sym more.1) (law.packets pid (packets_of front) more.0)

pub falls_never : LabelsNeverFall → (carrier : Carrier) (input : Bytes) → NeverFalls carrier input
falls_never law carrier input = record {
  heard = heard_on law ((sections_by carrier).standing_in input);
  read = λ m n h. subst (λ bytes. GoesOn (label_after ((sections_by carrier).standing_in (take m input))) (label_after ((sections_by carrier).standing_in bytes)))
      (split_at input m n h) (read_on law carrier (take m input) (drop m (take n input)));
}
