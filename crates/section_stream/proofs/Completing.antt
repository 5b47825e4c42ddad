-- Memory is asked for only where a section is complete.
use Rattle.std.proofs.Common.{◌≡◌, ℕ, ◌+◌, ◌<◌, ◌≤◌, Bool, false, List, [], ◌∷◌, ◌++◌, Option, Some, length, map, take, drop, refl, sym, ◌∙◌, ap, subst, arith, length-append}
use Rattle.std.specs.Prelude.{Result, Ok, Err, IfOk, OnOk, OnErr}
use Rattle.std.specs.declared.vec.Vec.{Vec}
use Rattle.std.specs.declared.alloc.Global.{Global}
use Rattle.carousel_profile.specs.declared.TheConstants.{PACKET_LENGTH}
use Rattle.ts_packet.specs.Packets.{Fields}
use Rattle.section_stream.specs.Cuts.{Bytes, candidates}
use Rattle.section_stream.specs.Kept.{view_bytes}
use Rattle.section_stream.specs.Inner.Kept.{with_unfinished}
use Rattle.section_stream.specs.Pieces.{packets_of, rest_of, StandsForBytes}
use Rattle.section_stream.specs.Rules.{After, DemuxState, Receiving, StandsFor, Whole, after_all, as_grown, jumps_from, one_more, step, takes}
use Rattle.section_stream.specs.Inner.Rules.{outputs}
use Rattle.section_stream.specs.Steps.{kept_unless, no_section_in}
use Rattle.section_stream.specs.Inner.Steps.{Completes, Gives, HasDone, HasOut, done_by, open_all, with_packet}
use Rattle.section_stream.specs.declared.counts.Counts.{Counts}
use Rattle.section_stream.proofs.Bytes.{ends_cut, ends_some, packets_some}
use Rattle.section_stream.proofs.Feeding.{cuts_step, feed_cuts, feed_pid, feed_short, feed_stands}
use Rattle.section_stream.proofs.Opening.{whole_step}
use Rattle.section_stream.proofs.Taking.{takes_done}

pub on_err : {T E P : Type 0} (r : Result T E) → P → OnErr r P
on_err (Ok x) p = tt
on_err (Err e) p = p

pub on_err_both : {T E P Q : Type 0} (r : Result T E) → P → Q → OnErr r (P × Q)
on_err_both (Ok x) p q = tt
on_err_both (Err e) p q = (p, q)

pub more_left : (xs ys : List Bytes) → 0 < length xs → 0 < length (xs ++ ys)
more_left xs ys h = omega (arith, length-append xs ys, h)

pub more_right : (xs ys : List Bytes) → 0 < length ys → 0 < length (xs ++ ys)
more_right xs ys h = omega (arith, length-append xs ys, h)

longer : (xs ys all : List Bytes) → all ≡ xs ++ ys → 0 < length ys → length xs < length all
longer xs ys all e h = subst (λ zs. length xs < length zs) (sym e) (omega (arith, length-append xs ys, h))

-- ---- the sections of a packet

pub open-gives : (here : Bytes) (c : Counts) (n : ℕ) → length here ≤ PACKET_LENGTH → no_section_in here ≡ false → as_grown here ≡ Whole n → 0 < length (open_all here c).out
open-gives here c n h e g =
    subst (λ (a : After). 0 < length a.out) (sym (whole_step here c n h e g)) (more_left (take n here ∷ []) (open_all (drop n here) c).out (omega arith))

-- ---- a packet

pub takes_gives : (s t : Receiving) (p : Fields) (jumped : Bool) (kept : Option Bytes) (c : Counts) → s ≡ t → jumps_from p.counter t.last ≡ jumped
    → kept ≡ kept_unless jumped s.opened → c ≡ with_packet jumped s.counts → HasOut (done_by p.start kept p.payload c) → Completes (takes (one_more t) p)
takes_gives s t p jumped kept c is j k w g =
    let a : After = done_by p.start kept p.payload c in
    let done : HasDone a a.opened [] a.out a.counts = record { opened = refl; out = refl; counted = refl } in
    let gives = takes_done s t p jumped (Some (p.counter, p.payload)) kept c [] a.opened a.opened a.out a.counts is j refl k w refl done in
    record { some = subst (λ (out : List Bytes). 0 < length out) gives.out g.some }

pub step_completes : (d : DemuxState) (r : Receiving) (u x : Bytes) → with_unfinished r u ≡ d → Completes (step r x)
    → (packets : List Bytes) → StandsFor d packets → length (candidates d.pid packets) < length (candidates d.pid (packets ++ x ∷ []))
step_completes d r u x v g =
    subst (λ (y : DemuxState). (packets : List Bytes) → StandsFor y packets → length (candidates y.pid packets) < length (candidates y.pid (packets ++ x ∷ []))) v
    (λ packets h. longer (candidates r.pid packets) (step r x).1 (candidates r.pid (packets ++ x ∷ [])) (cuts_step r packets x h.received) g.some)

-- what the answer to one packet says of all packets so far
pub record Fed {E : Type 0} (d : DemuxState) (t : Receiving) (u x : Bytes) (r : Result (Vec (Vec ℕ Global) Global) E) : Type 0 where
  pub stands : OnOk r ((packets : List Bytes) → StandsFor d packets → StandsFor (with_unfinished t u) (packets ++ x ∷ []))
  pub pid : OnOk r (t.pid ≡ d.pid)
  pub short : OnOk r (t.counts.short_tail ≡ d.counts.short_tail)
  pub cuts : IfOk r (λ out. (packets : List Bytes) → StandsFor d packets → candidates d.pid (packets ++ x ∷ []) ≡ candidates d.pid packets ++ map view_bytes out.items)
  pub completes : OnErr r ((packets : List Bytes) → StandsFor d packets → length (candidates d.pid packets) < length (candidates d.pid (packets ++ x ∷ [])))

pub fed : {E : Type 0} (d : DemuxState) (s t : Receiving) (u x : Bytes) (r : Result (Vec (Vec ℕ Global) Global) E) → with_unfinished s u ≡ d
    → IfOk r (λ out. Gives (step s x) t [] (map view_bytes out.items)) → OnErr r (Completes (step s x)) → Fed d t u x r
fed d s t u x (Ok out) v g m = record {
  stands = feed_stands d s t u x [] (map view_bytes out.items) v refl g;
  pid = feed_pid d s t u x [] (map view_bytes out.items) v g;
  short = feed_short d s t u x [] (map view_bytes out.items) v g;
  cuts = feed_cuts d s t u x [] (map view_bytes out.items) v refl g;
  completes = tt;
}
fed d s t u x (Err e) v g m = record { stands = tt; pid = tt; short = tt; cuts = tt; completes = step_completes d s u x v m }

-- ---- packets one after another

pub first_gives : (s : Receiving) (x : Bytes) (xs : List Bytes) → Completes (step s x) → 0 < length (outputs s (x ∷ xs))
first_gives s x xs g = more_left (step s x).1 (outputs (step s x).0 xs) g.some

pub later_gives : (s t : Receiving) (x : Bytes) (xs before mid : List Bytes) → Gives (step s x) t before mid → 0 < length (outputs t xs) → 0 < length (outputs s (x ∷ xs))
later_gives s t x xs before mid m g = more_right (step s x).1 (outputs (step s x).0 xs) (subst (λ y. 0 < length (outputs y xs)) (sym m.state) g)

-- the packet at the front of some bytes
first_packet : (rest packet behind : Bytes) → PACKET_LENGTH ≤ length rest → packet ≡ take PACKET_LENGTH rest → behind ≡ drop PACKET_LENGTH rest → packet ∷ packets_of behind ≡ packets_of rest
first_packet rest packet behind h p b =
    ap (λ x. x ∷ packets_of behind) p ∙ ap (λ x. take PACKET_LENGTH rest ∷ packets_of x) b ∙ sym (packets_some rest h)

pub chunk_gives : (s : Receiving) (rest packet : Bytes) → PACKET_LENGTH ≤ length rest → packet ≡ take PACKET_LENGTH rest → Completes (step s packet) → 0 < length (outputs s (packets_of rest))
chunk_gives s rest packet h p g =
    subst (λ ps. 0 < length (outputs s ps)) (first_packet rest packet (drop PACKET_LENGTH rest) h p refl) (first_gives s packet (packets_of (drop PACKET_LENGTH rest)) g)

pub chunk_later : (s t : Receiving) (rest packet behind : Bytes) (before mid : List Bytes) → PACKET_LENGTH ≤ length rest → packet ≡ take PACKET_LENGTH rest → behind ≡ drop PACKET_LENGTH rest
    → Gives (step s packet) t before mid → 0 < length (outputs t (packets_of behind)) → 0 < length (outputs s (packets_of rest))
chunk_later s t rest packet behind before mid h p b m g =
    subst (λ ps. 0 < length (outputs s ps)) (first_packet rest packet behind h p b) (later_gives s t packet (packets_of behind) before mid m g)

pub piece_completes : (d : DemuxState) (r s : Receiving) (u first front behind piece : Bytes) (n : ℕ) → with_unfinished r u ≡ d → s ≡ r
    → length u + n ≡ PACKET_LENGTH → n ≤ length piece → front ≡ take n piece → behind ≡ drop n piece → first ≡ u ++ front
    → 0 < length (outputs s (first ∷ packets_of behind))
    → (bytes : Bytes) → StandsForBytes d bytes → length (candidates d.pid (packets_of bytes)) < length (candidates d.pid (packets_of (bytes ++ piece)))
piece_completes d r s u first front behind piece n v c size long f b p g =
    let packets : List Bytes = (u ++ front) ∷ packets_of behind in
    let after : DemuxState = with_unfinished (after_all r packets) (rest_of behind) in
    let more : 0 < length (outputs r packets) =
    subst (λ x. 0 < length (outputs r (x ∷ packets_of behind))) p (subst (λ y. 0 < length (outputs y (first ∷ packets_of behind))) c g) in
    subst (λ (y : DemuxState). (bytes : Bytes) → StandsForBytes y bytes → length (candidates y.pid (packets_of bytes)) < length (candidates y.pid (packets_of (bytes ++ piece)))) v
    (λ bytes h. longer (candidates r.pid (packets_of bytes)) (outputs r packets) (candidates r.pid (packets_of (bytes ++ piece)))
    (ends_cut (with_unfinished r u) after piece packets (outputs r packets) (record { state = refl; out = refl }) (ends_some (with_unfinished r u) piece front behind n size long f b) bytes h)
    more)
