-- The packets of bytes, and the bytes after them, when more bytes come.
use Rattle.std.proofs.Common.{◌≡◌, ℕ, zero, suc, ◌+◌, ◌<◌, ◌≤◌, nat_le, Bool, true, false, List, [], ◌∷◌, ◌++◌, length, take, drop, if◌then◌else◌, refl, sym, ◌∙◌, ap, subst, arith, append_assoc, length-append, length-drop}
use Rattle.std.proofs.lemmas.Bool.{lt-leb, le-leb, leb-true}
use Rattle.std.proofs.lemmas.List.{take-append-le, drop-append-le, take-append-drop, length-take-le}
use Rattle.std.proofs.Math.Seq.{take-append_seam, drop-append_seam}
use Rattle.carousel_profile.specs.declared.TheConstants.{PACKET_LENGTH}
use Rattle.section_stream.specs.Cuts.{Bytes, candidates}
use Rattle.section_stream.specs.Rules.{Receiving, DemuxState, HasReceived, as_receiving, step}
use Rattle.section_stream.specs.Inner.Rules.{HasRun}
use Rattle.section_stream.specs.Inner.Steps.{Gives}
use Rattle.section_stream.specs.Inner.Kept.{with_unfinished}
use Rattle.section_stream.specs.Pieces.{packets_in, packets_of, rest_in, rest_of, StandsForBytes}
use Rattle.section_stream.proofs.Feeding.{received_run, cuts_run, pid_run, short_run, run_none, run_more}

-- both, by the outcome of the test
abbrev packets_by : ℕ → Bytes → Bool → List Bytes
packets_by steps bytes t = if t then take PACKET_LENGTH bytes ∷ packets_in steps (drop PACKET_LENGTH bytes) else []

abbrev rest_by : ℕ → Bytes → Bool → Bytes
rest_by steps bytes t = if t then rest_in steps (drop PACKET_LENGTH bytes) else bytes

-- too few bytes for a packet
none_in : (steps : ℕ) (bytes : Bytes) → length bytes < PACKET_LENGTH → (packets_in steps bytes ≡ []) × (rest_in steps bytes ≡ bytes)
none_in zero bytes h = (refl, refl)
none_in (suc steps) bytes h = let t : nat_le PACKET_LENGTH (length bytes) ≡ false = lt-leb PACKET_LENGTH (length bytes) h in (ap (packets_by steps bytes) t, ap (rest_by steps bytes) t)

pub packets_none : (bytes : Bytes) → length bytes < PACKET_LENGTH → packets_of bytes ≡ []
packets_none bytes h = (none_in (length bytes) bytes h).0

pub rest_none : (bytes : Bytes) → length bytes < PACKET_LENGTH → rest_of bytes ≡ bytes
rest_none bytes h = (none_in (length bytes) bytes h).1

some_in : (steps : ℕ) (bytes : Bytes) → PACKET_LENGTH ≤ length bytes → (packets_in (suc steps) bytes ≡ take PACKET_LENGTH bytes ∷ packets_in steps (drop PACKET_LENGTH bytes)) × (rest_in (suc steps) bytes ≡ rest_in steps (drop PACKET_LENGTH bytes))
some_in steps bytes h = let t : nat_le PACKET_LENGTH (length bytes) ≡ true = le-leb PACKET_LENGTH (length bytes) h in (ap (packets_by steps bytes) t, ap (rest_by steps bytes) t)

-- enough steps give the same
abbrev Same : ℕ → ℕ → Bytes → Type 0
Same m n bytes = (packets_in m bytes ≡ packets_in n bytes) × (rest_in m bytes ≡ rest_in n bytes)

same_steps : (m n : ℕ) (bytes : Bytes) → length bytes ≤ m → length bytes ≤ n → Same m n bytes
same_steps zero n bytes h k = let none = none_in n bytes (omega arith) in (sym none.0, sym none.1)
same_steps (suc m) zero bytes h k = none_in (suc m) bytes (omega arith)
same_steps (suc m) (suc n) bytes h k = go (λ a b. same_steps m n (drop PACKET_LENGTH bytes) a b) (nat_le PACKET_LENGTH (length bytes)) refl where
  by : Bool → Type 0
  by t = (packets_by m bytes t ≡ packets_by n bytes t) × (rest_by m bytes t ≡ rest_by n bytes t)

  go : (length (drop PACKET_LENGTH bytes) ≤ m → length (drop PACKET_LENGTH bytes) ≤ n → Same m n (drop PACKET_LENGTH bytes)) → (t : Bool) → nat_le PACKET_LENGTH (length bytes) ≡ t → by (nat_le PACKET_LENGTH (length bytes))
  go next false t = subst by (sym t) (refl, refl)
  go next true t =
      let i : PACKET_LENGTH ≤ length bytes = leb-true PACKET_LENGTH (length bytes) t in
      let rest = next (omega (arith, length-drop PACKET_LENGTH bytes, i, h)) (omega (arith, length-drop PACKET_LENGTH bytes, i, k)) in
      subst by (sym t) (ap (λ ps. take PACKET_LENGTH bytes ∷ ps) rest.0, rest.1)

pub packets_some : (bytes : Bytes) → PACKET_LENGTH ≤ length bytes → packets_of bytes ≡ take PACKET_LENGTH bytes ∷ packets_of (drop PACKET_LENGTH bytes)
packets_some bytes h =
    (same_steps (length bytes) (suc (length bytes)) bytes (omega arith) (omega arith)).0 ∙ (some_in (length bytes) bytes h).0
    ∙ ap (λ ps. take PACKET_LENGTH bytes ∷ ps) (same_steps (length bytes) (length (drop PACKET_LENGTH bytes)) (drop PACKET_LENGTH bytes) (omega (arith, length-drop PACKET_LENGTH bytes)) (omega arith)).0

pub rest_some : (bytes : Bytes) → PACKET_LENGTH ≤ length bytes → rest_of bytes ≡ rest_of (drop PACKET_LENGTH bytes)
rest_some bytes h =
    (same_steps (length bytes) (suc (length bytes)) bytes (omega arith) (omega arith)).1 ∙ (some_in (length bytes) bytes h).1
    ∙ (same_steps (length bytes) (length (drop PACKET_LENGTH bytes)) (drop PACKET_LENGTH bytes) (omega (arith, length-drop PACKET_LENGTH bytes)) (omega arith)).1

-- ---- more bytes

abbrev Goes : Bytes → Bytes → List Bytes → Bytes → Type 0
Goes a b packets rest = (packets_of (a ++ b) ≡ packets ++ packets_of (rest ++ b)) × (rest_of (a ++ b) ≡ rest_of (rest ++ b))

goes_on : (steps : ℕ) (a b : Bytes) → Goes a b (packets_in steps a) (rest_in steps a)
goes_on zero a b = (refl, refl)
goes_on (suc steps) a b = go (goes_on steps (drop PACKET_LENGTH a) b) (nat_le PACKET_LENGTH (length a)) refl where
  go : Goes (drop PACKET_LENGTH a) b (packets_in steps (drop PACKET_LENGTH a)) (rest_in steps (drop PACKET_LENGTH a)) → (t : Bool) → nat_le PACKET_LENGTH (length a) ≡ t
      → Goes a b (packets_by steps a (nat_le PACKET_LENGTH (length a))) (rest_by steps a (nat_le PACKET_LENGTH (length a)))
  go next false t = subst (λ x. Goes a b (packets_by steps a x) (rest_by steps a x)) (sym t) (refl, refl)
  go next true t =
      let i : PACKET_LENGTH ≤ length a = leb-true PACKET_LENGTH (length a) t in
      let long : PACKET_LENGTH ≤ length (a ++ b) = omega (arith, length-append a b, i) in
      let front : take PACKET_LENGTH (a ++ b) ≡ take PACKET_LENGTH a = take-append-le PACKET_LENGTH a b i in
      let behind : drop PACKET_LENGTH (a ++ b) ≡ drop PACKET_LENGTH a ++ b = drop-append-le PACKET_LENGTH a b i in
      subst (λ x. Goes a b (packets_by steps a x) (rest_by steps a x)) (sym t) (
        packets_some (a ++ b) long ∙ ap (λ p. p ∷ packets_of (drop PACKET_LENGTH (a ++ b))) front ∙ ap (λ r. take PACKET_LENGTH a ∷ packets_of r) behind ∙ ap (λ ps. take PACKET_LENGTH a ∷ ps) next.0,
        rest_some (a ++ b) long ∙ ap rest_of behind ∙ next.1,
      )

-- the packet that two pieces make, and what stands after it
pub packet_first : (p behind : Bytes) → length p ≡ PACKET_LENGTH → packets_of (p ++ behind) ≡ p ∷ packets_of behind
packet_first p behind h =
    let long : PACKET_LENGTH ≤ length (p ++ behind) = omega (arith, length-append p behind, h) in
    packets_some (p ++ behind) long
    ∙ ap (λ n. take n (p ++ behind) ∷ packets_of (drop n (p ++ behind))) (sym h)
    ∙ ap (λ x. x ∷ packets_of (drop (length p) (p ++ behind))) (take-append_seam p behind) ∙ ap (λ x. p ∷ packets_of x) (drop-append_seam p behind)

pub rest_first : (p behind : Bytes) → length p ≡ PACKET_LENGTH → rest_of (p ++ behind) ≡ rest_of behind
rest_first p behind h =
    let long : PACKET_LENGTH ≤ length (p ++ behind) = omega (arith, length-append p behind, h) in
    rest_some (p ++ behind) long ∙ ap (λ n. rest_of (drop n (p ++ behind))) (sym h) ∙ ap rest_of (drop-append_seam p behind)

-- ---- what a piece does

-- the packets that end in a piece
abbrev Ends : DemuxState → Bytes → List Bytes → Bytes → Type 0
Ends d piece packets rest = (packets_of (d.unfinished ++ piece) ≡ packets) × (rest_of (d.unfinished ++ piece) ≡ rest)

ends_stand : (d e : DemuxState) (piece : Bytes) (packets out : List Bytes) → HasRun (as_receiving d) (as_receiving e) packets [] out → Ends d piece packets e.unfinished
    → (bytes : Bytes) → StandsForBytes d bytes → StandsForBytes e (bytes ++ piece)
ends_stand d e piece packets out r ends bytes h =
    let goes = goes_on (length bytes) bytes piece in
    let all : packets_of (bytes ++ piece) ≡ packets_of bytes ++ packets = goes.0 ∙ ap (λ u. packets_of bytes ++ packets_of (u ++ piece)) (sym h.unfinished) ∙ ap (λ ps. packets_of bytes ++ ps) ends.0 in
    record {
      received = subst (λ ps. HasReceived (as_receiving e) ps) (sym all) (received_run (as_receiving d) (as_receiving e) packets [] out r (packets_of bytes) h.received);
      unfinished = sym (goes.1 ∙ ap (λ u. rest_of (u ++ piece)) (sym h.unfinished) ∙ ends.1);
    }

pub ends_cut : (d e : DemuxState) (piece : Bytes) (packets out : List Bytes) → HasRun (as_receiving d) (as_receiving e) packets [] out → Ends d piece packets e.unfinished
    → (bytes : Bytes) → StandsForBytes d bytes → candidates d.pid (packets_of (bytes ++ piece)) ≡ candidates d.pid (packets_of bytes) ++ out
ends_cut d e piece packets out r ends bytes h =
    let goes = goes_on (length bytes) bytes piece in
    let all : packets_of (bytes ++ piece) ≡ packets_of bytes ++ packets = goes.0 ∙ ap (λ u. packets_of bytes ++ packets_of (u ++ piece)) (sym h.unfinished) ∙ ap (λ ps. packets_of bytes ++ ps) ends.0 in
    ap (candidates d.pid) all ∙ cuts_run (as_receiving d) (as_receiving e) packets out r (packets_of bytes) h.received

pub ends_none : (d : DemuxState) (piece : Bytes) → length d.unfinished + length piece < PACKET_LENGTH → Ends d piece [] (d.unfinished ++ piece)
ends_none d piece h = let few : length (d.unfinished ++ piece) < PACKET_LENGTH = omega (arith, length-append d.unfinished piece, h) in (packets_none (d.unfinished ++ piece) few, rest_none (d.unfinished ++ piece) few)

pub ends_some : (d : DemuxState) (piece front behind : Bytes) (n : ℕ) → length d.unfinished + n ≡ PACKET_LENGTH → n ≤ length piece → front ≡ take n piece → behind ≡ drop n piece
    → Ends d piece ((d.unfinished ++ front) ∷ packets_of behind) (rest_of behind)
ends_some d piece front behind n size long f b =
    let size : length (d.unfinished ++ front) ≡ PACKET_LENGTH = omega (arith, length-append d.unfinished front, ap (λ (x : Bytes). length x) f, length-take-le n piece long, size) in
    let whole : d.unfinished ++ piece ≡ (d.unfinished ++ front) ++ behind =
    ap (λ x. d.unfinished ++ x) (sym (take-append-drop n piece)) ∙ ap (λ x. d.unfinished ++ (x ++ drop n piece)) (sym f) ∙ ap (λ x. d.unfinished ++ (front ++ x)) (sym b) ∙ sym (append_assoc d.unfinished front behind) in
    (ap packets_of whole ∙ packet_first (d.unfinished ++ front) behind size, ap rest_of whole ∙ rest_first (d.unfinished ++ front) behind size)

-- all that is said of a piece
pub record Takes (d e : DemuxState) (piece : Bytes) (out : List Bytes) : Type 0 where
  pub packets : List Bytes
  pub run : HasRun (as_receiving d) (as_receiving e) packets [] out
  pub ends : (packets_of (d.unfinished ++ piece) ≡ packets) × (rest_of (d.unfinished ++ piece) ≡ e.unfinished)

pub takes_stand : (d e : DemuxState) (piece : Bytes) (out : List Bytes) → Takes d e piece out → (bytes : Bytes) → StandsForBytes d bytes → StandsForBytes e (bytes ++ piece)
takes_stand d e piece out t = ends_stand d e piece t.packets out t.run t.ends

pub takes_cut : (d e : DemuxState) (piece : Bytes) (out : List Bytes) → Takes d e piece out → (bytes : Bytes) → StandsForBytes d bytes
    → candidates d.pid (packets_of (bytes ++ piece)) ≡ candidates d.pid (packets_of bytes) ++ out
takes_cut d e piece out t = ends_cut d e piece t.packets out t.run t.ends

-- ---- the whole packets at the front of some bytes

pub chunk_run : (s t u : Receiving) (rest packet behind : Bytes) (before mid after : List Bytes) → PACKET_LENGTH ≤ length rest → packet ≡ take PACKET_LENGTH rest → behind ≡ drop PACKET_LENGTH rest
    → Gives (step s packet) t before mid → HasRun t u (packets_of behind) mid after → HasRun s u (packets_of rest) before after
chunk_run s t u rest packet behind before mid after h p b g r =
    let is : packet ∷ packets_of behind ≡ packets_of rest =
    ap (λ x. x ∷ packets_of behind) p ∙ ap (λ x. take PACKET_LENGTH rest ∷ packets_of x) b ∙ sym (packets_some rest h) in
    subst (λ ps. HasRun s u ps before after) is (run_more s t u packet (packets_of behind) before mid after g r)

pub chunk_rest : (rest behind : Bytes) → PACKET_LENGTH ≤ length rest → behind ≡ drop PACKET_LENGTH rest → rest_of behind ≡ rest_of rest
chunk_rest rest behind h b = ap rest_of b ∙ sym (rest_some rest h)

pub no_chunk : (s : Receiving) (rest : Bytes) (before : List Bytes) → length rest < PACKET_LENGTH → HasRun s s (packets_of rest) before before
no_chunk s rest before h = subst (λ ps. HasRun s s ps before before) (sym (packets_none rest h)) (run_none s before)

-- ---- a piece that ends no packet, and one that does

pub piece_short : (d : DemuxState) (r : Receiving) (u kept piece : Bytes) (out : List Bytes) → with_unfinished r u ≡ d → kept ≡ u ++ piece → length u + length piece < PACKET_LENGTH → out ≡ []
    → Takes d (with_unfinished r kept) piece out
piece_short d r u kept piece out v k h o = subst (λ y. Takes y (with_unfinished r kept) piece out) v
    (record {
      packets = [];
      run = subst (λ x. HasRun r r [] [] x) (sym o) (run_none r []);
      ends = subst (λ x. Ends (with_unfinished r u) piece [] x) (sym k) (ends_none (with_unfinished r u) piece h);
    })

pub piece_taken : (d : DemuxState) (r s t w z : Receiving) (u first front behind rest piece : Bytes) (n : ℕ) (before mid out : List Bytes) → with_unfinished r u ≡ d → s ≡ r → z ≡ w
    → length u + n ≡ PACKET_LENGTH → n ≤ length piece → front ≡ take n piece → behind ≡ drop n piece → first ≡ u ++ front → before ≡ []
    → Gives (step s first) t before mid → HasRun t w (packets_of behind) mid out → rest ≡ rest_of behind
    → Takes d (with_unfinished z rest) piece out
piece_taken d r s t w z u first front behind rest piece n before mid out v c e size long f b p o g run l =
    let one : HasRun s w (first ∷ packets_of behind) before out = run_more s t w first (packets_of behind) before mid out g run in
    let same : HasRun r w (first ∷ packets_of behind) before out = subst (λ y. HasRun y w (first ∷ packets_of behind) before out) c one in
    let all : HasRun r z (first ∷ packets_of behind) [] out =
    subst (λ y. HasRun r y (first ∷ packets_of behind) [] out) (sym e) (subst (λ y. HasRun r w (first ∷ packets_of behind) y out) o same) in
    subst (λ y. Takes y (with_unfinished z rest) piece out) v
    (record {
      packets = (u ++ front) ∷ packets_of behind;
      run = subst (λ x. HasRun r z (x ∷ packets_of behind) [] out) p all;
      ends = subst (λ x. Ends (with_unfinished r u) piece ((u ++ front) ∷ packets_of behind) x) (sym l) (ends_some (with_unfinished r u) piece front behind n size long f b);
    })

pub takes_pid : (d e : DemuxState) (piece : Bytes) (out : List Bytes) → Takes d e piece out → e.pid ≡ d.pid
takes_pid d e piece out t = pid_run (as_receiving d) (as_receiving e) t.packets [] out t.run

pub takes_short : (d e : DemuxState) (piece : Bytes) (out : List Bytes) → Takes d e piece out → e.counts.short_tail ≡ d.counts.short_tail
takes_short d e piece out t = short_run (as_receiving d) (as_receiving e) t.packets [] out t.run
