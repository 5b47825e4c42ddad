-- The streams of a PMT: what is read is what the relation says, and the other way round.
use Rattle.std.proofs.Common.{ℕ, zero, suc, ◌≡◌, ◌+◌, ◌*◌, ◌/◌, ◌%◌, ◌<◌, ◌≤◌, Bool, true, false, cond, leb, ltb, List, [], ◌∷◌, ◌++◌, length, get_or, map, take, drop, Option, Some, None, Result, Ok, refl, sym, ap, subst, ◌∙◌, arith, length-append, length-drop, take-append-drop}
use Rattle.std.proofs.Math.Seq.{drop-cons}
use Rattle.std.proofs.lemmas.Bool.{ltb-false, le-ltb, leb-true, le-leb}
use Rattle.std.proofs.lemmas.List.{length-take-le, take_at, drop_at, drop-drop, get_or-drop, nil_from_length}
use Rattle.std.proofs.lemmas.Option.{same_Some}
use Rattle.std.specs.declared.vec.Vec.{Vec}
use Rattle.std.specs.declared.alloc.Global.{Global}
use Rattle.oc_bytes.specs.Numbers.{two_bytes}
use Rattle.psi_tables.specs.declared.tables.PmtLine.{PmtLine}
use Rattle.long_section.specs.declared.Frame.{Frame}
use Rattle.long_section.specs.Frames.{Fields, fields_of, fields_with}
use Rattle.long_section.proofs.CallerLemmas.{AreBytes}
use Rattle.oc_bytes.specs.Descriptors.{run, onto_run}
use Rattle.psi_tables.specs.Frames.{header_fault, crc_fault}
use Rattle.psi_tables.specs.Pats.{ok_unless}
use Rattle.psi_tables.specs.Pmts.{Stream, next_stream, ReadsStream, ReadsStreams, ReadsBody, ReadsPmt, PmtFields, LineFields, lines_of, info_length, stream_bytes, streams_run, left_fault, body_fault, pmt_fault, pmt_of, read_pmt, view_pmt, view_line}
use Rattle.psi_tables.proofs.Runs.{stream_shortens}
use Rattle.psi_tables.proofs.Sections.{section_found, section_again}
use Rattle.psi_tables.proofs.Lines.{both_none, four_fit}

-- ---- one stream

abbrev made : (k a b c d : ℕ) → List ℕ → Stream
made k a b c d info = record { kind = k; pid = a % 32 * 256 + b; info = info }

same_five : (k a b c d e f g h : ℕ) (xs ys : List ℕ) → a ≡ e → b ≡ f → c ≡ g → d ≡ h → xs ≡ ys → ◌≡◌ {A = List ℕ} (k ∷ a ∷ b ∷ c ∷ d ∷ xs) (k ∷ e ∷ f ∷ g ∷ h ∷ ys)
same_five k a b c d e f g h xs ys p q r s t = cc

reads_made : (k a b c d : ℕ) (info : List ℕ) → k < 256 → a < 256 → b < 256 → c < 256 → d < 256 → length info ≡ c % 16 * 256 + d → ReadsStream (k ∷ a ∷ b ∷ c ∷ d ∷ info) (made k a b c d info)
reads_made k a b c d info hk ha hb hc hd size = record {
  reserved = a / 32;
  info_reserved = c / 16;
  ranges = (hk, omega arith, omega (arith, size), omega arith, omega arith);
  whole = same_five k a b c d _ _ _ _ info info (omega arith) (omega arith) (omega (arith, size)) (omega (arith, size)) refl;
}

-- the stream at the front of these bytes
pub record AtFront (bytes : List ℕ) (s : Stream) (after : List ℕ) : Type 0 where
  pub front : List ℕ
  pub parts : bytes ≡ front ++ after
  pub reads : ReadsStream front s

pub next_found : (bytes : List ℕ) (s : Stream) (after : List ℕ) → AreBytes bytes → next_stream bytes ≡ Some (s, after) → AtFront bytes s after
next_found [] s after small e = cc
next_found (k ∷ []) s after small e = cc
next_found (k ∷ a ∷ []) s after small e = cc
next_found (k ∷ a ∷ b ∷ []) s after small e = cc
next_found (k ∷ a ∷ b ∷ c ∷ []) s after small e = cc
next_found (k ∷ a ∷ b ∷ c ∷ d ∷ rest) s after small e = go (leb n (length rest)) refl e where
  n : ℕ
  n = c % 16 * 256 + d

  whole : leb n (length rest) ≡ true → AtFront (k ∷ a ∷ b ∷ c ∷ d ∷ rest) (made k a b c d (take n rest)) (drop n rest)
  whole h = record {
    front = k ∷ a ∷ b ∷ c ∷ d ∷ take n rest;
    parts = ap (λ (xs : List ℕ). k ∷ a ∷ b ∷ c ∷ d ∷ xs) (sym (take-append-drop n rest));
    reads = reads_made k a b c d (take n rest) (small 0) (small 1) (small 2) (small 3) (small 4) (length-take-le n rest (leb-true n (length rest) h));
  }

  go : (t : Bool) → leb n (length rest) ≡ t → cond {A = Option (Stream × List ℕ)} t (Some (made k a b c d (take n rest), drop n rest)) None ≡ Some (s, after) → AtFront (k ∷ a ∷ b ∷ c ∷ d ∷ rest) s after
  go true h g = subst (λ (x : Stream × List ℕ). AtFront (k ∷ a ∷ b ∷ c ∷ d ∷ rest) x.0 x.1) (same_Some (made k a b c d (take n rest), drop n rest) (s, after) g) (whole h)
  go false h g = absurd cc

same_stream : (k p q : ℕ) (xs ys : List ℕ) → p ≡ q → xs ≡ ys → ◌≡◌ {A = Stream} (record { kind = k; pid = p; info = xs }) (record { kind = k; pid = q; info = ys })
same_stream k p q xs ys e g = cc

pub next_again : (front : List ℕ) (s : Stream) (rest : List ℕ) → ReadsStream front s → next_stream (front ++ rest) ≡ Some (s, rest)
next_again front s rest h =
    let r = 8192 * h.reserved + s.pid in
    let i = 4096 * h.info_reserved + length s.info in
    let n : ℕ = (i / 256 % 256) % 16 * 256 + i % 256 in
    let size : n ≡ length s.info = omega (arith, h.ranges) in
    let inside : leb n (length (s.info ++ rest)) ≡ true = le-leb _ _ (omega (arith, size, length-append s.info rest)) in
    let pid : (r / 256 % 256) % 32 * 256 + r % 256 ≡ s.pid = omega (arith, h.ranges) in
    ap (λ (xs : List ℕ). next_stream (xs ++ rest)) h.whole
    ∙ rw inside (both s.kind _ _ _ _ _ _ pid (take_at s.info rest n (sym size)) (drop_at s.info rest n (sym size))) where
      both : (k p q : ℕ) (xs ys us vs : List ℕ) → p ≡ q → xs ≡ ys → us ≡ vs → ◌≡◌ {A = Option (Stream × List ℕ)} (Some (record { kind = k; pid = p; info = xs }, us)) (Some (record { kind = k; pid = q; info = ys }, vs))
      both k p q xs ys us vs e f g = cc

-- ---- streams one after another

append_bytes : (front rest : List ℕ) → AreBytes (front ++ rest) → AreBytes rest
append_bytes [] rest h = h
append_bytes (b ∷ front) rest h = append_bytes front rest (λ k. h (suc k))

streams_found : (steps : ℕ) (bytes : List ℕ) → AreBytes bytes → (run next_stream steps bytes).1 ≡ [] → ReadsStreams bytes (run next_stream steps bytes).0
streams_found zero bytes small e = e
streams_found (suc steps) bytes small e = go (next_stream bytes) refl e (λ after. streams_found steps after) where
  go : (o : Option (Stream × List ℕ)) → next_stream bytes ≡ o → (onto_run (run next_stream steps) bytes o).1 ≡ []
      → ((after : List ℕ) → AreBytes after → (run next_stream steps after).1 ≡ [] → ReadsStreams after (run next_stream steps after).0)
      → ReadsStreams bytes (onto_run (run next_stream steps) bytes o).0
  go None g left others = left
  go (Some x) g left others =
      let at = next_found bytes x.0 x.1 small g in
      (at.front, x.1, at.parts, at.reads, others x.1 (append_bytes at.front x.1 (subst AreBytes at.parts small)) left)

streams_again : (steps : ℕ) (bytes : List ℕ) (ss : List Stream) → length bytes ≤ steps → ReadsStreams bytes ss → run next_stream steps bytes ≡ (ss, [])
streams_again zero bytes [] le h = ap (λ (xs : List ℕ). ([], xs)) h
streams_again (suc steps) bytes [] le h = ap (run next_stream (suc steps)) h
streams_again zero bytes (s ∷ ss) le h =
    let e = ap (λ (xs : List ℕ). next_stream xs) h.2 ∙ next_again h.0 s h.1 h.3 in
    absurd (omega (arith, le, stream_shortens bytes s h.1 e))
streams_again (suc steps) bytes (s ∷ ss) le h =
    let e = ap (λ (xs : List ℕ). next_stream xs) h.2 ∙ next_again h.0 s h.1 h.3 in
    let others = streams_again steps h.1 ss (omega (arith, le, stream_shortens bytes s h.1 e)) h.4 in
    let one : run next_stream (suc steps) bytes ≡ (s ∷ (run next_stream steps h.1).0, (run next_stream steps h.1).1) = rw e refl in
    one ∙ ap (λ (r : List Stream × List ℕ). (s ∷ r.0, r.1)) others

-- ---- the body

one_off : (xs : List ℕ) (i : ℕ) → i < length xs → drop i xs ≡ get_or xs i 0 ∷ drop (suc i) xs
one_off xs i h = drop-cons xs i 0 h

four : (xs : List ℕ) → 4 ≤ length xs → xs ≡ get_or xs 0 0 ∷ get_or xs 1 0 ∷ get_or xs 2 0 ∷ get_or xs 3 0 ∷ drop 4 xs
four xs h = one_off xs 0 (omega arith)
    ∙ ap (λ t. get_or xs 0 0 ∷ t) (one_off xs 1 (omega arith)
    ∙ ap (λ t. get_or xs 1 0 ∷ t) (one_off xs 2 (omega arith)
    ∙ ap (λ t. get_or xs 2 0 ∷ t) (one_off xs 3 (omega arith))))

same_front : (a b c d e f g h : ℕ) (xs ys : List ℕ) → a ≡ e → b ≡ f → c ≡ g → d ≡ h → xs ≡ ys → ◌≡◌ {A = List ℕ} (a ∷ b ∷ c ∷ d ∷ xs) (e ∷ f ∷ g ∷ h ∷ ys)
same_front a b c d e f g h xs ys p q r s t = cc

no_fault : (b : Bool) (place : ℕ) (o : Option ℕ) → cond b (Some place) o ≡ None → (b ≡ false) × (o ≡ None)
no_fault true place o h = cc
no_fault false place o h = (refl, h)

nothing_left : (size : ℕ) (left : List ℕ) → left_fault size left ≡ None → left ≡ []
nothing_left size left e = nil_from_length left (four_fit (length left) _ e)

body_found : (body : List ℕ) → AreBytes body → body_fault body ≡ None → ReadsBody body (streams_run (stream_bytes body)).0
body_found body small e =
    let n = info_length body in
    let first = no_fault (ltb (length body) 2) 8 _ e in
    let second = no_fault (ltb (length body) 4) 10 _ first.1 in
    let third = no_fault (ltb (length body) (4 + n)) 12 (left_fault (length body) (streams_run (stream_bytes body)).1) second.1 in
    let long : 4 ≤ length body = ltb-false _ _ second.0 in
    let fits : 4 + n ≤ length body = ltb-false _ _ third.0 in
    let info = take n (drop 4 body) in
    let size : length info ≡ n = length-take-le n (drop 4 body) (omega (arith, fits, length-drop 4 body)) in
    let rest : List ℕ = drop n (drop 4 body) in
    let same : rest ≡ stream_bytes body = drop-drop n 4 body in
    let inside : AreBytes (stream_bytes body) = λ i. simp get_or-drop (small _) in
    record {
      clock = get_or body 0 0 * 256 + get_or body 1 0;
      info_reserved = get_or body 2 0 / 16;
      info = info;
      rest = stream_bytes body;
      ranges = (omega (arith, small 0, small 1), omega (arith, small 2), omega (arith, size, small 3));
      whole = four body long ∙ same_front _ _ _ _ _ _ _ _ _ _ (omega (arith, small 0, small 1)) (omega (arith, small 0, small 1)) (omega (arith, size, small 2, small 3)) (omega (arith, size, small 2, small 3))
          (sym (take-append-drop n (drop 4 body)) ∙ ap (λ (xs : List ℕ). info ++ xs) same);
      each = streams_found (length (stream_bytes body)) (stream_bytes body) inside (nothing_left (length body) (streams_run (stream_bytes body)).1 third.1);
    }

-- what a body says
record BodyAgain (body : List ℕ) (streams : List Stream) : Type 0 where
  faultless : body_fault body ≡ None
  value : (streams_run (stream_bytes body)).0 ≡ streams

body_again : (body : List ℕ) (streams : List Stream) → ReadsBody body streams → BodyAgain body streams
body_again body streams h = subst (λ (b : List ℕ). BodyAgain b streams) (sym h.whole) (spelled h.clock h.info_reserved h.info h.rest h.ranges.1 h.ranges.2 h.each) where
  spelled : (clock reserved : ℕ) (info rest : List ℕ) → reserved < 16 → length info < 4096 → ReadsStreams rest streams
      → BodyAgain (two_bytes clock ++ two_bytes (4096 * reserved + length info) ++ info ++ rest) streams
  spelled clock reserved info rest hr hi each =
      let body : List ℕ = two_bytes clock ++ two_bytes (4096 * reserved + length info) ++ info ++ rest in
      let n = info_length body in
      let size : n ≡ length info = omega (arith, hr, hi) in
      let sizes : length body ≡ 4 + (length info + length rest) = omega (arith, length-append info rest) in
      let streams_are : stream_bytes body ≡ rest = sym (drop-drop n 4 body) ∙ drop_at info rest n (sym size) in
      let all : streams_run (stream_bytes body) ≡ (streams, []) = ap streams_run streams_are ∙ streams_again (length rest) rest streams (omega arith) each in
      let left : left_fault (length body) (streams_run (stream_bytes body)).1 ≡ None = ap (λ (r : List Stream × List ℕ). left_fault (length body) r.1) all in
      let two : ltb (length body) 2 ≡ false = le-ltb _ _ (omega (arith, sizes)) in
      let four : ltb (length body) 4 ≡ false = le-ltb _ _ (omega (arith, sizes)) in
      let fits : ltb (length body) (4 + n) ≡ false = le-ltb _ _ (omega (arith, sizes, size)) in
      record {
        faultless = go_on (ltb (length body) 2) 8 _ two (go_on (ltb (length body) 4) 10 _ four (go_on (ltb (length body) (4 + n)) 12 _ fits left));
        value = ap (λ (r : List Stream × List ℕ). r.0) all;
      } where
        go_on : (b : Bool) (place : ℕ) (o : Option ℕ) → b ≡ false → o ≡ None → cond b (Some place) o ≡ None
        go_on true place o h g = cc
        go_on false place o h g = g

-- ---- the section

pub pmt_found : (bytes : List ℕ) → AreBytes bytes → AreBytes (fields_of bytes).body → pmt_fault bytes ≡ None → ReadsPmt bytes (pmt_of (fields_of bytes))
pmt_found bytes small inside e =
    let header = both_none (header_fault 0x02 bytes) _ e in
    let body = both_none (body_fault (fields_of bytes).body) (crc_fault bytes) header.1 in
    record {
      fields = fields_of bytes;
      streams = (streams_run (stream_bytes (fields_of bytes).body)).0;
      section = section_found 0x02 bytes small header.0 body.1;
      body = body_found (fields_of bytes).body inside body.0;
      program = refl;
      lines = refl;
    }

-- no fault and these fields
pub record PmtAgain (bytes : List ℕ) (p : PmtFields) : Type 0 where
  pub faultless : pmt_fault bytes ≡ None
  pub value : pmt_of (fields_of bytes) ≡ p

same_pmt : (p q : ℕ) (ls ms : List LineFields) → p ≡ q → ls ≡ ms → ◌≡◌ {A = PmtFields} (record { program = p; lines = ls }) (record { program = q; lines = ms })
same_pmt p q ls ms e g = cc

pub pmt_again : (bytes : List ℕ) (p : PmtFields) → ReadsPmt bytes p → PmtAgain bytes p
pmt_again bytes p h =
    let said = section_again 0x02 bytes h.fields h.section in
    let body = body_again h.fields.body h.streams h.body in
    let same : (fields_of bytes).body ≡ h.fields.body = ap (λ (f : Fields). f.body) said.fields in
    let fits : body_fault (fields_of bytes).body ≡ None = ap body_fault same ∙ body.faultless in
    record {
      faultless = rw (said.header, fits, said.right) refl;
      value = ap pmt_of said.fields ∙ same_pmt h.fields.extension p.program _ p.lines (sym h.program) (ap lines_of body.value ∙ sym h.lines);
    }

pub pmt_read : (bytes : List ℕ) (p : PmtFields) → ReadsPmt bytes p → read_pmt bytes ≡ Ok p
pmt_read bytes p h =
    let a = pmt_again bytes p h in
    ap (λ (o : Option ℕ). ok_unless o (pmt_of (fields_of bytes))) a.faultless ∙ ap okay a.value where
      okay : PmtFields → Result PmtFields ℕ
      okay q = Ok q

-- what the code makes of a frame and its lines is what the fields of the section give
pub pmt_is : (frame : Frame) (lines : Vec PmtLine Global) (streams : List ℕ) (f : Fields) → fields_with frame.header frame.body.now ≡ f → streams ≡ stream_bytes f.body → map view_line lines.items ≡ lines_of (streams_run streams).0
    → pmt_of f ≡ view_pmt (record { program = frame.header.extension; lines = lines })
pmt_is frame lines streams f e s g =
    same_pmt f.extension frame.header.extension _ _ (sym (ap (λ (x : Fields). x.extension) e)) (ap (λ (xs : List ℕ). lines_of (streams_run xs).0) (sym s) ∙ sym g)
