-- The lines of a PAT: what is read is what the relation says, and the other way round.
use Rattle.std.proofs.Common.{ℕ, suc, ◌≡◌, ◌/◌, ◌%◌, ◌<◌, Bool, true, false, cond, eqb, List, [], ◌∷◌, ◌++◌, length, Option, Some, None, Result, Ok, refl, sym, ap, ◌∙◌, arith, length-append}
use Rattle.std.proofs.lemmas.Bool.{eqb-true, eq-eqb}
use Rattle.std.specs.declared.vec.Vec.{Vec}
use Rattle.std.specs.declared.alloc.Global.{Global}
use Rattle.long_section.specs.declared.Frame.{Frame}
use Rattle.psi_tables.specs.declared.tables.PatLine.{PatLine}
use Rattle.long_section.specs.Frames.{Fields, fields_of, fields_with}
use Rattle.long_section.proofs.CallerLemmas.{AreBytes}
use Rattle.psi_tables.specs.Frames.{header_fault, crc_fault, or_else}
use Rattle.psi_tables.specs.Pats.{PatFields, view_pat, ReadsLine, ReadsLines, ReadsPat, line_of, lines_in, lines_fault, pat_fault, pat_of, read_pat, ok_unless}
use Rattle.psi_tables.proofs.Sections.{section_found, section_again}

line_found : (a b c d : ℕ) → a < 256 → b < 256 → c < 256 → d < 256 → ReadsLine (a ∷ b ∷ c ∷ d ∷ []) (line_of a b c d)
line_found a b c d ha hb hc hd = record {
  reserved = c / 32;
  ranges = (omega arith, omega arith, omega arith);
  whole = same_four a b c d _ _ _ _ (omega arith) (omega arith) (omega arith) (omega arith);
} where
  same_four : (a b c d e f g h : ℕ) → a ≡ e → b ≡ f → c ≡ g → d ≡ h → ◌≡◌ {A = List ℕ} (a ∷ b ∷ c ∷ d ∷ []) (e ∷ f ∷ g ∷ h ∷ [])
  same_four a b c d e f g h p q r s = cc

pub lines_found : (body : List ℕ) → AreBytes body → length body % 4 ≡ 0 → ReadsLines body (lines_in body)
lines_found [] small e = refl
lines_found (a ∷ []) small e = absurd (omega (arith, e))
lines_found (a ∷ b ∷ []) small e = absurd (omega (arith, e))
lines_found (a ∷ b ∷ c ∷ []) small e = absurd (omega (arith, e))
lines_found (a ∷ b ∷ c ∷ d ∷ rest) small e =
    (a ∷ b ∷ c ∷ d ∷ [], rest, refl, line_found a b c d (small 0) (small 1) (small 2) (small 3), lines_found rest (λ i. small (suc (suc (suc (suc i))))) (omega (arith, e)))

same_lines : (p q r s : ℕ) → p ≡ r → q ≡ s → ◌≡◌ {A = PatLine} (record { program = p; pid = q }) (record { program = r; pid = s })
same_lines p q r s e g = cc

line_again : (l : PatLine) (front : List ℕ) (rest : List ℕ) → ReadsLine front l → lines_in (front ++ rest) ≡ l ∷ lines_in rest
line_again l front rest h =
    let r = h.reserved in
    ap (λ (xs : List ℕ). lines_in (xs ++ rest)) h.whole
    ∙ ap (λ (x : PatLine). x ∷ lines_in rest) (same_lines _ _ l.program l.pid (omega (arith, h.ranges)) (omega (arith, h.ranges)))

pub lines_again : (body : List ℕ) (ls : List PatLine) → ReadsLines body ls → (lines_in body ≡ ls) × (length body % 4 ≡ 0)
lines_again body [] h = rw h (refl, refl)
lines_again body (l ∷ ls) h =
    let others = lines_again h.1 ls h.4 in
    let size : length h.0 ≡ 4 = ap length h.3.whole in (
      ap lines_in h.2 ∙ line_again l h.0 h.1 h.3 ∙ ap (λ (xs : List PatLine). l ∷ xs) others.0,
      omega (arith, ap length h.2, length-append h.0 h.1, size, others.1),
    )

none_first : (a b : Option ℕ) → or_else a b ≡ None → (a ≡ None) × (b ≡ None)
none_first (Some x) b e = cc
none_first None b e = (refl, e)

pub both_none : (a b : Option ℕ) → or_else a b ≡ None → (a ≡ None) × (b ≡ None)
both_none = none_first

-- a test of a number that is 0
pub four_fit : (n place : ℕ) → cond {A = Option ℕ} (eqb n 0) None (Some place) ≡ None → n ≡ 0
four_fit n place h = go (eqb n 0) refl h where
  go : (b : Bool) → eqb n 0 ≡ b → cond {A = Option ℕ} b None (Some place) ≡ None → n ≡ 0
  go true e g = eqb-true n 0 e
  go false e g = cc

pub pat_found : (bytes : List ℕ) → AreBytes bytes → AreBytes (fields_of bytes).body → pat_fault bytes ≡ None → ReadsPat bytes (pat_of (fields_of bytes))
pat_found bytes small inside e =
    let header = none_first (header_fault 0x00 bytes) _ e in
    let body = none_first (lines_fault (fields_of bytes).body) (crc_fault bytes) header.1 in
    record {
      last = (fields_of bytes).last;
      body = (fields_of bytes).body;
      section = section_found 0x00 bytes small header.0 body.1;
      lines = lines_found (fields_of bytes).body inside (four_fit _ _ body.0);
    }

-- no fault and these fields
pub record PatAgain (bytes : List ℕ) (p : PatFields) : Type 0 where
  pub faultless : pat_fault bytes ≡ None
  pub value : pat_of (fields_of bytes) ≡ p

abbrev pat_with : ℕ → ℕ → ℕ → List PatLine → PatFields
pat_with stream version number lines = record { stream = stream; version = version; number = number; lines = lines }

pub pat_again : (bytes : List ℕ) (p : PatFields) → ReadsPat bytes p → PatAgain bytes p
pat_again bytes p h =
    let said = section_again 0x00 bytes _ h.section in
    let lines = lines_again h.body p.lines h.lines in
    let body : (fields_of bytes).body ≡ h.body = ap (λ (f : Fields). f.body) said.fields in
    let four : lines_fault (fields_of bytes).body ≡ None = ap lines_fault body ∙ rw (eq-eqb (length h.body % 4) 0 lines.1) refl in
    record {
      faultless = rw (said.header, four, said.right) refl;
      value = ap pat_of said.fields ∙ ap (pat_with p.stream p.version p.number) lines.0;
    }

pub pat_read : (bytes : List ℕ) (p : PatFields) → ReadsPat bytes p → read_pat bytes ≡ Ok p
pat_read bytes p h =
    let a = pat_again bytes p h in
    ap (λ (o : Option ℕ). ok_unless o (pat_of (fields_of bytes))) a.faultless ∙ ap (λ (q : PatFields). okay q) a.value where
      okay : PatFields → Result PatFields ℕ
      okay q = Ok q

-- what the code makes of a frame and its lines is what the fields of the section give
pub pat_is : (frame : Frame) (lines : Vec PatLine Global) (f : Fields) → fields_with frame.header frame.body.now ≡ f → lines.items ≡ lines_in frame.body.now
    → pat_of f ≡ view_pat (record { stream = frame.header.extension; version = frame.header.version; number = frame.header.number; lines = lines })
pat_is frame lines f e g = ap pat_of (sym e) ∙ ap (pat_with frame.header.extension frame.header.version frame.header.number) (sym g)
