-- A section whose fields have no fault is a section of the table, and the other way round.
use Rattle.std.proofs.Common.{ℕ, ◌≡◌, ◌≢◌, ◌-◌, ◌≤◌, Bool, true, false, cond, eqb, ltb, List, length, Option, Some, None, refl, arith, lit≤}
use Rattle.std.proofs.lemmas.Bool.{ltb-false, leb-true, eqb-true, eqb-false, not-false, le-ltb, le-leb, ne_eqb, eq-eqb, or_parts, or_from, and_parts, and_from, not_from_true}
use Rattle.section_crc.specs.Crc.{crc_of}
use Rattle.long_section.specs.Frames.{Fields, IsFrame, fields_of}
use Rattle.long_section.proofs.CallerLemmas.{AreBytes, Passes, is_frame, frame_passes, frame_fields}
use Rattle.psi_tables.specs.Frames.{header_fault, crc_fault, other_table, wrong_length, not_current}

no_fault : (b : Bool) (place : ℕ) (o : Option ℕ) → cond b (Some place) o ≡ None → (b ≡ false) × (o ≡ None)
no_fault true place o h = cc
no_fault false place o h = (refl, h)

no_crc_fault : (n : ℕ) (place : ℕ) → cond {A = Option ℕ} (eqb n 0) None (Some place) ≡ None → n ≡ 0
no_crc_fault n place h = go (eqb n 0) refl h where
  go : (b : Bool) → eqb n 0 ≡ b → cond {A = Option ℕ} b None (Some place) ≡ None → n ≡ 0
  go true e g = eqb-true n 0 e
  go false e g = cc

passes : (id : ℕ) (bytes : List ℕ) → header_fault id bytes ≡ None → crc_of bytes ≡ 0 → Passes 1021 id bytes
passes id bytes h right =
    let first = no_fault (other_table id bytes) 0 _ h in
    let second = no_fault (wrong_length bytes) 1 _ first.1 in
    let third = no_fault (ltb (length bytes) 5) 3 _ second.1 in
    let fourth = no_fault (not_current bytes) 5 _ third.1 in
    let fifth = no_fault (ltb (length bytes) 7) 6 _ fourth.1 in
    let sixth = no_fault (ltb (length bytes) 8) 7 _ fifth.1 in
    let last = no_fault (ltb (length bytes) 12) 8 None sixth.1 in
    let lengths = or_parts _ _ second.0 in
    let counted = and_parts _ _ (not-false _ lengths.1) in
    record {
      least = ltb-false _ _ last.0;
      within = leb-true _ _ counted.0;
      counted = eqb-true _ _ counted.1;
      table = eqb-true _ _ (not-false _ (or_parts _ _ first.0).1);
      syntax = ltb-false _ _ (or_parts _ _ lengths.0).1;
      current = λ e. eqb-false _ _ (or_parts _ _ fourth.0).1 e;
      right = right;
    }

pub section_found : (id : ℕ) (bytes : List ℕ) → AreBytes bytes → header_fault id bytes ≡ None → crc_fault bytes ≡ None → IsFrame 1021 id bytes (fields_of bytes)
section_found id bytes small header right = is_frame 1021 id bytes (passes id bytes header (no_crc_fault (crc_of bytes) (length bytes - 4) right)) small

-- from here on: a section has no fault

go_on : (b : Bool) (place : ℕ) (o : Option ℕ) → b ≡ false → o ≡ None → cond b (Some place) o ≡ None
go_on true place o h g = cc
go_on false place o h g = g

has_none : (id : ℕ) (bytes : List ℕ) → Passes 1021 id bytes → header_fault id bytes ≡ None
has_none id bytes p =
    let least = p.least in
    let some : length bytes ≢ 0 = λ e. omega (arith, e, least) in
    go_on (other_table id bytes) _ _ (or_from _ _ (ne_eqb _ _ some) (not_from_true _ (eq-eqb _ _ p.table)))
    (go_on (wrong_length bytes) _ _ (or_from _ _ (or_from _ _ (le-ltb (length bytes) 3 (omega (arith, least))) (le-ltb _ _ p.syntax)) (not_from_true _ (and_from _ _ (le-leb _ _ p.within) (eq-eqb _ _ p.counted))))
    (go_on _ _ _ (le-ltb (length bytes) 5 (omega (arith, least)))
    (go_on (not_current bytes) _ _ (or_from _ _ (le-ltb (length bytes) 6 (omega (arith, least))) (ne_eqb _ _ p.current))
    (go_on _ _ _ (le-ltb (length bytes) 7 (omega (arith, least)))
    (go_on _ _ _ (le-ltb (length bytes) 8 (omega (arith, least)))
    (go_on _ _ _ (le-ltb _ _ least) refl))))))

-- what a section says of its bytes
pub record Said (id : ℕ) (bytes : List ℕ) (f : Fields) : Type 0 where
  pub header : header_fault id bytes ≡ None
  pub right : crc_fault bytes ≡ None
  pub fields : fields_of bytes ≡ f

pub section_again : (id : ℕ) (bytes : List ℕ) (f : Fields) → IsFrame 1021 id bytes f → Said id bytes f
section_again id bytes f s =
    let p = frame_passes 1021 id bytes f (lit≤ tt) s in
    record {
      header = has_none id bytes p;
      right = rw (eq-eqb (crc_of bytes) 0 p.right) refl;
      fields = frame_fields 1021 id bytes f s;
    }
