-- What is read is a section, and a section is read.
use Rattle.std.proofs.Common.{ℕ, ◌≡◌, ◌≢◌, ◌<◌, ◌≤◌, Bool, true, false, cond, not, eqb, ◌&&◌, ◌||◌, List, get_or, Ok, Err, refl, ap, subst, arith, lit<, lit≤, ◌⊎◌, inl, inr}
use Rattle.std.proofs.lemmas.Bool.{ltb-false, eqb-true, eqb-false, not-false, le-ltb, ne_eqb, eq-eqb, or_from, not_from_true}
use Rattle.std.specs.Prelude.{Result}
use Rattle.long_section.specs.Frames as frames
use Rattle.long_section.proofs.CallerLemmas.{AreBytes, Passes, is_frame, frame_passes, frame_fields, spelling_is_frame, spelling_size}
use Rattle.dsmcc_section.specs.declared.Table.{Table}
use Rattle.dsmcc_section.specs.declared.Table.TheVariants.{Control, Blocks}
use Rattle.dsmcc_section.specs.declared.Skip.{Skip}
use Rattle.dsmcc_section.specs.Sections.{Fields, Fits, Reads, read, fields_of, frame, table_id, spelling, IsFramed}

not_skipped : (b : Bool) (e : Skip) (r : Result Fields Skip) (s : Fields) → cond b (Err e) r ≡ Ok s → (b ≡ false) × (r ≡ Ok s)
not_skipped true e r s h = cc
not_skipped false e r s h = (refl, h)

both_false : (a b : Bool) → (a || b) ≡ false → (a ≡ false) × (b ≡ false)
both_false true b h = cc
both_false false b h = (refl, h)

one_of_two : (a b : Bool) → (not a && not b) ≡ false → (a ≡ true) ⊎ (b ≡ true)
one_of_two true b h = inl refl
one_of_two false true h = inr refl
one_of_two false false h = cc

names_table : (b : ℕ) → (b ≡ 0x3B) ⊎ (b ≡ 0x3C) → b ≡ table_id (cond (eqb b 0x3B) Control Blocks)
names_table b (inl e) = rw e refl
names_table b (inr e) = rw e refl

-- the table that the first byte names
abbrev named : List ℕ → Table
named bytes = cond (eqb (get_or bytes 0 0) 0x3B) Control Blocks

same_value : (a b : Fields) → ◌≡◌ {A = Result Fields Skip} (Ok a) (Ok b) → a ≡ b
same_value a b e = cc

-- what holds of bytes that no skip fits
record Unskipped (bytes : List ℕ) (s : Fields) : Type 0 where
  passes : Passes 4093 (table_id (named bytes)) bytes
  value : fields_of (named bytes) bytes ≡ s

unskipped : (bytes : List ℕ) (s : Fields) → read bytes ≡ Ok s → Unskipped bytes s
unskipped bytes s h =
    let short = not_skipped _ _ _ s h in
    let long = not_skipped _ _ _ s short.1 in
    let table = not_skipped _ _ _ s long.1 in
    let syntax = not_skipped _ _ _ s table.1 in
    let current = not_skipped _ _ _ s syntax.1 in
    let right = not_skipped _ _ _ s current.1 in
    let two = both_false _ _ long.0 in
    record {
      passes = record {
        least = ltb-false _ _ short.0;
        within = ltb-false _ _ two.0;
        counted = eqb-true _ _ (not-false _ two.1);
        table = names_table _ (elim (one_of_two _ _ table.0) [ inl w ↦ inl (eqb-true _ _ w) | inr w ↦ inr (eqb-true _ _ w) ]);
        syntax = ltb-false _ _ syntax.0;
        current = λ e. eqb-false _ _ current.0 e;
        right = eqb-true _ _ (not-false _ right.0);
      };
      value = same_value (fields_of (named bytes) bytes) s right.1;
    }

pub what_is_read : (bytes : List ℕ) (s : Fields) → AreBytes bytes → read bytes ≡ Ok s → Reads bytes s
what_is_read bytes s small h =
    let u = unskipped bytes s h in
    subst (λ f. Reads bytes f) u.value (is_frame 4093 (table_id (named bytes)) bytes u.passes small)

-- from here on: what the relation says is read

go_on : (b : Bool) (e : Skip) (r : Result Fields Skip) (s : Fields) → b ≡ false → r ≡ Ok s → cond b (Err e) r ≡ Ok s
go_on true e r s h g = cc
go_on false e r s h g = g

is_table : (t : Table) (b : ℕ) → b ≡ table_id t → (not (eqb b 0x3B) && not (eqb b 0x3C)) ≡ false
is_table Control b e = rw e refl
is_table Blocks b e = rw e refl

same_table : (t : Table) (b : ℕ) → b ≡ table_id t → cond (eqb b 0x3B) Control Blocks ≡ t
same_table Control b e = rw e refl
same_table Blocks b e = rw e refl

-- the section of a table with what stands in its frame
abbrev of_table : Table → frames.Fields → Fields
of_table table f = record { table = table; extension = f.extension; version = f.version; number = f.number; last = f.last; payload = f.body }

same_fields : (t u : Table) (f g : frames.Fields) → t ≡ u → f ≡ g → of_table t f ≡ of_table u g
same_fields t u f g e h = cc

pub relation_is_read : (bytes : List ℕ) (s : Fields) → Reads bytes s → read bytes ≡ Ok s
relation_is_read bytes s r =
    let p = frame_passes 4093 (table_id s.table) bytes (frame s) (lit≤ tt) r in
    go_on _ _ _ s (le-ltb _ _ p.least)
    (go_on _ _ _ s (or_from _ _ (le-ltb _ _ p.within) (not_from_true _ (eq-eqb _ _ p.counted)))
    (go_on _ _ _ s (is_table s.table _ p.table)
    (go_on _ _ _ s (le-ltb _ _ p.syntax)
    (go_on _ _ _ s (ne_eqb _ _ p.current)
    (go_on _ _ _ s (not_from_true _ (eq-eqb _ _ p.right))
    (ap Ok (same_fields (named bytes) s.table (frames.fields_of bytes) (frame s) (same_table s.table _ p.table) (frame_fields 4093 (table_id s.table) bytes (frame s) r))))))))

pub spelling_reads : (s : Fields) → Fits s → Reads (spelling s) s
spelling_reads s f = spelling_is_frame 4093 (table_id s.table) (frame s) f

other_number : (a b : ℕ) → a < b → a ≢ b
other_number a b h e = omega arith

not_stuffing : (t : Table) → table_id t ≢ 0xFF
not_stuffing Control = other_number 0x3B 0xFF (lit< tt)
not_stuffing Blocks = other_number 0x3C 0xFF (lit< tt)

pub spelling_framed : (s : Fields) → Fits s → IsFramed (spelling s)
spelling_framed s f =
    let p = frame_passes 4093 (table_id s.table) (spelling s) (frame s) (lit≤ tt) (spelling_reads s f) in
    let size = spelling_size (table_id s.table) (frame s) in
    record {
      least = p.least;
      most = omega (arith, size, f.body);
      counted = p.counted;
      begins = not_stuffing s.table;
    }
