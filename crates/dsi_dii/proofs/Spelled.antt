-- Control messages as they are written: how many bytes they have, and that they are read.
use Rattle.std.proofs.Common.{rules, ◌≡◌, ℕ, ◌+◌, ◌*◌, ◌<◌, Bool, false, List, [], ◌∷◌, ◌++◌, length, refl, sym, ap, subst, ◌∙◌, arith, length-append}
use Rattle.std.proofs.lemmas.List.{append-nil}
use Rattle.std.proofs.lemmas.List.Elements.{recursion_from_All}
use Rattle.std.specs.List.{flat_map, AllByRecursion}
use Rattle.std.specs.Prelude.{replicate, Option}
use Rattle.std.specs.Option.{option_map_or}
use Rattle.oc_bytes.specs.Grammar.{Fits, FitsEach, spell, Reads as ReadsBy}
use Rattle.oc_bytes.specs.Numbers.{two_bytes, four_bytes}
use Rattle.oc_bytes.proofs.CallerLemmas.{fits_reads, front_spelled}
use Rattle.ddb_block.specs.Message.{message}
use Rattle.ddb_block.proofs.CallerLemmas.{spelling_is_message}
use Rattle.ior_tap.specs.Iors as iors
use Rattle.dsi_dii.specs.declared.ModuleLine.{ModuleLine}
use Rattle.dsi_dii.specs.Spellings.{IsSpellable}
use Rattle.dsi_dii.specs.Controls.{DiiFields, DsiFields, info, line, dii_body, private_data, ReadsDii, ReadsDsi, dsi_body, line_bytes, LineFits, dii_head, dii_spelling, is_compressed}

-- ---- a DII

lines_length : (ls : List ModuleLine) → length (flat_map line_bytes ls) ≡ 29 * length ls
lines_length [] = refl
lines_length (l ∷ ls) = omega (arith, lines_length ls)

abbrev pub dii_bytes : DiiFields → List ℕ
dii_bytes d = dii_head d.download (length d.modules) ++ flat_map line_bytes d.modules ++ two_bytes 0

pub dii_body_length : (d : DiiFields) → length (dii_bytes d) ≡ 22 + 29 * length d.modules
dii_body_length d =
    omega (arith, length-append (flat_map line_bytes d.modules) (two_bytes 0), lines_length d.modules)

info_fits : Fits info []
unfolding Fits
info_fits = search rules

-- a written line is read as one without compression
line_fits : (l : ModuleLine) → l.compressed ≡ false → LineFits l → Fits line l
unfolding Fits spell
line_fits l plain fits =
    let same = plain ∙ sym (ap (λ (o : Option (List ℕ)). option_map_or is_compressed o false) (front_spelled info [] info_fits)) in
    (fits.id, (fits.size, (fits.version, (omega arith, ap made same)))) where
      made : Bool → ModuleLine
      made b = record { id = l.id; size = l.size; version = l.version; compressed = b }

each_fits : (ls : List ModuleLine) → AllByRecursion (λ l. l.compressed ≡ false) ls → AllByRecursion LineFits ls
    → FitsEach (Fits line) ls
each_fits [] plain fit = tt
each_fits (l ∷ ls) plain fit = (line_fits l plain.0 fit.0, each_fits ls plain.1 fit.1)

pub dii_spelled : (d : DiiFields) → IsSpellable d → ReadsDii (dii_spelling d) d
unfolding Fits spell
dii_spelled d h =
    let plain = recursion_from_All _ d.modules h.written.plain in
    let lines = each_fits d.modules plain (recursion_from_All LineFits d.modules h.lines) in
    let reads = fits_reads (dii_body d.transaction) d (search rules, ((refl, lines), (omega arith, refl))) in
    let body = dii_bytes d in
    let count = two_bytes (length d.modules) in
    let after = replicate 10 0 ++ two_bytes 0 ++ count ++ flat_map line_bytes d.modules ++ two_bytes 0 in
    let with_block : ℕ → List ℕ = λ k. four_bytes d.download ++ two_bytes k ++ after in
    let room : length body < 65536 = omega (arith, dii_body_length d, h.few) in
    record {
      front = body;
      trailing = [];
      body = subst (λ (k : ℕ). ReadsBy (dii_body d.transaction) (with_block k) d) h.written.blocks reads;
      message = rw (append-nil body) (spelling_is_message 0x1002 d.transaction body (omega arith) h.transaction room);
    }

-- ---- a DSI

pub dsi_body_length : (reference : List ℕ) → length (dsi_body reference) ≡ 28 + length reference
dsi_body_length reference = omega (arith, length-append reference (0 ∷ 0 ∷ two_bytes 0))

pub dsi_spelled : (d : DsiFields) (reference : List ℕ) → length reference ≡ 63 → d.transaction < 4294967296
    → iors.Reads reference d.gateway → ReadsDsi (message 0x1006 d.transaction (dsi_body reference)) d
unfolding Fits spell
dsi_spelled d reference size transaction reads =
    let body = dsi_body reference in
    let rest = 0 ∷ 0 ∷ two_bytes 0 in
    let sized : length (reference ++ rest) ≡ length reference + 4 = length-append reference rest in
    let private = fits_reads private_data (reference ++ rest) (refl, (omega arith, omega (arith, sized, size))) in
    let room : length body < 65536 = omega (arith, dsi_body_length reference, size) in
    record {
      private = reference ++ rest;
      frame = record {
        front = body;
        trailing = [];
        body = rw sized at private;
        message = rw (append-nil body) (spelling_is_message 0x1006 d.transaction body (omega arith) transaction room);
      };
      gateway = record { reference = reference; rest = rest; whole = refl; reads = reads };
    }
