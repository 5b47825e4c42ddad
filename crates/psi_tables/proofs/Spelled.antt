-- The written tables read as their values.
use Rattle.std.proofs.Common.{ℕ, ◌≡◌, ◌<◌, List, [], ◌∷◌, ◌++◌, refl, sym, ap, arith, lit<, lit≤}
use Rattle.oc_bytes.specs.Numbers.{two_bytes, four_bytes, number_of}
use Rattle.section_stream.specs.Packing.{IsSectionLike}
use Rattle.long_section.specs.Frames.{Fits}
use Rattle.long_section.proofs.CallerLemmas.{spelling_is_frame}
use Rattle.psi_tables.specs.Pats.{ReadsPat, line_bytes}
use Rattle.psi_tables.specs.Pmts.{ReadsPmt, ReadsBody, Stream, carousels_in}
use Rattle.psi_tables.specs.Written.{written_line, written_pat_fields, pat_spelling, pat_value, stream_info, written_body, written_pmt_fields, pmt_spelling, pmt_value}

pat_fits : Fits 1021 written_pat_fields
pat_fits = record { extension = lit< tt; version = lit< tt; number = lit< tt; last = lit< tt; body = lit≤ tt }

pub pat_reads : ReadsPat pat_spelling pat_value
pat_reads = record {
  last = 0;
  body = line_bytes 7 written_line;
  section = spelling_is_frame 1021 0x00 written_pat_fields pat_fits;
  lines = (line_bytes 7 written_line, [], refl, record { reserved = 7; ranges = (lit< tt, lit< tt, lit< tt); whole = refl }, refl);
}

pmt_fits : (carousel : ℕ) → Fits 1021 (written_pmt_fields carousel)
pmt_fits carousel = record { extension = lit< tt; version = lit< tt; number = lit< tt; last = lit< tt; body = omega arith }

four_again : (n : ℕ) → n < 4294967296 → number_of (four_bytes n) ≡ n
four_again n lt = omega arith

written_stream : ℕ → Stream
written_stream carousel = record { kind = 0x0B; pid = 256; info = stream_info carousel }

names_it : (carousel : ℕ) → carousel < 4294967296 → carousels_in (stream_info carousel) ≡ carousel ∷ []
names_it carousel lt = ap (λ (n : ℕ). n ∷ []) (four_again carousel lt)

body_reads : (carousel : ℕ) → ReadsBody (written_body carousel) (record { kind = 0x0B; pid = 256; info = stream_info carousel } ∷ [])
body_reads carousel = record {
  clock = 0xFFFF;
  info_reserved = 15;
  info = [];
  rest = 0x0B ∷ two_bytes 0xE100 ++ two_bytes 0xF00A ++ stream_info carousel;
  ranges = (lit< tt, lit< tt, lit< tt);
  whole = refl;
  each = (
    0x0B ∷ two_bytes 0xE100 ++ two_bytes 0xF00A ++ stream_info carousel,
    [],
    refl,
    record { reserved = 7; info_reserved = 15; ranges = (lit< tt, lit< tt, lit< tt, lit< tt, lit< tt); whole = refl },
    refl,
  );
}

pub pmt_reads : (carousel : ℕ) → carousel < 4294967296 → ReadsPmt (pmt_spelling carousel) (pmt_value carousel)
pmt_reads carousel lt = record {
  fields = written_pmt_fields carousel;
  streams = record { kind = 0x0B; pid = 256; info = stream_info carousel } ∷ [];
  section = spelling_is_frame 1021 0x02 (written_pmt_fields carousel) (pmt_fits carousel);
  body = body_reads carousel;
  program = refl;
  lines = ap (λ (cs : List ℕ). record { pid = 256; carousels = cs } ∷ []) (sym (names_it carousel lt));
}

-- a stream of sections can be cut by them
pub pat_framed : IsSectionLike pat_spelling
pat_framed = record { size = (lit≤ tt, lit≤ tt); length_field = refl; first = λ e. omega (arith, e) }

pub pmt_framed : (carousel : ℕ) → IsSectionLike (pmt_spelling carousel)
pmt_framed carousel = record { size = (omega arith, omega arith); length_field = omega arith; first = λ e. omega (arith, e) }
