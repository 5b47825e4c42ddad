-- The streams of a map table, gone over as a loop does.
use Rattle.std.proofs.Common.{◌≡◌, ℕ, suc, ◌+◌, ◌*◌, ◌%◌, ◌≤◌, ◌<◌, ◌==◌, Bool, true, false, cond, leb, List, [], ◌∷◌, ◌++◌, length, map, take, drop, Option, Some, None, refl, sym, ap, ◌∙◌, arith, append_assoc, length-drop}
use Rattle.std.proofs.lemmas.List.{append-nil, map-append}
use Rattle.std.proofs.lemmas.List.Elements.{filter-append}
use Rattle.std.specs.List.{filter}
use Rattle.std.proofs.lemmas.Bool.{eq-eqb, ne_eqb}
use Rattle.std.proofs.lemmas.Option.{same_Some}
use Rattle.oc_bytes.proofs.CallerLemmas.{Shortens, run_more, run_end, left_within}
use Rattle.psi_tables.specs.declared.tables.PmtLine.{PmtLine}
use Rattle.psi_tables.specs.Pmts.{Stream, next_stream, streams_run, lines_of, LineFields, carousels_in, view_line}

-- a stream has five bytes at least
pub stream_shortens : Shortens next_stream
stream_shortens [] x after e = cc
stream_shortens (a ∷ []) x after e = cc
stream_shortens (a ∷ b ∷ []) x after e = cc
stream_shortens (a ∷ b ∷ c ∷ []) x after e = cc
stream_shortens (a ∷ b ∷ c ∷ d ∷ []) x after e = cc
stream_shortens (k ∷ a ∷ b ∷ c ∷ d ∷ bytes) x after e = go (leb n (length bytes)) e where
  n : ℕ
  n = c % 16 * 256 + d

  go : (t : Bool) → cond {A = Option (Stream × List ℕ)} t (Some (record { kind = k; pid = a % 32 * 256 + b; info = take n bytes }, drop n bytes)) None ≡ Some (x, after) → length after < suc (suc (suc (suc (suc (length bytes)))))
  go true h = let same : drop n bytes ≡ after = ap (λ (y : Stream × List ℕ). y.1) (same_Some _ _ h) in omega (arith, length-drop n bytes, ap length same)
  go false h = absurd cc

pub streams_more : (bytes : List ℕ) (s : Stream) (after : List ℕ) → next_stream bytes ≡ Some (s, after) → streams_run bytes ≡ (s ∷ (streams_run after).0, (streams_run after).1)
streams_more bytes s after e = run_more next_stream bytes s after stream_shortens e

pub streams_end : (bytes : List ℕ) → next_stream bytes ≡ None → streams_run bytes ≡ ([], bytes)
streams_end bytes e = run_end next_stream bytes e

pub streams_left : (bytes : List ℕ) → length (streams_run bytes).1 ≤ length bytes
streams_left bytes = left_within next_stream (length bytes) bytes stream_shortens

-- ---- what a loop has made of the streams so far

-- the lines so far, and those of the streams that are left
abbrev pub Listed : List PmtLine → List ℕ → List ℕ → Type 0
Listed lines rest bytes = map view_line lines ++ lines_of (streams_run rest).0 ≡ lines_of (streams_run bytes).0

abbrev line_from : Stream → LineFields
line_from s = record { pid = s.pid; carousels = carousels_in s.info }

lines_more : (s : Stream) (others : List Stream) → lines_of (s ∷ others) ≡ lines_of (s ∷ []) ++ lines_of others
lines_more s others = ap (map line_from) (filter-append (λ x. x.kind == 0x0B) (s ∷ []) others) ∙ map-append line_from (filter (λ x. x.kind == 0x0B) (s ∷ [])) (filter (λ x. x.kind == 0x0B) others)

pub listed_more : (lines lines2 : List PmtLine) (rest bytes : List ℕ) (s : Stream) (after : List ℕ) → next_stream rest ≡ Some (s, after) → map view_line lines2 ≡ map view_line lines ++ lines_of (s ∷ []) → Listed lines rest bytes → Listed lines2 after bytes
listed_more lines lines2 rest bytes s after e same so_far =
    let others = lines_of (streams_run after).0 in
    ap (λ (ls : List LineFields). ls ++ others) same ∙ append_assoc (map view_line lines) (lines_of (s ∷ [])) others
    ∙ ap (λ (ls : List LineFields). map view_line lines ++ ls) (sym (lines_more s (streams_run after).0) ∙ sym (ap (λ (r : List Stream × List ℕ). lines_of r.0) (streams_more rest s after e)))
    ∙ so_far

pub listed_end : (lines : List PmtLine) (rest bytes : List ℕ) → next_stream rest ≡ None → Listed lines rest bytes → map view_line lines ≡ lines_of (streams_run bytes).0
listed_end lines rest bytes e so_far =
    sym (append-nil (map view_line lines))
    ∙ ap (λ (ls : List LineFields). map view_line lines ++ ls) (sym (ap (λ (r : List Stream × List ℕ). lines_of r.0) (streams_end rest e)))
    ∙ so_far

pub is_line : (s : Stream) (line : PmtLine) → s.kind ≡ 0x0B → line.carousels.items ≡ carousels_in s.info → line.pid ≡ s.pid → lines_of (s ∷ []) ≡ view_line line ∷ []
is_line s line kind carousels pid = rw (eq-eqb s.kind 0x0B kind) (ap (λ (l : LineFields). l ∷ []) (same_line s.pid line.pid (carousels_in s.info) line.carousels.items (sym pid) (sym carousels))) where
  same_line : (p q : ℕ) (cs ds : List ℕ) → p ≡ q → cs ≡ ds → ◌≡◌ {A = LineFields} (record { pid = p; carousels = cs }) (record { pid = q; carousels = ds })
  same_line p q cs ds e g = cc

pub is_no_line : (s : Stream) → (s.kind ≡ 0x0B → ⊥) → lines_of (s ∷ []) ≡ []
is_no_line s other = rw (ne_eqb s.kind 0x0B other) refl
