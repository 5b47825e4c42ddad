-- The first stream that the sections of a table name, number by number.
use Rattle.std.proofs.Common.{ℕ, zero, suc, ◌≡◌, ◌+◌, ◌-◌, ◌<◌, ◌≤◌, ◌==◌, ◌&&◌, List, [], ◌∷◌, ◌++◌, map, Option, Some, None, refl, sym, ap, ◌∙◌, arith}
use Rattle.std.specs.Prelude.{slice_get}
use Rattle.std.specs.List.{filter, filter_map, flat_map, find, range_with_len}
use Rattle.std.specs.Option.{option_map}
use Rattle.std.proofs.lemmas.List.{append-nil}
use Rattle.std.proofs.lemmas.List.Elements.{filter-append, filter_map-append}
use Rattle.std.proofs.lemmas.Grind.{flat_map-append}
use Rattle.psi_tables.specs.declared.tables.Pat.{Pat}
use Rattle.psi_tables.specs.declared.tables.PatLine.{PatLine}
use Rattle.psi_tables.specs.Pats.{PatFields, view_pat}
use Rattle.psi_tables.specs.Finding.{first_named, is_program, is_section, lines_in_section, lines_of_sections}
use Rattle.psi_tables.specs.Stands.{section_kept}
use Rattle.psi_tables.proofs.Lists.{find_seen}

range_split : (a m k n : ℕ) → m + k ≡ n → range_with_len a n ≡ range_with_len a m ++ range_with_len (a + m) k
range_split a zero k n e =
    let same : n ≡ k = omega (arith, e) in
    let still : a ≡ a + 0 = omega arith in
    ap (range_with_len a) same ∙ ap (λ (b : ℕ). range_with_len b k) still
range_split a (suc m) k zero e = absurd (omega (arith, e))
range_split a (suc m) k (suc n) e =
    let at : (a + 1) + m ≡ a + suc m = omega arith in
    ap (λ (xs : List ℕ). a ∷ xs) (range_split (a + 1) m k n (omega (arith, e)) ∙ ap (λ (b : ℕ). range_with_len (a + 1) m ++ range_with_len b k) at)

abbrev pub lines_at : (ℕ → Option PatFields) → ℕ → List PatLine
lines_at section number = lines_in_section (section number)

lines_more : (section : ℕ → Option PatFields) (n : ℕ) → lines_of_sections section (n + 1) ≡ lines_of_sections section n ++ lines_in_section (section n)
lines_more section n =
    let at : 0 + n ≡ n = omega arith in
    ap (flat_map (lines_at section)) (range_split 0 n 1 (n + 1) refl ∙ ap (λ (b : ℕ). range_with_len 0 n ++ b ∷ []) at)
    ∙ flat_map-append (lines_at section) (range_with_len 0 n) (n ∷ []) ∙ ap (λ (ls : List PatLine). lines_of_sections section n ++ ls) (append-nil (lines_in_section (section n)))

pub lines_split : (section : ℕ → Option PatFields) (n : ℕ) → n ≤ 256 → lines_of_sections section 256 ≡ lines_of_sections section n ++ flat_map (lines_at section) (range_with_len (0 + n) (256 - n))
lines_split section n le =
    ap (flat_map (lines_at section)) (range_split 0 n (256 - n) 256 (omega (arith, le)))
    ∙ flat_map-append (lines_at section) (range_with_len 0 n) (range_with_len (0 + n) (256 - n))

parts : (named : PatLine → Option ℕ) (xs ys : List PatLine) → filter_map named (filter is_program (xs ++ ys)) ≡ filter_map named (filter is_program xs) ++ filter_map named (filter is_program ys)
parts named xs ys = ap (filter_map named) (filter-append is_program xs ys) ∙ filter_map-append named (filter is_program xs) (filter is_program ys)

first_of_both : (ps qs : List ℕ) → slice_get ps 0 ≡ None → slice_get (ps ++ qs) 0 ≡ slice_get qs 0
first_of_both [] qs e = refl
first_of_both (p ∷ ps) qs e = cc

first_stays : (ps qs : List ℕ) (p : ℕ) → slice_get ps 0 ≡ Some p → slice_get (ps ++ qs) 0 ≡ Some p
first_stays [] qs p e = cc
first_stays (q ∷ ps) qs p e = e

pub first_then : (named : PatLine → Option ℕ) (xs ys : List PatLine) → first_named named xs ≡ None → first_named named (xs ++ ys) ≡ first_named named ys
first_then named xs ys e = ap (λ (ps : List ℕ). slice_get ps 0) (parts named xs ys) ∙ first_of_both (filter_map named (filter is_program xs)) (filter_map named (filter is_program ys)) e

pub first_kept : (named : PatLine → Option ℕ) (xs ys : List PatLine) (p : ℕ) → first_named named xs ≡ Some p → first_named named (xs ++ ys) ≡ Some p
first_kept named xs ys p e = ap (λ (ps : List ℕ). slice_get ps 0) (parts named xs ys) ∙ first_stays (filter_map named (filter is_program xs)) (filter_map named (filter is_program ys)) p e

-- nothing among the sections before this number
pub nothing_more : (named : PatLine → Option ℕ) (section : ℕ → Option PatFields) (n : ℕ) → first_named named (lines_in_section (section n)) ≡ None
    → first_named named (lines_of_sections section n) ≡ None → first_named named (lines_of_sections section (n + 1)) ≡ None
nothing_more named section n here before =
    ap (first_named named) (lines_more section n) ∙ first_then named (lines_of_sections section n) (lines_in_section (section n)) before ∙ here

pub first_here : (named : PatLine → Option ℕ) (section : ℕ → Option PatFields) (n p : ℕ) → n < 256 → first_named named (lines_in_section (section n)) ≡ Some p
    → first_named named (lines_of_sections section n) ≡ None → first_named named (lines_of_sections section 256) ≡ Some p
first_here named section n p lt here before =
    let so_far : first_named named (lines_of_sections section (n + 1)) ≡ Some p =
    ap (first_named named) (lines_more section n) ∙ first_then named (lines_of_sections section n) (lines_in_section (section n)) before ∙ here in
    ap (first_named named) (lines_split section (n + 1) (omega (arith, lt)))
    ∙ first_kept named (lines_of_sections section (n + 1)) (flat_map (lines_at section) (range_with_len (0 + (n + 1)) (256 - (n + 1)))) p so_far

-- the section that is kept, as the code finds it
pub kept_found : (sections : List Pat) (version number : ℕ) (o : Option Pat) → o ≡ find (λ p. (p.version == version) && (p.number == number)) sections
    → option_map view_pat o ≡ section_kept (map view_pat sections) version number
kept_found sections version number o e = ap (option_map view_pat) e ∙ sym (find_seen view_pat (is_section version number) sections)
