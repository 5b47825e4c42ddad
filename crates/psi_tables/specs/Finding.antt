-- Where a carousel is, looking back over all packets that came (this project's own rules; the tables are of ISO/IEC 13818-1, 2.4.4).
use Rattle.std.specs.Prelude.{ℕ, zero, suc, Bool, not, ◌&&◌, List, [], ◌∷◌, ◌++◌, length, map, take, drop, Option, Some, None, option_and_then, slice_get, Result, Ok, Err, ◌==◌, if◌then◌else◌}
use Rattle.std.specs.List.{filter, filter_map, flat_map, find, last_or, list_any, range_with_len}
use Rattle.std.specs.Option.{option_map}
use Rattle.section_stream.specs.Cuts.{Bytes, candidates}
use Rattle.psi_tables.specs.declared.tables.PatLine.{PatLine}
use Rattle.psi_tables.specs.declared.finder.Find.{Find}
use Rattle.psi_tables.specs.declared.finder.Find.TheVariants.{NoPat, NotNamed, At}
use Rattle.psi_tables.specs.Pats.{PatFields, read_pat}
use Rattle.psi_tables.specs.Pmts.{PmtFields, read_pmt}
use Rattle.psi_tables.specs.declared.directory.TheConstants.{MOST_FOLLOWED}

-- ---- sections that are accepted

abbrev pub if_read : {A : Type 0} → Result A ℕ → Option A
if_read (Ok x) = Some x
if_read (Err place) = None

abbrev pub pat_in : Bytes → Option PatFields
pat_in section = if_read (read_pat section)

abbrev pub pmt_in : Bytes → Option PmtFields
pmt_in section = if_read (read_pmt section)

-- the PAT sections among candidates
abbrev pub pats_among : List Bytes → List PatFields
pats_among sections = filter_map pat_in sections

-- the PAT sections that came, in order
abbrev pub pats_in : List Bytes → List PatFields
pats_in packets = pats_among (candidates 0 packets)

-- the PMT sections that came on a PID, in order
abbrev pub pmts_in : ℕ → List Bytes → List PmtFields
pmts_in pid packets = filter_map pmt_in (candidates pid packets)

-- ---- the table that is in force

abbrev pub last_where : {A : Type 0} → (A → Bool) → List A → Option A
last_where test xs = last_or None (filter test xs)

abbrev pub is_section : (version number : ℕ) → PatFields → Bool
is_section version number p = (p.version == version) && (p.number == number)

-- the version of the last section
abbrev pub newest_in : List PatFields → Option ℕ
newest_in pats = option_map (λ p. p.version) (last_or None pats)

-- a program and its PID; the line of program 0 is that of the network's information, and PID 0 is the PAT's own
abbrev pub is_program : PatLine → Bool
is_program l = not (l.program == 0) && not (l.pid == 0)

abbrev pub lines_in_section : Option PatFields → List PatLine
lines_in_section None = []
lines_in_section (Some p) = p.lines

-- the lines of the first n sections of a table, by section number and then in order
abbrev pub lines_of_sections : (ℕ → Option PatFields) → ℕ → List PatLine
lines_of_sections section n = flat_map (λ number. lines_in_section (section number)) (range_with_len 0 n)

-- ---- the PIDs that are followed

-- the candidates that packet n, counted from 0, completes
abbrev pub completed_by : (pid : ℕ) → List Bytes → ℕ → List Bytes
completed_by pid packets n = drop (length (candidates pid (take n packets))) (candidates pid (take (suc n) packets))

-- the candidates that the first n packets complete, each with the number of packets up to the one that completed it
abbrev pub arrivals_of : (pid : ℕ) → List Bytes → ℕ → List (Bytes × ℕ)
arrivals_of pid packets zero = []
arrivals_of pid packets (suc n) = arrivals_of pid packets n ++ map (λ c. (c, suc n)) (completed_by pid packets n)

abbrev pub arrivals : (pid : ℕ) → List Bytes → List (Bytes × ℕ)
arrivals pid packets = arrivals_of pid packets (length packets)

-- the PIDs that lines list, with the number of packets up to their section
abbrev pub listed_pids : ℕ → List PatLine → List (ℕ × ℕ)
listed_pids k lines = map (λ l. (l.pid, k)) (filter is_program lines)

-- the PIDs that all sections list, in order
abbrev pub listings : List Bytes → List (ℕ × ℕ)
listings packets = flat_map (λ a. listed_pids a.1 (lines_in_section (pat_in a.0))) (arrivals 0 packets)

abbrev pub is_in : ℕ → List ℕ → Bool
is_in pid pids = list_any (λ q. q == pid) pids

-- the first of the pairs of each PID, but for PIDs that were seen before
abbrev pub first_of_each : List ℕ → List (ℕ × ℕ) → List (ℕ × ℕ)
first_of_each seen [] = []
first_of_each seen (x ∷ xs) = if is_in x.0 seen then first_of_each seen xs else x ∷ first_of_each (x.0 ∷ seen) xs

abbrev pub choose : List (ℕ × ℕ) → List (ℕ × ℕ)
choose xs = take MOST_FOLLOWED (first_of_each [] xs)

-- each followed PID, with the number of packets that are passed over on it: those up to the one that completed the first section that
-- lists it
abbrev pub followed_in : List Bytes → List (ℕ × ℕ)
followed_in packets = choose (listings packets)

-- ---- the carousel

-- the PID of the first stream of a program that names the carousel
abbrev pub names : (carousel : ℕ) → PmtFields → Option ℕ
names carousel p = option_map (λ l. l.pid) (find (λ l. list_any (λ c. c == carousel) l.carousels) p.lines)

-- the map table of a program among these
abbrev pub pmt_among : (program : ℕ) → List PmtFields → Option PmtFields
pmt_among program pmts = last_where (λ p. p.program == program) pmts

-- the map table of a line: the last one of its program that came on its PID since the PID is followed
abbrev pub pmt_of_line : List Bytes → PatLine → Option PmtFields
pmt_of_line packets l = option_and_then (λ x. pmt_among l.program (pmts_in l.pid (drop x.1 packets))) (find (λ x. x.0 == l.pid) (followed_in packets))

-- the first stream that the programs among these lines name
abbrev pub first_named : (PatLine → Option ℕ) → List PatLine → Option ℕ
first_named named lines = slice_get (filter_map named (filter is_program lines)) 0

abbrev pub at_or_nowhere : Option ℕ → Find
at_or_nowhere None = NotNamed
at_or_nowhere (Some pid) = At pid

-- the answer, where the table in force has this version, these are its sections, and these streams its lines name
abbrev pub found_with : Option ℕ → (ℕ → ℕ → Option PatFields) → (PatLine → Option ℕ) → Find
found_with None section named = NoPat
found_with (Some version) section named = at_or_nowhere (first_named named (lines_of_sections (section version) 256))

abbrev pub section_among : List PatFields → (version number : ℕ) → Option PatFields
section_among pats version number = last_where (is_section version number) pats

-- where the carousel is
abbrev pub found_in : (carousel : ℕ) → List Bytes → Find
found_in carousel packets = found_with (newest_in (pats_in packets)) (section_among (pats_in packets)) (λ l. option_and_then (names carousel) (pmt_of_line packets l))
