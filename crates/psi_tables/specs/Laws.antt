-- What is found where the tables are as usual: a PAT of one section, and one map table for each program.
use Rattle.std.specs.Prelude.{◌≡◌, ℕ, ◌≤◌, true, List, [], length, take, drop, Option, Some, None, slice_get, ◌==◌}
use Rattle.std.specs.List.{All, Contains, find, last_or, filter_map}
use Rattle.std.specs.Option.{IfSome, option_map}
use Rattle.carousel_profile.specs.declared.TheConstants.{CAROUSEL_PID}
use Rattle.section_stream.specs.Cuts.{Bytes}
use Rattle.psi_tables.specs.declared.tables.PatLine.{PatLine}
use Rattle.psi_tables.specs.declared.finder.Find.{Find}
use Rattle.psi_tables.specs.declared.finder.Find.TheVariants.{NoPat, NotNamed, At}
use Rattle.psi_tables.specs.Pats.{PatFields}
use Rattle.psi_tables.specs.Pmts.{PmtFields}
use Rattle.psi_tables.specs.Written.{written_line, pat_value, pmt_value, announcer_start, announcer_packets}
use Rattle.psi_tables.specs.Finding.{pat_in, arrivals, listed_pids, first_of_each, pats_in, pmts_in, newest_in, section_among, lines_of_sections, is_program, names, followed_in, found_in}
use Rattle.psi_tables.specs.declared.directory.TheConstants.{MOST_FOLLOWED}

-- ---- a PAT of one section

abbrev pub lines_with : Option ℕ → (ℕ → ℕ → Option PatFields) → List PatLine
lines_with None section = []
lines_with (Some version) section = lines_of_sections (section version) 256

-- the lines of the table in force
abbrev pub lines_in_force : List Bytes → List PatLine
lines_in_force packets = lines_with (newest_in (pats_in packets)) (section_among (pats_in packets))

-- where each section has the number 0, the lines of the last one are in force, and no others
abbrev pub OneSectionListsItsLines : Type 0
OneSectionListsItsLines = (packets : List Bytes) (p : PatFields) → All (λ (r : PatFields). r.number ≡ 0) (pats_in packets) → last_or None (pats_in packets) ≡ Some p → lines_in_force packets ≡ p.lines

-- ---- one map table for each program

-- the number of packets that are passed over on a followed PID
abbrev pub followed_since : List Bytes → ℕ → Option ℕ
followed_since packets pid = option_map (λ (x : ℕ × ℕ). x.1) (find (λ (x : ℕ × ℕ). x.0 == pid) (followed_in packets))

abbrev pub MaybeIs : ℕ → Option ℕ → Type 0
MaybeIs q o = IfSome o (λ (r : ℕ). r ≡ q)

-- A line's program has this one map table: no other one of the program came since the line's PID is followed. It names the carousel at PID
-- q, or not at all.
pub record HasOne (carousel : ℕ) (packets : List Bytes) (table : ℕ → PmtFields) (q : ℕ) (l : PatLine) : Type 0 where
  pub its : (table l.program).program ≡ l.program
  pub same : (since : ℕ) → followed_since packets l.pid ≡ Some since → All (λ (m : PmtFields). m.program ≡ l.program → m ≡ table l.program) (pmts_in l.pid (drop since packets))
  pub named : MaybeIs q (names carousel (table l.program))

pub record IsUsual (carousel : ℕ) (packets : List Bytes) (p : PatFields) (table : ℕ → PmtFields) (q : ℕ) : Type 0 where
  pub number : p.number ≡ 0
  pub pats : All (λ (r : PatFields). r ≡ p) (pats_in packets)
  pub lines : All (λ (l : PatLine). is_program l ≡ true → HasOne carousel packets table q l) p.lines

abbrev pub NowhereElse : ℕ → Find → Type 0
NowhereElse q NoPat = Unit {0}
NowhereElse q NotNamed = Unit {0}
NowhereElse q (At r) = r ≡ q

-- the answer is that no PAT came, that nothing names the carousel, or q
abbrev pub IsNowhereElse : Type 0
IsNowhereElse = (carousel : ℕ) (packets : List Bytes) (p : PatFields) (table : ℕ → PmtFields) (q : ℕ) → IsUsual carousel packets p table q → NowhereElse q (found_in carousel packets)

-- the map table of a line came since its PID is followed
pub record Came (packets : List Bytes) (table : ℕ → PmtFields) (l : PatLine) : Type 0 where
  pub since : ℕ
  pub followed : followed_since packets l.pid ≡ Some since
  pub among : Contains (pmts_in l.pid (drop since packets)) (table l.program)

-- it is q as soon as the PAT came, and then the map table of a program that names the carousel
abbrev pub IsFoundOnceItCame : Type 0
IsFoundOnceItCame = (carousel : ℕ) (packets : List Bytes) (p : PatFields) (table : ℕ → PmtFields) (q : ℕ) (l : PatLine) → IsUsual carousel packets p table q
    → Contains (pats_in packets) p → Contains p.lines l → is_program l ≡ true → names carousel (table l.program) ≡ Some q → Came packets table l → found_in carousel packets ≡ At q

-- ---- from when on

-- the number of packets up to the one that completed the first section of the PAT
abbrev pub first_pat : List Bytes → Option ℕ
first_pat packets = slice_get (filter_map (λ (a : Bytes × ℕ). option_map (λ (r : PatFields). a.1) (pat_in a.0)) (arrivals 0 packets)) 0

-- where each section of the PAT is this one, and it lists at most 64 PIDs, each of them is followed from the packet after the one that
-- completed the first section on
abbrev pub EachIsFollowed : Type 0
EachIsFollowed = (packets : List Bytes) (p : PatFields) (l : PatLine) → All (λ (r : PatFields). r ≡ p) (pats_in packets) → Contains p.lines l → is_program l ≡ true
    → length (first_of_each [] (listed_pids 0 p.lines)) ≤ MOST_FOLLOWED → followed_since packets l.pid ≡ first_pat packets

-- ---- the premises can be met

-- the packets of the written tables of carousel 1
abbrev pub example : List Bytes
example = announcer_packets (announcer_start 1)

-- The written tables are as usual: each premise of the laws holds of their packets. The carousel is found after both packets; after the
-- first one it isn't named, nor is another carousel after both, and the packet of the map table alone says that no PAT came.
pub record PremisesMet : Type 0 where
  pub usual : IsUsual 1 example pat_value (λ (n : ℕ). pmt_value 1) 256
  pub pat : Contains (pats_in example) pat_value
  pub line : Contains pat_value.lines written_line × (is_program written_line ≡ true)
  pub named : names 1 (pmt_value 1) ≡ Some CAROUSEL_PID
  pub came : Came example (λ (n : ℕ). pmt_value 1) written_line
  pub few : length (first_of_each [] (listed_pids 0 pat_value.lines)) ≤ MOST_FOLLOWED
  pub found : found_in 1 example ≡ At CAROUSEL_PID
  pub too_early : found_in 1 (take 1 example) ≡ NotNamed
  pub other : found_in 2 example ≡ NotNamed
  pub no_table : found_in 1 (drop 1 example) ≡ NoPat
