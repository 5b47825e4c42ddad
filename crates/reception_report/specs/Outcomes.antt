-- What became of candidates: each by its kind, and how many are of each kind.
use Rattle.std.specs.Prelude.{◌≡◌, ℕ, Bool, List, [], ◌∷◌, slice_index, ◌==◌, codes}
use Rattle.oc_bytes.specs.Outcome.{cap_at_u64}
use Rattle.path_tree.specs.Paths.{Bytes}
use Rattle.dsmcc_section.specs.declared.Skip.{Skip}
use Rattle.dsmcc_section.specs.declared.Skip.TheVariants as skips
use Rattle.module_cache.specs.declared.taken.Taken.{Taken}
use Rattle.module_cache.specs.declared.taken.Taken.TheVariants as taken
use Rattle.section_stream.specs.Counting.{number_of}
use Rattle.tuner_core.specs.Answers.{fed_after}
use Rattle.tuner_core.specs.declared.told.Cause.{Cause}
use Rattle.tuner_core.specs.declared.told.Cause.TheVariants as causes
use Rattle.tuner_core.specs.declared.told.Fed.{Fed}
use Rattle.tuner_core.specs.declared.told.Fed.TheVariants as fed
use Rattle.reception_report.specs.declared.outcome.Outcome.{Outcome}
use Rattle.reception_report.specs.declared.outcome.Outcome.TheVariants as outcomes

abbrev pub outcome_of_skip : Skip → Outcome
outcome_of_skip skips.Short = outcomes.Short
outcome_of_skip skips.Length = outcomes.Length
outcome_of_skip skips.OtherTable = outcomes.OtherTable
outcome_of_skip skips.NoSyntax = outcomes.NoSyntax
outcome_of_skip skips.NotCurrent = outcomes.NotCurrent
outcome_of_skip skips.BadCrc = outcomes.BadCrc

abbrev pub outcome_of_taken : Taken → Outcome
outcome_of_taken taken.NoDii = outcomes.NoDii
outcome_of_taken taken.OtherDownload = outcomes.OtherDownload
outcome_of_taken taken.Unlisted = outcomes.Unlisted
outcome_of_taken taken.OtherVersion = outcomes.OtherVersion
outcome_of_taken taken.Compressed = outcomes.Compressed
outcome_of_taken taken.WrongPlace = outcomes.WrongPlace
outcome_of_taken taken.WrongLength = outcomes.WrongLength
outcome_of_taken taken.Again = outcomes.Again
outcome_of_taken taken.New = outcomes.Changed

abbrev pub outcome_of_cause : Cause → Outcome
outcome_of_cause (causes.Section skip) = outcome_of_skip skip
outcome_of_cause (causes.NotControl place) = outcomes.NotControl
outcome_of_cause (causes.NotDdb place) = outcomes.NotDdb
outcome_of_cause causes.NoGateway = outcomes.NoGateway
outcome_of_cause causes.SameDsi = outcomes.SameDsi
outcome_of_cause causes.OtherDii = outcomes.OtherDii
outcome_of_cause causes.DiiOverLimit = outcomes.DiiOverLimit
outcome_of_cause causes.SameDii = outcomes.SameDii
outcome_of_cause (causes.Block t) = outcome_of_taken t

abbrev pub outcome_of : Fed → Outcome
outcome_of fed.Changed = outcomes.Changed
outcome_of (fed.Nothing cause) = outcome_of_cause cause

-- the place of a kind among all
abbrev pub place_of : Outcome → ℕ
place_of outcomes.Changed = 0
place_of outcomes.Short = 1
place_of outcomes.Length = 2
place_of outcomes.OtherTable = 3
place_of outcomes.NoSyntax = 4
place_of outcomes.NotCurrent = 5
place_of outcomes.BadCrc = 6
place_of outcomes.NotControl = 7
place_of outcomes.NotDdb = 8
place_of outcomes.NoGateway = 9
place_of outcomes.SameDsi = 10
place_of outcomes.OtherDii = 11
place_of outcomes.DiiOverLimit = 12
place_of outcomes.SameDii = 13
place_of outcomes.NoDii = 14
place_of outcomes.OtherDownload = 15
place_of outcomes.Unlisted = 16
place_of outcomes.OtherVersion = 17
place_of outcomes.Compressed = 18
place_of outcomes.WrongPlace = 19
place_of outcomes.WrongLength = 20
place_of outcomes.Again = 21

abbrev pub outcome_name : Outcome → Bytes
outcome_name outcomes.Changed = codes "changed"
outcome_name outcomes.Short = codes "short"
outcome_name outcomes.Length = codes "length"
outcome_name outcomes.OtherTable = codes "other-table"
outcome_name outcomes.NoSyntax = codes "no-syntax"
outcome_name outcomes.NotCurrent = codes "not-current"
outcome_name outcomes.BadCrc = codes "bad-crc"
outcome_name outcomes.NotControl = codes "not-control"
outcome_name outcomes.NotDdb = codes "not-ddb"
outcome_name outcomes.NoGateway = codes "no-gateway"
outcome_name outcomes.SameDsi = codes "same-dsi"
outcome_name outcomes.OtherDii = codes "other-dii"
outcome_name outcomes.DiiOverLimit = codes "dii-over-limit"
outcome_name outcomes.SameDii = codes "same-dii"
outcome_name outcomes.NoDii = codes "block-no-dii"
outcome_name outcomes.OtherDownload = codes "block-other-download"
outcome_name outcomes.Unlisted = codes "block-unlisted"
outcome_name outcomes.OtherVersion = codes "block-other-version"
outcome_name outcomes.Compressed = codes "block-compressed"
outcome_name outcomes.WrongPlace = codes "block-wrong-place"
outcome_name outcomes.WrongLength = codes "block-wrong-length"
outcome_name outcomes.Again = codes "block-again"

-- what became of a candidate after others is of this kind
abbrev pub becomes : Outcome → List Bytes → Bytes → Bool
becomes outcome before candidate = place_of (outcome_of (fed_after before candidate)) == place_of outcome

-- of how many candidates; the number stays at the greatest u64
abbrev pub count_of : List Bytes → Outcome → ℕ
count_of candidates outcome = cap_at_u64 (number_of (becomes outcome) candidates)

-- the kinds in the order in which they are counted
abbrev pub all_outcomes : List Outcome
all_outcomes =
    outcomes.Changed ∷ outcomes.Short ∷ outcomes.Length ∷ outcomes.OtherTable ∷ outcomes.NoSyntax ∷ outcomes.NotCurrent ∷ outcomes.BadCrc
    ∷ outcomes.NotControl ∷ outcomes.NotDdb ∷ outcomes.NoGateway ∷ outcomes.SameDsi ∷ outcomes.OtherDii ∷ outcomes.DiiOverLimit ∷ outcomes.SameDii
    ∷ outcomes.NoDii ∷ outcomes.OtherDownload ∷ outcomes.Unlisted ∷ outcomes.OtherVersion ∷ outcomes.Compressed ∷ outcomes.WrongPlace
    ∷ outcomes.WrongLength ∷ outcomes.Again ∷ []

-- these numbers, each at the place of its kind, count the candidates
pub record CountsAre (numbers : List ℕ) (candidates : List Bytes) : Type 0 where
  pub each : (outcome : Outcome) → slice_index numbers (place_of outcome) ≡ count_of candidates outcome
