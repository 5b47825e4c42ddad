-- Short lists of what was heard, computed.
use Rattle.std.proofs.Common.{ℕ, ◌≡◌, ◌+◌, ◌*◌, true, false, List, [], ◌∷◌, ◌++◌, map, Option, Some, None, refl}
use Rattle.path_tree.specs.Paths.{Bytes}
use Rattle.dsi_dii.specs.declared.ModuleLine.{ModuleLine}
use Rattle.ior_tap.specs.declared.Location.{Location}
use Rattle.path_resolver.specs.Resolving.{module_of, unlisted, is_elsewhere}
use Rattle.path_resolver.specs.declared.answer.Answer.TheVariants as answers
use Rattle.module_cache.specs.declared.taken.Taken.TheVariants as taken
use Rattle.tuner_core.specs.Answers.{fed_heard}
use Rattle.tuner_core.specs.Heard.{Heard, ADii, ABlock}
use Rattle.tuner_core.specs.Turns.{turns_of, epoch_of, held_after, label_in, turnings}
use Rattle.tuner_core.specs.declared.told.Cause.TheVariants as causes
use Rattle.tuner_core.specs.declared.told.Fed.TheVariants.{Changed, Nothing}

abbrev line : ℕ → ℕ → ℕ → ModuleLine
line m size version = record { id = m; size = size; version = version; compressed = false }

-- modules 1 and 151 of 4 and 5 bytes, in one block and in two
abbrev one : ModuleLine
one = line 1 4 1

abbrev other : ModuleLine
other = line 151 5 1

-- DII j of a generation
abbrev dii : ℕ → ℕ → List ModuleLine → Heard
dii g j ls = ADii (record { download = 1; block_size = 4; transaction = 0x80000000 + g * 65536 + 2 * j; modules = ls })

abbrev block : ℕ → ℕ → ℕ → Bytes → Heard
block m version b bytes = ABlock (record { download = 1; module_id = m; version = version; number = b; bytes = bytes })

-- the block of module 1, and those of module 151
abbrev whole_block : Heard
whole_block = block 1 1 0 (97 ∷ 98 ∷ 99 ∷ 100 ∷ [])

abbrev first_block : ℕ → Heard
first_block version = block 151 version 0 (101 ∷ 102 ∷ 103 ∷ 104 ∷ [])

abbrev last_block : ℕ → Heard
last_block version = block 151 version 1 (105 ∷ [])

-- what is there of each module, with the DII that lists it
abbrev Has : List Heard → List (ℕ × ℕ × Option Bytes) → Type 0
Has hs ms = map (λ h. (h.identification, h.line.id, h.bytes)) (held_after hs).table ≡ ms

abbrev first_there : ℕ × ℕ × Option Bytes
first_there = (1, 1, Some (97 ∷ 98 ∷ 99 ∷ 100 ∷ []))

abbrev second_there : ℕ × ℕ × Option Bytes
second_there = (2, 151, Some (101 ∷ 102 ∷ 103 ∷ 104 ∷ 105 ∷ []))

abbrev second_missing : ℕ × ℕ × Option Bytes
second_missing = (2, 151, None)

-- ---- the DIIs of one identification, from turn to turn

-- the versions 16,383 and 0 are one generation apart
wrapped : (label_in (turnings (turns_of (dii 16383 2 (other ∷ []) ∷ dii 0 2 (other ∷ []) ∷ []))) ≡ Some 16384) × (epoch_of (turns_of (dii 16383 2 (other ∷ []) ∷ dii 0 2 (other ∷ []) ∷ [])) ≡ 0)
wrapped = (refl, refl)

-- the DII of generation 1 and a block of it
abbrev begun : List Heard
begun = dii 1 2 (other ∷ []) ∷ first_block 1 ∷ []

-- the other block with another version of the module, and with its own
other_version : fed_heard begun (last_block 0) ≡ Nothing (causes.Block taken.OtherVersion)
other_version = refl

not_mixed : Has (begun ++ last_block 0 ∷ []) (second_missing ∷ [])
not_mixed = refl

same_version : (fed_heard begun (last_block 1) ≡ Changed) × Has (begun ++ last_block 1 ∷ []) (second_there ∷ [])
same_version = (refl, refl)

-- at a distance of 255 what came stays, in part; at one of 256 it doesn't
near : Has (begun ++ dii 256 2 (other ∷ []) ∷ last_block 1 ∷ []) (second_there ∷ [])
near = refl

nothing_stays : Has (begun ++ dii 257 2 (other ∷ []) ∷ last_block 1 ∷ []) (second_missing ∷ [])
nothing_stays = refl

-- the module's version rises
anew : Has (begun ++ last_block 1 ∷ dii 2 2 (line 151 5 2 ∷ []) ∷ []) (second_missing ∷ []) × Has (begun ++ dii 2 2 (line 151 5 2 ∷ []) ∷ first_block 2 ∷ last_block 2 ∷ []) (second_there ∷ [])
anew = (refl, refl)

-- the DII again, with another line
again : (fed_heard begun (dii 1 2 (line 151 5 2 ∷ [])) ≡ Nothing causes.SameDii) × Has (begun ++ dii 1 2 (line 151 5 2 ∷ []) ∷ last_block 1 ∷ []) (second_there ∷ [])
again = (refl, refl)

-- ---- two DIIs a generation

abbrev blocks : List Heard
blocks = whole_block ∷ first_block 1 ∷ last_block 1 ∷ []

-- a whole cycle of generation 1
abbrev cycle : List Heard
cycle = dii 1 1 (one ∷ []) ∷ dii 1 2 (other ∷ []) ∷ blocks

both : Has cycle (first_there ∷ second_there ∷ [])
both = refl

-- the location of module 151, delivered by DII 2
abbrev place : Location × Option ℕ
place = (record { carousel = 1; «module» = 151; key = [] }, Some 0x80000004)

-- DII 1 of an equal generation 2: module 151 waits, and its DII has still to come
abbrev half : List Heard
half = cycle ++ dii 2 1 (one ∷ []) ∷ []

waits : Has half (first_there ∷ []) × ((module_of (held_after half) place ≡ None) × (unlisted (held_after half) place ≡ answers.NotYet 151))
waits = (refl, (refl, refl))

-- then DII 2: the module is there, with no further block
joined : Has (half ++ dii 2 2 (other ∷ []) ∷ []) (first_there ∷ second_there ∷ [])
joined = refl

-- a turn that begins with DII 2
second_first : Has (cycle ++ dii 2 2 (other ∷ []) ∷ dii 2 1 (one ∷ []) ∷ []) (second_there ∷ first_there ∷ [])
second_first = refl

-- DII 1 and DII 2 of generation 3 instead, DII 2 of generation 2 being lost: what waited was dropped
abbrev later : List Heard
later = half ++ dii 3 1 (one ∷ []) ∷ dii 3 2 (other ∷ []) ∷ []

dropped : Has later (first_there ∷ second_missing ∷ [])
dropped = refl

come_again : Has (later ++ blocks) (first_there ∷ second_there ∷ [])
come_again = refl

-- one block came before the turn, the other after it
in_part : Has (dii 1 1 (one ∷ []) ∷ dii 1 2 (other ∷ []) ∷ last_block 1 ∷ dii 2 1 [] ∷ dii 2 2 (other ∷ []) ∷ first_block 1 ∷ []) (second_there ∷ [])
in_part = refl

-- a block that comes before its DII joins isn't taken
too_early : (fed_heard half (first_block 1) ≡ Nothing (causes.Block taken.Unlisted)) × (fed_heard half whole_block ≡ Nothing (causes.Block taken.Again))
too_early = (refl, refl)

-- a distance of 256: all is dropped, and nothing waits
far : Has (cycle ++ dii 257 1 (one ∷ []) ∷ dii 257 2 (other ∷ []) ∷ []) ((1, 1, None) ∷ second_missing ∷ []) × (epoch_of (turns_of (cycle ++ dii 257 1 (one ∷ []) ∷ [])) ≡ 1)
far = (refl, refl)

-- ---- what DIIs answer, and what is counted

same_dii : fed_heard cycle (dii 1 2 (other ∷ [])) ≡ Nothing causes.SameDii
same_dii = refl

zero_dii : fed_heard cycle (dii 2 0 []) ≡ Nothing causes.OtherDii
zero_dii = refl

listed_twice : fed_heard cycle (dii 1 3 (other ∷ [])) ≡ Nothing causes.DiiOverLimit
listed_twice = refl

third : (fed_heard cycle (dii 1 3 []) ≡ Changed) × (fed_heard cycle (dii 2 3 []) ≡ Changed)
third = (refl, refl)

held_both : ((held_after cycle).held ≡ 1 ∷ 2 ∷ []) × ((held_after half).held ≡ 1 ∷ [])
held_both = (refl, refl)

labels : (label_in (turnings (turns_of cycle)) ≡ Some 1) × ((label_in (turnings (turns_of later)) ≡ Some 3) × (epoch_of (turns_of later) ≡ 0))
labels = (refl, (refl, refl))

-- the delivery's DII is held and doesn't list the module; it isn't held; it isn't known; it is of identification 0
deliveries : (unlisted (held_after cycle) (record { carousel = 1; «module» = 3; key = [] }, Some 0x80000002) ≡ answers.Dangling 3)
    × ((unlisted (held_after cycle) (record { carousel = 1; «module» = 3; key = [] }, Some 0x80000006) ≡ answers.NotYet 3)
    × ((unlisted (held_after cycle) (record { carousel = 1; «module» = 3; key = [] }, None) ≡ answers.NotYet 3)
    × (is_elsewhere 1 (record { carousel = 1; «module» = 151; key = [] }, Some 0x80000000) ≡ true)))
deliveries = (refl, (refl, (refl, refl)))
