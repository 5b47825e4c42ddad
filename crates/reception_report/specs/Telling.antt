-- The lines of a report on a reception: this project's own texts. Lines end with a line feed, and fields are separated by one space.
use Rattle.std.specs.Prelude.{ℕ, zero, suc, List, [], ◌∷◌, ◌++◌, length, Option, Some, None, ◌==◌, codes}
use Rattle.std.specs.Fmt.{decimal}
use Rattle.std.specs.List.{filter, flat_map, fold}
use Rattle.hex.specs.Hex.{encode_lower}
use Rattle.oc_bytes.specs.Outcome.{cap_at_u64}
use Rattle.path_tree.specs.Paths.{Bytes, PathNames}
use Rattle.path_tree.specs.Texts.{text_of}
use Rattle.ior_tap.specs.declared.Location.{Location}
use Rattle.ddb_block.specs.Blocks.{block_count_of}
use Rattle.module_cache.specs.Contents.{StoredState}
use Rattle.module_cache.specs.Held.{TunedState}
use Rattle.module_cache.specs.Slots as slots
use Rattle.module_cache.specs.Slots.{SlotState, slot_of}
use Rattle.module_cache.specs.declared.stored.Line.{Line}
use Rattle.path_resolver.specs.Resolving.{Held, Target, answer_of}
use Rattle.path_resolver.specs.Places.{home_of}
use Rattle.section_stream.specs.declared.counts.Counts.{Counts}
use Rattle.shell_words.specs.Texts.{line, answer_line}
use Rattle.reception_report.specs.Missing.{missing_runs, runs_text, count_there}
use Rattle.reception_report.specs.Outcomes.{outcome_name, count_of, all_outcomes}
use Rattle.reception_report.specs.declared.outcome.Outcome.{Outcome}

-- text with a name and its number after it
unfoldable pub with_field : (text name : Bytes) → ℕ → Bytes
with_field text name n = text ++ name ++ 32 ∷ decimal n

-- names with their numbers, one after another
abbrev pub numbers_text : List (Bytes × ℕ) → Bytes
numbers_text numbers = fold (λ text n. with_field text n.0 n.1) [] numbers

-- the fifteen counts
abbrev pub counts_line : Counts → Bytes
counts_line c = line (numbers_text (
    (codes "packets", c.packets) ∷ (codes " no-sync", c.no_sync) ∷ (codes " errored", c.errored) ∷ (codes " scrambled", c.scrambled)
    ∷ (codes " reserved", c.reserved) ∷ (codes " bad-field", c.bad_field) ∷ (codes " other-pid", c.other_pid) ∷ (codes " no-payload", c.no_payload)
    ∷ (codes " duplicates", c.duplicates) ∷ (codes " jumps", c.jumps) ∷ (codes " orphans", c.orphans) ∷ (codes " bad-pointer", c.bad_pointer)
    ∷ (codes " cut", c.cut) ∷ (codes " oversize", c.oversize) ∷ (codes " short-tail", c.short_tail) ∷ []))

-- how many candidates are of a kind
unfoldable pub count_text : List Bytes → Outcome → Bytes
count_text candidates outcome = 32 ∷ outcome_name outcome ++ 32 ∷ decimal (count_of candidates outcome)

-- how many candidates there were, and how many of each kind
abbrev pub candidates_line : List Bytes → Bytes
candidates_line candidates = line (codes "candidates " ++ decimal (cap_at_u64 (length candidates)) ++ flat_map (count_text candidates) all_outcomes)

abbrev pub located : Location → Bytes
located l = line (numbers_text ((codes "gateway carousel", l.carousel) ∷ (codes " module", l.module) ∷ []) ++ codes " key " ++ encode_lower l.key)

abbrev pub gateway_line : Option Target → Bytes
gateway_line (Some g) = located g.0
gateway_line None = line (codes "gateway none")

abbrev pub label_line : Option ℕ → ℕ → Bytes
label_line (Some label) epoch = line (codes "label " ++ decimal label ++ codes " epoch " ++ decimal epoch)
label_line None epoch = line (codes "label none epoch " ++ decimal epoch)

abbrev pub missing_text : StoredState → Bytes
missing_text s = codes " missing" ++ runs_text (missing_runs s)

-- what is there of a module that is listed
abbrev pub slot_text : StoredState → SlotState → Bytes
slot_text s slots.Compressed = codes " compressed"
slot_text s (slots.Whole bytes) = codes " whole"
slot_text s _ = missing_text s

abbrev pub there_text : StoredState → Bytes
there_text s = slot_text s (slot_of s.content)

abbrev pub module_line : Line → Bytes
module_line x = line (numbers_text (
    (codes "module", x.line.id) ∷ (codes " version", x.line.version) ∷ (codes " size", x.line.size) ∷ (codes " blocks", count_there x.stored)
    ∷ (codes " of", block_count_of x.stored.size x.stored.block_size) ∷ []) ++ there_text x.stored)

-- the modules of ids below this one that are among these, by rising id
unfoldable pub lines_below : ℕ → List Line → List Line
lines_below zero xs = []
lines_below (suc id) xs = lines_below id xs ++ filter (λ x. x.line.id == id) xs

abbrev pub lines_of : List TunedState → List Line
lines_of ts = flat_map (λ t. t.lines) ts

-- all modules that are listed, by rising id; an id has 16 bits
abbrev pub modules_text : List TunedState → Bytes
modules_text ts = flat_map module_line (lines_below 65536 (lines_of ts))

abbrev pub dii_line : TunedState → Bytes
dii_line t = line (numbers_text (
    (codes "dii identification", t.identification) ∷ (codes " version", t.version) ∷ (codes " download", t.download)
    ∷ (codes " block-size", t.block_size) ∷ (codes " modules", length t.lines) ∷ []))

-- the held DIIs, in the order in which they were heard
abbrev pub diis_text : List TunedState → Bytes
diis_text [] = line (codes "dii none")
diis_text (t ∷ ts) = flat_map dii_line (t ∷ ts)

-- ---- paths

abbrev pub with_home : Bytes → Option ℕ → Bytes
with_home text (Some m) = with_field text (codes " module") m
with_home text None = text

abbrev pub path_text : (place answer : Bytes) → Option ℕ → Bytes
path_text place answer home = line (with_home (codes "path " ++ place ++ codes " " ++ answer) home)

-- the line of `list`, with the module in which the object lies or from which it is to come
abbrev pub path_line : Held → PathNames → Bytes
path_line held p = path_text (text_of p) (answer_line (answer_of held p)) (home_of held p)
