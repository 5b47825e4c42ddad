-- The lines of a plan: this project's own texts. Lines end with a line feed, and fields are separated by one space.
use Rattle.std.specs.Prelude.{ℕ, ◌+◌, ◌-◌, ◌*◌, ◌/◌, Bool, false, ◌==◌, List, [], ◌∷◌, ◌++◌, length, map, Option, Some, None, codes, if◌then◌else◌}
use Rattle.std.specs.Fmt.{decimal}
use Rattle.std.specs.List.{flat_map, list_any}
use Rattle.std.specs.Option.{unwrap_or}
use Rattle.std.specs.Ordering.{is_lt}
use Rattle.carousel_profile.specs.declared.TheConstants.{PACKET_LENGTH}
use Rattle.path_tree.specs.Paths.{Bytes, PathNames, name_cmp, next_name, path_cmp}
use Rattle.path_tree.specs.Texts.{text_of}
use Rattle.path_tree.specs.Trees.{Tree, Node, File, Folder, NoSuch, node_at}
use Rattle.biop_object.specs.Names.{module_in}
use Rattle.cycle_planner.specs.Cycle.{Line, cycle_of}
use Rattle.cycle_planner.specs.Weights.{weight}
use Rattle.generation.specs.Layouts.{GenerationState, lines_of}
pub use Rattle.generation.specs.Layouts.{cycle_sections}
use Rattle.generation.specs.Objects.{object_of}
use Rattle.generation.specs.declared.listing.Object.{Object}
use Rattle.generation.specs.declared.listing.ObjectKind.{ObjectKind}
use Rattle.generation.specs.declared.listing.ObjectKind.TheVariants as kinds
use Rattle.section_stream.specs.Groups.{packets_of_group}
use Rattle.section_stream.specs.Packing.{idle}
use Rattle.folder_store.specs.Surveys.{Stands, names_at}
use Rattle.shell_words.specs.Texts.{line, with_number}

-- ---- objects, and what was passed over

-- a name begins with a dot
abbrev pub is_hidden_name : Bytes → Bool
is_hidden_name [] = false
is_hidden_name (c ∷ cs) = c == 46

-- the object, or a folder above it, is hidden where it comes from
abbrev pub is_hidden : PathNames → Bool
is_hidden p = list_any is_hidden_name p

abbrev pub hidden_text : PathNames → Bytes
hidden_text p = if is_hidden p then codes " hidden" else []

-- how many names a folder has
abbrev pub count_of : Node → ℕ
count_of (Folder names) = length names
count_of (File b) = 0
count_of NoSuch = 0

abbrev pub kind_line : (kind : Bytes) → PathNames → ℕ → Bytes
kind_line kind p n = with_number (kind ++ 32 ∷ text_of p) n

-- a file with its length, a folder with the number of its names
abbrev pub kind_text : Tree → PathNames → ObjectKind → Bytes
kind_text t p (kinds.File size) = kind_line (codes "file") p size
kind_text t p kinds.Folder = kind_line (codes "folder") p (count_of (node_at t p))

abbrev pub object_line : Tree → Object → Bytes
object_line t o = line (kind_text t o.path o.kind ++ codes " module " ++ decimal o.module ++ hidden_text o.path)

abbrev pub left_line : Stands → Bytes
left_line s = line (codes "left " ++ text_of (names_at s) ++ hidden_text (names_at s))

-- What was passed over stands before an object: by its name where the object is in its folder or below it, and else as its folder does.
abbrev pub stands_before : Stands → PathNames → Bool
stands_before s p = go (next_name s.0 p) where
  go : Option Bytes → Bool
  go (Some name) = is_lt (name_cmp s.1 name)
  go None = is_lt (path_cmp s.0 p)

-- those in front that stand before an object, and what follows them
abbrev pub left_first : PathNames → List Stands → List Stands
left_first p [] = []
left_first p (s ∷ ss) = if stands_before s p then s ∷ left_first p ss else []

abbrev pub left_rest : PathNames → List Stands → List Stands
left_rest p [] = []
left_rest p (s ∷ ss) = if stands_before s p then left_rest p ss else s ∷ ss

-- the objects in order, and between them what was passed over
abbrev pub entry_lines : Tree → List Object → List Stands → Bytes
entry_lines t [] left = flat_map left_line left
entry_lines t (o ∷ os) left = flat_map left_line (left_first o.path left) ++ (object_line t o ++ entry_lines t os (left_rest o.path left))

-- ---- modules and the cycle

-- a line of four fields
abbrev pub four_fields : Bytes → Bytes → Bytes → Bytes → Bytes
four_fields a b c d = line (a ++ 32 ∷ b ++ 32 ∷ c ++ 32 ∷ d)

abbrev pub module_line : List ℕ → GenerationState → Line → Bytes
module_line weights g l =
    four_fields (with_number (codes "module") l.0) (with_number (codes "size") (length (unwrap_or (module_in g.layout l.0) [])))
    (with_number (codes "blocks") l.1) (with_number (codes "weight") (weight weights l.0))

-- the packets of one cycle that is sent alone; their number is the same on each PID
abbrev pub cycle_packets : List ℕ → GenerationState → List Bytes
cycle_packets weights g = packets_of_group (idle 256 0) (cycle_sections weights g)

-- how long so many bytes take, rounded up; a rate is in bits a second, and at least 1
abbrev pub milliseconds : (bytes bitrate : ℕ) → ℕ
milliseconds bytes bitrate = (8000 * bytes + bitrate - 1) / bitrate

abbrev pub cycle_line : (sections packets bitrate : ℕ) → Bytes
cycle_line sections packets bitrate =
    four_fields (with_number (codes "cycle sections") sections) (with_number (codes "packets") packets)
    (with_number (codes "bytes") (PACKET_LENGTH * packets))
    (with_number (codes "milliseconds") (milliseconds (PACKET_LENGTH * packets) bitrate))

-- the plan of a generation, and what was passed over on the way to it
abbrev pub plan_text : (weights : List ℕ) (bitrate : ℕ) → GenerationState → List Stands → Bytes
plan_text weights bitrate g left =
    entry_lines g.tree (map object_of g.objects) left
    ++ (flat_map (module_line weights g) (lines_of g)
    ++ cycle_line (length (cycle_of weights (lines_of g))) (length (cycle_packets weights g)) bitrate)

-- ---- what can't be published, or read

abbrev pub number_text : Option ℕ → Bytes
number_text (Some n) = codes " " ++ decimal n
number_text None = []

-- the cause with the path, the size and the limit that there are
abbrev pub refused_line : (cause : Bytes) (size limit : Option ℕ) → Bytes
refused_line cause size limit = line (codes "refused " ++ cause ++ number_text size ++ number_text limit)

abbrev pub unreadable_line : PathNames → Bytes
unreadable_line p = line (codes "unreadable " ++ text_of p)
