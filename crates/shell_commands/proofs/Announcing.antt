-- What `publish-psi` sends, cycle by cycle.
use Rattle.std.proofs.Common.{◌≡◌, ℕ, zero, suc, ◌+◌, ◌-◌, ◌<◌, List, [], ◌∷◌, ◌++◌, length, map, refl, sym, ap, ap₂, ◌∙◌, append_assoc, append-nil, arith, Err}
use Rattle.std.specs.List.{concat}
use Rattle.std.proofs.lemmas.List.Folds.{concat-append}
use Rattle.path_tree.specs.Trees.{Tree}
use Rattle.cycle_planner.specs.Cycle.{cycle_of}
use Rattle.generation.specs.Layouts.{GenerationState, generation_of, lines_of, section_of}
use Rattle.generation.specs.Kept.{GenerationsAreOfTheLists}
use Rattle.folder_store.specs.Folders.{FolderTree}
use Rattle.section_stream.specs.Groups.{IsBetween, layout_of, packets_of_group, past_group}
use Rattle.section_stream.specs.Packing.{MuxState}
use Rattle.section_stream.proofs.CallerLemmas.{between_idle}
use Rattle.psi_tables.specs.Written.{AnnouncerState, announcer_packets, after_announcing}
use Rattle.shell_streams.specs.Cuts.{Bytes}
use Rattle.shell_streams.specs.Sending.{OutputState, Puts, HasPut}
use Rattle.shell_streams.specs.declared.output.OutputFault.{OutputFault}
use Rattle.shell_streams.proofs.CallerLemmas.{puts_as}
use Rattle.receiver_commands.specs.Over.{Over, sink_over}
use Rattle.shell_commands.specs.Inner.Cycles.{IsOfFolder}
use Rattle.shell_commands.specs.Announced.{Senders, senders_start, cycle_sent, after_cycle, cycles_sent, after_cycles, published_psi}
use Rattle.shell_commands.specs.PublishPsi.{PublishesPsi}
use Rattle.receiver_commands.specs.Statuses.{output_status}
use Rattle.receiver_commands.specs.declared.status.Status.TheVariants as status
use Rattle.shell_commands.proofs.Committing.{one_cycle_is, ended_all, ended_part}

-- ---- cycles one after another

after_one_more : (cycle : List Bytes) (n : ℕ) (s : Senders) → after_cycles cycle (suc n) s ≡ after_cycle cycle (after_cycles cycle n s)
after_one_more cycle zero s = refl
after_one_more cycle (suc n) s = after_one_more cycle n (after_cycle cycle s)

cycles_then : (cycle : List Bytes) (m n : ℕ) (s : Senders) → cycles_sent cycle m s ++ cycles_sent cycle n (after_cycles cycle m s) ≡ cycles_sent cycle (m + n) s
cycles_then cycle zero n s = let e : n ≡ 0 + n = omega arith in ap (λ k. cycles_sent cycle k s) e
cycles_then cycle (suc m) n s =
    let e : suc (m + n) ≡ suc m + n = omega arith in
    append_assoc (cycle_sent cycle s) (cycles_sent cycle m (after_cycle cycle s)) (cycles_sent cycle n (after_cycles cycle m (after_cycle cycle s)))
    ∙ ap (λ ps. cycle_sent cycle s ++ ps) (cycles_then cycle m n (after_cycle cycle s)) ∙ ap (λ k. cycles_sent cycle k s) e

-- one cycle more: the tables, and then the sections
pub cycle_more : (cycle : List Bytes) (n : ℕ) (s : Senders) (tables : AnnouncerState) (objects : MuxState) → tables ≡ (after_cycles cycle n s).tables → objects ≡ (after_cycles cycle n s).objects
    → (concat (cycles_sent cycle n s) ++ concat (announcer_packets tables)) ++ concat (packets_of_group objects cycle) ≡ concat (cycles_sent cycle (n + 1) s)
cycle_more cycle n s tables objects t o =
    let now = after_cycles cycle n s in
    append_assoc (concat (cycles_sent cycle n s)) (concat (announcer_packets tables)) (concat (packets_of_group objects cycle))
    ∙ ap₂ (λ (a : AnnouncerState) (m : MuxState). concat (cycles_sent cycle n s) ++ (concat (announcer_packets a) ++ concat (packets_of_group m cycle))) t o
    ∙ ap (λ bs. concat (cycles_sent cycle n s) ++ bs) (sym (concat-append (announcer_packets now.tables) (packets_of_group now.objects cycle)))
    ∙ ap (λ bs. concat (cycles_sent cycle n s) ++ concat bs) (sym (append-nil (cycle_sent cycle now)))
    ∙ sym (concat-append (cycles_sent cycle n s) (cycles_sent cycle 1 now)) ∙ ap concat (cycles_then cycle n 1 s)

pub tables_more : (cycle : List Bytes) (n : ℕ) (s : Senders) (tables : AnnouncerState) → tables ≡ (after_cycles cycle n s).tables → after_announcing tables ≡ (after_cycles cycle (n + 1) s).tables
tables_more cycle n s tables t =
    let e : suc n ≡ n + 1 = omega arith in
    ap after_announcing t ∙ ap (λ (x : Senders). x.tables) (sym (after_one_more cycle n s)) ∙ ap (λ k. (after_cycles cycle k s).tables) e

pub objects_more : (cycle : List Bytes) (n : ℕ) (s : Senders) (objects : MuxState) → objects ≡ (after_cycles cycle n s).objects → past_group objects cycle ≡ (after_cycles cycle (n + 1) s).objects
objects_more cycle n s objects o =
    let e : suc n ≡ n + 1 = omega arith in
    ap (λ m. past_group m cycle) o ∙ ap (λ (x : Senders). x.objects) (sym (after_one_more cycle n s)) ∙ ap (λ k. (after_cycles cycle k s).objects) e

-- no group is under way between cycles
pub objects_between : (cycle : List Bytes) (n : ℕ) (s : Senders) → IsBetween s.objects → IsBetween (after_cycles cycle n s).objects
objects_between cycle zero s b = b
objects_between cycle (suc n) s b = objects_between cycle n (after_cycle cycle s) (between_idle s.objects.pid (s.objects.counter + length (layout_of cycle)))

-- the first cycles, and the others
pub cycles_all : (cycle : List Bytes) (i n : ℕ) (s : Senders) → i < n
    → concat (cycles_sent cycle (i + 1) s) ++ concat (cycles_sent cycle (n - (i + 1)) (after_cycles cycle (i + 1) s)) ≡ concat (cycles_sent cycle n s)
cycles_all cycle i n s h =
    let e : i + 1 + (n - (i + 1)) ≡ n = omega arith in
    sym (concat-append (cycles_sent cycle (i + 1) s) (cycles_sent cycle (n - (i + 1)) (after_cycles cycle (i + 1) s)))
    ∙ ap concat (cycles_then cycle (i + 1) (n - (i + 1)) s ∙ ap (λ k. cycles_sent cycle k s) e)

-- the tables of one cycle more were put, and its sections are to follow
pub tables_then : (cycle : List Bytes) (n : ℕ) (s : Senders) (tables : AnnouncerState) → tables ≡ (after_cycles cycle n s).tables
    → (concat (cycles_sent cycle n s) ++ concat (announcer_packets tables)) ++ concat (packets_of_group (after_cycles cycle n s).objects cycle) ≡ concat (cycles_sent cycle (n + 1) s)
tables_then cycle n s tables t = cycle_more cycle n s tables (after_cycles cycle n s).objects t refl

-- ---- what is promised

psi_is : (carousel : ℕ) (weights : List ℕ) (cycles : ℕ) (t : Tree) (g : GenerationState) → GenerationsAreOfTheLists → g ≡ generation_of carousel (t ∷ [])
    → concat (cycles_sent (map (section_of g) (cycle_of weights (lines_of g))) cycles (senders_start carousel)) ≡ published_psi carousel weights cycles t
psi_is carousel weights cycles t g law e = ap (λ cycle. concat (cycles_sent cycle cycles (senders_start carousel))) (one_cycle_is carousel weights t g law e)

pub psi_all : (folder : Bytes) (carousel : ℕ) (weights : List ℕ) (cycles : ℕ) (old new : OutputState) (folders : Over FolderTree) (g : GenerationState) → GenerationsAreOfTheLists
    → IsOfFolder folder carousel folders.before g → old.pending ≡ [] → new.pending ≡ []
    → HasPut old new (concat (cycles_sent (map (section_of g) (cycle_of weights (lines_of g))) cycles (senders_start carousel))) → PublishesPsi folder carousel weights cycles status.Done (sink_over old new) folders
psi_all folder carousel weights cycles old new folders g lists of begin empty puts =
    ended_all folder carousel (published_psi carousel weights cycles) old new folders g of begin empty (puts_as (psi_is carousel weights cycles of.tree g lists of.is) puts)

pub psi_part : (folder : Bytes) (carousel : ℕ) (weights : List ℕ) (cycles : ℕ) (old new : OutputState) (folders : Over FolderTree) (g : GenerationState) (f : OutputFault) → GenerationsAreOfTheLists
    → IsOfFolder folder carousel folders.before g → old.pending ≡ []
    → Puts {T = Unit {0}} (Err f) old new (concat (cycles_sent (map (section_of g) (cycle_of weights (lines_of g))) cycles (senders_start carousel)))
    → PublishesPsi folder carousel weights cycles (output_status f) (sink_over old new) folders
psi_part folder carousel weights cycles old new folders g f lists of begin puts =
    ended_part folder carousel (published_psi carousel weights cycles) old new folders g f of begin (puts_as (psi_is carousel weights cycles of.tree g lists of.is) puts)

-- the packets that were put into the emptied room
pub room_is : (cleared made : List Bytes) (packets : List Bytes) → made ≡ cleared ++ packets → cleared ≡ [] → made ≡ packets
room_is cleared made packets m c = m ∙ ap (λ ps. ps ++ packets) c
