-- That the premises of the laws can be met, and that a receiver does wait.
use Rattle.std.specs.Prelude.{◌≡◌, ◌≢◌, ℕ, suc, ◌<◌, List, [], ◌∷◌, ◌++◌, map, take, replicate, Option, Some, slice_get, slice_index_or, slice_set}
use Rattle.std.specs.List.{range_with_len}
use Rattle.path_tree.specs.Paths.{Bytes, PathNames}
use Rattle.path_tree.specs.Trees.{Tree, File, Folder, node_at}
use Rattle.path_tree.specs.declared.entry.Entry.TheVariants as entries
use Rattle.biop_object.specs.Names.{Layout}
use Rattle.cycle_planner.specs.Cycle.{cycle_of}
use Rattle.cycle_planner.specs.Weights.{AreWeights}
use Rattle.cycle_planner.specs.declared.Item.TheVariants.{Dsi, Dii, Block}
use Rattle.generation.specs.Layouts.{lines_in, key_bytes}
use Rattle.generation.specs.Kept.{layouts_of}
use Rattle.generation.specs.Lawful.{IsPublishable, layout_at, section_in}
use Rattle.path_resolver.specs.declared.answer.Answer.{Answer}
use Rattle.path_resolver.specs.declared.answer.Answer.TheVariants as answers
use Rattle.section_stream.specs.Cuts.{candidates}
use Rattle.section_stream.specs.Packing.{idle}
use Rattle.section_stream.specs.Groups.{packets_of_groups}
use Rattle.tuner_core.specs.LookBack.{answer_after}
use Rattle.biop_object.specs.Objects.{file_spelling, folder_spelling}
use Rattle.biop_object.specs.declared.written.Bound.TheVariants as bounds
use Rattle.biop_object.specs.declared.written.FolderKind.TheVariants.{Gateway}
use Rattle.cycle_planner.specs.declared.Item.{Item}
use Rattle.tuner_core.specs.Heard.{as_heard}
use Rattle.tuner_core.specs.Turns.{turns_of}
use Rattle.carousel_world.specs.Headline.{block_there, waiting_in}
use Rattle.carousel_world.specs.Broadcasts.{Broadcast, SendsInOrder, section_groups, sections, NeverBack, IsAscribed, Group}
use Rattle.carousel_world.specs.Premises.{AcceptedAreSent, IsHeardOf, IsWhole}
use Rattle.carousel_world.specs.Receptions.{label_after}
use Rattle.carousel_world.specs.Publishing.{layouts_for, publication}
use Rattle.carousel_world.specs.Runs.{ones, RunIsPremised}

-- a tree with a file, which can be published
pub record HasFile (t : Tree) : Type 0 where
  pub publishable : IsPublishable t
  pub path : PathNames
  pub content : Bytes
  pub there : node_at t path ≡ File content

-- a tree that keeps a folder in which nothing stands, and can be published
pub record HasBareFolder (t : Tree) : Type 0 where
  pub publishable : IsPublishable t
  pub path : PathNames
  pub below : path ≢ []
  pub there : node_at t path ≡ Folder []

-- the control sections of generation 1 and no block
abbrev pub control_alone : ℕ → Tree → List Bytes
control_alone carousel t = section_in carousel (layouts_for carousel t) 1 Dsi ∷ section_in carousel (layouts_for carousel t) 1 (Dii 1) ∷ []

-- ---- two generations, heard with losses and damage

-- a tree of one file, whose name is `a`
abbrev pub tree_of : Bytes → Tree
tree_of content = ((97 ∷ []) ∷ [], entries.File content) ∷ []

-- a whole cycle of each of these generations, of carousel 1, with these layouts; the first tree is that of generation 1
abbrev pub cycles_with : List Layout → List Tree → List ℕ → Broadcast
cycles_with ls trees generations = record {
  carousel = 1;
  trees = [] ∷ trees;
  layouts = ls;
  groups = map (λ g. record { generation = g; items = cycle_of ones (lines_in (layout_at ls g)) }) generations;
}

-- with the layouts that the rules make
abbrev pub cycles_of : List Tree → List ℕ → Broadcast
cycles_of trees generations = cycles_with (layouts_of 1 trees) trees generations

-- what was sent on PID 256, what was received of it, and for each received packet the number of the sent one that it is from
pub record Reception : Type 0 where
  pub broadcast : Broadcast
  pub packets : List Bytes
  pub numbers : List ℕ

-- packet n of what is sent
abbrev pub packet_of : Broadcast → ℕ → Bytes
packet_of b n = slice_index_or (packets_of_groups (idle 256 0) (section_groups b)) n []

-- all premises hold together, and a whole cycle of this generation was heard
pub record IsPremised (r : Reception) (g : ℕ) : Type 0 where
  pub never_back : NeverBack (slice_get r.numbers)
  pub heard : IsHeardOf r.broadcast (candidates 256 r.packets) (IsAscribed r.broadcast 256 r.packets (slice_get r.numbers))
  pub whole : IsWhole r.broadcast.carousel r.broadcast.layouts g (candidates 256 r.packets)

-- after the first n packets this is the label, and this the answer to `/a`
pub record Tells (r : Reception) (n : ℕ) (label : Option ℕ) (answer : Answer) : Type 0 where
  pub label_is : label_after (candidates 256 (take n r.packets)) ≡ label
  pub answer_is : answer_after (candidates 256 (take n r.packets)) ((97 ∷ []) ∷ []) ≡ answer

-- Generation 1 is sent once and generation 2, whose file has other bytes, twice. A cycle is three packets: the DSI and the DII begin in the
-- first, the one block begins in the second and ends in the third. In generation 1's DSI a byte is changed, its second packet comes twice
-- and its third is lost; in generation 2's first block a byte is changed.
abbrev pub changed_file : Broadcast
changed_file = cycles_of (tree_of (1 ∷ 2 ∷ 3 ∷ []) ∷ tree_of (4 ∷ 5 ∷ 6 ∷ []) ∷ []) (1 ∷ 2 ∷ 2 ∷ [])

abbrev pub damaged_of : Broadcast → Reception
damaged_of b = record {
  broadcast = b;
  packets = slice_set (packet_of b 0) 100 7 ∷ packet_of b 1 ∷ packet_of b 1 ∷ packet_of b 3 ∷ slice_set (packet_of b 4) 100 7
      ∷ packet_of b 5 ∷ packet_of b 6 ∷ packet_of b 7 ∷ packet_of b 8 ∷ [];
  numbers = 0 ∷ 1 ∷ 1 ∷ 3 ∷ 4 ∷ 5 ∷ 6 ∷ 7 ∷ 8 ∷ [];
}

abbrev pub damaged_reception : Reception
damaged_reception = damaged_of changed_file

pub record DamageIsPremised : Type 0 where
  pub premised : IsPremised damaged_reception 2
  -- the DII of generation 1 was heard, and no DSI
  pub before : Tells damaged_reception 3 (Some 1) answers.NoCarousel
  -- generation 2's DII turned, and its block is damaged
  pub damaged_block : Tells damaged_reception 6 (Some 2) (answers.NotYet 1)
  pub after : Tells damaged_reception 9 (Some 2) (answers.File (4 ∷ 5 ∷ 6 ∷ []))

-- The same file is published twice, in a module of two blocks. Generation 1 is sent once and generation 2 three times, each cycle in 24
-- packets: the first block begins in the second packet, and ends in the last, where the second block begins. Of generation 1 the DSI and the
-- DII come; of generation 2 the first block, with a byte of the second changed, then the DSI and the DII, the second block, and both blocks
-- once more.
abbrev pub seven : Bytes
seven = replicate 4000 7

abbrev pub same_file : Broadcast
same_file = cycles_of (tree_of seven ∷ tree_of seven ∷ []) (1 ∷ 2 ∷ 2 ∷ 2 ∷ [])

abbrev pub numbers_taken : List ℕ
numbers_taken = 0 ∷ 1 ∷ range_with_len 25 23 ++ 48 ∷ 49 ∷ 71 ∷ range_with_len 73 23

abbrev pub carried_of : Broadcast → Reception
carried_of b = record {
  broadcast = b;
  packets = map (packet_of b) (0 ∷ 1 ∷ range_with_len 25 22) ++ slice_set (packet_of b 47) 100 0 ∷ map (packet_of b) (48 ∷ 49 ∷ 71 ∷ range_with_len 73 23);
  numbers = numbers_taken;
}

abbrev pub carried_over : Reception
carried_over = carried_of same_file

pub record CarryingIsPremised : Type 0 where
  pub premised : IsPremised carried_over 2
  -- the block of generation 2 is one commit away from the DII before it, which describes the module alike
  pub before : Tells carried_over 25 (Some 1) (answers.NotYet 1)
  -- generation 2's DII turned
  pub turned : Tells carried_over 27 (Some 2) (answers.NotYet 1)
  -- of the two blocks only the second was heard since
  pub carried : Tells carried_over 28 (Some 2) (answers.File seven)

-- ---- two generations that two DIIs describe each

-- the gateway, whose one binding leads to a file of three bytes in module 140, which is of group 2
abbrev pub gateway_to_file : Bytes
gateway_to_file = folder_spelling Gateway (key_bytes 1) (record { name = 97 ∷ []; bound = bounds.File 3; location = record { carousel = 1; «module» = 140; key = key_bytes 2 } } ∷ [])

-- that file
abbrev pub file_alone : Bytes
file_alone = file_spelling (key_bytes 2) (1 ∷ 2 ∷ 3 ∷ [])

-- one module in each of two groups
abbrev pub two_groups : Layout
two_groups = (1, gateway_to_file) ∷ (140, file_alone) ∷ []

-- a gateway of no bindings
abbrev pub empty_gateway : Layout
empty_gateway = (1, folder_spelling Gateway (key_bytes 1) []) ∷ []

abbrev pub one_file : Tree
one_file = tree_of (1 ∷ 2 ∷ 3 ∷ [])

-- each item in a group of its own
abbrev pub one_by_one : ℕ → List Item → List Group
one_by_one g items = map (λ item. record { generation = g; items = item ∷ [] }) items

-- The same file is published twice. Of each generation both DIIs and both blocks are sent; each section begins in a packet of its own, and
-- ends in it.
abbrev pub two_diis : Broadcast
two_diis = record {
  carousel = 1;
  trees = [] ∷ one_file ∷ one_file ∷ [];
  layouts = empty_gateway ∷ two_groups ∷ two_groups ∷ [];
  groups = one_by_one 1 (Dsi ∷ Dii 1 ∷ Dii 2 ∷ Block 1 0 ∷ Block 140 0 ∷ []) ++ one_by_one 2 (Dii 1 ∷ Block 1 0 ∷ Dii 2 ∷ Block 140 0 ∷ []);
}

-- all packets come, but a byte of generation 1's block of module 1 is changed
abbrev pub two_diis_received : Reception
two_diis_received = record {
  broadcast = two_diis;
  packets = map (packet_of two_diis) (0 ∷ 1 ∷ 2 ∷ []) ++ slice_set (packet_of two_diis 3) 100 7 ∷ map (packet_of two_diis) (range_with_len 4 5);
  numbers = range_with_len 0 9;
}

pub record JoiningIsPremised : Type 0 where
  pub premised : IsPremised two_diis_received 2
  -- module 140 is there, and module 1's block is damaged
  pub before : Tells two_diis_received 5 (Some 1) (answers.NotYet 1)
  -- generation 2's DII 1 turned and its module came; module 140 isn't whole while DII 2 isn't held
  pub awaited : Tells two_diis_received 7 (Some 2) (answers.NotYet 140)
  -- its block waits
  pub waiting : waiting_in (turns_of (map as_heard (candidates 256 (take 7 two_diis_received.packets)))) 140 0 ≡ Some file_alone
  -- DII 2 joined, and the module is kept: no block of it was heard since
  pub kept : Tells two_diis_received 8 (Some 2) (answers.File (1 ∷ 2 ∷ 3 ∷ []))
  -- the block came once more
  pub after : Tells two_diis_received 9 (Some 2) (answers.File (1 ∷ 2 ∷ 3 ∷ []))

-- ---- two generations as far apart as the premises allow

-- The same file is published 256 times. Of generation 1 the DSI and both DIIs are sent; of
-- generation 256, which is 255 commits later, the block of module 140, and then a whole cycle, with
-- the block of module 1 twice. Each section begins in a packet of its own, and ends in it.
abbrev pub far_apart : Broadcast
far_apart = record {
  carousel = 1;
  trees = [] ∷ replicate 256 one_file;
  layouts = empty_gateway ∷ replicate 256 two_groups;
  groups = one_by_one 1 (Dsi ∷ Dii 1 ∷ Dii 2 ∷ []) ++ one_by_one 256
      (Block 140 0 ∷ Dsi ∷ Dii 1 ∷ Dii 2 ∷ Block 1 0 ∷ Block 1 0 ∷ Block 140 0 ∷ []);
}

-- all packets come, but a byte of the first block of module 1 is changed
abbrev pub far_received : Reception
far_received = record {
  broadcast = far_apart;
  packets = map (packet_of far_apart) (range_with_len 0 7)
      ++ slice_set (packet_of far_apart 7) 100 7 ∷ map (packet_of far_apart) (8 ∷ 9 ∷ []);
  numbers = range_with_len 0 10;
}

-- block 0 of module 140 is there, after the first n packets
abbrev pub file_there : Reception → ℕ → Option Bytes
file_there r n = block_there (candidates 256 (take n r.packets)) 140 0

pub record FarIsPremised : Type 0 where
  pub premised : IsPremised far_received 256
  -- The last DII before the block of module 140 is generation 1's DII 2, which describes the module
  -- alike: the block is taken.
  pub before : Tells far_received 4 (Some 1) (answers.NotYet 1)
  pub taken : file_there far_received 4 ≡ Some file_alone
  -- generation 256's DII 1 turned
  pub turned : Tells far_received 6 (Some 256) (answers.NotYet 1)
  -- its DII 2 joined, and the block was kept: it wasn't heard since
  pub kept : file_there far_received 7 ≡ Some file_alone
  -- module 1's block is damaged
  pub damaged : Tells far_received 8 (Some 256) (answers.NotYet 1)
  -- it came once more
  pub after : Tells far_received 9 (Some 256) (answers.File (1 ∷ 2 ∷ 3 ∷ []))

pub record PremisesCanBeMet : Type 0 where
  -- the weights of the instances here are weights
  pub weights : AreWeights ones
  -- some tree can be published
  pub tree : (t : Tree) × HasFile t
  -- and some tree with a folder in which nothing stands
  pub bare : (t : Tree) × HasBareFolder t
  -- what is published is sent in order
  pub in_order : (carousel : ℕ) (weights : List ℕ) (cycles : ℕ) (t : Tree) → carousel < 4294967296 → IsPublishable t → SendsInOrder (publication carousel weights cycles t)
  -- its sections, as they were sent, are what was sent
  pub undamaged : (carousel : ℕ) (weights : List ℕ) (cycles : ℕ) (t : Tree) → AcceptedAreSent (publication carousel weights cycles t) (sections (publication carousel weights cycles t)) (λ i k. i ≡ k)
  -- one cycle or more is a whole one
  pub whole : (carousel : ℕ) (weights : List ℕ) (cycles : ℕ) (t : Tree) → carousel < 4294967296 → AreWeights weights → IsPublishable t
      → IsWhole carousel (layouts_for carousel t) 1 (sections (publication carousel weights (suc cycles) t))
  -- who has heard no block waits for the module in which the gateway lies, whatever the path
  pub waits : (carousel : ℕ) (t : Tree) (p : PathNames) → carousel < 4294967296 → IsPublishable t → answer_after (control_alone carousel t) p ≡ answers.NotYet 1
  -- a loss, a repeated packet and a changed byte, before a whole cycle of the later of two generations
  pub damage : DamageIsPremised
  -- a block that is carried over a turn
  pub carrying : CarryingIsPremised
  -- a module of a second DII, which waits over a turn until that DII joins
  pub joining : JoiningIsPremised
  -- a block that is heard 255 commits after the DII before it, and carried over that turn
  pub far : FarIsPremised
  -- a list of events of a world, with losses and damage
  pub run : RunIsPremised
