-- The limits of the commands and of what stands below them, each as the number that it is, and the kinds of objects as
-- their bytes. A crate names its own by constants, and the other definitions take them from there.
use Rattle.std.specs.Prelude.{◌≡◌, [], ◌∷◌}
use Rattle.carousel_profile.specs.declared.TheConstants.{BLOCK_SIZE, CAROUSEL_PID, MOST_PID}
use Rattle.path_tree.specs.declared.text.TheConstants.{MOST_NAMES}
use Rattle.path_tree.specs.declared.tree.TheConstants.{MOST_CONTENT}
use Rattle.module_groups.specs.declared.TheConstants.{GROUP_SIZE, MOST_GROUPS, GREATEST_ID}
use Rattle.ddb_block.specs.declared.TheConstants.{MOST_BLOCK_SIZE, MOST_BLOCKS}
use Rattle.dsi_dii.specs.declared.TheConstants.{MOST_MODULES, MOST_TOTAL_SIZE, LAST_GENERATION}
use Rattle.biop_object.specs.declared.written.TheConstants.{MOST_FOLDER_SIZE}
use Rattle.biop_object.specs.declared.reading.TheConstants.{FILE, DIRECTORY, GATEWAY}
use Rattle.block_assembler.specs.declared.TheConstants.{MOST_MODULE_SIZE}
use Rattle.tuner_core.specs.declared.turns.TheConstants.{MOST_HELD}
use Rattle.cycle_planner.specs.declared.weigh.TheConstants.{GREATEST_WEIGHT}
use Rattle.cycle_planner.specs.declared.TheConstants.{MOST_DRAWN}
use Rattle.generation.specs.declared.limit.TheConstants.{MOST_OBJECTS}
use Rattle.generation_catalogue.specs.declared.journal.TheConstants.{MOST_DRAWS, MOST_PUT_BYTES}
use Rattle.mount_table.specs.declared.mount.TheConstants as tables
use Rattle.watch_desk.specs.declared.TheConstants as desks
use Rattle.path_listing.specs.declared.walking.TheConstants.{MOST_LISTED}
use Rattle.session_script.specs.declared.words.TheConstants.{MOST_ACTORS, MOST_FATES, MOST_FILLED}
use Rattle.shell_streams.specs.declared.packets.TheConstants.{MOST_PACKETS}
use Rattle.shell_words.specs.declared.parsing.TheConstants.{MOST_CYCLES, MOST_AIR_CYCLES, MOST_BITRATE, MOST_BIG}
use Rattle.shell_words.specs.declared.table.TheConstants.{MOST_MOUNT_NAME}
use Rattle.shell_words.specs.declared.values.TheConstants as words
use Rattle.receiver_commands.specs.declared.assemble.TheConstants.{MOST_ASSEMBLED, ASSEMBLED_BLOCK}
use Rattle.shell_commands.specs.declared.plain.TheConstants.{MOST_OPENED}
use Rattle.shell_commands.specs.declared.rehearse.TheConstants.{MOST_SCRIPT_BYTES}

pub record Limits : Type 0 where
  -- the input of a command: sections that are assembled, of blocks of so many bytes, sections that
  -- are opened, packets, and bytes of a script
  pub assembled : MOST_ASSEMBLED ≡ 65536
  pub assembled_block : ASSEMBLED_BLOCK ≡ 4066
  pub opened : MOST_OPENED ≡ 16777216
  pub packets : MOST_PACKETS ≡ 16777216
  pub script_bytes : MOST_SCRIPT_BYTES ≡ 16777216
  -- the words of commands
  pub cycles : MOST_CYCLES ≡ 1000
  pub air_cycles : MOST_AIR_CYCLES ≡ 4294967295
  pub bitrate : MOST_BITRATE ≡ 4294967295
  pub big : MOST_BIG ≡ 16
  pub pid_in_words : words.MOST_PID ≡ 8190
  pub watched_in_words : words.MOST_WATCHED ≡ 1024
  pub name_in_words : MOST_MOUNT_NAME ≡ 32
  -- the PID on which `publish` sends
  pub pid : CAROUSEL_PID ≡ 256
  -- what is listed, mounted and watched
  pub listed : MOST_LISTED ≡ 65536
  pub mounts : tables.MOST_MOUNTS ≡ 16
  pub mount_name : tables.MOST_NAME ≡ 32
  pub mount_pid : MOST_PID ≡ 8190
  pub watched : desks.MOST_WATCHED ≡ 1024
  pub filters : desks.MOST_FILTERS ≡ 64
  -- scripts
  pub actors : MOST_ACTORS ≡ 64
  pub fates : MOST_FATES ≡ 65536
  pub filled : MOST_FILLED ≡ 16777217
  -- trees and generations
  pub names : MOST_NAMES ≡ 16
  pub content : MOST_CONTENT ≡ 16777216
  pub objects : MOST_OBJECTS ≡ 8192
  pub folder_size : MOST_FOLDER_SIZE ≡ 1048576
  -- the kinds of objects in a module: fil, dir and srg, each with a zero byte behind it
  pub file_kind : FILE ≡ 102 ∷ 105 ∷ 108 ∷ 0 ∷ []
  pub folder_kind : DIRECTORY ≡ 100 ∷ 105 ∷ 114 ∷ 0 ∷ []
  pub gateway_kind : GATEWAY ≡ 115 ∷ 114 ∷ 103 ∷ 0 ∷ []
  pub last_generation : LAST_GENERATION ≡ 16383
  pub put_bytes : MOST_PUT_BYTES ≡ 536870912
  pub draws : MOST_DRAWS ≡ 16777216
  -- modules by their ids, the groups that have a DII each, and their blocks
  pub modules : GREATEST_ID ≡ 2224
  pub groups : MOST_GROUPS ≡ 16
  pub group_size : GROUP_SIZE ≡ 139
  pub dii_modules : MOST_MODULES ≡ 139
  pub total_size : MOST_TOTAL_SIZE ≡ 268435456
  pub module_size : MOST_MODULE_SIZE ≡ 16842752
  pub block_size : BLOCK_SIZE ≡ 4066
  pub most_block_size : MOST_BLOCK_SIZE ≡ 4066
  pub blocks : MOST_BLOCKS ≡ 65536
  -- the DIIs that a receiver holds together
  pub held_diis : MOST_HELD ≡ 16
  -- the order of a cycle
  pub weight : GREATEST_WEIGHT ≡ 8
  pub drawn : MOST_DRAWN ≡ 1048576
