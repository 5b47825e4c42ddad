-- What is there of a module, as callers see it.
use Rattle.std.specs.Prelude.{Option, Some, None}
use Rattle.std.specs.Arc.{arc_value}
use Rattle.path_tree.specs.Paths.{Bytes}
use Rattle.module_cache.specs.Contents as contents
use Rattle.module_cache.specs.Contents.{Content}
use Rattle.module_cache.specs.declared.taken.Slot.{Slot}
use Rattle.module_cache.specs.declared.taken.Slot.TheVariants as slots

pub data SlotState : Type 0 where
  Unlisted : SlotState
  Compressed : SlotState
  Partial : SlotState
  Whole : Bytes → SlotState

abbrev pub view_slot : Slot → SlotState
view_slot slots.Unlisted = Unlisted
view_slot slots.Compressed = Compressed
view_slot slots.Partial = Partial
view_slot (slots.Whole m) = Whole (arc_value m.now)

-- of a module that is listed
abbrev pub slot_of : Content → SlotState
slot_of contents.Packed = Compressed
slot_of (contents.Blocks blocks) = Partial
slot_of (contents.Whole bytes) = Whole bytes

-- the module's bytes, where it is whole, and else a part of it
abbrev pub whole_or_part : Option Bytes → SlotState
whole_or_part (Some bytes) = Whole bytes
whole_or_part None = Partial
