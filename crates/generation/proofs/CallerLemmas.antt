-- What callers cite.
--
-- A group has a DII by a layout exactly where it has one by its lines (`dii_of_lines`, and items that are those of the lists). A DII lists
-- the modules of its group (`all_of_group`), which are few (`few_of_group`), as ids that rise between two numbers are (`rising_few`). What
-- holds of each layout holds of the one at a place (`at_layout`).
pub use Rattle.generation.proofs.Grouping.{at_layout, all_of_group, few_of_group, rising_few, dii_of_lines}
-- The objects of a tree are what stands in it: their order, numbers and folders, and which is at a path.
pub use Rattle.generation.proofs.Numbering.{objects_stand}
