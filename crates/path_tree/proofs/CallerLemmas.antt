-- Lemmas for those who use this crate.
-- Equal names and equal paths are the same ones, and each is equal to itself.
pub use Rattle.path_tree.proofs.Order.{same_name-is, same_name-refl, same_name-flips, same_path-is, same_path-refl, same_path-flips}
-- Names and paths that differ, or that stand before one another, are not the same ones by the tests.
pub use Rattle.path_tree.proofs.Order.{names_differ, paths_differ, less_differ, same_path-cmp}
-- The orders of names and of paths are total ones, and paths below another stand after it.
pub use Rattle.path_tree.proofs.Order.{name_total, name_cmp-is, name_cmp-refl, path_total, path_cmp-is, path_cmp-refl, cmp-ends, not_both_less, below-less, next_name-none}
-- A text and what stands before its first slash.
pub use Rattle.path_tree.proofs.Pieces.{cut_none, cut_at}
-- A tree's entries by recursion: each stands before those after it, and nothing lies below a file.
pub use Rattle.path_tree.proofs.Rising.{Item, Apart, Rises, rises_from, rises_tree, order_from, apart_from}
-- The bytes of an entry that is a file stand at its path.
pub use Rattle.path_tree.proofs.Flagged.{content_here}
-- An edit that isn't refused keeps a tree a tree.
pub use Rattle.path_tree.proofs.Keeping.{edit_keeps}
-- A tree as folders in folders has the tree's entries, and a look-up walks down it.
pub use Rattle.path_tree.proofs.Walks.{has_first}
pub use Rattle.path_tree.proofs.Bridge.{nested-flat, walk, no_less, apart_down}
-- The folders in folders of entries that begin with those of one name.
pub use Rattle.path_tree.proofs.Splitting.{StartsElse, with_first, nested_split, rises_under, alone}
