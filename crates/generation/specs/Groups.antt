-- The modules of a group, which one DII lists.
use Rattle.std.specs.Prelude.{ℕ, Bool, ◌==◌}
use Rattle.std.specs.List.{filter}
use Rattle.path_tree.specs.Paths.{Bytes}
use Rattle.biop_object.specs.Names.{Layout}
pub use Rattle.module_groups.specs.Groups.{group_of}
pub use Rattle.dsi_dii.specs.Controls.{dii_transaction}

abbrev pub is_in_group : ℕ → ℕ × Bytes → Bool
is_in_group j m = group_of m.0 == j

-- the modules of a group
abbrev pub group_in : Layout → ℕ → Layout
group_in layout j = filter (is_in_group j) layout
