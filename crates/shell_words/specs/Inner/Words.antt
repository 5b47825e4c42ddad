-- The words of a publication, as the code has them.
use Rattle.std.specs.Prelude.{ℕ}
use Rattle.std.specs.String.{string_bytes}
use Rattle.std.specs.declared.string.String.{String}
use Rattle.path_tree.specs.Paths.{Bytes}

abbrev pub publication_view : {Z : Type 0} → String Z × ℕ × ℕ → Bytes × ℕ × ℕ
publication_view p = (string_bytes p.0, p.1, p.2)
