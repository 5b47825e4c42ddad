-- Where the line of a block's module stands among the held DIIs.
use Rattle.std.specs.Prelude.{ℕ, ◌+◌, List, [], ◌∷◌, Option, Some, None, ◌==◌, if◌then◌else◌}
use Rattle.std.specs.List.{position}
use Rattle.std.specs.Option.{option_map_or}
use Rattle.ddb_block.specs.Blocks as ddb
use Rattle.module_cache.specs.Held.{TunedState}

-- its place in a DII of the block's download
abbrev pub line_in : ddb.Block → TunedState → Option ℕ
line_in b t = if t.download == b.download then position (λ x. x.line.id == b.module_id) t.lines else None

-- the place of the first DII that has such a line, and that of the line; the first of these has
-- the place `k`
abbrev pub line_from : ddb.Block → ℕ → List TunedState → Option (ℕ × ℕ)
line_from b k [] = None
line_from b k (t ∷ ts) = option_map_or (λ line. Some (k, line)) (line_in b t) (line_from b (k + 1) ts)
