use Rattle.std.proofs.Common.{◌≡◌, drop}
use Rattle.ddb_block.specs.Blocks.{parts_view}
use Rattle.module_cache.specs.Inner.Placing.{line_from}
use Rattle.module_cache.proofs.cache.place_of_line.Given as goal

abbrev pub invariant-loop-place : goal.invariant-loop-place
invariant-loop-place l = line_from (parts_view l.parts) 0 l.held ≡ line_from (parts_view l.parts) l.place (drop l.place l.held)
