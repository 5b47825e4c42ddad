use Rattle.std.proofs.Common.{◌≡◌, ◌++◌, List, map, take}
use Rattle.path_resolver.specs.Resolving.{HeldModule}
use Rattle.path_resolver.specs.Shots.{view_held}
use Rattle.module_cache.specs.Contents.{bytes_of}
use Rattle.tuner_core.proofs.tuner.put_lines.Given as goal

abbrev pub invariant-loop-line : goal.invariant-loop-line
invariant-loop-line l =
    ◌≡◌ {A = List HeldModule} (map view_held l.table.items)
    (map view_held l.fn.table.items ++ map (λ x. record { identification = l.identification; line = x.line; bytes = bytes_of x.stored.content }) (take l.line-index l.line-items))
