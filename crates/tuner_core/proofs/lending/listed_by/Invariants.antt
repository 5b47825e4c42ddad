use Rattle.std.proofs.Common.{◌≡◌, ◌==◌, Option, map, drop}
use Rattle.std.specs.List.{find}
use Rattle.module_cache.specs.Contents.{bytes_of}
use Rattle.path_resolver.specs.Resolving.{HeldModule}
use Rattle.tuner_core.specs.Stands.{modules_of}
use Rattle.tuner_core.proofs.lending.listed_by.Given as goal

-- the lines that are left decide
abbrev pub invariant-loop-line : goal.invariant-loop-line
invariant-loop-line l =
    ◌≡◌ {A = Option HeldModule}
    (find (λ h. h.line.id == l.id) (map (λ x. record { identification = l.identification; line = x.line; bytes = bytes_of x.stored.content }) (drop l.line-index l.line-items)))
    (find (λ h. h.line.id == l.id) (modules_of l.tuned))
