-- The lines of the modules of one id.
use Rattle.std.specs.Prelude.{ℕ, [], ◌==◌, if◌then◌else◌}
use Rattle.std.specs.List.{filter, flat_map}
use Rattle.path_tree.specs.Paths.{Bytes}
use Rattle.module_cache.specs.Held.{TunedState}
use Rattle.module_cache.specs.declared.stored.Line.{Line}
use Rattle.reception_report.specs.Telling.{module_line}

-- the line of a module of this id
abbrev pub module_if : ℕ → Line → Bytes
module_if id x = if x.line.id == id then module_line x else []

-- those of a DII's modules of this id
abbrev pub modules_of : ℕ → TunedState → Bytes
modules_of id t = flat_map module_line (filter (λ x. x.line.id == id) t.lines)
