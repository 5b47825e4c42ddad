-- Old lines put into new ones, one after another.
use Rattle.std.specs.Prelude.{List, ◌&&◌, ◌==◌, if◌then◌else◌}
use Rattle.std.specs.List.{fold}
use Rattle.module_cache.specs.Held.{TunedState, with_first}
use Rattle.module_cache.specs.Spans.{same_line}
use Rattle.module_cache.specs.declared.stored.Line.{Line}

-- a new line with what is there of the old one, where both describe the module in the same way
abbrev pub line_keeping : Line → Line → Line
line_keeping old x = if same_line old.line x.line then record { line = x.line; stored = old.stored } else x

abbrev pub lines_keeping : List Line → Line → List Line
lines_keeping xs old = with_first (λ x. x.line.id == old.line.id) (line_keeping old) xs

abbrev pub tuned_keeping : TunedState → TunedState → TunedState
tuned_keeping t old =
    if (old.download == t.download) && (old.block_size == t.block_size)
    then record t { lines = fold lines_keeping t.lines old.lines } else t
