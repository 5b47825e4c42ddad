-- Filters as definitions see them.
use Rattle.std.specs.Prelude.{List, map}
use Rattle.path_tree.specs.Paths.{PathNames}
use Rattle.watch_desk.specs.declared.filter.Filter.{Filter}

-- the prefix of each
abbrev pub prefixes_of : {X : _} {F : _} {g : _} → List (Filter X F g) → List PathNames
prefixes_of filters = map (λ f. f.prefix) filters
