-- Lists without the elements that are the same as one further in front, with one element more.
use Rattle.std.specs.Prelude.{Bool, List, [], ◌∷◌, ◌++◌, if◌then◌else◌}
use Rattle.std.specs.List.{list_any}

-- those with one element more, where the earlier ones are these
abbrev pub with_new : {A : Type 0} → (A → A → Bool) → (once earlier : List A) → A → List A
with_new same once earlier x = if list_any (λ y. same y x) earlier then once else once ++ x ∷ []
