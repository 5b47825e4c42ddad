-- Locations and steps of a walk, as the walk keeps them.
use Rattle.std.specs.Prelude.{◌≡◌, ℕ, Option}
use Rattle.path_tree.specs.Paths.{Bytes}
use Rattle.path_resolver.specs.Resolving.{Held, Target as TargetOf, goes_on, by_binding, turn, at_target}
use Rattle.biop_object.specs.Objects.{BindingFields}
use Rattle.biop_object.specs.declared.module.Found.{Found}
use Rattle.path_resolver.specs.declared.answer.Answer.{Answer}
use Rattle.path_resolver.specs.declared.walking.Target.{Target}
use Rattle.path_resolver.specs.declared.walking.Step.{Step}
use Rattle.path_resolver.specs.declared.walking.Step.TheVariants as steps

abbrev pub view_target : Target → TargetOf
view_target t = (t.location.now, t.delivery)

-- where an object leads, by the name that is left
abbrev pub ObjectGoes : Bytes → ℕ → Bytes → Found → Step → Type 0
ObjectGoes name m bytes found (steps.On next) = (rest : TargetOf → Answer) → goes_on rest name m bytes found ≡ rest (view_target next)
ObjectGoes name m bytes found (steps.Ends answer) = (rest : TargetOf → Answer) → goes_on rest name m bytes found ≡ answer

-- where a binding leads
abbrev pub BindingGoes : Option BindingFields → Step → Type 0
BindingGoes binding (steps.On next) = (rest : TargetOf → Answer) → by_binding rest binding ≡ rest (view_target next)
BindingGoes binding (steps.Ends answer) = (rest : TargetOf → Answer) → by_binding rest binding ≡ answer

-- where a name leads from a location
abbrev pub StepGoes : ℕ → Held → Bytes → TargetOf → Step → Type 0
StepGoes carousel held name t (steps.On next) = (rest : TargetOf → Answer) → turn carousel held rest name t ≡ rest (view_target next)
StepGoes carousel held name t (steps.Ends answer) = (rest : TargetOf → Answer) → turn carousel held rest name t ≡ answer

-- a module that is held whole, or the answer where it isn't, whatever is sought in it
abbrev pub IsModuleAt : ℕ → Held → TargetOf → Bytes → Type 0
IsModuleAt carousel held t bytes = (object : Bytes → Answer) → at_target carousel held object t ≡ object bytes

abbrev pub IsNoModule : ℕ → Held → TargetOf → Answer → Type 0
IsNoModule carousel held t answer = (object : Bytes → Answer) → at_target carousel held object t ≡ answer
