-- The first binding of a name, and a walk along names.
use Rattle.std.proofs.Common.{◌≡◌, ℕ, zero, suc, ◌+◌, List, [], ◌∷◌, drop, Option, Some, None, refl, sym, ap, ◌∙◌, add-one}
use Rattle.std.proofs.lemmas.Option.{same_Some}
use Rattle.std.specs.Prelude.{slice_get}
use Rattle.std.specs.List.{find}
use Rattle.std.specs.Option.{option_and_then}
use Rattle.path_tree.specs.Paths.{Bytes, PathNames, same_name}
use Rattle.path_resolver.specs.declared.answer.Answer.{Answer}
use Rattle.path_resolver.specs.Resolving.{Held, Target, goes_on, by_binding, walk, turn}
use Rattle.path_resolver.specs.Inner.Targets.{BindingGoes, ObjectGoes}
use Rattle.path_resolver.specs.declared.walking.Step.{Step}
use Rattle.path_resolver.specs.declared.walking.Step.TheVariants as steps
use Rattle.biop_object.specs.Objects.{BindingFields}
use Rattle.biop_object.specs.ObjectReading.{bindings_of, binding_in}
use Rattle.biop_object.specs.declared.module.Found.{Found}
use Rattle.biop_object.specs.declared.module.Found.TheVariants as founds

-- ---- one name more

pub front_of : {A : Type 0} (xs : List A) (i : ℕ) (x : A) → slice_get xs i ≡ Some x → drop i xs ≡ x ∷ drop (suc i) xs
front_of [] i x e = absurd cc
front_of {A = A} (y ∷ ys) zero x e = ap (λ (z : A). z ∷ ys) (same_Some y x e)
front_of (y ∷ ys) (suc i) x e = front_of ys i x e

pub ends : (carousel : ℕ) (held : Held) (path : PathNames) (i : ℕ) (name : Bytes) (t : Target) (answer whole : Answer) → slice_get path i ≡ Some name → ((rest : Target → Answer) → turn carousel held rest name t ≡ answer)
    → walk carousel held (drop i path) t ≡ whole → answer ≡ whole
ends carousel held path i name t answer whole e h so_far =
    let one : walk carousel held (drop i path) t ≡ answer = ap (λ (ns : PathNames). walk carousel held ns t) (front_of path i name e) ∙ h (walk carousel held (drop (suc i) path)) in
    sym one ∙ so_far

pub goes : (carousel : ℕ) (held : Held) (path : PathNames) (i : ℕ) (name : Bytes) (t next : Target) (whole : Answer) → slice_get path i ≡ Some name → ((rest : Target → Answer) → turn carousel held rest name t ≡ rest next)
    → walk carousel held (drop i path) t ≡ whole → walk carousel held (drop (i + 1) path) next ≡ whole
goes carousel held path i name t next whole e h so_far =
    let one : walk carousel held (drop i path) t ≡ walk carousel held (drop (suc i) path) next = ap (λ (ns : PathNames). walk carousel held ns t) (front_of path i name e) ∙ h (walk carousel held (drop (suc i) path)) in
    rw add-one (sym one ∙ so_far)

-- ---- a folder's first binding of the name

first_of_name : (name : Bytes) (o : Option (List BindingFields)) → option_and_then (λ bindings. find (λ b. same_name name b.name) bindings) o ≡ binding_in name o
first_of_name name (Some bindings) = refl
first_of_name name None = refl

pub folder_goes : (name : Bytes) (m k : ℕ) (bytes : Bytes) (found : Found) (o : Option BindingFields) (step : Step) → found ≡ founds.Folder k → o ≡ binding_in name (bindings_of bytes k) → BindingGoes o step → ObjectGoes name m bytes found step
folder_goes name m k bytes found o (steps.On next) is e h = λ rest. ap (goes_on rest name m bytes) is ∙ ap (by_binding rest) (first_of_name name (bindings_of bytes k) ∙ sym e) ∙ h rest
folder_goes name m k bytes found o (steps.Ends answer) is e h = λ rest. ap (goes_on rest name m bytes) is ∙ ap (by_binding rest) (first_of_name name (bindings_of bytes k) ∙ sym e) ∙ h rest
