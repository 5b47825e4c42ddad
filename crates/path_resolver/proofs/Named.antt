-- The names of a folder are those of its bindings.
use Rattle.std.proofs.Common.{◌≡◌, ℕ, zero, suc, ◌<◌, List, [], ◌∷◌, length, map, get_or, Option, Some, sym, ap, subst, ◌∙◌, arith}
use Rattle.std.specs.Prelude.{slice_get}
use Rattle.path_tree.specs.Paths.{Bytes}
use Rattle.biop_object.specs.declared.module.Binding.{Binding}
use Rattle.biop_object.specs.Objects.{BindingFields, view_binding}
use Rattle.path_resolver.specs.Names.{names_of}

at_place : (bs : List Binding) (i : ℕ) (b : Binding) → i < length (names_of (Some (map view_binding bs))) → b ≡ get_or bs i b → slice_get (names_of (Some (map view_binding bs))) i ≡ Some b.name
at_place [] i b lt e = absurd (omega (arith, lt))
at_place (x ∷ bs) zero b lt e = ap (λ (y : Binding). Some y.name) (sym e)
at_place (x ∷ bs) (suc i) b lt e = at_place bs i b (omega (arith, lt)) e

pub name_at : (names : List Bytes) (o : Option (List BindingFields)) (bs : List Binding) (i : ℕ) (b : Binding) (name : Bytes) → names ≡ names_of o → o ≡ Some (map view_binding bs) → i < length names → b ≡ get_or bs i b → name ≡ b.name
    → slice_get names i ≡ Some name
name_at names o bs i b name e f lt is g =
    let same : names ≡ names_of (Some (map view_binding bs)) = e ∙ ap names_of f in
    let below : i < length (names_of (Some (map view_binding bs))) = subst (λ (ns : List Bytes). i < length ns) same lt in
    ap (λ (ns : List Bytes). slice_get ns i) same ∙ at_place bs i b below is ∙ ap (λ (n : Bytes). Some n) (sym g)
