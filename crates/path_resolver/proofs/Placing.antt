-- Where a walk's last location lies: a walk shows where it goes on to, since it gives whatever is answered there.
use Rattle.std.proofs.Common.{◌≡◌, ℕ, ◌+◌, Bool, true, false, List, drop, Option, Some, None, refl, sym, ap, ◌∙◌, add-one, if◌then◌else◌}
use Rattle.std.specs.Prelude.{slice_get}
use Rattle.std.specs.List.{find}
use Rattle.std.specs.Option.{option_map_or, option_and_then}
use Rattle.path_tree.specs.Paths.{Bytes, PathNames, same_name}
use Rattle.biop_object.specs.Objects.{BindingFields}
use Rattle.biop_object.specs.ObjectReading.{found_of, bindings_of}
use Rattle.biop_object.specs.declared.module.Found.{Found}
use Rattle.biop_object.specs.declared.module.Found.TheVariants as found
use Rattle.ior_tap.specs.Iors.{biop_of_profiles}
use Rattle.path_resolver.specs.declared.answer.Answer.{Answer}
use Rattle.path_resolver.specs.declared.answer.Answer.TheVariants as answers
use Rattle.path_resolver.specs.Resolving.{Held, HeldModule, Target, is_elsewhere, module_of, unlisted, target_of, by_binding, goes_on, turn}
use Rattle.path_resolver.specs.Places.{whole_bytes, bound_target, folder_target, target_by, target_in, next_target, last_target, module_at_end}
use Rattle.path_resolver.proofs.Finding.{front_of}

-- the answer of the rest, or another one where the walk ends
by_next : (Target → Answer) → Answer → Option Target → Answer
by_next rest other (Some t) = rest t
by_next rest other None = other

-- with a name left the walk goes on as the name leads, or ends with one answer
GoesBy : ((Target → Answer) → Answer) → Option Target → Type 0
GoesBy walk next = (other : Answer) × ((rest : Target → Answer) → walk rest ≡ by_next rest other next)

location_goes : (o : Option Target) → GoesBy (λ rest. option_map_or rest o answers.Elsewhere) o
unfolding by_next GoesBy
location_goes (Some t) = (answers.Elsewhere, λ rest. refl)
location_goes None = (answers.Elsewhere, λ rest. refl)

binding_goes : (o : Option BindingFields) → GoesBy (λ rest. by_binding rest o) (bound_target o)
unfolding by_next GoesBy
binding_goes (Some b) = location_goes (target_of (biop_of_profiles b.target.profiles))
binding_goes None = (answers.NoSuch, λ rest. refl)

folder_goes : (name : Bytes) (o : Option (List BindingFields)) → GoesBy (λ rest. by_binding rest (option_and_then (λ bindings. find (λ b. same_name name b.name) bindings) o)) (folder_target name o)
unfolding by_next GoesBy
folder_goes name (Some bindings) = binding_goes (find (λ b. same_name name b.name) bindings)
folder_goes name None = (answers.NoSuch, λ rest. refl)

object_goes : (name : Bytes) (m : ℕ) (bytes : Bytes) (f : Found) → GoesBy (λ rest. goes_on rest name m bytes f) (target_by name bytes f)
unfolding by_next GoesBy
object_goes name m bytes (found.File span) = (answers.NoSuch, λ rest. refl)
object_goes name m bytes (found.Folder k) = folder_goes name (bindings_of bytes k)
object_goes name m bytes found.Other = (answers.OtherKind m, λ rest. refl)
object_goes name m bytes (found.Bad place) = (answers.Bad m place, λ rest. refl)
object_goes name m bytes found.Missing = (answers.Dangling m, λ rest. refl)

bytes_go : (name : Bytes) (t : Target) (o : Option Bytes) → GoesBy (λ rest. option_map_or (λ bytes. goes_on rest name t.0.module bytes (found_of bytes t.0.key)) o (answers.NotYet t.0.module)) (target_in name t o)
unfolding by_next GoesBy
bytes_go name t (Some bytes) = object_goes name t.0.module bytes (found_of bytes t.0.key)
bytes_go name t None = (answers.NotYet t.0.module, λ rest. refl)

packed_goes : (name : Bytes) (t : Target) (h : HeldModule) (packed : Bool)
    → GoesBy (λ rest. if packed then answers.Compressed t.0.module else option_map_or (λ bytes. goes_on rest name t.0.module bytes (found_of bytes t.0.key)) h.bytes (answers.NotYet t.0.module))
    (target_in name t (if packed then None else h.bytes))
unfolding by_next GoesBy
packed_goes name t h true = (answers.Compressed t.0.module, λ rest. refl)
packed_goes name t h false = bytes_go name t h.bytes

module_goes : (name : Bytes) (t : Target) (absent : Answer) (o : Option HeldModule)
    → GoesBy (λ rest. option_map_or (λ (h : HeldModule). if h.line.compressed then answers.Compressed t.0.module else option_map_or (λ bytes. goes_on rest name t.0.module bytes (found_of bytes t.0.key)) h.bytes (answers.NotYet t.0.module)) o absent) (target_in name t (whole_bytes o))
unfolding by_next GoesBy
module_goes name t absent (Some h) = packed_goes name t h h.line.compressed
module_goes name t absent None = (absent, λ rest. refl)

elsewhere_goes : (held : Held) (name : Bytes) (t : Target) (elsewhere : Bool)
    → GoesBy (λ rest. if elsewhere then answers.Elsewhere else option_map_or (λ (h : HeldModule). if h.line.compressed then answers.Compressed t.0.module else option_map_or (λ bytes. goes_on rest name t.0.module bytes (found_of bytes t.0.key)) h.bytes (answers.NotYet t.0.module)) (module_of held t) (unlisted held t))
    (target_in name t (if elsewhere then None else whole_bytes (module_of held t)))
unfolding by_next GoesBy
elsewhere_goes held name t true = (answers.Elsewhere, λ rest. refl)
elsewhere_goes held name t false = module_goes name t (unlisted held t) (module_of held t)

turn_goes : (carousel : ℕ) (held : Held) (name : Bytes) (t : Target) → GoesBy (λ rest. turn carousel held rest name t) (next_target carousel held name t)
turn_goes carousel held name t = elsewhere_goes held name t (is_elsewhere carousel t)

-- ---- what two answers for the rest show

told : Option ℕ → Answer
told (Some m) = answers.NotYet m
told None = answers.NoSuch

told_same : (a b : Option ℕ) → told a ≡ told b → a ≡ b
unfolding told
told_same (Some m) (Some n) e = cc
told_same (Some m) None e = cc
told_same None (Some n) e = cc
told_same None None e = refl

on_by : (f : Option Target → Option ℕ) (next : Target) (other : Answer) (o : Option Target) → ((rest : Target → Answer) → rest next ≡ by_next rest other o) → f o ≡ f (Some next)
unfolding by_next told
on_by f next other (Some t) e = told_same (f (Some t)) (f (Some next)) (sym (e (λ u. told (f (Some u)))))
on_by f next other None e =
    let one : answers.NoSuch ≡ other = e (λ _. answers.NoSuch) in
    let two : answers.Elsewhere ≡ other = e (λ _. answers.Elsewhere) in
    cc

end_by : (answer other : Answer) (o : Option Target) → ((rest : Target → Answer) → answer ≡ by_next rest other o) → o ≡ None
unfolding by_next
end_by answer other (Some t) e =
    let one : answer ≡ answers.NoSuch = e (λ _. answers.NoSuch) in
    let two : answer ≡ answers.Elsewhere = e (λ _. answers.Elsewhere) in
    cc
end_by answer other None e = refl

next_on : (carousel : ℕ) (held : Held) (name : Bytes) (t next : Target) (f : Option Target → Option ℕ) → ((rest : Target → Answer) → turn carousel held rest name t ≡ rest next)
    → f (next_target carousel held name t) ≡ f (Some next)
unfolding GoesBy
next_on carousel held name t next f goes =
    let by = turn_goes carousel held name t in
    on_by f next by.0 (next_target carousel held name t) (λ rest. sym (goes rest) ∙ by.1 rest)

next_ends : (carousel : ℕ) (held : Held) (name : Bytes) (t : Target) (answer : Answer) → ((rest : Target → Answer) → turn carousel held rest name t ≡ answer) → next_target carousel held name t ≡ None
unfolding GoesBy
next_ends carousel held name t answer ends =
    let by = turn_goes carousel held name t in
    end_by answer by.0 (next_target carousel held name t) (λ rest. sym (ends rest) ∙ by.1 rest)

-- ---- one name more

home_next : (carousel : ℕ) (held : Held) (path : PathNames) (i : ℕ) (name : Bytes) (t : Target) → slice_get path i ≡ Some name
    → module_at_end (last_target carousel held (drop i path) (Some t)) ≡ module_at_end (last_target carousel held (drop (i + 1) path) (next_target carousel held name t))
home_next carousel held path i name t e = rw add-one (ap (λ (ns : PathNames). module_at_end (last_target carousel held ns (Some t))) (front_of path i name e))

pub home_ends : (carousel : ℕ) (held : Held) (path : PathNames) (i : ℕ) (name : Bytes) (t : Target) (answer : Answer) (whole : Option ℕ) → slice_get path i ≡ Some name
    → ((rest : Target → Answer) → turn carousel held rest name t ≡ answer) → module_at_end (last_target carousel held (drop i path) (Some t)) ≡ whole → None ≡ whole
home_ends carousel held path i name t answer whole e ends so_far =
    sym (ap (λ (o : Option Target). module_at_end (last_target carousel held (drop (i + 1) path) o)) (next_ends carousel held name t answer ends))
    ∙ sym (home_next carousel held path i name t e) ∙ so_far

pub home_goes : (carousel : ℕ) (held : Held) (path : PathNames) (i : ℕ) (name : Bytes) (t next : Target) (whole : Option ℕ) → slice_get path i ≡ Some name
    → ((rest : Target → Answer) → turn carousel held rest name t ≡ rest next) → module_at_end (last_target carousel held (drop i path) (Some t)) ≡ whole
    → module_at_end (last_target carousel held (drop (i + 1) path) (Some next)) ≡ whole
home_goes carousel held path i name t next whole e goes so_far =
    sym (next_on carousel held name t next (λ o. module_at_end (last_target carousel held (drop (i + 1) path) o)) goes)
    ∙ sym (home_next carousel held path i name t e) ∙ so_far
