-- The answer to a path on what a receiver holds.
use Rattle.std.specs.Prelude.{ℕ, Bool, true, false, not, ◌&&◌, ◌||◌, List, [], ◌∷◌, take, drop, Option, Some, None, ◌==◌, if◌then◌else◌}
use Rattle.std.specs.List.{find, list_any}
use Rattle.std.specs.Option.{option_map_or, option_and_then}
use Rattle.path_tree.specs.Paths.{Bytes, PathNames, same_name}
use Rattle.ior_tap.specs.Iors.{TapFields, biop_of_profiles, delivery_of_taps}
use Rattle.ior_tap.specs.declared.Location.{Location}
use Rattle.dsi_dii.specs.Controls.{identification_of}
use Rattle.dsi_dii.specs.declared.ModuleLine.{ModuleLine}
use Rattle.biop_object.specs.Objects.{BindingFields}
use Rattle.biop_object.specs.ObjectReading.{found_of, bindings_of}
use Rattle.biop_object.specs.declared.module.Found.{Found}
use Rattle.biop_object.specs.declared.module.Found.TheVariants as found
use Rattle.path_resolver.specs.Names.{names_of}
use Rattle.path_resolver.specs.declared.answer.Answer.{Answer}
use Rattle.path_resolver.specs.declared.answer.Answer.TheVariants as answers

-- a module, with the identification of the held DII that lists it
pub record HeldModule : Type 0 where
  pub identification : ℕ
  pub line : ModuleLine
  pub bytes : Option Bytes

-- a location and the transactionId of its delivery, where it is known
abbrev pub Target : Type 0
Target = Location × Option ℕ

-- what an answer depends on: the DIIs that are held are given by their identifications, in the order in which they were heard
pub record Held : Type 0 where
  pub label : Option ℕ
  pub held : List ℕ
  pub gateway : Option Target
  pub table : List HeldModule

-- of another carousel, or delivered by a DII that never describes modules
abbrev pub is_elsewhere : ℕ → Target → Bool
is_elsewhere carousel (l, None) = not (l.carousel == carousel)
is_elsewhere carousel (l, Some t) = not (l.carousel == carousel) || (identification_of t == 0)

-- The module of a location: where its delivery is known, as that DII lists it, and else as any held DII does.
abbrev pub module_of : Held → Target → Option HeldModule
module_of held (l, None) = find (λ h. h.line.id == l.module) held.table
module_of held (l, Some t) = find (λ h. (h.identification == identification_of t) && (h.line.id == l.module)) held.table

-- where it isn't listed: a DII that may list it has still to come, unless the one that delivers it is held
abbrev pub unlisted : Held → Target → Answer
unlisted held (l, None) = answers.NotYet l.module
unlisted held (l, Some t) = if list_any (λ i. i == identification_of t) held.held then answers.Dangling l.module else answers.NotYet l.module

abbrev pub target_of : Option (Location × List TapFields) → Option Target
target_of (Some (l, taps)) = Some (l, delivery_of_taps taps)
target_of None = None

-- where the first binding of a name leads
abbrev pub by_binding : (Target → Answer) → Option BindingFields → Answer
by_binding rest (Some b) = option_map_or rest (target_of (biop_of_profiles b.target.profiles)) answers.Elsewhere
by_binding rest None = answers.NoSuch

-- at an object: no name is left
abbrev pub answer_at_end : ℕ → Bytes → Found → Answer
answer_at_end m bytes (found.File span) = answers.File (take span.length (drop span.first bytes))
answer_at_end m bytes (found.Folder k) = answers.Folder (names_of (bindings_of bytes k))
answer_at_end m bytes found.Other = answers.OtherKind m
answer_at_end m bytes (found.Bad place) = answers.Bad m place
answer_at_end m bytes found.Missing = answers.Dangling m

-- at an object: a name is left
abbrev pub goes_on : (Target → Answer) → Bytes → ℕ → Bytes → Found → Answer
goes_on rest name m bytes (found.File span) = answers.NoSuch
goes_on rest name m bytes (found.Folder k) =
    by_binding rest (option_and_then (λ bindings. find (λ b. same_name name b.name) bindings)
    (bindings_of bytes k))
goes_on rest name m bytes found.Other = answers.OtherKind m
goes_on rest name m bytes (found.Bad place) = answers.Bad m place
goes_on rest name m bytes found.Missing = answers.Dangling m

abbrev pub at_target : ℕ → Held → (Bytes → Answer) → Target → Answer
at_target carousel held object t =
    if is_elsewhere carousel t then answers.Elsewhere
    else option_map_or
    (λ h. if h.line.compressed then answers.Compressed t.0.module
    else option_map_or object h.bytes (answers.NotYet t.0.module))
    (module_of held t) (unlisted held t)

-- at a location, where a name is left: `rest` is the walk from the next location on
abbrev pub turn : ℕ → Held → (Target → Answer) → Bytes → Target → Answer
turn carousel held rest name t = at_target carousel held (λ bytes. goes_on rest name t.0.module bytes (found_of bytes t.0.key)) t

abbrev pub walk : ℕ → Held → PathNames → Target → Answer
walk carousel held [] t =
    at_target carousel held (λ bytes. answer_at_end t.0.module bytes (found_of bytes t.0.key)) t
walk carousel held (n ∷ ns) t = turn carousel held (walk carousel held ns) n t

abbrev pub answer_of : Held → PathNames → Answer
answer_of held path = go held.gateway held.label where
  go : Option Target → Option ℕ → Answer
  go (Some g) (Some label) = walk g.0.carousel held path g
  go _ _ = answers.NoCarousel

-- the answer shares a module
abbrev pub is_shared : Answer → Bool
is_shared (answers.File file) = true
is_shared (answers.Folder folder) = true
is_shared _ = false
