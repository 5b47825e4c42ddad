-- What a receiver holds that holds one generation, and what it finds at a location.
use Rattle.std.proofs.Common.{◌≡◌, ℕ, ◌≤◌, ◌⊎◌, inl, inr, Bool, true, false, not, cond, ◌&&◌, ◌||◌, eqb, List, Option, Some, None, refl, ap, ◌∙◌, arith}
use Rattle.std.specs.List.{find, list_any}
use Rattle.std.specs.Option.{is_some, option_map_or}
use Rattle.std.proofs.lemmas.Bool.{ne_eqb, eq-eqb}
use Rattle.path_tree.specs.Paths.{Bytes, PathNames}
use Rattle.ior_tap.specs.declared.Location.{Location}
use Rattle.dsi_dii.specs.Controls.{identification_of}
use Rattle.biop_object.specs.Names.{Layout, module_in}
use Rattle.generation.specs.Groups.{group_of}
use Rattle.generation.specs.Layouts.{gateway_location}
use Rattle.path_resolver.specs.Resolving.{HeldModule, Held, at_target}
use Rattle.path_resolver.specs.declared.answer.Answer.{Answer}
use Rattle.path_resolver.specs.declared.answer.Answer.TheVariants as answers
use Rattle.carousel_world.specs.Headline.{modules_on}
use Rattle.carousel_world.proofs.Modules.{group_some}

abbrev of_dii : ℕ → ℕ → HeldModule → Bool
of_dii i m h = eqb h.identification i && eqb h.line.id m

-- the DII of the module's group is held and lists it: with its bytes or, while it isn't whole, none
pub record IsListedIn (held : Held) (m : ℕ) (bytes : Bytes) : Type 0 where
  pub entry : HeldModule
  pub first : find (λ h. eqb h.line.id m) held.table ≡ Some entry
  pub by_dii : find (λ h. eqb h.identification (group_of m) && eqb h.line.id m) held.table ≡ Some entry
  pub plain : entry.line.compressed ≡ false
  pub content : (entry.bytes ≡ Some bytes) ⊎ (entry.bytes ≡ None)

-- the DII of the module's group isn't held
pub record IsUnlistedIn (held : Held) (m : ℕ) : Type 0 where
  pub none : find (λ h. eqb h.line.id m) held.table ≡ None
  pub none_by_dii : find (λ h. eqb h.identification (group_of m) && eqb h.line.id m) held.table ≡ None
  pub absent : list_any (λ i. eqb i (group_of m)) held.held ≡ false

pub record HoldsOf (carousel : ℕ) (layout : Layout) (held : Held) : Type 0 where
  pub number : ℕ
  pub label : held.label ≡ Some number
  pub delivery : ℕ
  pub gateway : held.gateway ≡ Some (gateway_location carousel, Some delivery)
  pub delivered : identification_of delivery ≡ 1
  pub table : (m : ℕ) (bytes : Bytes) → module_in layout m ≡ Some bytes → IsListedIn held m bytes ⊎ IsUnlistedIn held m

-- ---- whole modules, as they are held

abbrev pub has_bytes : Option HeldModule → Bool
has_bytes (Some h) = is_some h.bytes
has_bytes None = false

-- the module is listed, and every block of it is held
abbrev pub is_held_whole : Held → ℕ → Bool
is_held_whole held m = has_bytes (find (λ h. eqb h.line.id m) held.table)

-- the first of these modules that isn't held whole
abbrev pub missing_of : Held → List ℕ → Option ℕ
missing_of held ms = find (λ m. not (is_held_whole held m)) ms

-- the first of them on a path's walk
abbrev pub first_not_held : ℕ → Layout → Held → PathNames → Option ℕ
first_not_held carousel layout held p = missing_of held (modules_on layout (Some (gateway_location carousel)) p)

-- ---- at a location

-- what is sought in a module is sought in the layout's bytes
pub record IsThere (carousel : ℕ) (held : Held) (l : Location) (d : Option ℕ) (bytes : Bytes) : Type 0 where
  pub whole : is_held_whole held l.module ≡ true
  pub object : (seek : Bytes → Answer) → at_target carousel held seek (l, d) ≡ seek bytes

-- or isn't there yet
pub record IsAwaited (carousel : ℕ) (held : Held) (l : Location) (d : Option ℕ) : Type 0 where
  pub missing : is_held_whole held l.module ≡ false
  pub object : (seek : Bytes → Answer) → at_target carousel held seek (l, d) ≡ answers.NotYet l.module

-- the same by the identification of the DII that delivers it
abbrev by_number : ℕ → Held → (Bytes → Answer) → Location → ℕ → Answer
by_number carousel held seek l i =
    cond (not (eqb l.carousel carousel) || eqb i 0) answers.Elsewhere
    (option_map_or (λ (h : HeldModule). cond h.line.compressed (answers.Compressed l.module) (option_map_or seek h.bytes (answers.NotYet l.module)))
    (find (λ h. eqb h.identification i && eqb h.line.id l.module) held.table) (cond (list_any (λ k. eqb k i) held.held) (answers.Dangling l.module) (answers.NotYet l.module)))

not_zero : (i : ℕ) → 1 ≤ i → eqb i 0 ≡ false
not_zero i le = ne_eqb i 0 (λ e. zero_not i e le) where
  zero_not : (i : ℕ) → i ≡ 0 → 1 ≤ i → ⊥
  zero_not i e le = omega (arith, e, le)

pub held_or_awaited : (carousel : ℕ) (held : Held) (l : Location) (d : Option ℕ) (bytes : Bytes) → l.carousel ≡ carousel → ((t : ℕ) → d ≡ Some t → identification_of t ≡ group_of l.module)
    → IsListedIn held l.module bytes ⊎ IsUnlistedIn held l.module → IsThere carousel held l d bytes ⊎ IsAwaited carousel held l d
held_or_awaited carousel held l None bytes own delivered (inl is) = go is.content where
  here : eqb l.carousel carousel ≡ true
  here = eq-eqb l.carousel carousel own

  go : (is.entry.bytes ≡ Some bytes) ⊎ (is.entry.bytes ≡ None) → IsThere carousel held l None bytes ⊎ IsAwaited carousel held l None
  go (inl e) = inl (record { whole = rw (is.first, e) refl; object = λ seek. rw (here, is.first, is.plain, e) refl })
  go (inr e) = inr (record { missing = rw (is.first, e) refl; object = λ seek. rw (here, is.first, is.plain, e) refl })
held_or_awaited carousel held l None bytes own delivered (inr not) =
    let here : eqb l.carousel carousel ≡ true = eq-eqb l.carousel carousel own in
    inr (record { missing = rw not.none refl; object = λ seek. rw (here, not.none) refl })
held_or_awaited carousel held l (Some t) bytes own delivered (inl is) = go is.content where
  here : eqb l.carousel carousel ≡ true
  here = eq-eqb l.carousel carousel own

  some : eqb (group_of l.module) 0 ≡ false
  some = not_zero (group_of l.module) (group_some l.module)

  go : (is.entry.bytes ≡ Some bytes) ⊎ (is.entry.bytes ≡ None) → IsThere carousel held l (Some t) bytes ⊎ IsAwaited carousel held l (Some t)
  go (inl e) = inl (record { whole = rw (is.first, e) refl; object = λ seek. ap (by_number carousel held seek l) (delivered t refl) ∙ rw (here, some, is.by_dii, is.plain, e) refl })
  go (inr e) = inr (record { missing = rw (is.first, e) refl; object = λ seek. ap (by_number carousel held seek l) (delivered t refl) ∙ rw (here, some, is.by_dii, is.plain, e) refl })
held_or_awaited carousel held l (Some t) bytes own delivered (inr not) =
    let here : eqb l.carousel carousel ≡ true = eq-eqb l.carousel carousel own in
    let some : eqb (group_of l.module) 0 ≡ false = not_zero (group_of l.module) (group_some l.module) in
    inr (record { missing = rw not.none refl; object = λ seek. ap (by_number carousel held seek l) (delivered t refl) ∙ rw (here, some, not.none_by_dii, not.absent) refl })
