-- The members of folders and modules: the objects that stand in a folder, and those that lie in a module.
use Rattle.std.proofs.Common.{◌≡◌, ◌∙◌, ◌+◌, ◌++◌, ◌<◌, ◌==◌, ℕ, zero, suc, Bool, Some, not, List, [], ◌∷◌, length, map, take, get_or, refl, sym, ap, subst, arith, inl, inr}
use Rattle.generation.proofs.Words.{All, filter, flat_map, list_any, common_steps, take_more, All-filter, filter_passes, cases_Bool, Tree, Written, is_child, bound_of, location_of, is_in, module_bytes, object_bytes, group_of_parent, nat_tests, length-map, AreReady, IsId, is_of, group_by, By, ByFolder, ByModule, bytes_of_all, view_spot, view_placed, objects_in, IsSpotIn, CodePlaced, CodeObjects, Spot, Placed, entries_of, option_cases}
use Rattle.generation.proofs.Weighing.{top_spot}
use Rattle.generation.proofs.Numbering.{child_has}
use Rattle.generation.proofs.Searching.{filter_seen}
use Rattle.generation.specs.Inner.View.{IsChildIn}

-- what stands where no object does
abbrev pub no_object : CodePlaced
no_object = record { spot = top_spot; key = 0; «module» = 0 }

-- what holds of all holds of the members
pub all_in_group : (P : CodePlaced → Type 0) (by : By) (k : ℕ) (os members : List CodePlaced) → members ≡ filter (is_of by k) os → All P os → All P members
all_in_group P by k os members is all = subst (All P) (sym is) (All-filter (is_of by k) P os all)

-- what holds of the group of each object holds of each group
pub of_any : (by : By) (P : ℕ → Type 0) → ((o : CodePlaced) → P (group_by by o)) → (k : ℕ) → P k
of_any ByFolder P h zero = h no_object
of_any ByFolder P h (suc k) = subst P (omega arith) (h (record no_object { spot = record top_spot { parent = Some k } }))
of_any ByModule P h k = h (record no_object { «module» = k })

-- ---- modules

-- the bytes of its members are those of a module
pub members_bytes : (c : ℕ) (o : CodeObjects) (m : ℕ) (members : List CodePlaced) → members ≡ filter (is_of ByModule m) o.all.items
    → bytes_of_all c (objects_in o) o.tree members ≡ module_bytes c (objects_in o) m
members_bytes c o m members is = ap (bytes_of_all c (objects_in o) o.tree) is ∙ ap (flat_map (object_bytes c (objects_in o))) (filter_seen (view_placed o.tree) (is_in m) o.all.items)

any_kept : {X : Type 0} (p : X → Bool) (xs : List X) → list_any p xs ≡ not (length (filter p xs) == 0)
any_kept p [] = refl
any_kept p (x ∷ xs) = elim (cases_Bool (p x)) [ inl h ↦ rw h (grind (arith, nat_tests)) | inr h ↦ rw h (any_kept p xs) ]

-- a module has an object where it has a member
pub used_in : (m : ℕ) (o : CodeObjects) (members : List CodePlaced) → members ≡ filter (is_of ByModule m) o.all.items → list_any (is_in m) (objects_in o) ≡ not (length members == 0)
used_in m o members is =
    let kept = filter_seen (view_placed o.tree) (is_in m) o.all.items in
    any_kept (is_in m) (objects_in o) ∙ ap (λ n. not (n == 0)) (ap length (sym kept) ∙ (length-map (filter (is_of ByModule m) o.all.items) (view_placed o.tree) ∙ ap length (sym is)))

-- one object more
pub one_more : (c : ℕ) (all : List Placed) (t : Tree) (os : List CodePlaced) (i : ℕ) (d : CodePlaced) → i < length os
    → bytes_of_all c all t (take (i + 1) os) ≡ bytes_of_all c all t (take i os) ++ object_bytes c all (view_placed t (get_or os i d))
one_more c all t os i d lt = rw (take_more os i d lt) (grind (arith, common_steps))

-- ---- folders

child_group : (folder : ℕ) (s : Spot) → is_child folder s ≡ (group_of_parent s.parent == folder + 1)
child_group folder s = elim (option_cases s.parent) [ inl h ↦ rw h.1 (grind (arith, nat_tests)) | inr h ↦ rw h (grind (arith, nat_tests)) ]

-- an object's binding
abbrev pub binding_of : ℕ → Tree → CodePlaced → Written
binding_of carousel t o = record { name = (view_spot t o.spot).name; bound = bound_of (view_spot t o.spot).content; location = location_of carousel (view_placed t o) }

-- the bindings of a folder are those of the objects that stand in it
pub bindings_are : (carousel folder : ℕ) (t : Tree) (os : List CodePlaced) → map (binding_of carousel t) (filter (is_of ByFolder (folder + 1)) os) ≡ entries_of carousel (map (view_placed t) os) folder
bindings_are carousel folder t [] = refl
bindings_are carousel folder t (o ∷ os) =
    let rest = bindings_are carousel folder t os in
    let group = child_group folder (view_spot t o.spot) in
    elim (cases_Bool (group_of_parent o.spot.parent == folder + 1)) [ inl e ↦ rw (group, e) (ap (λ l. binding_of carousel t o ∷ l) rest) | inr e ↦ rw (group, e) rest ]

-- the objects that stand in a folder have names
pub children : (o : CodeObjects) (folder : ℕ) (members : List CodePlaced) → AreReady o → members ≡ filter (is_of ByFolder (folder + 1)) o.all.items → All (IsChildIn o.tree) members
children o folder members ready is = subst (All (IsChildIn o.tree)) (sym is) (λ k d lt.
    let p = is_of ByFolder (folder + 1) in
    let s = view_spot o.tree (get_or (filter p o.all.items) k d).spot in
    let has = child_has folder s (child_group folder s ∙ filter_passes p o.all.items k d lt) in
    let spot = All-filter p (λ x. IsSpotIn o.tree x.spot) o.all.items ready.spots k d lt in
    record { spot = spot; named = spot.named has.0 has.1; listed = All-filter p (λ x. IsId x.«module») o.all.items ready.ids k d lt })
