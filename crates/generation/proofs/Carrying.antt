-- The modules carry the tree. A path names in them what stands there: each folder holds what stands in it, and so on down. Every module reads
-- to its end, and every binding leads into a listed module.
use Rattle.std.proofs.Common.{◌≡◌, ◌≢◌, ℕ, zero, suc, ◌+◌, ◌-◌, ◌<◌, ◌≤◌, ◌&&◌, ◌==◌, List, [], ◌∷◌, ◌++◌, length, map, take, drop, Option, Some, None, cond, refl, sym, ◌∙◌, ap, subst, arith, append-nil, inl, inr, max, get_or}
use Rattle.generation.proofs.Words.{All, list_any, list_any_at, drop-drop, drop_at, All-contains, length-range_with_len, get_or-range_with_len, cond_some, some_pair_parts, Object, shape_bindings, unwrap_or, Node, spelled, range_with_len, filter, filter_map, flat_map, find, fold, cons_option, All-cons, All-nil, All-map, All-filter, get_or-map, get_or_default, length-map, eq-eqb, cond_both, cases_eq, cases_Bool, ne_eqb, take_at, same_Some, Bytes, PathNames, same_name, same_name-refl, Tree, node_at, Nesting, Empty, FileThen, FolderThen, names_in, in_file, stands_in, stands_at, nested, walk, Location, Layout, Thing, AFile, AFolder, module_in, thing_at, thing_in, thing_of, thing_named, location_in, first_of_key, binding_of, Written, IsFolder, index_of, spelled_bytes, spelled_object, spelled_objects, IsSpellable, SpellingsReadBack, GREATEST_ID, Spot, gateway_spot, below, spots_in, spots_of, is_child, Placed, entries_of, written_in, bound_of, gateway_location, location_of, key_bytes, key_in, placed_at, object_bytes, is_in, module_bytes, module_if_used, layout_of, greatest, ArePlaced, IsId, IsNode, IsInside, Carries, option_cases, all_unmap}
use Rattle.biop_object.specs.Names.{location_of as location_from}
use Rattle.generation.specs.Publication.{count_in}
use Rattle.generation.proofs.Keyed.{Distinct, same_keys}
use Rattle.generation.proofs.Numbering.{numbers, all_parts}
use Rattle.generation.proofs.Placing.{each_id, the_gateway, first_one}
use Rattle.generation.proofs.Standing.{folder_stands}
use Rattle.ior_tap.specs.Iors as iors

-- ---- an object in its module

-- what an object is to a reader, by its content and its bindings
abbrev shown : Option Bytes → List Written → Thing
shown (Some b) entries = AFile b
shown None entries = AFolder (map binding_of entries)

abbrev seen : ℕ → List Placed → Placed → Thing
seen c objects o = shown o.spot.content (entries_of c objects o.spot.number)

-- an object that stands at a place of its module, or what is read after it
one_read : (c : ℕ) (objects : List Placed) (o : Placed) (key whole later : Bytes) (at : ℕ) (next : Option Thing) → drop at whole ≡ object_bytes c objects o ++ later
    → cond (same_name key (spelled_object at (spelled c objects o)).key) (Some (thing_of whole (spelled_object at (spelled c objects o)).shape)) next
    ≡ cond (same_name key (key_bytes o.key)) (Some (seen c objects o)) next
one_read c objects o key whole later at next is = elim (option_cases o.spot.content) [
  | inl h ↦ rw h.1 (ap (λ b. cond (same_name key (key_bytes o.key)) (Some (AFile b)) next)
      (ap (take (length h.0)) (sym (drop-drop 44 at whole) ∙ ap (drop 44) (rw h.1 at is)) ∙ take_at h.0 later (length h.0) refl))
  | inr h ↦ rw h refl
]

-- an object is read by its key where these stand at a place of its module
abbrev IsRead : ℕ → List Placed → List Placed → Placed → Type 0
IsRead c objects os o = (whole : Bytes) (at : ℕ) → drop at whole ≡ flat_map (object_bytes c objects) os
    → first_of_key whole (key_bytes o.key) (spelled_objects at (map (spelled c objects) os)) ≡ Some (seen c objects o)

each_read : (c : ℕ) (objects os : List Placed) → Distinct (map (λ o. o.key) os) → All (λ o. o.key < 8194) os → All (λ o. IsRead c objects (filter (is_in o.module_id) os) o) os
each_read c objects [] apart small k d lt = absurd (omega (arith, lt))
each_read c objects (x ∷ xs) apart small zero d lt =
    rw (eq-eqb x.module_id x.module_id refl) (λ whole at is. one_read c objects x (key_bytes x.key) whole _ at _ is ∙ rw (same_name-refl (key_bytes x.key)) refl)
each_read c objects (x ∷ xs) apart small (suc k) d lt =
    let o = get_or xs k d in
    let more = filter (is_in o.module_id) xs in
    let own = object_bytes c objects x in
    let rest = each_read c objects xs apart.1 (λ i e l. small (suc i) e (omega (arith, l))) k d (omega (arith, lt)) in
    let other = all_unmap (λ j. x.key ≢ j) (λ y. y.key) xs apart.0 k d (omega (arith, lt)) in
    cond_both (is_in o.module_id x) (x ∷ more) more (λ l. IsRead c objects l o) (λ _ whole at is. one_read c objects x (key_bytes o.key) whole _ at _ is
    ∙ rw (same_keys o.key x.key (small (suc k) d lt) (small 0 o (omega arith)), ne_eqb o.key x.key (λ e. other (sym e)))
    (rest whole (at + length own) (sym (drop-drop (length own) at whole) ∙ (ap (drop (length own)) is ∙ drop_at own _ (length own) refl)))) (λ _. rest)

-- ---- modules

-- what holds of each that is given for an element holds of all
pub all_kept : {A B : Type 0} (P : B → Type 0) (f : A → Option B) (xs : List A) → All (λ x. (y : B) → f x ≡ Some y → P y) xs → All P (filter_map f xs)
all_kept P f [] h = All-nil P
all_kept P f (x ∷ xs) h =
    let rest = all_kept P f xs (λ k d lt. h (suc k) d (omega (arith, lt))) in
    elim (option_cases (f x)) [ inl s ↦ rw s.1 (All-cons P s.0 (filter_map f xs) (h 0 x (omega arith) s.0 s.1) rest) | inr none ↦ rw none rest ]

most : (a : ℕ) (ms : List ℕ) → (a ≤ fold max a ms) × All (λ m. m ≤ fold max a ms) ms
most a [] = (omega arith, All-nil (λ m. m ≤ a))
most a (m ∷ ms) =
    let rest = most (max a m) ms in (omega (arith, rest.0), All-cons (λ k. k ≤ fold max (max a m) ms) m ms (omega (arith, rest.0)) rest.1)

module _ (c : ℕ) (objects : List Placed) where
  -- of these ids, those of the modules that have an object are listed
  listed : (m : ℕ) (ids : List ℕ) → module_in (filter_map (module_if_used c objects) ids) m ≡ cond (list_any (is_in m) objects && list_any (λ j. j == m) ids) (Some (module_bytes c objects m)) None
  listed m [] = elim (cases_Bool (list_any (is_in m) objects)) [ inl e ↦ rw e refl | inr e ↦ rw e refl ]
  listed m (j ∷ ids) =
      let rest = listed m ids in
      elim (cases_eq j m) [
        | inl is ↦ elim (cases_Bool (list_any (is_in m) objects)) [ inl e ↦ rw (is, e, eq-eqb m m refl) refl | inr e ↦ rw (is, e) (rw e at rest) ]
        | inr ne ↦ elim (cases_Bool (list_any (is_in j) objects)) [ inl e ↦ rw (e, ne_eqb j m ne) rest | inr e ↦ rw (e, ne_eqb j m ne) rest ]
      ]

  pub listed_bytes : (m : ℕ) (bytes : Bytes) → module_in (layout_of c objects) m ≡ Some bytes → bytes ≡ module_bytes c objects m
  listed_bytes m bytes e = sym (cond_some _ (module_bytes c objects m) bytes (sym (listed m (range_with_len 1 (greatest (map (λ o. o.module_id) objects)))) ∙ e)).1

  -- each object's module is listed
  pub each_listed_in : All (λ o. IsId o.module_id) objects → All (λ o. module_in (layout_of c objects) o.module_id ≡ Some (module_bytes c objects o.module_id)) objects
  each_listed_in ids k d lt =
      let o = get_or objects k d in
      let top = greatest (map (λ q. q.module_id) objects) in
      let least : 1 ≤ o.module_id = (ids k d lt).0 in
      let le : o.module_id ≤ top = all_unmap (λ m. m ≤ top) (λ q. q.module_id) objects (most 0 (map (λ q. q.module_id) objects)).1 k d lt in
      let used = list_any_at (is_in o.module_id) objects k d lt (eq-eqb o.module_id o.module_id refl) in
      let at : get_or (range_with_len 1 top) (o.module_id - 1) 0 ≡ o.module_id = omega (arith, get_or-range_with_len 1 top (o.module_id - 1) 0 (omega (arith, le, least))) in
      let id = list_any_at (λ j. j == o.module_id) (range_with_len 1 top) (o.module_id - 1) 0 (omega (arith, le, least, length-range_with_len 1 top)) (eq-eqb _ o.module_id at) in
      listed o.module_id (range_with_len 1 top) ∙ rw (used, id) refl

-- ---- which objects stand in a folder

-- objects by where the one of a number lies
module _ (place : ℕ → Location) where
  abbrev bound : ℕ → Bytes → Option Bytes → Written
  bound number n content = record { name = n; bound = bound_of content; location = place number }

  -- the bindings of what stands right in a folder, whose first object has number `next`
  abbrev held_in : ℕ → Nesting → List Written
  held_in next Empty = []
  held_in next (FileThen n b rest) = bound next n (Some b) ∷ held_in (suc next) rest
  held_in next (FolderThen n made inside rest) = bound next n None ∷ held_in (suc (next + count_in inside)) rest

  held_names : (next : ℕ) (g : Nesting) → map (λ x. x.name) (map binding_of (held_in next g)) ≡ names_in g
  held_names next Empty = refl
  held_names next (FileThen n b rest) = ap (λ l. n ∷ l) (held_names (suc next) rest)
  held_names next (FolderThen n made inside rest) = ap (λ l. n ∷ l) (held_names (suc (next + count_in inside)) rest)

  -- the bindings of those of the objects that name a folder
  abbrev held_by : ℕ → List Spot → List Written
  held_by i ss = filter_map (λ s. cond (is_child i s) (Some (bound s.number s.name s.content)) None) ss

  by_folder : (i : ℕ) (n : Bytes) (xs ys : List Spot) → held_by i (map (below n) xs ++ ys) ≡ held_by i xs ++ held_by i ys
  by_folder i n [] ys = refl
  by_folder i n (s ∷ ss) ys = elim (cases_Bool (is_child i s)) [ inl e ↦ rw e (ap (λ l. bound s.number s.name s.content ∷ l) (by_folder i n ss ys)) | inr e ↦ rw e (by_folder i n ss ys) ]

  -- of a folder that doesn't stand in this one: what stands right in it, where it is this one, and else none
  held : (i parent next : ℕ) (g : Nesting) → (next ≤ i → i < next + count_in g → ⊥) → held_by i (spots_in parent next g) ≡ cond (parent == i) (held_in next g) []
  held i parent next Empty out = elim (cases_Bool (parent == i)) [ inl e ↦ rw e refl | inr e ↦ rw e refl ]
  held i parent next (FileThen n b rest) out =
      let later = held i parent (suc next) rest (λ low lt. out (omega (arith, low)) (omega (arith, lt))) in
      elim (cases_Bool (parent == i)) [ inl e ↦ rw e (ap (λ l. bound next n (Some b) ∷ l) (rw e at later)) | inr e ↦ rw e (rw e at later) ]
  held i parent next (FolderThen n made inside rest) out =
      let more = suc (next + count_in inside) in
      let none = rw (ne_eqb next i (λ e. out (omega (arith, e)) (omega (arith, e)))) at (held i next (suc next) inside (λ low lt. out (omega (arith, low)) (omega (arith, lt)))) in
      let beside = held i parent more rest (λ low lt. out (omega (arith, low)) (omega (arith, lt))) in
      let later = by_folder i n (spots_in next (suc next) inside) (spots_in parent more rest) ∙ (λ j. none j ++ beside j) in
      elim (cases_Bool (parent == i)) [ inl e ↦ rw e (ap (λ l. bound next n None ∷ l) (rw e at later)) | inr e ↦ rw e (rw e at later) ]

  -- ---- the walk, where folders have these bindings by their numbers

  module _ (ms : Layout) (folders : ℕ → List Written) where
    -- an object lies at its place: a file with its bytes, and a folder with its bindings
    abbrev IsSeen : Spot → Type 0
    IsSeen s = thing_at ms (place s.number) ≡ Some (shown s.content (folders s.number))

    -- a name among those of a folder, and more names below it, lead to what stands there
    abbrev Leads : ℕ → Nesting → Type 0
    Leads next g = (n : Bytes) (q : PathNames) → IsNode (thing_named ms (location_in (find (λ b. same_name n b.name) (map binding_of (held_in next g)))) q) (stands_in g n q)

    -- what lies at a place, and what names below it lead to
    from_place : (l : Location) (x : Thing) (node : PathNames → Node) → thing_at ms l ≡ Some x → IsNode (Some x) (node [])
        → ((n : Bytes) (q : PathNames) → IsNode (thing_named ms (location_from n (Some x)) q) (node (n ∷ q))) → (q : PathNames) → IsNode (thing_named ms (Some l) q) (node q)
    from_place l x node is own each [] = rw is own
    from_place l x node is own each (n ∷ q) = subst (λ (y : Option Thing). IsNode (thing_named ms (location_from n y) q) (node (n ∷ q))) (sym is) (each n q)

    at_folder : (k : ℕ) (g : Nesting) → folders k ≡ held_by k (spots_in k (suc k) g) → thing_at ms (place k) ≡ Some (AFolder (map binding_of (folders k))) → Leads (suc k) g
        → (q : PathNames) → IsNode (thing_named ms (Some (place k)) q) (stands_at g q)
    at_folder k g own is each =
        let held_here : folders k ≡ held_in (suc k) g = own ∙ (held k k (suc k) g (λ low lt. omega (arith, low)) ∙ rw (eq-eqb k k refl) refl) in
        from_place (place k) (AFolder (map binding_of (held_in (suc k) g))) (stands_at g) (is ∙ ap (λ l. Some (AFolder (map binding_of l))) held_here) (held_names (suc k) g) each

    named : (parent next : ℕ) (g : Nesting) → parent < next → ((i : ℕ) → next ≤ i → i < next + count_in g → folders i ≡ held_by i (spots_in parent next g))
        → All IsSeen (spots_in parent next g) → Leads next g
    named parent next Empty up stand all n q = tt
    named parent next (FileThen m b rest) up stand all n q =
        let later = named parent (suc next) rest (omega (arith, up)) (λ i low lt. stand i (omega (arith, low)) (omega (arith, lt)) ∙ rw (ne_eqb parent i (λ e. omega (arith, up, low, e))) refl)
        (λ k d lt. all (suc k) d (omega (arith, lt))) n q in
        elim (cases_Bool (same_name n m)) [ inl e ↦ rw e (from_place (place next) (AFile b) (in_file b) (all 0 gateway_spot (omega arith)) refl (λ k ks. tt) q) | inr e ↦ rw e later ]
    named parent next (FolderThen m made inside rest) up stand all n q =
        let more = suc (next + count_in inside) in
        let os = spots_in next (suc next) inside in
        let ps = spots_in parent more rest in
        let parts = all_parts IsSeen (map (below m) os) ps (λ k d lt. all (suc k) d (omega (arith, lt))) in
        let both : (i : ℕ) → next ≤ i → i < more + count_in rest → folders i ≡ held_by i os ++ held_by i ps =
        λ i low lt. stand i low (omega (arith, lt)) ∙ rw (ne_eqb parent i (λ e. omega (arith, up, low, e))) (by_folder i m os ps) in
        let inner : (i : ℕ) → next ≤ i → i < more → folders i ≡ held_by i os = λ i low lt. both i low (omega (arith, lt))
        ∙ (ap (λ l. held_by i os ++ l) (rw (ne_eqb parent i (λ e. omega (arith, up, low, e))) at (held i parent more rest (λ over end. omega (arith, lt, over)))) ∙ append-nil (held_by i os)) in
        let outer : (i : ℕ) → more ≤ i → i < more + count_in rest → folders i ≡ held_by i ps = λ i low lt. both i (omega (arith, low)) lt
        ∙ ap (λ l. l ++ held_by i ps) (rw (ne_eqb next i (λ e. omega (arith, low, e))) at (held i next (suc next) inside (λ over end. omega (arith, low, end)))) in
        let deep = named next (suc next) inside (omega arith) (λ i low lt. inner i (omega (arith, low)) (omega (arith, lt))) (all_unmap IsSeen (below m) os parts.0) in
        let own = at_folder next inside (inner next (omega arith) (omega arith)) (all 0 gateway_spot (omega arith)) deep q in
        rw (folder_stands m made inside rest n q) (elim (cases_Bool (same_name n m)) [ inl e ↦ rw e own | inr e ↦ rw e (named parent more rest (omega (arith, up)) outer parts.1 n q) ])

-- a folder's bindings, where each object lies at the place of its number
entries_are : (c : ℕ) (place : ℕ → Location) (os : List Placed) (i : ℕ) → All (λ o. place o.spot.number ≡ location_of c o) os → entries_of c os i ≡ held_by place i (map (λ o. o.spot) os)
entries_are c place [] i lie = refl
entries_are c place (o ∷ os) i lie = λ j. cons_option
    (cond (is_child i o.spot) (Some (record { name = o.spot.name; bound = bound_of o.spot.content; location = sym (lie 0 o (omega arith)) j })) None)
    (entries_are c place os i (λ k d lt. lie (suc k) d (omega (arith, lt))) j)

-- ---- bindings

-- a binding that is written into a listed module; the delivery is read back out of its tap, and is by the DII of the module's group
binding_inside : (c : ℕ) (layout : Layout) (w : Written) → w.location.carousel ≡ c → module_in layout w.location.module ≢ None → w.location.module ≤ GREATEST_ID → IsInside layout c (binding_of w)
binding_inside c layout w own there le = record {
  inside = λ l taps e. rw (← (some_pair_parts w.location l (iors.written_tap w.location.module ∷ []) taps e).0) (own, there);
  delivered = λ l taps t e d.
      let is = some_pair_parts w.location l (iors.written_tap w.location.module ∷ []) taps e in
      let number = same_Some _ t (ap iors.delivery_of_taps is.1 ∙ d) in
      rw (← is.0) (omega (arith, le, number));
}

-- ---- a generation's objects

-- placed objects with keys that are apart and small, that of the gateway being 1
pub record State (t : Tree) (objects : List Placed) : Type 0 where
  pub placed : ArePlaced t objects
  pub keys : Distinct (map (λ o. o.key) objects)
  pub small : All (λ o. o.key < 8194) objects
  pub gateway : key_in (placed_at objects gateway_spot) ≡ Some 1

module _ (law : SpellingsReadBack) (c : ℕ) (t : Tree) (objects : List Placed) (state : State t objects)
    (spellable : All (λ o. IsSpellable (spelled c objects o)) objects) where
  -- a module is read as its objects, to its end
  index : (m : ℕ) → index_of (module_bytes c objects m) ≡ (spelled_objects 0 (map (spelled c objects) (filter (is_in m) objects)), None)
  index m = ap index_of (sym (each (filter (is_in m) objects))) ∙ law (map (spelled c objects) (filter (is_in m) objects))
      (All-map IsSpellable (spelled c objects) (filter (is_in m) objects) (All-filter (is_in m) (λ o. IsSpellable (spelled c objects o)) objects spellable)) where
        each : (os : List Placed) → flat_map spelled_bytes (map (spelled c objects) os) ≡ flat_map (object_bytes c objects) os
        each [] = refl
        each (o ∷ os) = ap (λ l. object_bytes c objects o ++ l) (each os)

  -- a location leads to its object
  found : All (λ o. thing_at (layout_of c objects) (location_of c o) ≡ Some (seen c objects o)) objects
  found k d lt =
      let o = get_or objects k d in
      ap (λ b. thing_in b (key_bytes o.key)) (each_listed_in c objects (each_id t objects state.placed) k d lt)
      ∙ (ap (λ i. first_of_key (module_bytes c objects o.module_id) (key_bytes o.key) i.0) (index o.module_id)
      ∙ each_read c objects objects state.keys state.small k d lt (module_bytes c objects o.module_id) 0 refl)

  paths : (p : PathNames) → IsNode (thing_named (layout_of c objects) (Some (gateway_location c)) p) (node_at t p)
  paths p =
      let ms = layout_of c objects in
      let h = the_gateway t objects state.placed.spots in
      let place : ℕ → Location = λ k. location_of c (get_or objects k h.gateway) in
      let top : place 0 ≡ gateway_location c = ap (λ os. location_of c (get_or os 0 h.gateway)) h.first
      ∙ rw (same_Some h.gateway.key 1 (sym (ap key_in h.found) ∙ state.gateway), first_one objects h (λ o. o.module_id) state.placed.placement.first) refl in
      let lie : All (λ o. place o.spot.number ≡ location_of c o) objects = λ i d lt.
      let number = ap (λ (s : Spot). s.number) (sym (get_or-map (λ o. o.spot) objects i d d.spot lt) ∙ ap (λ ss. get_or ss i d.spot) state.placed.spots)
      ∙ numbers t state.placed.tree i d.spot (omega (arith, lt, length-map objects (λ (o : Placed). o.spot), ap length state.placed.spots)) in
      ap place number ∙ ap (location_of c) (get_or_default objects i h.gateway d lt) in
      let stand : (i : ℕ) → entries_of c objects i ≡ held_by place i (spots_in 0 1 (nested t)) = λ i. entries_are c place objects i lie ∙ ap (held_by place i) state.placed.spots in
      let all : All (IsSeen place ms (entries_of c objects)) (spots_of t) = subst (All (IsSeen place ms (entries_of c objects))) state.placed.spots
      (All-map (IsSeen place ms (entries_of c objects)) (λ o. o.spot) objects (λ k d lt. ap (thing_at ms) (lie k d lt) ∙ found k d lt)) in
      let leads = named place ms (entries_of c objects) 0 1 (nested t) (omega arith) (λ i low lt. stand i) (λ k d lt. all (suc k) d (omega (arith, lt))) in
      rw (walk t p state.placed.tree) (subst (λ (l : Location). IsNode (thing_named ms (Some l) p) (stands_at (nested t) p)) top
      (at_folder place ms (entries_of c objects) 0 (nested t) (stand 0) (all 0 gateway_spot (omega arith)) leads p))

  -- what an object's bindings say
  abbrev BindsInside : Object → Type 0
  BindsInside x = All (IsInside (layout_of c objects) c) (unwrap_or (shape_bindings x.shape) [])

  objects_inside : (os : List Placed) (at : ℕ) → All BindsInside (spelled_objects at (map (spelled c objects) os))
  objects_inside [] at = All-nil BindsInside
  objects_inside (o ∷ os) at = All-cons BindsInside (spelled_object at (spelled c objects o)) (spelled_objects _ (map (spelled c objects) os)) (elim (option_cases o.spot.content) [
    | inl h ↦ rw h.1 (All-nil (IsInside (layout_of c objects) c))
    | inr h ↦ rw h (All-map (IsInside (layout_of c objects) c) binding_of (entries_of c objects o.spot.number) (all_kept Lies (written_in c o.spot.number) objects (λ k d lt w e.
        let there = each_listed_in c objects (each_id t objects state.placed) k d lt in
        subst Lies (cond_some (is_child o.spot.number (get_or objects k d).spot) _ w e).1
        (binding_inside c (layout_of c objects) _ refl (λ none. let bad = sym there ∙ none in cc) (each_id t objects state.placed k d lt).1))))
  ]) (objects_inside os _) where
    Lies : Written → Type 0
    Lies w = IsInside (layout_of c objects) c (binding_of w)

  pub carries : Carries c (layout_of c objects) t
  carries = record {
    paths = paths;
    to_end = λ m bytes e. rw (listed_bytes c objects m bytes e, index m) refl;
    inside = λ m bytes key bindings e has.
        let is : (index_of bytes).0 ≡ spelled_objects 0 (map (spelled c objects) (filter (is_in m) objects)) = ap (λ b. (index_of b).0) (listed_bytes c objects m bytes e) ∙ ap (λ i. i.0) (index m) in
        All-contains BindsInside (spelled_objects 0 (map (spelled c objects) (filter (is_in m) objects))) (record { key = key; shape = IsFolder bindings })
        (objects_inside (filter (is_in m) objects) 0) (rw is at has);
  }
