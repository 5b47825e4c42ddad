-- From what a receiver holds of a generation to its answers.
use Rattle.std.proofs.Common.{◌≡◌, ℕ, suc, Bool, true, false, not, List, [], ◌∷◌, map, Option, Some, None, refl, sym, ◌∙◌, ap, subst, arith, ◌⊎◌, inl, inr}
use Rattle.std.specs.List.{All, Contains, find, list_any}
use Rattle.std.proofs.lemmas.Option.{same_Some}
use Rattle.path_tree.specs.Paths.{Bytes, PathNames, same_name}
use Rattle.path_tree.specs.Trees.{Tree, Node, File, Folder, NoSuch, node_at}
use Rattle.ior_tap.specs.Iors.{TapFields, biop_of_profiles, delivery_of_taps}
use Rattle.ior_tap.specs.declared.Location.{Location}
use Rattle.dsi_dii.specs.Controls.{identification_of}
use Rattle.biop_object.specs.Names.{Layout, module_in, Thing, AFile, AFolder, AnOther, first_of_key, thing_in, thing_at, location_in, location_of, thing_named}
use Rattle.biop_object.specs.Objects.{IsFolder, BindingFields}
use Rattle.biop_object.specs.ObjectReading.{found_of, index_of}
use Rattle.biop_object.specs.declared.module.Found.{Found}
use Rattle.generation.specs.Layouts.{gateway_location}
use Rattle.generation.specs.Lawful.{IsNode, IsInside, Carries}
use Rattle.generation.specs.Groups.{group_of}
use Rattle.path_resolver.specs.Resolving.{by_binding, goes_on, answer_at_end, Held, at_target, walk, answer_of}
use Rattle.path_resolver.specs.declared.answer.Answer.{Answer}
use Rattle.path_resolver.specs.declared.answer.Answer.TheVariants as answers
use Rattle.carousel_world.specs.Headline.{IsNodeAnswer, IsAnswer, modules_on}
use Rattle.carousel_world.proofs.Holding.{HoldsOf, is_held_whole, missing_of, first_not_held, IsThere, IsAwaited, held_or_awaited}
use Rattle.carousel_world.proofs.Below.{IsClosed, tree_closed, root_there}
use Rattle.carousel_world.proofs.Finding.{thing_seen, Sees, binds, file_ends, folder_goes_on, ends_at}

-- ---- a place on a walk

-- The tree as it is seen from a location on: `node` gives what stands at each path from there. The delivery names the DII of the module's group,
-- where it is known.
pub record IsPlace (carousel : ℕ) (layout : Layout) (node : PathNames → Node) (l : Location) (delivery : Option ℕ) : Type 0 where
  pub paths : (q : PathNames) → IsNode (thing_named layout (Some l) q) (node q)
  pub there : node [] ≡ NoSuch → ⊥
  pub closed : IsClosed node
  pub same_carousel : l.carousel ≡ carousel
  pub delivered : (t : ℕ) → delivery ≡ Some t → identification_of t ≡ group_of l.module

-- what stands in the modules at a place
pub record Standing (layout : Layout) (l : Location) : Type 0 where
  pub thing : Thing
  pub is : thing_at layout l ≡ Some thing
  pub bytes : Bytes
  pub listed : module_in layout l.module ≡ Some bytes
  pub first : first_of_key bytes l.key (index_of bytes).0 ≡ Some thing

something : (o : Option Thing) (n : Node) → IsNode o n → (n ≡ NoSuch → ⊥) → (x : Thing) × (o ≡ Some x)
something (Some x) n is there = (x, refl)
something None (File c) is there = absurd is
something None (Folder names) is there = absurd is
something None NoSuch is there = absurd (there refl)

nothing_there : (n : Node) → IsNode None n → n ≡ NoSuch
nothing_there (File c) is = absurd is
nothing_there (Folder names) is = absurd is
nothing_there NoSuch is = refl

standing : (layout : Layout) (l : Location) (thing : Thing) → thing_at layout l ≡ Some thing → Standing layout l
standing layout l thing is = go (module_in layout l.module) refl where
  go : (b : Option Bytes) → module_in layout l.module ≡ b → Standing layout l
  go None e = let bad : None ≡ Some thing = sym (ap (λ o. thing_in o l.key) e) ∙ is in cc
  go (Some b) e = record { thing = thing; is = is; bytes = b; listed = e; first = sym (ap (λ o. thing_in o l.key) e) ∙ is }

standing_at : (carousel : ℕ) (layout : Layout) (node : PathNames → Node) (l : Location) (d : Option ℕ) → IsPlace carousel layout node l d → Standing layout l
standing_at carousel layout node l d place = let s = something (thing_at layout l) (node []) (place.paths []) place.there in standing layout l s.0 s.1

-- ---- one answer

-- as `IsAnswer`, and the module that isn't whole is one of the layout
abbrev pub IsAnswerIn : Layout → Option ℕ → Node → Answer → Type 0
IsAnswerIn layout (Some m) node answer = (answer ≡ answers.NotYet m) × (bytes : Bytes) × (module_in layout m ≡ Some bytes)
IsAnswerIn layout None node answer = IsNodeAnswer answer node

awaited : (layout : Layout) (held : Held) (m : ℕ) (more : List ℕ) (node : Node) (answer : Answer) (bytes : Bytes) → is_held_whole held m ≡ false → answer ≡ answers.NotYet m → module_in layout m ≡ Some bytes
    → IsAnswerIn layout (missing_of held (m ∷ more)) node answer
awaited layout held m more node answer bytes missing is listed = rw missing (is, bytes, listed)

passed_on : (layout : Layout) (held : Held) (m : ℕ) (more : List ℕ) (node : Node) (answer : Answer) → is_held_whole held m ≡ true → IsAnswerIn layout (missing_of held more) node answer
    → IsAnswerIn layout (missing_of held (m ∷ more)) node answer
passed_on layout held m more node answer whole rest = rw whole rest

-- at a place: the module isn't whole, or the object tells
arrives : (carousel : ℕ) (layout : Layout) (held : Held) → HoldsOf carousel layout held → (node : PathNames → Node) (l : Location) (d : Option ℕ) → IsPlace carousel layout node l d
    → (s : Standing layout l) (seek : Bytes → Answer) (more : List ℕ) (here : Node) → IsAnswerIn layout (missing_of held more) here (seek s.bytes)
    → IsAnswerIn layout (missing_of held (l.module ∷ more)) here (at_target carousel held seek (l, d))
arrives carousel layout held holds node l d place s seek more here told =
    go (held_or_awaited carousel held l d s.bytes place.same_carousel place.delivered (holds.table l.module s.bytes s.listed)) where
      Goal : Answer → Type 0
      Goal answer = IsAnswerIn layout (missing_of held (l.module ∷ more)) here answer

      go : IsThere carousel held l d s.bytes ⊎ IsAwaited carousel held l d → Goal (at_target carousel held seek (l, d))
      go (inl whole) = subst Goal (sym (whole.object seek)) (passed_on layout held l.module more here (seek s.bytes) whole.whole told)
      go (inr missing) = awaited layout held l.module more here _ s.bytes missing.missing (missing.object seek) s.listed

-- ---- along a path

abbrev Inside : ℕ → Layout → Type 0
Inside carousel layout = (m : ℕ) (bytes : Bytes) (key : Bytes) (bindings : List BindingFields) → module_in layout m ≡ Some bytes
    → Contains (index_of bytes).0 (record { key = key; shape = IsFolder bindings }) → All (IsInside layout carousel) bindings

-- the answer from a place on along these names
abbrev Tells : ℕ → Layout → Held → PathNames → Node → Location → Option ℕ → Type 0
Tells carousel layout held ns here l d = IsAnswerIn layout (missing_of held (modules_on layout (Some l) ns)) here (walk carousel held ns (l, d))

-- no location: neither names nor modules follow
no_way : (layout : Layout) (held : Held) (ns : PathNames) (here : Node) → here ≡ NoSuch → IsAnswerIn layout (missing_of held (modules_on layout None ns)) here answers.NoSuch
no_way layout held ns here none = subst (λ n. IsNodeAnswer answers.NoSuch n) (sym none) tt

-- the first binding of a name
pub record NamedBinding (n : Bytes) (bindings : List BindingFields) (P : BindingFields → Type 0) (b : BindingFields) : Type 0 where
  pub name : list_any (same_name n) (map (λ x. x.name) bindings) ≡ true
  pub holds : P b

named_binding : (n : Bytes) (bindings : List BindingFields) (P : BindingFields → Type 0) (b : BindingFields) → All P bindings → find (λ x. same_name n x.name) bindings ≡ Some b → NamedBinding n bindings P b
named_binding n [] P b all e = absurd cc
named_binding n (x ∷ xs) P b all e = go (same_name n x.name) refl (λ f. named_binding n xs P b (λ i d lt. all (suc i) d (omega (arith, lt))) f) where
  go : (t : Bool) → same_name n x.name ≡ t → (find (λ x. same_name n x.name) xs ≡ Some b → NamedBinding n xs P b) → NamedBinding n (x ∷ xs) P b
  go true h rest = record { name = rw h refl; holds = subst P (same_Some x b (rw h at e)) (all 0 x (omega arith)) }
  go false h rest = let r = rest (rw h at e) in record { name = rw h r.name; holds = r.holds }

folder_names : (bindings : List BindingFields) (n : Node) → IsNode (Some (AFolder bindings)) n → n ≡ Folder (map (λ x. x.name) bindings)
folder_names bindings (File c) is = absurd is
folder_names bindings (Folder names) is = ap Folder (sym is)
folder_names bindings NoSuch is = absurd is

not_other : (n : Node) → IsNode (Some AnOther) n → ⊥
not_other (File c) is = is
not_other (Folder names) is = is
not_other NoSuch is = is

-- what stands from the next name on
paths_on : (carousel : ℕ) (layout : Layout) (node : PathNames → Node) (l : Location) (d : Option ℕ) → IsPlace carousel layout node l d → (n : Bytes) (next : Option Location)
    → location_of n (thing_at layout l) ≡ next → (q : PathNames) → IsNode (thing_named layout next q) (node (n ∷ q))
paths_on carousel layout node l d place n next e q = subst (λ o. IsNode (thing_named layout o q) (node (n ∷ q))) e (place.paths (n ∷ q))

-- a folder: its first binding of the name leads on, or nothing of the name is there
through : (carousel : ℕ) (layout : Layout) (held : Held) (n : Bytes) (ns : PathNames) (node : PathNames → Node) (l : Location) (d : Option ℕ) → IsPlace carousel layout node l d
    → (bindings : List BindingFields) → thing_at layout l ≡ Some (AFolder bindings) → All (IsInside layout carousel) bindings
    → ((onward : Location) (known : Option ℕ) → IsPlace carousel layout (λ q. node (n ∷ q)) onward known → Tells carousel layout held ns (node (n ∷ ns)) onward known)
    → IsAnswerIn layout (missing_of held (modules_on layout (location_of n (Some (AFolder bindings))) ns)) (node (n ∷ ns)) (by_binding (walk carousel held ns) (find (λ b. same_name n b.name) bindings))
through carousel layout held n ns node l d place bindings is all next = go (find (λ b. same_name n b.name) bindings) refl where
  Goal : Option BindingFields → Type 0
  Goal f = IsAnswerIn layout (missing_of held (modules_on layout (location_in f) ns)) (node (n ∷ ns)) (by_binding (walk carousel held ns) f)

  leads : (f : Option BindingFields) → find (λ b. same_name n b.name) bindings ≡ f → location_of n (thing_at layout l) ≡ location_in f
  leads f e = ap (location_of n) is ∙ ap location_in e

  go : (f : Option BindingFields) → find (λ b. same_name n b.name) bindings ≡ f → Goal f
  go None e = no_way layout held ns (node (n ∷ ns)) (nothing_there (node (n ∷ ns)) (paths_on carousel layout node l d place n None (leads None e) ns))
  go (Some b) e = way (biop_of_profiles b.target.profiles) refl where
    one : NamedBinding n bindings (IsInside layout carousel) b
    one = named_binding n bindings (IsInside layout carousel) b all e

    child : node (n ∷ []) ≡ NoSuch → ⊥
    child none = place.closed [] (map (λ x. x.name) bindings) n (folder_names bindings (node []) (subst (λ x. IsNode x (node [])) is (place.paths []))) one.name none

    way : (x : Option (Location × List TapFields)) → biop_of_profiles b.target.profiles ≡ x → Goal (Some b)
    way None h =
        let lost : location_of n (thing_at layout l) ≡ None = leads (Some b) e ∙ rw h refl in
        absurd (child (nothing_there (node (n ∷ [])) (paths_on carousel layout node l d place n None lost [])))
    way (Some (onward, taps)) h =
        let led : location_of n (thing_at layout l) ≡ Some onward = leads (Some b) e ∙ rw h refl in
        rw h (next onward (delivery_of_taps taps) (record {
          paths = paths_on carousel layout node l d place n (Some onward) led;
          there = child;
          closed = λ p names m f has none. place.closed (n ∷ p) names m f has none;
          same_carousel = (one.holds.inside onward taps h).0;
          delivered = λ t f. one.holds.delivered onward taps t h f;
        }))

-- an object with a name left
goes : (carousel : ℕ) (layout : Layout) (held : Held) → Inside carousel layout → (n : Bytes) (ns : PathNames) (node : PathNames → Node) (l : Location) (d : Option ℕ) → IsPlace carousel layout node l d → (s : Standing layout l)
    → ((onward : Location) (known : Option ℕ) → IsPlace carousel layout (λ q. node (n ∷ q)) onward known → Tells carousel layout held ns (node (n ∷ ns)) onward known)
    → IsAnswerIn layout (missing_of held (modules_on layout (location_of n (thing_at layout l)) ns)) (node (n ∷ ns)) (goes_on (walk carousel held ns) n l.module s.bytes (found_of s.bytes l.key))
goes carousel layout held inside n ns node l d place s next = subst (λ o. Goal o (goes_on (walk carousel held ns) n l.module s.bytes f)) (sym s.is) (go s.thing s.is (thing_seen s.bytes l.key s.thing s.first)) where
  f : Found
  f = found_of s.bytes l.key

  Goal : Option Thing → Answer → Type 0
  Goal o answer = IsAnswerIn layout (missing_of held (modules_on layout (location_of n o) ns)) (node (n ∷ ns)) answer

  go : (x : Thing) → thing_at layout l ≡ Some x → Sees s.bytes x f → Goal (Some x) (goes_on (walk carousel held ns) n l.module s.bytes f)
  go (AFile b) is sees = subst (Goal (Some (AFile b))) (sym (file_ends (walk carousel held ns) n l.module s.bytes b f sees))
      (no_way layout held ns (node (n ∷ ns)) (nothing_there (node (n ∷ ns)) (paths_on carousel layout node l d place n None (ap (location_of n) is) ns)))
  go (AFolder bindings) is sees =
      let bound = binds (index_of s.bytes).0 sees.0 bindings sees.2 in
      subst (Goal (Some (AFolder bindings))) (sym (folder_goes_on (walk carousel held ns) n l.module s.bytes bindings f sees))
      (through carousel layout held n ns node l d place bindings is (inside l.module s.bytes bound.key bindings s.listed bound.has) next)
  go AnOther is sees = absurd (not_other (node []) (subst (λ x. IsNode x (node [])) is (place.paths [])))

tells : (carousel : ℕ) (layout : Layout) (held : Held) → HoldsOf carousel layout held → Inside carousel layout → (ns : PathNames) (node : PathNames → Node) (l : Location) (d : Option ℕ) → IsPlace carousel layout node l d
    → Tells carousel layout held ns (node ns) l d
tells carousel layout held holds inside [] node l d place =
    let s = standing_at carousel layout node l d place in
    arrives carousel layout held holds node l d place s (λ bytes. answer_at_end l.module bytes (found_of bytes l.key)) [] (node [])
    (ends_at l.module s.bytes s.thing (node []) (found_of s.bytes l.key) (thing_seen s.bytes l.key s.thing s.first) (subst (λ x. IsNode x (node [])) s.is (place.paths [])))
tells carousel layout held holds inside (n ∷ ns) node l d place =
    let s = standing_at carousel layout node l d place in
    arrives carousel layout held holds node l d place s (λ bytes. goes_on (walk carousel held ns) n l.module bytes (found_of bytes l.key)) (modules_on layout (location_of n (thing_at layout l)) ns) (node (n ∷ ns))
    (goes carousel layout held inside n ns node l d place s (λ onward known further. tells carousel layout held holds inside ns (λ q. node (n ∷ q)) onward known further))

-- ---- from the gateway on

answers_in : (carousel : ℕ) (layout : Layout) (t : Tree) (held : Held) → HoldsOf carousel layout held → Carries carousel layout t → (p : PathNames)
    → IsAnswerIn layout (first_not_held carousel layout held p) (node_at t p) (answer_of held p)
answers_in carousel layout t held holds carries p =
    rw (holds.gateway, holds.label) (tells carousel layout held holds carries.inside p (node_at t) (gateway_location carousel) (Some holds.delivery) (record {
      paths = carries.paths;
      there = root_there t;
      closed = tree_closed t;
      same_carousel = refl;
      delivered = λ d e. subst (λ x. identification_of x ≡ 1) (same_Some holds.delivery d e) holds.delivered;
    }))

-- Each answer is the tree's own lookup, or the first module on the walk that isn't whole.
pub answers_told : (carousel : ℕ) (layout : Layout) (t : Tree) (held : Held) → HoldsOf carousel layout held → Carries carousel layout t → (p : PathNames)
    → IsAnswer (first_not_held carousel layout held p) (node_at t p) (answer_of held p)
answers_told carousel layout t held holds carries p = go (first_not_held carousel layout held p) (answers_in carousel layout t held holds carries p) where
  go : (first : Option ℕ) → IsAnswerIn layout first (node_at t p) (answer_of held p) → IsAnswer first (node_at t p) (answer_of held p)
  go None told = told
  go (Some m) told = told.0

-- ---- where each module is whole

-- each module of the layout is held whole
abbrev pub AreWhole : Layout → Held → Type 0
AreWhole layout held = (m : ℕ) (bytes : Bytes) → module_in layout m ≡ Some bytes → is_held_whole held m ≡ true

first_passes : (test : ℕ → Bool) (ms : List ℕ) (m : ℕ) → find test ms ≡ Some m → test m ≡ true
first_passes test [] m e = absurd cc
first_passes test (x ∷ xs) m e = go (test x) refl (λ f. first_passes test xs m f) where
  go : (t : Bool) → test x ≡ t → (find test xs ≡ Some m → test m ≡ true) → test m ≡ true
  go true h rest = subst (λ k. test k ≡ true) (same_Some x m (rw h at e)) h
  go false h rest = rest (rw h at e)

not_whole : (b : Bool) → b ≡ true → not b ≡ true → ⊥
not_whole b e f = let bad : not true ≡ true = subst (λ c. not c ≡ true) e f in cc

-- Each answer is the tree's own lookup.
pub answers_whole : (carousel : ℕ) (layout : Layout) (t : Tree) (held : Held) → HoldsOf carousel layout held → Carries carousel layout t → AreWhole layout held → (p : PathNames)
    → IsNodeAnswer (answer_of held p) (node_at t p)
answers_whole carousel layout t held holds carries whole p = go (first_not_held carousel layout held p) refl (answers_in carousel layout t held holds carries p) where
  go : (first : Option ℕ) → first_not_held carousel layout held p ≡ first → IsAnswerIn layout first (node_at t p) (answer_of held p) → IsNodeAnswer (answer_of held p) (node_at t p)
  go None e told = told
  go (Some m) e told = absurd (not_whole (is_held_whole held m) (whole m told.1 told.2)
      (first_passes (λ k. not (is_held_whole held k)) (modules_on layout (Some (gateway_location carousel)) p) m e))
