-- What a receiver finds at a location, where it holds the module's bytes.
use Rattle.std.proofs.Common.{◌≡◌, ℕ, zero, suc, ◌+◌, Bool, true, false, List, [], ◌∷◌, take, drop, Option, Some, refl, sym, ◌∙◌, ap, subst, arith}
use Rattle.std.specs.List.{Contains, find}
use Rattle.std.specs.Option.{option_and_then}
use Rattle.std.specs.Prelude.{option_and_then, slice_get}
use Rattle.std.proofs.lemmas.Option.{same_Some}
use Rattle.path_tree.specs.Paths.{Bytes, same_name}
use Rattle.path_tree.specs.Trees.{Node, File, Folder, NoSuch}
use Rattle.biop_object.specs.Names.{Thing, AFile, AFolder, AnOther, thing_of, first_of_key}
use Rattle.biop_object.specs.Objects.{Object, Shape, IsFile, IsFolder, IsOther, BindingFields}
use Rattle.biop_object.specs.ObjectReading.{found_shape, found_from, found_of, shape_bindings, bindings_of, index_of}
use Rattle.biop_object.specs.declared.module.Found.{Found}
use Rattle.biop_object.specs.declared.module.Found.TheVariants as found
use Rattle.biop_object.specs.declared.module.Span.{Span}
use Rattle.generation.specs.Lawful.{IsNode}
use Rattle.path_resolver.specs.Names.{names_of}
use Rattle.path_resolver.specs.Resolving.{Target, answer_at_end, goes_on, by_binding}
use Rattle.path_resolver.specs.declared.answer.Answer.{Answer}
use Rattle.path_resolver.specs.declared.answer.Answer.TheVariants as answers
use Rattle.carousel_world.specs.Headline.{IsNodeAnswer}

-- ---- an object of the bytes

-- what is found is what a reader sees there
abbrev pub Sees : Bytes → Thing → Found → Type 0
Sees bytes (AFile b) f = (span : Span) × (f ≡ found.File span) × (b ≡ take span.length (drop span.first bytes))
Sees bytes (AFolder bindings) f = (k : ℕ) × (f ≡ found.Folder k) × (bindings_of bytes k ≡ Some bindings)
Sees bytes AnOther f = f ≡ found.Other

shape_seen : (bytes : Bytes) (k : ℕ) (s : Shape) → bindings_of bytes k ≡ shape_bindings s → Sees bytes (thing_of bytes s) (found_shape k s)
shape_seen bytes k (IsFile first n) e = (record { first = first; length = n }, refl, refl)
shape_seen bytes k (IsFolder bindings) e = (k, refl, e)
shape_seen bytes k IsOther e = refl

found_seen : (bytes key : Bytes) (os : List Object) (stop : Option ℕ) (k : ℕ) (thing : Thing) → ((i j : ℕ) → j ≡ k + i → bindings_of bytes j ≡ option_and_then (λ (o : Object). shape_bindings o.shape) (slice_get os i))
    → first_of_key bytes key os ≡ Some thing → Sees bytes thing (found_from k key os stop)
found_seen bytes key [] stop k thing places e = absurd cc
found_seen bytes key (o ∷ os) stop k thing places e =
    go (same_name key o.key) refl (λ f. found_seen bytes key os stop (suc k) thing (λ i j is. places (suc i) j (omega (arith, is))) f) where
      go : (t : Bool) → same_name key o.key ≡ t → (first_of_key bytes key os ≡ Some thing → Sees bytes thing (found_from (suc k) key os stop)) → Sees bytes thing (found_from k key (o ∷ os) stop)
      go true h rest =
          let is : thing_of bytes o.shape ≡ thing = same_Some (thing_of bytes o.shape) thing (rw h at e) in
          rw h (subst (λ x. Sees bytes x (found_shape k o.shape)) is (shape_seen bytes k o.shape (places 0 k (omega arith))))
      go false h rest = rw h (rest (rw h at e))

-- the first object of a key
pub thing_seen : (bytes key : Bytes) (thing : Thing) → first_of_key bytes key (index_of bytes).0 ≡ Some thing → Sees bytes thing (found_of bytes key)
thing_seen bytes key thing e = found_seen bytes key (index_of bytes).0 (index_of bytes).1 0 thing (λ i j is. ap (bindings_of bytes) (omega (arith, is))) e

-- an object has these bindings
pub record Binds (os : List Object) (bindings : List BindingFields) : Type 0 where
  pub key : Bytes
  pub has : Contains os (record { key = key; shape = IsFolder bindings })

folder_object : (s : Shape) (bindings : List BindingFields) → shape_bindings s ≡ Some bindings → s ≡ IsFolder bindings
folder_object (IsFile first n) bindings e = absurd cc
folder_object (IsFolder bs) bindings e = ap IsFolder (same_Some bs bindings e)
folder_object IsOther bindings e = absurd cc

pub binds : (os : List Object) (k : ℕ) (bindings : List BindingFields) → option_and_then (λ (o : Object). shape_bindings o.shape) (slice_get os k) ≡ Some bindings → Binds os bindings
binds [] k bindings e = absurd cc
binds (o ∷ os) zero bindings e = record { key = o.key; has = (0, omega arith, ap (λ s. record { key = o.key; shape = s }) (folder_object o.shape bindings e)) }
binds (o ∷ os) (suc k) bindings e =
    let rest = binds os k bindings e in
    record { key = rest.key; has = (suc rest.has.0, omega (arith, rest.has.1), rest.has.2) }

-- ---- answers at the object

pub file_ends : (rest : Target → Answer) (name : Bytes) (m : ℕ) (bytes b : Bytes) (f : Found) → Sees bytes (AFile b) f → goes_on rest name m bytes f ≡ answers.NoSuch
file_ends rest name m bytes b f s = ap (goes_on rest name m bytes) s.1

pub folder_goes_on : (rest : Target → Answer) (name : Bytes) (m : ℕ) (bytes : Bytes) (bindings : List BindingFields) (f : Found) → Sees bytes (AFolder bindings) f
    → goes_on rest name m bytes f ≡ by_binding rest (find (λ b. same_name name b.name) bindings)
folder_goes_on rest name m bytes bindings f s = ap (goes_on rest name m bytes) s.1 ∙ ap (λ o. by_binding rest (option_and_then (λ bindings. find (λ b. same_name name b.name) bindings) o)) s.2

-- the end of a walk
pub ends_at : (m : ℕ) (bytes : Bytes) (thing : Thing) (node : Node) (f : Found) → Sees bytes thing f → IsNode (Some thing) node → IsNodeAnswer (answer_at_end m bytes f) node
ends_at m bytes (AFile b) (File c) f s is = subst (λ g. IsNodeAnswer (answer_at_end m bytes g) (File c)) (sym s.1) (sym s.2 ∙ is)
ends_at m bytes (AFile b) (Folder names) f s is = absurd is
ends_at m bytes (AFile b) NoSuch f s is = absurd is
ends_at m bytes (AFolder bindings) (File c) f s is = absurd is
ends_at m bytes (AFolder bindings) (Folder names) f s is = subst (λ g. IsNodeAnswer (answer_at_end m bytes g) (Folder names)) (sym s.1) (ap names_of s.2 ∙ is)
ends_at m bytes (AFolder bindings) NoSuch f s is = absurd is
ends_at m bytes AnOther (File c) f s is = absurd is
ends_at m bytes AnOther (Folder names) f s is = absurd is
ends_at m bytes AnOther NoSuch f s is = absurd is
