-- Generations of a file in a module of the second group, which two DIIs describe: that they are
-- lawful, and what is sent of them.
use Rattle.std.proofs.Common.{◌≡◌, ◌≢◌, ℕ, zero, suc, ◌+◌, ◌%◌, ◌<◌, ◌≤◌, ◌==◌, ◌⊎◌, ◌&&◌, ◌||◌, inl, inr, Bool, true, false, cond, nat_le, nat_lt, List, [], ◌∷◌, length, map, get_or, replicate, Option, Some, None, refl, ap, sym, ◌∙◌, subst, IsTrue, arith, lit<, lit≤}
use Rattle.std.specs.List.{All, AllPairs, Contains, list_all, sum_by}
use Rattle.std.proofs.lemmas.Bool.{and_parts, eqb-true, leb-true, ltb-true, or_cases}
use Rattle.std.proofs.lemmas.Option.{same_Some}
use Rattle.std.proofs.lemmas.List.Elements.{All-nil, All-cons, All-replicate}
use Rattle.std.proofs.lemmas.List.Sums.{AllPass-from_list_all}
use Rattle.std.proofs.lemmas.List.{length-replicate}
use Rattle.std.specs.Option.{unwrap_or}
use Rattle.carousel_profile.specs.declared.TheConstants.{BLOCK_SIZE}
use Rattle.oc_bytes.specs.Cursor.{each_at, sized_at}
use Rattle.oc_bytes.specs.Grammar.{read}
use Rattle.oc_bytes.specs.Numbers.{IsBytes}
use Rattle.path_tree.specs.Paths.{Bytes, PathNames, same_name, same_path}
use Rattle.path_tree.proofs.CallerLemmas.{same_name-refl}
use Rattle.path_tree.specs.Trees.{Tree, Node, File, Folder, NoSuch, content_at, entry_at, file_in, is_folder, is_kept, leads_on, node_at}
use Rattle.path_tree.specs.declared.entry.Entry.{Entry}
use Rattle.path_tree.specs.declared.entry.Entry.TheVariants as entries
use Rattle.ior_tap.specs.declared.Location.{Location}
use Rattle.ior_tap.specs.Iors.{TapFields, Biop, delivery_of_taps}
use Rattle.ddb_block.specs.Blocks.{block_count_of}
use Rattle.dsi_dii.specs.Controls.{identification_of, dii_spelling}
use Rattle.dsi_dii.specs.declared.ModuleLine.{ModuleLine}
use Rattle.dsmcc_section.specs.Sections.{spelling}
use Rattle.biop_object.specs.declared.reading.TheConstants.{FILE}
use Rattle.biop_object.specs.Names.{Layout, Thing, AFile, AFolder, module_in, thing_at, location_of, thing_named}
use Rattle.biop_object.specs.Objects.{Object, IsFile, IsFolder, BindingFields}
use Rattle.biop_object.specs.ObjectReading.{object_at, reads_to_end, index_of}
use Rattle.cycle_planner.specs.declared.Item.{Item}
use Rattle.cycle_planner.specs.declared.Item.TheVariants.{Dsi, Dii, Block}
use Rattle.generation.specs.Groups.{group_of, group_in, dii_transaction}
use Rattle.generation.specs.Kept.{LayoutsAreLawful}
use Rattle.generation.specs.Layouts.{gateway_location, key_bytes, control_section, block_section}
use Rattle.generation.specs.Lawful.{IsPublishable, IsLayout, IsNode, IsInside, Carries, Lawful, HasDii, IsItem, layout_at, tree_at, count_of, one_if_changed, version_in, section_in}
use Rattle.carousel_world.specs.Broadcasts.{Group, Sending}
use Rattle.carousel_world.specs.Instances.{gateway_to_file, file_alone, two_groups, empty_gateway, one_file}
use Rattle.carousel_world.specs.Premises.{HasRound}
use Rattle.carousel_world.proofs.Laid.{empty_laid}
use Rattle.carousel_world.proofs.Modules.{listed_holds, line_of}

-- ---- what the modules say

abbrev pub the_place : Location
the_place = record { carousel = 1; «module» = 140; key = key_bytes 2 }

abbrev pub the_tap : TapFields
the_tap = record { id = 0; use_code = 0x0016; assoc = 0x0001; selector = 0 ∷ 1 ∷ 128 ∷ 0 ∷ 0 ∷ 4 ∷ 255 ∷ 255 ∷ 255 ∷ 255 ∷ [] }

abbrev pub the_binding : BindingFields
the_binding = record { name = 97 ∷ []; kind = FILE; target = record { kind = FILE; profiles = Biop the_place (the_tap ∷ []) ∷ [] } }

abbrev pub the_folder : Object
the_folder = record { key = key_bytes 1; shape = IsFolder (the_binding ∷ []) }

abbrev pub the_file : Object
the_file = record { key = key_bytes 2; shape = IsFile 44 3 }

folder_read : (index_of gateway_to_file).0 ≡ the_folder ∷ []
unfolding read each_at sized_at object_at
folder_read = refl

file_read : (index_of file_alone).0 ≡ the_file ∷ []
unfolding read each_at sized_at object_at
file_read = refl

folder_ends : reads_to_end gateway_to_file ≡ true
unfolding read each_at sized_at object_at
folder_ends = refl

file_ends : reads_to_end file_alone ≡ true
unfolding read each_at sized_at object_at
file_ends = refl

at_gateway : thing_at two_groups (gateway_location 1) ≡ Some (AFolder (the_binding ∷ []))
unfolding read each_at sized_at object_at
at_gateway = refl

at_file : thing_at two_groups the_place ≡ Some (AFile (1 ∷ 2 ∷ 3 ∷ []))
unfolding read each_at sized_at object_at
at_file = refl

-- ---- the layout is lawful

bytes_by : (b : Bytes) → list_all (λ x. nat_lt x 256) b ≡ true → IsBytes b
bytes_by b e = λ k d lt. ltb-true _ 256 (AllPass-from_list_all (λ x. nat_lt x 256) b e k d lt)

there : (o : Option Bytes) (b : Bytes) → o ≡ Some b → o ≢ None
there o b e f = cc

abbrev pub Two : (ℕ × Bytes → Type 0) → Type 0
Two P = All P two_groups

pub two : (P : ℕ × Bytes → Type 0) → P (1, gateway_to_file) → P (140, file_alone) → Two P
two P p q = All-cons P (1, gateway_to_file) ((140, file_alone) ∷ []) p (All-cons P (140, file_alone) [] q (All-nil P))

one : (P : ℕ × Bytes → Type 0) (m : ℕ × Bytes) → P m → All P (m ∷ [])
one P m p = All-cons P m [] p (All-nil P)

two_rise : AllPairs (λ m n. m.0 < n.0) two_groups
two_rise zero zero d lt inside = absurd (omega (arith, lt))
two_rise zero (suc zero) d lt inside = lit< tt
two_rise zero (suc (suc j)) d lt inside = absurd (omega (arith, inside))
two_rise (suc i) j d lt inside = absurd (omega (arith, lt, inside))

two_form : IsLayout two_groups
two_form = record {
  rising = two_rise;
  from_one = two (λ m. 1 ≤ m.0) (lit≤ tt) (lit≤ tt);
  ids = two (λ m. m.0 ≤ 2224) (lit≤ tt) (lit≤ tt);
  bytes = two (λ m. IsBytes m.1) (bytes_by gateway_to_file refl) (bytes_by file_alone refl);
  first = there (module_in two_groups 1) gateway_to_file refl;
}

-- ---- a path names there what stands in the tree

place_a : (n : Bytes) → same_name n (97 ∷ []) ≡ true → location_of n (Some (AFolder (the_binding ∷ []))) ≡ Some the_place
place_a n e = rw e refl

place_other : (n : Bytes) → same_name n (97 ∷ []) ≡ false → location_of n (Some (AFolder (the_binding ∷ []))) ≡ None
place_other n e = rw e refl

-- below the gateway
below : (n : Bytes) (ns : PathNames) → thing_named two_groups (Some (gateway_location 1)) (n ∷ ns) ≡ thing_named two_groups (location_of n (Some (AFolder (the_binding ∷ [])))) ns
below n ns = ap (λ o. thing_named two_groups (location_of n o) ns) at_gateway

below_file : (n : Bytes) (ns : PathNames) → thing_named two_groups (Some the_place) (n ∷ ns) ≡ None
below_file n ns = ap (λ o. thing_named two_groups (location_of n o) ns) at_file

neither : (b : Bool) → ((b && false) || false) ≡ false
neither true = refl
neither false = refl

no_more : (b : Bool) (x : Entry) → cond (b && false) (Some x) None ≡ None
no_more true x = refl
no_more false x = refl

neither_one : (a b : Bool) → a ≡ false → b ≡ false → (a || b) ≡ false
neither_one true b e f = cc
neither_one false b e f = f

not_kept : (b : Bool) (content : Bytes) → is_kept (cond b (Some (entries.File content)) None) ≡ false
not_kept true content = refl
not_kept false content = refl

no_way : (n : Bytes) (ns : PathNames) → leads_on one_file (n ∷ ns) ≡ false
no_way n [] = neither (same_name n (97 ∷ []))
no_way n (m ∷ ms) = neither (same_name n (97 ∷ []))

not_folder : (n : Bytes) (ns : PathNames) → is_folder one_file (n ∷ ns) ≡ false
not_folder n ns =
    neither_one (is_kept (entry_at one_file (n ∷ ns))) (leads_on one_file (n ∷ ns)) (not_kept (same_path (n ∷ ns) ((97 ∷ []) ∷ [])) (1 ∷ 2 ∷ 3 ∷ [])) (no_way n ns)

entry_a : (n : Bytes) → same_name n (97 ∷ []) ≡ true → entry_at one_file (n ∷ []) ≡ Some (entries.File (1 ∷ 2 ∷ 3 ∷ []))
entry_a n e = rw e refl

entry_other : (n : Bytes) → same_name n (97 ∷ []) ≡ false → entry_at one_file (n ∷ []) ≡ None
entry_other n e = rw e refl

content_a : (n : Bytes) → same_name n (97 ∷ []) ≡ true → content_at one_file (n ∷ []) ≡ Some (1 ∷ 2 ∷ 3 ∷ [])
content_a n e = ap file_in (entry_a n e)

content_other : (n : Bytes) → same_name n (97 ∷ []) ≡ false → content_at one_file (n ∷ []) ≡ None
content_other n e = ap file_in (entry_other n e)

content_below : (n m : Bytes) (ms : PathNames) → content_at one_file (n ∷ m ∷ ms) ≡ None
content_below n m ms = ap file_in (no_more (same_name n (97 ∷ [])) (entries.File (1 ∷ 2 ∷ 3 ∷ [])))

no_node : (n : Bytes) (ns : PathNames) → content_at one_file (n ∷ ns) ≡ None → node_at one_file (n ∷ ns) ≡ NoSuch
no_node n ns e = rw (e, not_folder n ns) refl

a_node : (n : Bytes) → same_name n (97 ∷ []) ≡ true → node_at one_file (n ∷ []) ≡ File (1 ∷ 2 ∷ 3 ∷ [])
a_node n e = rw (content_a n e) refl

abbrev Named : PathNames → Type 0
Named p = IsNode (thing_named two_groups (Some (gateway_location 1)) p) (node_at one_file p)

as_is : (p : PathNames) (thing : Option Thing) (node : Node) → thing_named two_groups (Some (gateway_location 1)) p ≡ thing → node_at one_file p ≡ node → IsNode thing node → Named p
as_is p thing node e f is = subst (λ o. IsNode o (node_at one_file p)) (sym e) (subst (IsNode thing) (sym f) is)

named : (p : PathNames) → Named p
named [] = as_is [] (Some (AFolder (the_binding ∷ []))) (Folder ((97 ∷ []) ∷ [])) at_gateway refl refl
named (n ∷ []) = go (same_name n (97 ∷ [])) refl where
  go : (t : Bool) → same_name n (97 ∷ []) ≡ t → Named (n ∷ [])
  go true e = as_is (n ∷ []) (Some (AFile (1 ∷ 2 ∷ 3 ∷ []))) (File (1 ∷ 2 ∷ 3 ∷ [])) (below n [] ∙ ap (λ l. thing_named two_groups l []) (place_a n e) ∙ at_file) (a_node n e) refl
  go false e = as_is (n ∷ []) None NoSuch (below n [] ∙ ap (λ l. thing_named two_groups l []) (place_other n e)) (no_node n [] (content_other n e)) tt
named (n ∷ m ∷ ms) = go (same_name n (97 ∷ [])) refl where
  go : (t : Bool) → same_name n (97 ∷ []) ≡ t → Named (n ∷ m ∷ ms)
  go true e = as_is (n ∷ m ∷ ms) None NoSuch (below n (m ∷ ms) ∙ ap (λ l. thing_named two_groups l (m ∷ ms)) (place_a n e) ∙ below_file m ms) (no_node n (m ∷ ms) (content_below n m ms)) tt
  go false e = as_is (n ∷ m ∷ ms) None NoSuch (below n (m ∷ ms) ∙ ap (λ l. thing_named two_groups l (m ∷ ms)) (place_other n e)) (no_node n (m ∷ ms) (content_below n m ms)) tt

-- ---- bindings

-- what a list of one object has
only_has : (o x : Object) → Contains (o ∷ []) x → o ≡ x
only_has o x (zero, lt, e) = e
only_has o x (suc k, lt, e) = absurd (omega (arith, lt))

same_bindings : (xs ys : List BindingFields) → IsFolder xs ≡ IsFolder ys → xs ≡ ys
same_bindings xs ys e = cc

binding_inside : IsInside two_groups 1 the_binding
binding_inside = record {
  inside = λ l taps e.
      let is : (the_place, the_tap ∷ []) ≡ (l, taps) = same_Some (the_place, the_tap ∷ []) (l, taps) e in
      subst (λ (x : Location). (x.carousel ≡ 1) × (module_in two_groups x.module ≢ None)) (ap (λ x. x.0) is) (refl, there (module_in two_groups 140) file_alone refl);
  delivered = λ l taps t e d.
      let is : (the_place, the_tap ∷ []) ≡ (l, taps) = same_Some (the_place, the_tap ∷ []) (l, taps) e in
      let by : delivery_of_taps (the_tap ∷ []) ≡ Some t = ap (λ x. delivery_of_taps x.1) is ∙ d in
      let number : 0x80000004 ≡ t = same_Some 0x80000004 t by in
      subst (λ (x : Location). identification_of t ≡ group_of x.module) (ap (λ x. x.0) is) (ap identification_of (sym number));
}

abbrev IsFine : ℕ × Bytes → Type 0
IsFine m = (key : Bytes) (bindings : List BindingFields) → Contains (index_of m.1).0 (record { key = key; shape = IsFolder bindings }) → All (IsInside two_groups 1) bindings

folder_fine : IsFine (1, gateway_to_file)
folder_fine key bindings has =
    let is = only_has the_folder (record { key = key; shape = IsFolder bindings }) (subst (λ os. Contains os (record { key = key; shape = IsFolder bindings })) folder_read has) in
    subst (All (IsInside two_groups 1)) (same_bindings (the_binding ∷ []) bindings (ap (λ (o : Object). o.shape) is)) (All-cons (IsInside two_groups 1) the_binding [] binding_inside (All-nil (IsInside two_groups 1)))

no_folder : (first n : ℕ) (bindings : List BindingFields) → IsFile first n ≡ IsFolder bindings → ⊥
no_folder first n bindings e = cc

file_fine : IsFine (140, file_alone)
file_fine key bindings has =
    let is = only_has the_file (record { key = key; shape = IsFolder bindings }) (subst (λ os. Contains os (record { key = key; shape = IsFolder bindings })) file_read has) in
    absurd (no_folder 44 3 bindings (ap (λ (o : Object). o.shape) is))

carries : Carries 1 two_groups one_file
carries = record {
  paths = named;
  to_end = λ m bytes e. listed_holds (λ x. IsTrue (reads_to_end x.1)) two_groups m bytes (two (λ x. IsTrue (reads_to_end x.1)) folder_ends file_ends) e;
  inside = λ m bytes key bindings e has. listed_holds IsFine two_groups m bytes (two IsFine folder_fine file_fine) e key bindings has;
}

-- the first generation is the one that the rules make of no tree
before_any : LayoutsAreLawful → Lawful 1 (empty_gateway ∷ []) ([] ∷ [])
before_any lawful =
    subst (λ ls. Lawful 1 ls ([] ∷ [])) empty_laid (lawful 1 [] (record { carousel_id = lit< tt; few = lit≤ tt; each = All-nil IsPublishable }))

-- ---- so many generations of it

abbrev pub laid_out : ℕ → List Layout
laid_out n = empty_gateway ∷ replicate n two_groups

abbrev grown : ℕ → List Tree
grown n = [] ∷ replicate n one_file

pub at_each : (n k : ℕ) → k < n → layout_at (replicate n two_groups) k ≡ two_groups
at_each zero k lt = absurd (omega (arith, lt))
at_each (suc n) zero lt = refl
at_each (suc n) (suc k) lt = at_each n k (omega (arith, lt))

tree_at_each : (n k : ℕ) → k < n → tree_at (replicate n one_file) k ≡ one_file
tree_at_each zero k lt = absurd (omega (arith, lt))
tree_at_each (suc n) zero lt = refl
tree_at_each (suc n) (suc k) lt = tree_at_each n k (omega (arith, lt))

size_of : (n : ℕ) → length (laid_out n) ≡ suc n
size_of n = ap (λ (k : ℕ). suc k) (length-replicate n two_groups)

all_layouts : (P : Layout → Type 0) (n : ℕ) → All P (empty_gateway ∷ []) → P two_groups
    → All P (laid_out n)
all_layouts P n e p =
    All-cons P empty_gateway (replicate n two_groups) (e 0 [] (lit< tt))
    (All-replicate P n two_groups p)

pub generations_lawful : LayoutsAreLawful → (n : ℕ) → n ≤ 16383
    → Lawful 1 (laid_out n) (grown n)
generations_lawful lawful n few = record {
  as_many =
      ap (λ (k : ℕ). suc k) (length-replicate n two_groups ∙ sym (length-replicate n one_file));
  few = omega (arith, few, size_of n);
  carousel_id = lit< tt;
  maps = all_layouts IsLayout n (before_any lawful).maps two_form;
  carries = each;
  total = all_layouts IsSmall n (before_any lawful).total (lit≤ tt);
  sizes =
      all_layouts (All HasSize) n (before_any lawful).sizes (two HasSize (lit≤ tt) (lit≤ tt));
} where
  IsSmall : Layout → Type 0
  IsSmall l = sum_by (λ m. length m.1) l ≤ 268435456

  HasSize : ℕ × Bytes → Type 0
  HasSize m = length m.1 ≤ 16842752

  each : (g : ℕ) → g < length (laid_out n)
      → Carries 1 (layout_at (laid_out n) g) (tree_at (grown n) g)
  each zero lt = (before_any lawful).carries 0 (lit< tt)
  each (suc k) lt =
      let below : k < n = omega (arith, lt, size_of n) in
      let its = subst (Carries 1 two_groups) (sym (tree_at_each n k below)) carries in
      subst (λ l. Carries 1 l (tree_at (replicate n one_file) k)) (sym (at_each n k below)) its

-- ---- what is sent of them

its_module : (n k m : ℕ) (bytes : Bytes) → k < n → module_in two_groups m ≡ Some bytes
    → module_in (layout_at (laid_out n) (suc k)) m ≡ Some bytes
its_module n k m bytes lt e = ap (λ l. module_in l m) (at_each n k lt) ∙ e

abbrev pub is_item : Item → Bool
is_item Dsi = true
is_item (Dii j) = (j == 1) || (j == 2)
is_item (Block m b) = ((m == 1) || (m == 140)) && (b == 0)

-- the items of a generation that has both modules
own : (n k : ℕ) → k < n → (item : Item) → is_item item ≡ true → IsItem (laid_out n) (suc k) item
own n k lt Dsi e = omega (arith, lt, size_of n)
own n k lt (Dii j) e = by (or_cases (j == 1) (j == 2) e) where
  inside : suc k < length (laid_out n)
  inside = omega (arith, lt, size_of n)

  by : ((j == 1) ≡ true) ⊎ ((j == 2) ≡ true) → IsItem (laid_out n) (suc k) (Dii j)
  by (inl f) =
      let is : j ≡ 1 = eqb-true j 1 f in (inside, inl is, omega (arith, is), omega (arith, is))
  by (inr f) =
      let is : j ≡ 2 = eqb-true j 2 f in
      let has : HasDii (laid_out n) (suc k) j =
      inr (140, file_alone, its_module n k 140 file_alone lt refl, sym is) in
      (inside, has, omega (arith, is), omega (arith, is))
own n k lt (Block m b) e = by (or_cases (m == 1) (m == 140) (and_parts _ _ e).0) where
  first : b ≡ 0
  first = eqb-true b 0 (and_parts ((m == 1) || (m == 140)) (b == 0) e).1

  there : (i : ℕ) (bytes : Bytes) → m ≡ i → module_in two_groups i ≡ Some bytes
      → 0 < block_count_of (length bytes) BLOCK_SIZE → IsItem (laid_out n) (suc k) (Block m b)
  there i bytes is listed some =
      let here : module_in (layout_at (laid_out n) (suc k)) m ≡ Some bytes =
      subst (λ x. module_in (layout_at (laid_out n) (suc k)) x ≡ Some bytes) (sym is)
      (its_module n k i bytes lt listed) in
      let few : b < block_count_of (length bytes) BLOCK_SIZE =
      subst (λ x. x < block_count_of (length bytes) BLOCK_SIZE) (sym first) some in
      (omega (arith, lt, size_of n), (bytes, here, few))

  by : ((m == 1) ≡ true) ⊎ ((m == 140) ≡ true) → IsItem (laid_out n) (suc k) (Block m b)
  by (inl f) = there 1 gateway_to_file (eqb-true m 1 f) refl (lit< tt)
  by (inr f) = there 140 file_alone (eqb-true m 140 f) refl (lit< tt)

-- generation g is one of them
abbrev pub is_one : ℕ → ℕ → Bool
is_one n g = nat_lt 0 g && nat_le g n

upto : (n k : ℕ) → is_one n (suc k) ≡ true → k < n
upto n k e =
    let le : suc k ≤ n = leb-true (suc k) n (and_parts (nat_lt 0 (suc k)) (nat_le (suc k) n) e).1 in
    omega (arith, le)

abbrev pub is_of_one : ℕ → Sending → Bool
is_of_one n s = is_one n s.0 && is_item s.1

each_own : (n g : ℕ) (item : Item) → is_of_one n (g, item) ≡ true → IsItem (laid_out n) g item
each_own n zero item e = cc
each_own n (suc k) item e =
    let p = and_parts (is_one n (suc k)) (is_item item) e in own n k (upto n k p.0) item p.1

pub all_own : (n : ℕ) (xs : List Sending) → list_all (is_of_one n) xs ≡ true
    → All (λ s. IsItem (laid_out n) s.0 s.1) xs
all_own n xs e = λ i d lt.
    each_own n (get_or xs i d).0 (get_or xs i d).1
    (AllPass-from_list_all (is_of_one n) xs e i d lt)

-- ---- a whole cycle of one

abbrev pub section_of : ℕ → ℕ → Item → Bytes
section_of n g item = section_in 1 (laid_out n) g item

abbrev IsHeardAfter : ℕ → ℕ → ℕ → List Bytes → ℕ × Bytes → Type 0
IsHeardAfter n g j after m = group_of m.0 ≡ j
    → (b : ℕ) → b < block_count_of (length m.1) BLOCK_SIZE → Contains after (section_of n g (Block m.0 b))

-- after it each block of its group's module
pub blocks_after : (n k j : ℕ) (after : List Bytes) → k < n
    → (1 ≡ j → Contains after (section_of n (suc k) (Block 1 0)))
    → (2 ≡ j → Contains after (section_of n (suc k) (Block 140 0)))
    → (m b : ℕ) → group_of m ≡ j → IsItem (laid_out n) (suc k) (Block m b)
    → Contains after (section_of n (suc k) (Block m b))
blocks_after n k j after lt one other m b same item =
    listed_holds (IsHeardAfter n (suc k) j after) two_groups m item.1.0
    (two (IsHeardAfter n (suc k) j after) gateway file)
    (ap (λ l. module_in l m) (sym (at_each n k lt)) ∙ item.1.1) same b item.1.2 where
      gateway : IsHeardAfter n (suc k) j after (1, gateway_to_file)
      gateway is zero below = one is
      gateway is (suc c) below = absurd (omega (arith, below))

      file : IsHeardAfter n (suc k) j after (140, file_alone)
      file is zero below = other is
      file is (suc c) below = absurd (omega (arith, below))

pub of_two : ◌≡◌ {A = ℕ} 1 2 → ⊥
of_two e = cc

abbrev pub Round : ℕ → ℕ → List Bytes → ℕ → Type 0
Round n g cs j = HasRound 1 (laid_out n) g j cs

-- the groups of its modules are 1 and 2
pub each_round : (n k : ℕ) (cs : List Bytes) → k < n
    → Round n (suc k) cs 1 → Round n (suc k) cs 2
    → (j : ℕ) → HasDii (laid_out n) (suc k) j → Round n (suc k) cs j
each_round n k cs lt one other j (inl e) = subst (Round n (suc k) cs) (sym e) one
each_round n k cs lt one other j (inr has) =
    subst (Round n (suc k) cs) has.3
    (listed_holds (λ x. Round n (suc k) cs (group_of x.0)) two_groups has.0 has.1
    (two (λ x. Round n (suc k) cs (group_of x.0)) one other)
    (ap (λ l. module_in l has.0) (sym (at_each n k lt)) ∙ has.2))

-- ---- what each says is what the first says, but for the number

unchanged : (o : Option Bytes) → one_if_changed o o ≡ 0
unchanged None = refl
unchanged (Some b) = rw (same_name-refl b) refl

abbrev changed : ℕ → Layout → Layout → ℕ
changed m a b = one_if_changed (module_in a m) (module_in b m)

count_like : (n k m : ℕ) → k < n → count_of (laid_out n) (suc k) m ≡ count_of (laid_out 1) 1 m
count_like n zero m lt =
    ap (λ l. 0 + changed m empty_gateway l) (at_each n 0 lt)
count_like n (suc k) m lt =
    let here : layout_at (replicate n two_groups) k ≡ two_groups =
    at_each n k (omega (arith, lt)) in
    let next : layout_at (replicate n two_groups) (suc k) ≡ two_groups = at_each n (suc k) lt in
    let both : changed m (layout_at (replicate n two_groups) k)
    (layout_at (replicate n two_groups) (suc k)) ≡ 0 =
    ap (λ l. changed m l (layout_at (replicate n two_groups) (suc k))) here
    ∙ ap (changed m two_groups) next ∙ unchanged (module_in two_groups m) in
    let before = count_like n k m (omega (arith, lt)) in
    omega (arith, both, before)

version_like : (n k m : ℕ) → k < n
    → version_in (laid_out n) (suc k) m ≡ version_in (laid_out 1) 1 m
version_like n k m lt = ap (λ c. c % 256) (count_like n k m lt)

-- the lines of a generation's DIIs
abbrev lines : ℕ → ℕ → Layout → List ModuleLine
lines n g ms = map (line_of (version_in (laid_out n) g)) ms

abbrev line_at : ℕ × Bytes → ℕ → ModuleLine
line_at m v = record { id = m.0; size = length m.1; version = v; compressed = false }

lines_like : (n k : ℕ) → k < n → (ms : Layout) → lines n (suc k) ms ≡ lines 1 1 ms
lines_like n k lt [] = refl
lines_like n k lt (m ∷ ms) =
    ap (λ v. line_at m v ∷ lines n (suc k) ms) (version_like n k m.0 lt)
    ∙ ap (λ ls. line_of (version_in (laid_out 1) 1) m ∷ ls) (lines_like n k lt ms)

-- DII j of generation g, with these lines
abbrev dii_with : ℕ → ℕ → List ModuleLine → Bytes
dii_with g j ls = spelling (control_section (dii_transaction g j % 65536) (dii_spelling (record {
  download = 1;
  block_size = BLOCK_SIZE;
  transaction = dii_transaction g j;
  modules = ls;
})))

abbrev block_with : ℕ → ℕ → ℕ → Layout → Bytes
block_with m b v l = spelling (block_section 1 m v b (unwrap_or (module_in l m) []))

abbrev pub like_first : ℕ → Item → Bytes
like_first g Dsi = section_of 1 1 Dsi
like_first g (Dii j) = dii_with g j (lines 1 1 (group_in two_groups j))
like_first g (Block m b) = section_of 1 1 (Block m b)

pub is_like : (n k : ℕ) → k < n → (item : Item)
    → section_of n (suc k) item ≡ like_first (suc k) item
is_like n k lt Dsi = refl
is_like n k lt (Dii j) =
    ap (dii_with (suc k) j) (ap (λ l. lines n (suc k) (group_in l j)) (at_each n k lt)
    ∙ lines_like n k lt (group_in two_groups j))
is_like n k lt (Block m b) =
    ap (λ v. block_with m b v (layout_at (replicate n two_groups) k)) (version_like n k m lt)
    ∙ ap (block_with m b (version_in (laid_out 1) 1 m)) (at_each n k lt)

abbrev pub groups_by : (ℕ → Item → Bytes) → List Group → List (List Bytes)
groups_by say gs = map (λ g. map (say g.generation) g.items) gs

-- all that is sent of them
pub groups_like : (n : ℕ) (gs : List Group) → list_all (λ g. is_one n g.generation) gs ≡ true
    → groups_by (section_of n) gs ≡ groups_by like_first gs
groups_like n [] e = refl
groups_like n (g ∷ gs) e =
    let p = and_parts (is_one n g.generation) (list_all (λ g. is_one n g.generation) gs) e in
    ap (λ (xs : List Bytes). xs ∷ groups_by (section_of n) gs) (items g.generation g.items p.0)
    ∙ ap (λ (xs : List (List Bytes)). map (like_first g.generation) g.items ∷ xs) (groups_like n gs p.1)
  where
    all_like : (k : ℕ) → k < n → (is : List Item)
        → map (section_of n (suc k)) is ≡ map (like_first (suc k)) is
    all_like k lt [] = refl
    all_like k lt (i ∷ is) =
        ap (λ (x : Bytes). x ∷ map (section_of n (suc k)) is) (is_like n k lt i)
        ∙ ap (λ (xs : List Bytes). like_first (suc k) i ∷ xs) (all_like k lt is)

    items : (h : ℕ) (is : List Item) → is_one n h ≡ true
        → map (section_of n h) is ≡ map (like_first h) is
    items zero is f = cc
    items (suc k) is f = all_like k (upto n k f) is
