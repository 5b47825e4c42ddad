-- What stands under a path in a store in memory, by its entries as they are kept.
use Rattle.std.proofs.Common.{◌≡◌, ℕ, ◌+◌, ◌<◌, ◌≤◌, Bool, cond, true, false, List, [], ◌∷◌, ◌++◌, length, get_or, drop, Option, Some, None, refl, sym, ap, ◌∙◌, eqb}
use Rattle.std.specs.List.{find, list_any}
use Rattle.std.specs.Cmp.Lexicographic.{pointwise}
use Rattle.std.specs.Option.{option_map}
use Rattle.std.specs.String.{string_bytes}
use Rattle.std.specs.declared.string.String.{String}
use Rattle.std.proofs.lemmas.List.{drop_more, drop_all, map-append}
use Rattle.path_tree.specs.Paths.{Bytes, same_name}
use Rattle.folder_store.specs.Folders.{Entry, entry_at}
use Rattle.folder_store.specs.Stores.{is_parent, tree_stored, view_stood}
use Rattle.folder_store.specs.declared.mem_store.Stood.{Stood}
use Rattle.folder_store.proofs.MemoryLists.{any-mapped}

abbrev pub Stored : Type 0 → Type 0
Stored Z = List (String Z × Stood)

-- the entry of a text at one place, or what is found behind it
module _ {Z : Type 0} (p : Bytes) (xs : Stored Z) (i : ℕ) (x : String Z × Stood) (within : i < length xs) (is : x ≡ get_or xs i x) where
  stood_drop : entry_at (tree_stored (drop i xs)) p ≡ cond (same_name (string_bytes x.0) p) (Some (view_stood x.1)) (entry_at (tree_stored (drop (i + 1) xs)) p)
  stood_drop =
      ap (λ (ys : Stored Z). entry_at (tree_stored ys) p) (drop_more xs i x within)
      ∙ ap (λ (y : String Z × Stood). entry_at (tree_stored (y ∷ drop (i + 1) xs)) p) (sym is)
      ∙ here (same_name (string_bytes x.0) p) (find (λ e. same_name e.0 p) (tree_stored (drop (i + 1) xs)))
    where
      here : (b : Bool) (rest : Option (Bytes × Entry)) → option_map (λ (e : Bytes × Entry). e.1) (cond b (Some (string_bytes x.0, view_stood x.1)) rest)
          ≡ cond b (Some (view_stood x.1)) (option_map (λ (e : Bytes × Entry). e.1) rest)
      here true rest = refl
      here false rest = refl

  pub stood_next : pointwise eqb (string_bytes x.0) p ≡ false → entry_at (tree_stored (drop i xs)) p ≡ entry_at (tree_stored (drop (i + 1) xs)) p
  stood_next other = stood_drop ∙ rw other refl

  pub stood_here : pointwise eqb (string_bytes x.0) p ≡ true → entry_at (tree_stored (drop i xs)) p ≡ Some (view_stood x.1)
  stood_here same = stood_drop ∙ rw same refl

pub stood_end : {Z : Type 0} (p : Bytes) (xs : Stored Z) (i : ℕ) → length xs ≤ i → entry_at (tree_stored (drop i xs)) p ≡ None
stood_end p xs i past = rw (drop_all i xs past) refl

pub parent_any : {Z : Type 0} (p : Bytes) (xs : Stored Z) → list_any (is_parent p) (tree_stored xs) ≡ list_any (λ e. is_parent p (string_bytes e.0, view_stood e.1)) xs
parent_any p xs = any-mapped (is_parent p) (λ e. (string_bytes e.0, view_stood e.1)) xs

-- an entry more
pub pushed : {Z : Type 0} (before after : Stored Z) (text : String Z) (stood : Stood) (p : Bytes) → string_bytes text ≡ p → after ≡ before ++ (text, stood) ∷ []
    → tree_stored after ≡ tree_stored before ++ (p, view_stood stood) ∷ []
pushed before after text stood p same e =
    ap tree_stored e ∙ map-append (λ e. (string_bytes e.0, view_stood e.1)) before ((text, stood) ∷ []) ∙ ap (λ (b : Bytes). tree_stored before ++ (b, view_stood stood) ∷ []) same
