-- A tree of one file, or of one kept folder, can be published.
use Rattle.std.proofs.lemmas.List.{length-replicate}
use Rattle.std.proofs.Common.{◌≡◌, ℕ, zero, suc, replicate, ◌<◌, ◌≤◌, ◌≢◌, [], ◌∷◌, length, None, refl, arith}
use Rattle.std.specs.List.{All, AllPairs}
use Rattle.std.specs.declared.cmp.Ordering.TheVariants.{Less}
use Rattle.std.proofs.lemmas.List.Elements.{All-nil, All-cons}
use Rattle.oc_bytes.specs.Numbers.{IsBytes}
use Rattle.path_tree.specs.Paths.{Bytes, path_cmp, is_below, IsName, IsPath}
use Rattle.path_tree.specs.Trees.{Tree, IsTree, IsApart, HasContent, Fits, File, Folder, node_at}
use Rattle.path_tree.specs.declared.entry.Entry.{Entry}
use Rattle.path_tree.specs.declared.entry.Entry.TheVariants as entries
use Rattle.generation.specs.Lawful.{IsPublishable}
use Rattle.generation.specs.Publication.{limit_of}
use Rattle.carousel_world.specs.Instances.{tree_of, seven}

-- the name `a`
abbrev pub letter : Bytes
letter = 97 ∷ []

only : {A : Type 0} (P : A → Type 0) (x : A) → P x → All P (x ∷ [])
only P x h = All-cons P x [] h (All-nil P)

alone : {A : Type 0} (R : A → A → Type 0) (x : A) → AllPairs R (x ∷ [])
alone R x i j d below within = absurd (omega (arith, below, within))

letter_name : IsName letter
letter_name = record {
  at_least = omega arith;
  at_most = omega arith;
  no_zero = only (λ b. b ≢ 0) 97 (omega arith);
  no_slash = only (λ b. b ≢ 47) 97 (omega arith);
  in_byte = only (λ b. b < 256) 97 (omega arith);
}

pub not_root : (n : Bytes) → n ∷ [] ≡ [] → ⊥
not_root n e = cc

-- a tree that maps one path
abbrev pub tree_with : Entry → Tree
tree_with entry = (letter ∷ [], entry) ∷ []

one_tree : (entry : Entry) → HasContent entry → Fits entry → IsTree (tree_with entry)
one_tree entry content fits = record {
  paths = only (λ e. IsPath e.0 × (e.0 ≢ [])) (letter ∷ [], entry) (record { depth = omega arith; names = only IsName letter letter_name }, not_root letter);
  in_order = alone (λ e f. path_cmp e.0 f.0 ≡ Less) (letter ∷ [], entry);
  apart = alone (λ e f. IsApart e.1 (is_below e.0 f.0)) (letter ∷ [], entry);
  contents = only (λ e. HasContent e.1) (letter ∷ [], entry) content;
  sizes = only (λ e. Fits e.1) (letter ∷ [], entry) fits;
}

publishable : (content : Bytes) → IsBytes content → length content ≤ 16777216 → limit_of (tree_of content) ≡ None → IsPublishable (tree_of content)
publishable content bytes small within = record { tree = one_tree (entries.File content) bytes small; within = within }

three_bytes : (a b c : _) → a < 256 → b < 256 → c < 256 → IsBytes (a ∷ b ∷ c ∷ [])
three_bytes a b c p q r = All-cons (λ b. b < 256) a (b ∷ c ∷ []) p (All-cons (λ b. b < 256) b (c ∷ []) q (only (λ b. b < 256) c r))

abbrev pub first_content : Bytes
first_content = 1 ∷ 2 ∷ 3 ∷ []

abbrev pub second_content : Bytes
second_content = 4 ∷ 5 ∷ 6 ∷ []

pub first_publishable : IsPublishable (tree_of first_content)
first_publishable = publishable first_content (three_bytes 1 2 3 (omega arith) (omega arith) (omega arith)) (omega arith) refl

pub second_publishable : IsPublishable (tree_of second_content)
second_publishable = publishable second_content (three_bytes 4 5 6 (omega arith) (omega arith) (omega arith)) (omega arith) refl

pub bare_publishable : IsPublishable (tree_with entries.Folder)
bare_publishable = record { tree = one_tree entries.Folder tt tt; within = refl }

pub bare_node : node_at (tree_with entries.Folder) (letter ∷ []) ≡ Folder []
bare_node = refl

pub first_node : node_at (tree_of first_content) (letter ∷ []) ≡ File first_content
first_node = refl

all_sevens : (n : ℕ) → IsBytes (replicate n 7)
all_sevens zero = All-nil (λ b. b < 256)
all_sevens (suc n) = All-cons (λ b. b < 256) 7 (replicate n 7) (omega arith) (all_sevens n)

pub seven_publishable : IsPublishable (tree_of seven)
seven_publishable = publishable seven (all_sevens 4000) (omega (arith, length-replicate {A = ℕ} 4000 7)) refl
