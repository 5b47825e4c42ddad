-- Files and kept folders by number.
use Rattle.std.proofs.Common.{◌≡◌, ℕ, ◌+◌, ◌<◌, ◌≤◌, [], ◌∷◌, length, drop, get_or, Option, Some, None, refl, ap, ◌∙◌, drop-cons, add-one}
use Rattle.std.specs.List.{cons_option, filter_map}
use Rattle.std.proofs.lemmas.List.{drop_all}
use Rattle.path_tree.specs.Trees.{Tree}
use Rattle.path_tree.proofs.Rising.{Item}

-- what is picked out of the entries from a number on
pub picked-more : {X : Type 0} (pick : Item → Option X) (t : Tree) (i : ℕ) (d : Item) → i < length t → filter_map pick (drop i t) ≡ cons_option (pick (get_or t i d)) (filter_map pick (drop (i + 1) t))
picked-more pick t i d within = rw (drop-cons t i d within, add-one) refl

pub picked-end : {X : Type 0} (pick : Item → Option X) (t : Tree) (i : ℕ) → length t ≤ i → filter_map pick (drop i t) ≡ []
picked-end pick t i out = rw (drop_all i t out) refl

-- one that is picked, and one that isn't
pub picked-one : {X : Type 0} (pick : Item → Option X) (t : Tree) (i : ℕ) (d : Item) (x : X) → i < length t → pick (get_or t i d) ≡ Some x → filter_map pick (drop i t) ≡ x ∷ filter_map pick (drop (i + 1) t)
picked-one pick t i d x within is = picked-more pick t i d within ∙ ap (λ o. cons_option o (filter_map pick (drop (i + 1) t))) is

pub picked-none : {X : Type 0} (pick : Item → Option X) (t : Tree) (i : ℕ) (d : Item) → i < length t → pick (get_or t i d) ≡ None → filter_map pick (drop i t) ≡ filter_map pick (drop (i + 1) t)
picked-none pick t i d within is = picked-more pick t i d within ∙ ap (λ o. cons_option o (filter_map pick (drop (i + 1) t))) is
