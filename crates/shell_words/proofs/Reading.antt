-- The keyword of a word, sought entry by entry.
use Rattle.std.proofs.Common.{◌≡◌, ℕ, ◌+◌, ◌<◌, ◌≤◌, cond, true, false, List, length, get_or, drop, map, Option, Some, None, Bor, refl, sym, ap, ◌∙◌}
use Rattle.std.specs.List.{find}
use Rattle.std.specs.Option.{option_map}
use Rattle.std.specs.Str.{bytes_eq}
use Rattle.std.proofs.lemmas.List.{drop_more, drop_all}
use Rattle.std.proofs.lemmas.Bool.{cond-true, cond-false}
use Rattle.shell_words.specs.Places.{keyword_of, keyword_table}
use Rattle.shell_words.specs.declared.keyword.Keyword.{Keyword}

abbrev pub Row : Type 0
Row = List ℕ × Keyword

abbrev pub view_entry : Bor (List ℕ) × Keyword → Row
view_entry k = (k.0.now, k.1)

pub first_named : List ℕ → List Row → Option Row
first_named word table = find (λ k. bytes_eq word k.0) table

pub named_by : (word : List ℕ) (table : List Row) → first_named word table ≡ find (λ k. bytes_eq word k.0) table
unfolding first_named
named_by word table = refl

-- the rows from one of them on, where none before it is the word's
module _ {A : Type 0} (view : A → Row) (word : List ℕ) (items : List A) (i : ℕ) (so_far : first_named word (map view items) ≡ first_named word (map view (drop i items))) where
  next_is : (d : A) → i < length items
      → first_named word (map view items) ≡ cond (bytes_eq word (view (get_or items i d)).0) (Some (view (get_or items i d))) (first_named word (map view (drop (i + 1) items)))
  unfolding first_named
  next_is d h = so_far ∙ ap (λ (xs : List A). first_named word (map view xs)) (drop_more items i d h)

  pub more_rows : (d : A) → i < length items → bytes_eq word (view (get_or items i d)).0 ≡ false
      → first_named word (map view items) ≡ first_named word (map view (drop (i + 1) items))
  more_rows d h other = next_is d h ∙ cond-false _ _ _ other

  pub this_row : (d : A) → i < length items → bytes_eq word (view (get_or items i d)).0 ≡ true → map view items ≡ keyword_table
      → Some (view (get_or items i d)).1 ≡ keyword_of word
  this_row d h this all =
      ap (λ (o : Option Row). option_map (λ k. k.1) o) (sym (cond-true _ _ _ this) ∙ sym (next_is d h) ∙ ap (first_named word) all ∙ named_by word keyword_table)

  pub no_row : length items ≤ i → map view items ≡ keyword_table → None ≡ keyword_of word
  unfolding first_named
  no_row h all =
      ap (λ (o : Option Row). option_map (λ k. k.1) o)
      (sym (so_far ∙ ap (λ (xs : List A). first_named word (map view xs)) (drop_all i items h)) ∙ ap (first_named word) all)
