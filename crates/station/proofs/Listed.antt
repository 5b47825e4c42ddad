-- Entries among items, and their places.
use Rattle.std.proofs.Common.{◌≡◌, ℕ, zero, suc, ◌-◌, true, List, [], ◌∷◌, ◌++◌, length, map, refl, ap, ◌∙◌, arith, eq-eqb, ne_eqb}
use mathlib.Core.Logic.{dite}
use native.Mathlib.Decide.{ℕ_discrete}
use Rattle.std.proofs.lemmas.Bool.Decides.{nat_tests}
use Rattle.history_lock.specs.History.{Begins, times, places, new_places}
use Rattle.generation_catalogue.specs.History.{CatalogueState}
use Rattle.generation_catalogue.specs.declared.entry.Entry.{Entry as CatalogueEntry}
use Rattle.station.specs.declared.kept.KeptItem.{KeptItem}
use Rattle.station.specs.declared.kept.KeptItem.TheVariants.{Setting, Entry}
use Rattle.station.specs.Items.{items_of, entries_in, carousel_in, entry_places}
use Rattle.station.specs.Inner.Items.{weights_in, is_opening}

entries_of_entries : (es : List CatalogueEntry) → entries_in (map Entry es) ≡ es
entries_of_entries [] = refl
entries_of_entries (e ∷ es) = ap (λ l. e ∷ l) (entries_of_entries es)

pub entries_of_items : (c : CatalogueState) → entries_in (items_of c) ≡ c.entries
entries_of_items c = entries_of_entries c.entries

entries_append : (xs ys : List KeptItem) → entries_in (xs ++ ys) ≡ entries_in xs ++ entries_in ys
entries_append [] ys = refl
entries_append (Setting k ws ∷ xs) ys = entries_append xs ys
entries_append (Entry e ∷ xs) ys = ap (λ l. e ∷ l) (entries_append xs ys)

pub begins_entries : (xs ys : List KeptItem) → Begins xs ys → Begins (entries_in xs) (entries_in ys)
begins_entries xs ys b = (entries_in b.0, ap entries_in b.1 ∙ entries_append xs b.0)

length_entries : (es : List CatalogueEntry) → length (map Entry es) ≡ length es
length_entries [] = refl
length_entries (e ∷ es) = ap suc (length_entries es)

pub length_items : (c : CatalogueState) → length (items_of c) ≡ suc (length c.entries)
length_items c = ap suc (length_entries c.entries)

pub places_append : (xs ys : List ℕ) → entry_places (xs ++ ys) ≡ entry_places xs ++ entry_places ys
places_append [] ys = refl
places_append (zero ∷ xs) ys = places_append xs ys
places_append (suc x ∷ xs) ys = ap (λ l. x ∷ l) (places_append xs ys)

places_later : (first n : ℕ) → entry_places (places (suc first) n) ≡ places first n
places_later first zero = refl
places_later first (suc n) = ap (λ l. first ∷ l) (places_later (suc first) n)

pub new_entry_places : (c d : CatalogueState) → entry_places (new_places (items_of c) (items_of d)) ≡ new_places c.entries d.entries
new_entry_places c d =
    let a = length_items c in
    let b = length_items d in
    let n : length (items_of d) - length (items_of c) ≡ length d.entries - length c.entries = omega arith in
    (λ i. entry_places (places (a i) (n i))) ∙ places_later (length c.entries) (length d.entries - length c.entries)

pub times_entry : (p : ℕ) (xs : List ℕ) → times p (entry_places xs) ≡ times (suc p) xs
times_entry p [] = refl
times_entry p (zero ∷ xs) = let h = times_entry p xs in let e = ne_eqb (suc p) 0 (λ e. omega arith) in grind (arith, nat_tests)
times_entry p (suc x ∷ xs) = let h = times_entry p xs in dite (ℕ_discrete p x)
    (λ here. let a = eq-eqb p x here in let b = eq-eqb (suc p) (suc x) (ap suc here) in grind (arith, nat_tests))
    (λ there. let a = ne_eqb p x there in let b = ne_eqb (suc p) (suc x) (λ e. there (omega arith)) in grind (arith, nat_tests))

-- ---- the setting

pub opening_is : (xs : List KeptItem) → is_opening xs ≡ true → xs ≡ Setting (carousel_in xs) (weights_in xs) ∷ []
opening_is [] e = cc
opening_is (Setting k ws ∷ []) e = refl
opening_is (Setting k ws ∷ x ∷ xs) e = cc
opening_is (Entry e' ∷ xs) e = cc

pub carousel_begins : (k : ℕ) (ws : List ℕ) (xs : List KeptItem) → Begins (Setting k ws ∷ []) xs → carousel_in xs ≡ k
carousel_begins k ws xs b = ap carousel_in b.1
