-- What the lock's close says of items, said of entries; and the passes of a new station.
use Rattle.std.proofs.Common.{◌≡◌, ℕ, suc, true, List, [], ◌∷◌, ◌++◌, length, refl, sym, ap, ◌∙◌, subst, arith}
use Rattle.std.proofs.lemmas.Bool.Decides.{nat_tests}
use Rattle.history_lock.specs.History.{Begins, Each, once_within}
use Rattle.history_lock.specs.Passes.{IsPassOf, AreFresh, seen_of, own_of, number_of, opening_of, owners}
use Rattle.history_lock.specs.declared.pass.Pass.{Pass}
use Rattle.history_lock.specs.declared.lock.HistoryLock.{HistoryLock}
use Rattle.generation_catalogue.specs.History.{CatalogueState}
use Rattle.station.specs.declared.kept.Kept.{Kept}
use Rattle.station.specs.declared.kept.KeptItem.{KeptItem}
use Rattle.station.specs.declared.kept.KeptItem.TheVariants.{Setting}
use Rattle.station.specs.Items.{items_of, entries_in, carousel_in, entry_places}
use Rattle.station.specs.Inner.Items.{weights_in, is_opening}
use Rattle.station.specs.Kept.{list_of}
use Rattle.station.specs.Passes.{entries_seen, own_entries, owners_of}
use Rattle.station.proofs.Listed.{entries_of_items, begins_entries, length_items, times_entry, opening_is}

each_weaker : {A : Type 0} (P Q : A → Type 0) → ((x : A) → P x → Q x) → (xs : List A) → Each P xs → Each Q xs
each_weaker P Q f [] h = tt
each_weaker P Q f (x ∷ xs) h = (f x h.0, each_weaker P Q f xs h.1)

-- the lock's opening list is the setting alone
abbrev carousel_at : HistoryLock Kept KeptItem → ℕ
carousel_at lock = carousel_in (opening_of list_of lock)

abbrev weights_at : HistoryLock Kept KeptItem → List ℕ
weights_at lock = weights_in (opening_of list_of lock)

abbrev IsOpened : HistoryLock Kept KeptItem → Type 0
IsOpened lock = is_opening (opening_of list_of lock) ≡ true

setting_alone : (lock : HistoryLock Kept KeptItem) → IsOpened lock → opening_of list_of lock ≡ Setting (carousel_at lock) (weights_at lock) ∷ []
setting_alone lock opened = opening_is (opening_of list_of lock) opened

module _ (lock : HistoryLock Kept KeptItem) (opened : IsOpened lock) (c : CatalogueState) where
  pub closed_carousel : Begins (opening_of list_of lock) (items_of c) → c.carousel ≡ carousel_at lock
  closed_carousel b = ap carousel_in (b.1 ∙ ap (λ l. l ++ b.0) (setting_alone lock opened))

  pub closed_weights : Begins (opening_of list_of lock) (items_of c) → c.weights ≡ weights_at lock
  closed_weights b = ap weights_in (b.1 ∙ ap (λ l. l ++ b.0) (setting_alone lock opened))

  pub closed_seen : (ps : List (Pass Kept KeptItem)) → Each (λ p. Begins (seen_of p) (items_of c)) ps → Each (λ p. Begins (entries_seen p) c.entries) ps
  closed_seen ps h = each_weaker (λ p. Begins (seen_of p) (items_of c)) (λ p. Begins (entries_seen p) c.entries)
      (λ p b. subst (Begins (entries_seen p)) (entries_of_items c) (begins_entries (seen_of p) (items_of c) b)) ps h

  entry_owners : (place : ℕ) (ps : List (Pass Kept KeptItem)) → owners_of place ps ≡ owners (suc place) ps
  entry_owners place [] = refl
  entry_owners place (p ∷ ps) = let h = times_entry place (own_of p) in let k = entry_owners place ps in omega arith

  once_later : (a b p : ℕ) → once_within (suc a) (suc b) (suc p) ≡ once_within a b p
  once_later a b p = grind (arith, nat_tests)

  pub closed_owned : (ps : List (Pass Kept KeptItem)) → ((place : ℕ) → owners place ps ≡ once_within (length (opening_of list_of lock)) (length (items_of c)) place)
      → (place : ℕ) → owners_of place ps ≡ once_within 0 (length c.entries) place
  closed_owned ps h place =
      entry_owners place ps ∙ h (suc place) ∙ (λ i. once_within (ap length (setting_alone lock opened) i) (length_items c i) (suc place)) ∙ once_later 0 (length c.entries) place

-- ---- the passes of a new station

-- what a clause says of new passes, of the lock and its setting
abbrev AreNewOf : HistoryLock Kept KeptItem → ℕ → List ℕ → ℕ → List (Pass Kept KeptItem) → Type 0
AreNewOf lock k ws first [] = Unit {0}
AreNewOf lock k ws first (p ∷ ps) = (IsPassOf lock p × Begins (Setting k ws ∷ []) (seen_of p)) × (number_of p ≡ first) × (entries_seen p ≡ []) × (own_entries p ≡ []) × AreNewOf lock k ws (suc first) ps

new_passes : (lock : HistoryLock Kept KeptItem) (k : ℕ) (ws : List ℕ) (first : ℕ) (ps : List (Pass Kept KeptItem)) → AreFresh lock (Setting k ws ∷ []) first ps → AreNewOf lock k ws first ps
new_passes lock k ws first [] h = tt
new_passes lock k ws first (p ∷ ps) h = ((h.0, ([], h.2)), h.1, ap entries_in h.2, ap entry_places h.3, new_passes lock k ws (suc first) ps h.4)

pub new_from : (lock : HistoryLock Kept KeptItem) → IsOpened lock → (ws : List ℕ) → weights_at lock ≡ ws → (ps : List (Pass Kept KeptItem)) (list : List KeptItem) → opening_of list_of lock ≡ list → AreFresh lock list 0 ps
    → AreNewOf lock (carousel_at lock) ws 0 ps
new_from lock opened ws w ps list e h =
    new_passes lock (carousel_at lock) ws 0 ps
    (subst (λ (l : List KeptItem). AreFresh lock l 0 ps) (sym e ∙ setting_alone lock opened ∙ ap (λ (x : List ℕ). Setting (carousel_at lock) x ∷ []) w) h)
