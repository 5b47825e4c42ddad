-- The layouts of a list of trees are lawful.
use Rattle.std.proofs.Common.{◌≡◌, ℕ, zero, suc, ◌<◌, ◌≤◌, List, [], ◌∷◌, length, Some, refl, sym, ◌∙◌, ap, subst, arith, get_or, inl, inr, take, rules}
use Rattle.generation.proofs.Words.{All, sum_by, slice_get, Tree, SpellingsReadBack, IsSpellable, KeptIsAPlacement, spots_in, spots_of, nested, folder_kind_of, key_bytes, key_in, fill_keys, old_keys, keys_of, free_keys, taken_in, entries_of, GenerationState, object_bytes, layout_of, objects_after, first_of, next_of, gateway_before, ArePlaced, IsLayout, Carries, IsPublishable, layout_at, tree_at, layouts_of, LayoutsAreLawful, Placed, all_unmap, option_cases, spelled, fold, All-tail}
use Rattle.std.proofs.lemmas.List.Elements.{All-from_get_or}
use Rattle.generation.proofs.Words.{length-map-range_with_len}
use Rattle.generation.proofs.Standing.{rising_all}
use Rattle.generation.proofs.Keyed.{Distinct, keys_distinct, keys_small}
use Rattle.generation.proofs.Placing.{each_valid, small_folders, each_entry, are_entries, within_limits, after_parts, placed_after, old_placed, the_gateway, first_one}
use Rattle.generation.proofs.Lists.{state_at, reached, layout_is}
use Rattle.generation.proofs.Carrying.{carries, State}
use Rattle.generation.proofs.Filling.{IsFine, fine}
use Rattle.biop_object.proofs.CallerLemmas.{folder_spellable}

-- ---- an object can be spelled

spellable : (c : ℕ) (t : Tree) (objects : List Placed) → c < 4294967296 → ArePlaced t objects → All (λ o. IsSpellable (spelled c objects o)) objects
spellable c t objects small placed = λ i d lt.
    let o = get_or objects i d in
    let entries = entries_of c objects o.spot.number in
    elim (option_cases o.spot.content) [
      | inl h ↦ rw h.1 (refl, (each_valid t objects placed i d lt).small h.0 h.1)
      | inr h ↦
          let size : length (object_bytes c objects o) ≤ 1048576 = small_folders c t objects placed i d lt h in
          rw h (folder_spellable (folder_kind_of o.spot.path) (key_bytes o.key) entries refl (are_entries c t objects placed o.spot.number)
          (each_entry (λ w. w.location.carousel < 4294967296) c t objects placed (λ q name id. small) o.spot.number) (rw h at size))
    ]

-- ---- the generations

state_after : KeptIsAPlacement → (before : Tree) (old : List Placed) (t : Tree) → IsPublishable t → State before old → State t (objects_after old t)
state_after law before old t publishable state =
    let are = old_placed before old state.placed in
    let spots = spots_of t in
    let objects = objects_after old t in
    let parts = after_parts law old t are publishable.within in
    let h = the_gateway t objects parts.0 in
    let first : slice_get (keys_of old spots) 0 ≡ Some 1 = ap (λ k. slice_get (fill_keys (k ∷ old_keys old (spots_in 0 1 (nested t))) (free_keys (taken_in (old_keys old spots)) (length spots))) 0) state.gateway in
    record {
      placed = placed_after law old t publishable.tree publishable.within are;
      keys = subst Distinct (sym parts.1) (keys_distinct old spots state.keys (rising_all t publishable.tree));
      small = all_unmap (λ k. k < 8194) (λ o. o.key) objects (subst (All (λ k. k < 8194)) (sym parts.1) (keys_small old spots state.small (within_limits t publishable.within).few));
      gateway = ap key_in h.found ∙ ap Some (first_one objects h (λ o. o.key) (ap (λ ks. slice_get ks 0) parts.1 ∙ first));
    }

gateway_alone : State [] gateway_before
gateway_alone = search rules

state_of : KeptIsAPlacement → (s : GenerationState) → State s.tree s.objects → (ts : List Tree) → All IsPublishable ts → (g : ℕ) → let x = fold next_of s (take g ts) in State x.tree x.objects
state_of law s state ts all zero = state
state_of law s state [] all (suc g) = state
state_of law s state (t ∷ ts) all (suc g) = state_of law (next_of s t) (state_after law s.tree s.objects t (all 0 t (omega arith)) state) ts (All-tail IsPublishable t ts all) g

pub lawful : SpellingsReadBack → KeptIsAPlacement → LayoutsAreLawful
lawful spells places c trees publishable =
    let ls = layouts_of c trees in
    let number : length ls ≡ suc (length trees) = length-map-range_with_len (λ g. (state_at c trees g).layout) 0 (suc (length trees)) in
    let first = state_after places [] gateway_before [] (search rules) gateway_alone in
    let each : (g : ℕ) → g < length ls → IsFine (layout_at ls g) × Carries c (layout_at ls g) (tree_at ([] ∷ trees) g) = λ g lt.
    let le : g ≤ length trees = omega (arith, lt, number) in
    let s = state_at c trees g in
    let state = state_of places (first_of c) first trees publishable.each g in
    let r = reached c trees g le in
    let is : layout_of c s.objects ≡ layout_at ls g = sym (layout_is c trees g le ∙ r.made) in
    let carried = carries spells c s.tree s.objects state (spellable c s.tree s.objects publishable.carousel_id state.placed) in
    (subst IsFine is (fine c s.tree s.objects state.placed), subst (λ l. Carries c l (tree_at ([] ∷ trees) g)) is (subst (Carries c (layout_of c s.objects)) r.tree carried)) in
    record {
      as_many = number;
      few = omega (arith, number, publishable.few);
      carousel_id = publishable.carousel_id;
      maps = All-from_get_or IsLayout ls [] (λ g lt. (each g lt).0.form);
      carries = λ g lt. (each g lt).1;
      total = All-from_get_or (λ l. sum_by (λ m. length m.1) l ≤ 268435456) ls [] (λ g lt. (each g lt).0.total);
      sizes = All-from_get_or (λ l. All (λ m. length m.1 ≤ 16842752) l) ls [] (λ g lt. (each g lt).0.sizes);
    }
