-- There is room for each DII of a generation beside its others.
use Rattle.std.proofs.Common.{◌≡◌, ℕ, zero, suc, ◌+◌, ◌<◌, ◌≤◌, Bool, true, false, not, cond, eqb, List, [], ◌∷◌, map, length, refl, ap, sym, ◌∙◌, subst, arith}
use Rattle.std.specs.List.{filter, list_any, sum_by}
use Rattle.std.proofs.lemmas.Bool.{eqb-true, eqb-false, ne_eqb, or_parts, or_from, and_from, le-leb, lt-ltb}
use Rattle.std.proofs.lemmas.List.{length-map}
use Rattle.std.proofs.lemmas.List.Sums.{sum_by-cons}
use Rattle.path_tree.specs.Paths.{Bytes}
use Rattle.biop_object.specs.Names.{Layout}
use Rattle.generation.specs.Lawful.{layout_at, version_in, dii_in}
use Rattle.generation.specs.Groups.{group_of, is_in_group, group_in}
use Rattle.dsi_dii.specs.declared.ModuleLine.{ModuleLine}
use Rattle.module_cache.specs.Joining.{Outline, outline, lists, is_there}
use Rattle.module_cache.proofs.CallerLemmas.{any_map}
use Rattle.module_cache.specs.Spans.{Span}
use Rattle.tuner_core.specs.Heard.{Heard}
use Rattle.tuner_core.specs.Turns.{identification, outlines, is_room}
use Rattle.tuner_core.proofs.CallerLemmas.{AreDistinct, numbers}
use Rattle.carousel_world.specs.Receptions.{IsDiiOf}
use Rattle.carousel_world.proofs.Modules.{line_of, same_total, IsSent, number_is}
use Rattle.carousel_world.proofs.Generations.{Each, number_of}

-- ---- weights of numbers that differ

total : (ℕ → ℕ) → List ℕ → ℕ
total f [] = 0
total f (n ∷ ns) = f n + total f ns

-- what has this number weighs
hit : ℕ → ℕ → ℕ → ℕ
hit k w n = cond (eqb k n) w 0

weight : List (ℕ × ℕ) → ℕ → ℕ
weight [] n = 0
weight (x ∷ xs) n = hit x.0 x.1 n + weight xs n

all_weight : List (ℕ × ℕ) → ℕ
all_weight [] = 0
all_weight (x ∷ xs) = x.1 + all_weight xs

total_zero : (ns : List ℕ) → total (weight []) ns ≡ 0
unfolding total weight
total_zero [] = refl
total_zero (n ∷ ns) = let rest = total_zero ns in omega (arith, rest)

total_adds : (x : ℕ × ℕ) (xs : List (ℕ × ℕ)) (ns : List ℕ) → total (weight (x ∷ xs)) ns ≡ total (hit x.0 x.1) ns + total (weight xs) ns
unfolding total weight
total_adds x xs [] = refl
total_adds x xs (n ∷ ns) = let rest = total_adds x xs ns in omega (arith, rest)

none_hit : (k w : ℕ) (ns : List ℕ) → list_any (λ n. eqb n k) ns ≡ false → total (hit k w) ns ≡ 0
unfolding total hit
none_hit k w [] e = refl
none_hit k w (n ∷ ns) e =
    let p = or_parts _ _ e in
    let other : eqb k n ≡ false = ne_eqb k n (λ f. eqb-false n k p.0 (sym f)) in
    let rest : total (hit k w) ns ≡ 0 = none_hit k w ns p.1 in
    rw other (omega (arith, rest))

one_hit : (k w : ℕ) (ns : List ℕ) → AreDistinct ns → total (hit k w) ns ≤ w
unfolding total hit
one_hit k w [] a = omega arith
one_hit k w (n ∷ ns) a = go (eqb k n) refl (one_hit k w ns a.1) where
  go : (t : Bool) → eqb k n ≡ t → total (hit k w) ns ≤ w → cond (eqb k n) w 0 + total (hit k w) ns ≤ w
  go true e rest =
      let none : total (hit k w) ns ≡ 0 = none_hit k w ns (subst (λ x. list_any (λ y. eqb y x) ns ≡ false) (sym (eqb-true k n e)) a.0) in
      rw e (omega (arith, none))
  go false e rest = rw e (omega (arith, rest))

-- numbers that differ weigh no more than all together
distinct_weigh : (xs : List (ℕ × ℕ)) (ns : List ℕ) → AreDistinct ns → total (weight xs) ns ≤ all_weight xs
unfolding total weight all_weight
distinct_weigh [] ns a = let none = total_zero ns in omega (arith, none)
distinct_weigh (x ∷ xs) ns a =
    let more = total_adds x xs ns in
    let one = one_hit x.0 x.1 ns a in
    let rest = distinct_weigh xs ns a in
    omega (arith, more, one, rest)

-- ---- 16 numbers at most

upto : ℕ → List (ℕ × ℕ)
upto zero = []
upto (suc k) = (suc k, 1) ∷ upto k

all_upto : (k : ℕ) → all_weight (upto k) ≡ k
unfolding upto all_weight
all_upto zero = refl
all_upto (suc k) = let rest = all_upto k in omega (arith, rest)

weighs : (k n : ℕ) → 1 ≤ n → n ≤ k → 1 ≤ weight (upto k) n
unfolding upto weight hit
weighs zero n some few = absurd (omega (arith, some, few))
weighs (suc k) n some few = go (eqb (suc k) n) refl (weighs k n some) where
  go : (t : Bool) → eqb (suc k) n ≡ t → (n ≤ k → 1 ≤ weight (upto k) n) → 1 ≤ cond (eqb (suc k) n) 1 0 + weight (upto k) n
  go true e rest = rw e (omega arith)
  go false e rest = let more = rest (lower k n (λ f. eqb-false (suc k) n e f) few) in rw e (omega (arith, more)) where
    lower : (k n : ℕ) → (suc k ≡ n → ⊥) → n ≤ suc k → n ≤ k
    lower k n other le = omega (arith, le, other)

abbrev AreFew : List ℕ → Type 0
AreFew [] = Unit {0}
AreFew (n ∷ ns) = ((1 ≤ n) × (n ≤ 16)) × AreFew ns

counted : (ns : List ℕ) → AreFew ns → length ns ≤ total (weight (upto 16)) ns
unfolding total
counted [] f = omega arith
counted (n ∷ ns) f = let one = weighs 16 n f.0.0 f.0.1 in let rest = counted ns f.1 in omega (arith, one, rest)

few_numbers : (ns : List ℕ) → AreDistinct ns → AreFew ns → length ns ≤ 16
few_numbers ns a f = let most = distinct_weigh (upto 16) ns a in let all = all_upto 16 in let some = counted ns f in omega (arith, most, all, some)

-- ---- the sizes of groups

sizes : Layout → List (ℕ × ℕ)
sizes ms = map (λ m. (group_of m.0, length m.1)) ms

group_size : (j : ℕ) (ms : Layout) → sum_by (λ m. length m.1) (filter (is_in_group j) ms) ≡ weight (sizes ms) j
unfolding weight hit sizes
group_size j [] = refl
group_size j (m ∷ ms) = go (eqb (group_of m.0) j) refl (group_size j ms) where
  go : (t : Bool) → eqb (group_of m.0) j ≡ t → sum_by (λ m. length m.1) (filter (is_in_group j) ms) ≡ weight (sizes ms) j
      → sum_by (λ m. length m.1) (cond (eqb (group_of m.0) j) (m ∷ filter (is_in_group j) ms) (filter (is_in_group j) ms)) ≡ cond (eqb (group_of m.0) j) (length m.1) 0 + weight (sizes ms) j
  go true e rest = rw e (sum_by-cons (λ (m : ℕ × Bytes). length m.1) m (filter (is_in_group j) ms) ∙ ap (λ n. length m.1 + n) rest)
  go false e rest = rw e (omega (arith, rest))

all_sizes : (ms : Layout) → all_weight (sizes ms) ≡ sum_by (λ m. length m.1) ms
unfolding all_weight sizes
all_sizes [] = refl
all_sizes (m ∷ ms) = ap (λ n. length m.1 + n) (all_sizes ms) ∙ sym (sum_by-cons (λ (m : ℕ × Bytes). length m.1) m ms)

dii_size : (carousel : ℕ) (ls : List Layout) (g j : ℕ) → sum_by (λ (l : ModuleLine). l.size) (dii_in carousel ls g j).modules ≡ weight (sizes (layout_at ls g)) j
dii_size carousel ls g j = same_total (version_in ls g) (group_in (layout_at ls g) j) ∙ group_size j (layout_at ls g)

-- ---- the DIIs that are held

-- each is a DII of the generation
abbrev pub AreOfOne : ℕ → List Layout → ℕ → List (Span Heard) → Type 0
AreOfOne carousel ls g ss = Each (λ s. IsDiiOf carousel ls g s.dii) ss

span_size : (carousel : ℕ) (ls : List Layout) (g : ℕ) (s : Span Heard) → IsDiiOf carousel ls g s.dii → sum_by (λ (l : ModuleLine). l.size) (outline s.dii).modules ≡ weight (sizes (layout_at ls g)) (identification s.dii)
span_size carousel ls g s of =
    ap (λ d. sum_by (λ (l : ModuleLine). l.size) d.modules) of.is ∙ dii_size carousel ls g of.number ∙ ap (weight (sizes (layout_at ls g))) (sym (number_of carousel ls g s.dii of))

held_size : (carousel : ℕ) (ls : List Layout) (g : ℕ) (ss : List (Span Heard)) → AreOfOne carousel ls g ss → sum_by (λ o. sum_by (λ (l : ModuleLine). l.size) o.modules) (outlines ss) ≡ total (weight (sizes (layout_at ls g))) (numbers ss)
unfolding total
held_size carousel ls g [] of = refl
held_size carousel ls g (s ∷ ss) of =
    sum_by-cons (λ (o : Outline). sum_by (λ (l : ModuleLine). l.size) o.modules) (outline s.dii) (outlines ss)
    ∙ ap (λ n. n + sum_by (λ (o : Outline). sum_by (λ (l : ModuleLine). l.size) o.modules) (outlines ss)) (span_size carousel ls g s of.0)
    ∙ ap (λ n. weight (sizes (layout_at ls g)) (identification s.dii) + n) (held_size carousel ls g ss of.1)

held_few : (carousel : ℕ) (ls : List Layout) (g : ℕ) (ss : List (Span Heard)) → AreOfOne carousel ls g ss → AreFew (numbers ss)
held_few carousel ls g [] of = tt
held_few carousel ls g (s ∷ ss) of =
    let same = number_of carousel ls g s.dii of.0 in
    ((subst (λ n. 1 ≤ n) (sym same) of.0.some, subst (λ n. n ≤ 16) (sym same) of.0.few), held_few carousel ls g ss of.1)

-- what a DII lists is of its group
group_lists : (versions : ℕ → ℕ) (j id : ℕ) (ms : Layout) → eqb (group_of id) j ≡ false → list_any (λ l. eqb l.id id) (map (line_of versions) (filter (is_in_group j) ms)) ≡ false
group_lists versions j id [] e = refl
group_lists versions j id (m ∷ ms) e = go (eqb (group_of m.0) j) refl (group_lists versions j id ms e) where
  go : (t : Bool) → eqb (group_of m.0) j ≡ t → list_any (λ l. eqb l.id id) (map (line_of versions) (filter (is_in_group j) ms)) ≡ false → list_any (λ l. eqb l.id id) (map (line_of versions) (filter (is_in_group j) (m ∷ ms))) ≡ false
  go false f rest = rw f rest
  go true f rest = rw f (or_from _ _ (ne_eqb m.0 id (λ same. other same f)) rest) where
    other : m.0 ≡ id → eqb (group_of m.0) j ≡ true → ⊥
    other same own = let mine : eqb (group_of id) j ≡ true = subst (λ k. eqb (group_of k) j ≡ true) same own in cc

lists_apart : (carousel : ℕ) (ls : List Layout) (g : ℕ) (s : Span Heard) → IsDiiOf carousel ls g s.dii → (id : ℕ) → eqb (group_of id) (identification s.dii) ≡ false → lists (outline s.dii) id ≡ false
lists_apart carousel ls g s of id e =
    ap (λ d. list_any (λ l. eqb l.id id) d.modules) of.is
    ∙ group_lists (version_in ls g) of.number id (layout_at ls g) (subst (λ n. eqb (group_of id) n ≡ false) (number_of carousel ls g s.dii of) e)

none_lists : (carousel : ℕ) (ls : List Layout) (g j id : ℕ) → eqb (group_of id) j ≡ true → (ss : List (Span Heard)) → AreOfOne carousel ls g ss → list_any (λ n. eqb n j) (numbers ss) ≡ false → list_any (λ o. lists o id) (outlines ss) ≡ false
none_lists carousel ls g j id own [] of e = refl
none_lists carousel ls g j id own (s ∷ ss) of e =
    let p = or_parts _ _ e in
    let other : eqb (group_of id) (identification s.dii) ≡ false = subst (λ n. eqb n (identification s.dii) ≡ false) (sym (eqb-true _ _ own)) (ne_eqb j (identification s.dii) (λ f. eqb-false (identification s.dii) j p.0 (sym f))) in
    or_from _ _ (lists_apart carousel ls g s of.0 id other) (none_lists carousel ls g j id own ss of.1 p.1)

-- a test that fails of each id of a group
none_of_group : (versions : ℕ → ℕ) (j : ℕ) (test : ℕ → Bool) → ((id : ℕ) → eqb (group_of id) j ≡ true → test id ≡ false) → (ms : Layout) → list_any (λ l. test l.id) (map (line_of versions) (filter (is_in_group j) ms)) ≡ false
none_of_group versions j test h [] = refl
none_of_group versions j test h (m ∷ ms) = go (eqb (group_of m.0) j) refl (none_of_group versions j test h ms) where
  go : (t : Bool) → eqb (group_of m.0) j ≡ t → list_any (λ l. test l.id) (map (line_of versions) (filter (is_in_group j) ms)) ≡ false → list_any (λ l. test l.id) (map (line_of versions) (filter (is_in_group j) (m ∷ ms))) ≡ false
  go false f rest = rw f rest
  go true f rest = rw f (or_from _ _ (h m.0 f) rest)

split : (n : ℕ) (ns : List ℕ) (f : ℕ → ℕ) (most : ℕ) → total f (n ∷ ns) ≤ most → f n + total f ns ≤ most
unfolding total
split n ns f most le = le

-- Beside other DIIs of its generation, each of an identification of its own, there is room for a DII.
pub room_there : (carousel : ℕ) (ls : List Layout) (g j : ℕ) → IsSent carousel ls g → 1 ≤ j → j ≤ 16 → (ss : List (Span Heard)) → AreOfOne carousel ls g ss → AreDistinct (numbers ss) → list_any (λ n. eqb n j) (numbers ss) ≡ false
    → is_room (outlines ss) (dii_in carousel ls g j) ≡ true
room_there carousel ls g j sent some few ss of distinct other =
    let d = dii_in carousel ls g j in
    let mine : identification d ≡ j = number_is g j few in
    let not_there : is_there (outlines ss) d ≡ false = any_map (λ s. outline s.dii) (λ o. eqb o.identification (identification d)) ss ∙ sym (any_map (λ s. identification s.dii) (λ n. eqb n (identification d)) ss)
    ∙ ap (λ i. list_any (λ n. eqb n i) (numbers ss)) mine ∙ other in
    let apart : list_any (λ l. list_any (λ o. lists o l.id) (outlines ss)) d.modules ≡ false =
    none_of_group (version_in ls g) j (λ id. list_any (λ o. lists o id) (outlines ss)) (λ id own. none_lists carousel ls g j id own ss of other) (layout_at ls g) in
    let count : length (numbers ss) < 16 = fewer (numbers ss) (few_numbers (j ∷ numbers ss) (other, distinct) ((some, few), held_few carousel ls g ss of)) in
    let count_too : length (outlines ss) < 16 = same_count ss count in
    let weighs_all : total (weight (sizes (layout_at ls g))) (j ∷ numbers ss) ≤ all_weight (sizes (layout_at ls g)) = distinct_weigh (sizes (layout_at ls g)) (j ∷ numbers ss) (other, distinct) in
    let fits : sum_by (λ o. sum_by (λ (l : ModuleLine). l.size) o.modules) (outlines ss) + sum_by (λ (l : ModuleLine). l.size) d.modules ≤ 268435456 =
    fit_all _ _ _ _ _ _ (held_size carousel ls g ss of) (dii_size carousel ls g j) (all_sizes (layout_at ls g)) (split j (numbers ss) (weight (sizes (layout_at ls g))) (all_weight (sizes (layout_at ls g))) weighs_all) sent.total in
    and_from _ _ (and_from _ _ (and_from _ _ (ap not not_there) (ap not apart)) (lt-ltb _ _ count_too)) (le-leb _ _ fits)
  where
    fewer : (ns : List ℕ) → length (j ∷ ns) ≤ 16 → length ns < 16
    fewer ns le = omega (arith, le)

    same_count : (ss : List (Span Heard)) → length (numbers ss) < 16 → length (outlines ss) < 16
    same_count ss lt = omega (arith, lt, length-map ss (λ s. identification s.dii), length-map ss (λ s. outline s.dii))

    fit_all : (a b c x y z : ℕ) → a ≡ x → b ≡ y → c ≡ z → y + x ≤ c → z ≤ 268435456 → a + b ≤ 268435456
    fit_all a b c x y z p q r s t = omega (arith, p, q, r, s, t)
