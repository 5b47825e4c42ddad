-- The groups of lines, and the DIIs of a round.
use Rattle.std.proofs.Common.{◌≡◌, ◌≢◌, ℕ, zero, suc, ◌+◌, ◌-◌, ◌<◌, ◌≤◌, ◌==◌, ◌||◌, Bool, true, false, cond, filter, List, [], ◌∷◌, length, map, get_or, refl, sym, ap, subst, ◌∙◌, arith, ◌⊎◌, inl, inr}
use Rattle.std.specs.List.{All, Contains, list_any, range_with_len, count_by}
use Rattle.std.proofs.lemmas.List.{length-map}
use Rattle.std.proofs.lemmas.List.FromFn.{length-range_with_len, get_or-range_with_len}
use Rattle.std.proofs.lemmas.List.Folds.{Any-from_list_any, list_any_at}
use Rattle.std.proofs.lemmas.List.Elements.{All-head, All-tail, All-cons, All-nil, All-map}
use Rattle.std.proofs.lemmas.List.Sums.{sum_by-cons, length-filter, count_by-le-length}
use Rattle.std.proofs.lemmas.Bool.{cases_eq, eq-eqb, ne_eqb, eqb-true}
use Rattle.module_groups.specs.Groups.{group_of}
use Rattle.cycle_planner.specs.declared.Item.{Item}
use Rattle.cycle_planner.specs.declared.Item.TheVariants.{Dii}
use Rattle.cycle_planner.specs.Cycle.{Line, has_group, groups_from, diis_from, diis_of, AreLines, IsGroupOf, is_dii}
use Rattle.cycle_planner.specs.Places.{IsListed}

-- ---- which groups

either : (a b : Bool) → (a || b) ≡ true → (a ≡ true) ⊎ (b ≡ true)
either true b e = inl refl
either false b e = inr e

or_second : (a b : Bool) → b ≡ true → (a || b) ≡ true
or_second true b e = refl
or_second false b e = e

-- a group that passes the test is the first, or that of a line
pub group_known : (lines : List Line) (j : ℕ) → has_group lines j ≡ true → IsGroupOf lines j
group_known lines j e = go (either (j == 1) (list_any (λ line. group_of line.0 == j) lines) e) where
  go : ((j == 1) ≡ true) ⊎ (list_any (λ line. group_of line.0 == j) lines ≡ true) → IsGroupOf lines j
  go (inl first) = inl (eqb-true j 1 first)
  go (inr other) =
      let any = Any-from_list_any (λ (line : Line). group_of line.0 == j) lines other in
      inr (any.1, (any.0, any.2, any.3), eqb-true (group_of any.1.0) j any.4)

pub has_line : (lines : List Line) (line : Line) → Contains lines line → has_group lines (group_of line.0) ≡ true
has_line lines line c =
    let same : group_of (get_or lines c.0 line).0 ≡ group_of line.0 = ap (λ (l : Line). group_of l.0) c.2 in
    or_second (group_of line.0 == 1) _ (list_any_at (λ (l : Line). group_of l.0 == group_of line.0) lines c.0 line c.1 (eq-eqb (group_of (get_or lines c.0 line).0) (group_of line.0) same))

pub first_listed : (lines : List Line) → IsListed lines 1
first_listed lines = record { above = omega arith; within = omega arith; has = refl }

-- the other way round too
pub group_has : (lines : List Line) (j : ℕ) → IsGroupOf lines j → has_group lines j ≡ true
group_has lines j (inl e) = subst (λ k. has_group lines k ≡ true) (sym e) refl
group_has lines j (inr h) = subst (λ k. has_group lines k ≡ true) h.2 (has_line lines h.0 h.1)

-- the ids of lines are those of the first groups
pub group_listed : (lines : List Line) → AreLines lines → (j : ℕ) → IsGroupOf lines j → IsListed lines j
group_listed lines are j (inl e) = subst (IsListed lines) (sym e) (first_listed lines)
group_listed lines are j (inr h) =
    let id = subst (λ (l : Line). (1 ≤ l.0) × (l.0 ≤ 2224)) h.1.2 (are.ids h.1.0 h.0 h.1.1) in
    subst (IsListed lines) h.2 (record { above = omega arith; within = omega (arith, id.0, id.1); has = has_line lines h.0 h.1 })

abbrev diis : List ℕ → List Item
diis js = map (λ j. Dii j) js

-- ---- the DIIs from a group on

filter_cut : (p : ℕ → Bool) (a n m : ℕ) → n ≡ suc m → filter p (range_with_len a n) ≡ cond (p a) (a ∷ filter p (range_with_len (a + 1) m)) (filter p (range_with_len (a + 1) m))
filter_cut p a n m e = ap (λ k. filter p (range_with_len a k)) e

groups_are : (lines : List Line) (j n : ℕ) → n ≡ 17 - j → groups_from lines j ≡ filter (has_group lines) (range_with_len j n)
unfolding groups_from
groups_are lines j n e = ap (λ k. filter (has_group lines) (range_with_len j k)) (sym e)

groups_step : (lines : List Line) (j : ℕ) → j ≤ 16 → groups_from lines j ≡ cond (has_group lines j) (j ∷ groups_from lines (j + 1)) (groups_from lines (j + 1))
groups_step lines j h =
    let later = groups_are lines (j + 1) (17 - (j + 1)) refl in
    groups_are lines j (17 - j) refl
    ∙ filter_cut (has_group lines) j (17 - j) (17 - (j + 1)) (omega (arith, h))
    ∙ ap (λ js. cond (has_group lines j) (j ∷ js) js) (sym later)

groups_past : (lines : List Line) (j : ℕ) → 16 < j → groups_from lines j ≡ []
groups_past lines j h = groups_are lines j 0 (omega (arith, h))

pub dii_first : (lines : List Line) (j : ℕ) → IsListed lines j → diis_from lines j ≡ Dii j ∷ diis_from lines (j + 1)
dii_first lines j is =
    ap diis (groups_step lines j is.within ∙ ap (λ b. cond b (j ∷ groups_from lines (j + 1)) (groups_from lines (j + 1))) is.has)

pub dii_passed : (lines : List Line) (j : ℕ) → j ≤ 16 → has_group lines j ≡ false → diis_from lines j ≡ diis_from lines (j + 1)
dii_passed lines j h none =
    ap diis (groups_step lines j h ∙ ap (λ b. cond b (j ∷ groups_from lines (j + 1)) (groups_from lines (j + 1))) none)

pub diis_past : (lines : List Line) (j : ℕ) → 16 < j → diis_from lines j ≡ []
diis_past lines j h = ap diis (groups_past lines j h)

-- ---- how many

pub some_dii : (lines : List Line) → 1 ≤ length (diis_of lines)
some_dii lines = omega (arith, ap length (dii_first lines 1 (first_listed lines)))

few_from : (lines : List Line) (j n : ℕ) → n ≡ 17 - j → length (diis_from lines j) ≤ n
few_from lines j n e =
    let all : List ℕ = range_with_len j n in
    omega (
      arith,
      ap (λ js. length (diis js)) (groups_are lines j n e),
      length-map (filter (has_group lines) all) (λ (i : ℕ). Dii i),
      length-filter (has_group lines) all,
      count_by-le-length (has_group lines) all,
      length-range_with_len j n,
    )

-- a count of the DIIs, from group to group
pub one_counted : (lines : List Line) (j count : ℕ) → IsListed lines j → count + length (diis_from lines j) ≡ length (diis_of lines) → count + 1 + length (diis_from lines (j + 1)) ≡ length (diis_of lines)
one_counted lines j count is e = omega (arith, ap length (dii_first lines j is), e)

pub none_counted : (lines : List Line) (j count : ℕ) → j ≤ 16 → has_group lines j ≡ false → count + length (diis_from lines j) ≡ length (diis_of lines) → count + length (diis_from lines (j + 1)) ≡ length (diis_of lines)
none_counted lines j count le none e = omega (arith, ap length (dii_passed lines j le none), e)

pub all_counted : (lines : List Line) (j count : ℕ) → 16 < j → count + length (diis_from lines j) ≡ length (diis_of lines) → count ≡ length (diis_of lines)
all_counted lines j count past e = omega (arith, ap length (diis_past lines j past), e)

pub few_diis : (lines : List Line) → length (diis_of lines) ≤ 16
few_diis lines = few_from lines 1 16 (omega arith)

-- ---- how often

pub count_none : (p : Item → Bool) (a : Item) (xs : List Item) → p a ≡ false → count_by p (a ∷ xs) ≡ count_by p xs
count_none p a xs e = sum_by-cons (λ (x : Item). cond (p x) 1 0) a xs ∙ rw e (omega arith)

pub count_one : (p : Item → Bool) (a : Item) (xs : List Item) → p a ≡ true → count_by p (a ∷ xs) ≡ 1 + count_by p xs
count_one p a xs e = sum_by-cons (λ (x : Item). cond (p x) 1 0) a xs ∙ rw e refl

no_test : (p : Item → Bool) → ((j : ℕ) → p (Dii j) ≡ false) → (js : List ℕ) → count_by p (diis js) ≡ 0
no_test p f [] = refl
no_test p f (j ∷ js) = count_none p (Dii j) (diis js) (f j) ∙ no_test p f js

-- a test that no DII passes
pub no_dii : (p : Item → Bool) → ((j : ℕ) → p (Dii j) ≡ false) → (lines : List Line) → count_by p (diis_of lines) ≡ 0
no_dii p f lines = no_test p f (groups_from lines 1)

cut_none : (j a : ℕ) (rest : List ℕ) (b : Bool) → a ≢ j → count_by (is_dii j) (diis (cond b (a ∷ rest) rest)) ≡ count_by (is_dii j) (diis rest)
cut_none j a rest true ne = count_none (is_dii j) (Dii a) (diis rest) (ne_eqb a j ne)
cut_none j a rest false ne = refl

none_below : (p : ℕ → Bool) (j a n : ℕ) → j < a → count_by (is_dii j) (diis (filter p (range_with_len a n))) ≡ 0
none_below p j a zero h = refl
none_below p j a (suc n) h =
    let other : a ≢ j = omega (arith, h) in
    cut_none j a (filter p (range_with_len (a + 1) n)) (p a) other ∙ none_below p j (a + 1) n (omega (arith, h))

once_at : (p : ℕ → Bool) (a n : ℕ) → p a ≡ true → count_by (is_dii a) (diis (filter p (range_with_len a (suc n)))) ≡ 1
once_at p a n e =
    let rest = filter p (range_with_len (a + 1) n) in
    let here : count_by (is_dii a) (Dii a ∷ diis rest) ≡ 1 = count_one (is_dii a) (Dii a) (diis rest) (eq-eqb a a refl) ∙ omega (arith, none_below p a (a + 1) n (omega arith)) in
    ap (λ b. count_by (is_dii a) (diis (cond b (a ∷ rest) rest))) e ∙ here

once_from : (p : ℕ → Bool) (j a n : ℕ) → a ≤ j → j < a + n → p j ≡ true → count_by (is_dii j) (diis (filter p (range_with_len a n))) ≡ 1
once_from p j a zero low high e = absurd (omega (arith, low, high))
once_from p j a (suc n) low high e = go (cases_eq a j) (λ ne. once_from p j (a + 1) n (omega (arith, low, ne)) (omega (arith, high)) e) where
  go : (a ≡ j) ⊎ (a ≢ j) → (a ≢ j → count_by (is_dii j) (diis (filter p (range_with_len (a + 1) n))) ≡ 1) → count_by (is_dii j) (diis (filter p (range_with_len a (suc n)))) ≡ 1
  go (inl same) later = subst (λ k. p k ≡ true → count_by (is_dii k) (diis (filter p (range_with_len a (suc n)))) ≡ 1) same (once_at p a n) e
  go (inr other) later = cut_none j a (filter p (range_with_len (a + 1) n)) (p a) other ∙ later other

dii_once_from : (lines : List Line) (j a n : ℕ) → n ≡ 17 - a → a ≤ j → j < a + n → has_group lines j ≡ true → count_by (is_dii j) (diis_from lines a) ≡ 1
dii_once_from lines j a n e low high has = ap (λ js. count_by (is_dii j) (diis js)) (groups_are lines a n e) ∙ once_from (has_group lines) j a n low high has

pub dii_once : (lines : List Line) (j : ℕ) → IsListed lines j → count_by (is_dii j) (diis_of lines) ≡ 1
dii_once lines j is = dii_once_from lines j 1 16 (omega arith) is.above (omega (arith, is.within)) is.has

-- ---- each, and nothing else

cut_there : (j a : ℕ) (rest : List ℕ) (b : Bool) → Contains (diis rest) (Dii j) → Contains (diis (cond b (a ∷ rest) rest)) (Dii j)
cut_there j a rest true c = (suc c.0, omega (arith, c.1), c.2)
cut_there j a rest false c = c

there_from : (p : ℕ → Bool) (j a n : ℕ) → a ≤ j → j < a + n → p j ≡ true → Contains (diis (filter p (range_with_len a n))) (Dii j)
there_from p j a zero low high e = absurd (omega (arith, low, high))
there_from p j a (suc n) low high e = go (cases_eq a j) (λ ne. there_from p j (a + 1) n (omega (arith, low, ne)) (omega (arith, high)) e) where
  rest : List ℕ
  rest = filter p (range_with_len (a + 1) n)

  go : (a ≡ j) ⊎ (a ≢ j) → (a ≢ j → Contains (diis rest) (Dii j)) → Contains (diis (cond (p a) (a ∷ rest) rest)) (Dii j)
  go (inl same) later =
      let first : Contains (Dii a ∷ diis rest) (Dii j) = (0, omega arith, ap (λ (k : ℕ). Dii k) same) in
      let test : p a ≡ true = ap p same ∙ e in
      subst (λ b. Contains (diis (cond b (a ∷ rest) rest)) (Dii j)) (sym test) first
  go (inr other) later = cut_there j a rest (p a) (later other)

dii_contained_from : (lines : List Line) (j a n : ℕ) → n ≡ 17 - a → a ≤ j → j < a + n → has_group lines j ≡ true → Contains (diis_from lines a) (Dii j)
dii_contained_from lines j a n e low high has = subst (λ js. Contains (diis js) (Dii j)) (sym (groups_are lines a n e)) (there_from (has_group lines) j a n low high has)

pub dii_contained : (lines : List Line) (j : ℕ) → IsListed lines j → Contains (diis_of lines) (Dii j)
dii_contained lines j is = dii_contained_from lines j 1 16 (omega arith) is.above (omega (arith, is.within)) is.has

kept_all : (P Q : ℕ → Type 0) (p : ℕ → Bool) → ((j : ℕ) → Q j → p j ≡ true → P j) → (js : List ℕ) → All Q js → All P (filter p js)
kept_all P Q p f [] all = All-nil P
kept_all P Q p f (j ∷ js) all = go (p j) refl (kept_all P Q p f js (All-tail Q j js all)) where
  go : (b : Bool) → p j ≡ b → All P (filter p js) → All P (cond b (j ∷ filter p js) (filter p js))
  go true e rest = All-cons P j (filter p js) (f j (All-head Q j js all) e) rest
  go false e rest = rest

all_from : (P : Item → Type 0) (lines : List Line) → ((j : ℕ) → IsListed lines j → P (Dii j)) → (a n : ℕ) → n ≡ 17 - a → 1 ≤ a → a + n ≤ 17 → All P (diis_from lines a)
all_from P lines f a n e low high =
    let all : List ℕ = range_with_len a n in
    let Within : ℕ → Type 0 = λ j. (1 ≤ j) × (j ≤ 16) in
    let within : All Within all = λ k d lt.
    let inside : k < n = omega (arith, lt, length-range_with_len a n) in
    let is : get_or all k d ≡ a + k = get_or-range_with_len a n k d inside in
    (omega (arith, is, low), omega (arith, is, inside, high)) in
    subst (λ js. All P (diis js)) (sym (groups_are lines a n e))
    (All-map P (λ j. Dii j) (filter (has_group lines) all)
    (kept_all (λ j. P (Dii j)) Within (has_group lines) (λ j range has. f j (record { above = range.0; within = range.1; has = has })) all within))

pub all_diis : (P : Item → Type 0) (lines : List Line) → ((j : ℕ) → IsListed lines j → P (Dii j)) → All P (diis_of lines)
all_diis P lines f = all_from P lines f 1 16 (omega arith) (omega arith) (omega arith)
