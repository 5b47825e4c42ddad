-- The first line of a group, found by halves.
use Rattle.std.proofs.Common.{◌≡◌, ◌≢◌, ℕ, ◌<◌, ◌≤◌, ◌==◌, Bool, true, false, nat_lt, refl, List, length, get_or, sym, ap, subst, ◌∙◌, arith, ◌⊎◌, inl, inr}
use Rattle.std.specs.List.Sorted.{IsNonDecreasingBy, IsPartitionedBy, IsPartitionPoint}
use Rattle.std.proofs.lemmas.List.{get_or_default}
use Rattle.std.proofs.lemmas.List.Elements.{Contains-get_or}
use Rattle.std.proofs.lemmas.List.Sorted.{IsPartitionedBy-ltb}
use Rattle.std.proofs.lemmas.Bool.{cases_lt, eq-eqb, eqb-true, ltb-true, ltb-false}
use Rattle.module_groups.specs.Groups.{group_of}
use Rattle.cycle_planner.specs.Cycle.{Line, has_group, AreLines, IsGroupOf}
use Rattle.cycle_planner.specs.Places.{line_at}
use Rattle.cycle_planner.proofs.Groups.{group_known, has_line}

abbrev pub is_lower : ℕ → Line → Bool
is_lower j line = nat_lt (group_of line.0) j

-- where the lines of a group begin, or would
abbrev pub IsPlaceOf : List Line → (j place : ℕ) → Type 0
IsPlaceOf lines j i = IsPartitionPoint (λ line. is_lower j line ≡ true) (λ line. is_lower j line ≡ false) lines i

-- groups don't fall along lines
climb_as : (lines : List Line) → AreLines lines → (i k : ℕ) (d : Line) → k < length lines → (i < k) ⊎ (k ≤ i) → i ≤ k → group_of (get_or lines i d).0 ≤ group_of (get_or lines k d).0
climb_as lines are i k d lt (inl before) le = omega (arith, are.rising i k d before lt)
climb_as lines are i k d lt (inr behind) le =
    let same : i ≡ k = omega (arith, behind, le) in
    omega (arith, ap (λ n. (get_or lines n d).0) same)

climb : (lines : List Line) → AreLines lines → IsNonDecreasingBy (λ (line : Line). group_of line.0) lines
climb lines are i k d le lt = climb_as lines are i k d lt (cases_lt i k) le

pub parted : (lines : List Line) → AreLines lines → (j : ℕ) → IsPartitionedBy (is_lower j) lines
parted lines are j = IsPartitionedBy-ltb (λ (line : Line). group_of line.0) lines j (climb lines are)

same_answer : (a b : Bool) → (a ≡ true → b ≡ true) → (b ≡ true → a ≡ true) → a ≡ b
same_answer true b there back = sym (there refl)
same_answer false true there back = back refl
same_answer false false there back = refl

no_answer : (b : Bool) → (b ≡ true → ⊥) → false ≡ b
no_answer true none = absurd (none refl)
no_answer false none = refl

-- the line of a group other than the first
line_of : (lines : List Line) (j : ℕ) → j ≢ 1 → IsGroupOf lines j → (k : ℕ) × (k < length lines) × (group_of (line_at lines k).0 ≡ j)
line_of lines j other (inl e) = absurd (other e)
line_of lines j other (inr h) =
    let c = h.1 in
    let here : line_at lines c.0 ≡ h.0 = get_or_default lines c.0 (0, 0) h.0 c.1 ∙ c.2 in
    (c.0, c.1, ap (λ (line : Line). group_of line.0) here ∙ h.2)

-- before the place all groups are lower
lower_before : (lines : List Line) (j i k : ℕ) → IsPlaceOf lines j i → k < i → group_of (line_at lines k).0 < j
lower_before lines j i k point lt = ltb-true (group_of (line_at lines k).0) j (point.0 k (0, 0) (omega arith) lt)

not_lower : (lines : List Line) (j i : ℕ) → IsPlaceOf lines j i → i < length lines → j ≤ group_of (line_at lines i).0
not_lower lines j i point lt = ltb-false (group_of (line_at lines i).0) j (point.1 i (0, 0) (omega arith) lt)

-- a line of the group, from the place on, is no lower than the one at the place
is_here : (lines : List Line) → AreLines lines → (j i k : ℕ) → IsPlaceOf lines j i → i < length lines → k < length lines
    → group_of (line_at lines k).0 ≡ j → (k < i) ⊎ (i ≤ k) → group_of (line_at lines i).0 ≡ j
is_here lines are j i k point within lt e (inl before) = absurd (omega (arith, lower_before lines j i k point before, e))
is_here lines are j i k point within lt e (inr behind) = omega (arith, not_lower lines j i point within, climb lines are i k (0, 0) behind lt, e)

-- the line at the place is of the group, if any is
pub has_at : (lines : List Line) → AreLines lines → (j i : ℕ) → j ≢ 1 → IsPlaceOf lines j i → i < length lines
    → (group_of (line_at lines i).0 == j) ≡ has_group lines j
has_at lines are j i other point within =
    same_answer (group_of (line_at lines i).0 == j) (has_group lines j)
    (λ e. subst (λ k. has_group lines k ≡ true) (eqb-true (group_of (line_at lines i).0) j e) (has_line lines (line_at lines i) (Contains-get_or lines i (0, 0) within)))
    (λ e. let found = line_of lines j other (group_known lines j e) in
    eq-eqb (group_of (line_at lines i).0) j (is_here lines are j i found.0 point within found.1 found.2 (cases_lt found.0 i)))

-- no line is of the group where all are lower
pub has_none : (lines : List Line) (j i : ℕ) → j ≢ 1 → IsPlaceOf lines j i → length lines ≤ i → false ≡ has_group lines j
has_none lines j i other point past =
    no_answer (has_group lines j)
    (λ e. let found = line_of lines j other (group_known lines j e) in
    absurd (omega (arith, lower_before lines j i found.0 point (omega (arith, found.1, past)), found.2)))
