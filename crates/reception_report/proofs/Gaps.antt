-- The runs of missing blocks are all that is missing, and as long as they can be.
use Rattle.std.proofs.Common.{◌≡◌, ℕ, zero, suc, ◌+◌, ◌-◌, ◌<◌, ◌≤◌, Bool, true, false, not, ◌&&◌, ◌||◌, nat_le, nat_lt, ◌==◌, List, [], ◌∷◌, length, map, Option, Some, None, ◌⊎◌, inl, inr, refl, sym, ap, ◌∙◌, arith}
use Rattle.std.specs.List.{range_with_len}
use Rattle.std.proofs.lemmas.Bool.{eq-eqb, ne_eqb, cases_eq}
use Rattle.std.proofs.lemmas.Bool.Decides.{nat_tests}
use Rattle.std.proofs.lemmas.List.FromFn.{length-map-range_with_len}
use Rattle.module_cache.specs.Contents.{has_block}
use Rattle.ddb_block.specs.Blocks.{block_count_of}
use Rattle.reception_report.specs.Missing.{runs_from, is_in, AreApart, RunsAreOfTheMissing}
use Rattle.reception_report.specs.Inner.Missing.{IsBegun}

-- ---- tests of numbers

up_to_last : (first b k : ℕ) → first < b → (nat_le first k && nat_le k (b - 1)) ≡ (nat_le first k && nat_lt k b)
up_to_last first b k h = grind (arith, nat_tests)

only_one : (b k : ℕ) → (nat_le b k && nat_lt k (b + 1)) ≡ (k == b)
only_one b k = grind (arith, nat_tests)

one_longer : (first b k : ℕ) → first < b → (nat_le first k && nat_lt k (b + 1)) ≡ ((nat_le first k && nat_lt k b) || (k == b))
one_longer first b k h = grind (arith, nat_tests)

and_true : (t : Bool) → (t && true) ≡ t
and_true true = refl
and_true false = refl

and_false : (t : Bool) → (t && false) ≡ false
and_false true = refl
and_false false = refl

or_false : (t : Bool) → (t || false) ≡ t
or_false true = refl
or_false false = refl

or_assoc : (s t u : Bool) → ((s || t) || u) ≡ (s || (t || u))
or_assoc true t u = refl
or_assoc false t u = refl

-- ---- which numbers lie in runs

-- a run that has begun before b holds the number
open_at : Option ℕ → ℕ → ℕ → Bool
open_at None b k = false
open_at (Some first) b k = nat_le first k && nat_lt k b

-- the block of this number is missing among those from b on
missing_at : ℕ → List Bool → ℕ → Bool
missing_at b [] k = false
missing_at b (there ∷ others) k = ((k == b) && not there) || missing_at (b + 1) others k

all_in : (ts : List Bool) (b : ℕ) (begun : Option ℕ) (k : ℕ) → IsBegun begun b → is_in k (runs_from b begun ts) ≡ (open_at begun b k || missing_at b ts k)
unfolding runs_from open_at missing_at
all_in [] b None k h = refl
all_in [] b (Some first) k h = ap (λ (t : Bool). t || false) (up_to_last first b k h)
all_in (true ∷ ts) b None k h = all_in ts (b + 1) None k tt ∙ ap (λ (t : Bool). t || missing_at (b + 1) ts k) (sym (and_false (k == b)))
all_in (false ∷ ts) b None k h =
    all_in ts (b + 1) (Some b) k (omega arith) ∙ ap (λ (t : Bool). t || missing_at (b + 1) ts k) (only_one b k ∙ sym (and_true (k == b)))
all_in (true ∷ ts) b (Some first) k h =
    ap (λ (t : Bool). t || is_in k (runs_from (b + 1) None ts)) (up_to_last first b k h)
    ∙ ap (λ (t : Bool). (nat_le first k && nat_lt k b) || t) (all_in ts (b + 1) None k tt ∙ ap (λ (t : Bool). t || missing_at (b + 1) ts k) (sym (and_false (k == b))))
all_in (false ∷ ts) b (Some first) k h =
    all_in ts (b + 1) (Some first) k (omega (arith, h))
    ∙ ap (λ (t : Bool). t || missing_at (b + 1) ts k) (one_longer first b k h ∙ ap (λ (t : Bool). (nat_le first k && nat_lt k b) || t) (sym (and_true (k == b))))
    ∙ or_assoc (nat_le first k && nat_lt k b) ((k == b) && true) (missing_at (b + 1) ts k)

missing_none : (ts : List Bool) (b k : ℕ) → k < b → missing_at b ts k ≡ false
unfolding missing_at
missing_none [] b k h = refl
missing_none (t ∷ ts) b k h = rw (ne_eqb k b (λ e. omega (arith, h, e))) (missing_none ts (b + 1) k (omega (arith, h)))

missing_is : (has : ℕ → Bool) (n b k : ℕ) → b ≤ k → k < b + n → missing_at b (map has (range_with_len b n)) k ≡ not (has k)
unfolding missing_at
missing_is has zero b k h below = absurd (omega (arith, h, below))
missing_is has (suc n) b k h below = by (cases_eq k b) (missing_is has n (b + 1) k)
  where
    by : (k ≡ b) ⊎ (k ≡ b → ⊥) → (b + 1 ≤ k → k < b + 1 + n → missing_at (b + 1) (map has (range_with_len (b + 1) n)) k ≡ not (has k))
        → (((k == b) && not (has b)) || missing_at (b + 1) (map has (range_with_len (b + 1) n)) k) ≡ not (has k)
    by (inl same) rest =
        rw (eq-eqb k b same, missing_none (map has (range_with_len (b + 1) n)) (b + 1) k (omega (arith, same)))
        (or_false (not (has b)) ∙ ap (λ m. not (has m)) (sym same))
    by (inr other) rest = rw (ne_eqb k b other) (rest (omega (arith, h, other)) (omega (arith, below)))

-- ---- apart

-- a run that has begun, or begins from b on, begins from `low` on
BeginsFrom : ℕ → Option ℕ → ℕ → Type 0
BeginsFrom low None b = low ≤ b
BeginsFrom low (Some first) b = low ≤ first

all_apart : (ts : List Bool) (b : ℕ) (begun : Option ℕ) (low n : ℕ) → IsBegun begun b → BeginsFrom low begun b → b + length ts ≡ n → AreApart low n (runs_from b begun ts)
unfolding runs_from BeginsFrom
all_apart [] b None low n h s e = tt
all_apart [] b (Some first) low n h s e = (s, (omega (arith, h), (omega (arith, h, e), tt)))
all_apart (true ∷ ts) b None low n h s e = all_apart ts (b + 1) None low n tt (omega (arith, s)) (omega (arith, e))
all_apart (false ∷ ts) b None low n h s e = all_apart ts (b + 1) (Some b) low n (omega arith) s (omega (arith, e))
all_apart (true ∷ ts) b (Some first) low n h s e =
    (s, (omega (arith, h), (omega (arith, h, e), all_apart ts (b + 1) None (b - 1 + 2) n tt (omega (arith, h)) (omega (arith, e)))))
all_apart (false ∷ ts) b (Some first) low n h s e = all_apart ts (b + 1) (Some first) low n (omega (arith, h)) s (omega (arith, e))

-- ---- the runs of a module

pub runs_of_the_missing : RunsAreOfTheMissing
unfolding open_at BeginsFrom
runs_of_the_missing = record {
  missing = λ s b h.
      all_in (map (has_block s.content) (range_with_len 0 (block_count_of s.size s.block_size))) 0 None b tt
      ∙ missing_is (has_block s.content) (block_count_of s.size s.block_size) 0 b (omega arith) (omega (arith, h));
  apart = λ s.
      all_apart (map (has_block s.content) (range_with_len 0 (block_count_of s.size s.block_size))) 0 None 0 (block_count_of s.size s.block_size) tt (omega arith)
      (omega (arith, length-map-range_with_len (has_block s.content) 0 (block_count_of s.size s.block_size)));
}
