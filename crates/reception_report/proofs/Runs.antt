-- The runs of missing blocks, one block after another.
use Rattle.std.proofs.Common.{◌≡◌, ℕ, zero, suc, ◌+◌, ◌-◌, ◌<◌, ◌≤◌, Bool, true, false, cond, List, [], ◌∷◌, ◌++◌, map, Option, Some, None, sym, ap, ◌∙◌, arith, append_assoc, add-one, subst}
use Rattle.std.specs.List.{count_by, range_with_len}
use Rattle.std.proofs.lemmas.Grind.{flat_map-append}
use Rattle.std.proofs.lemmas.List.Sums.{sum_by-cons}
use Rattle.path_tree.specs.Paths.{Bytes}
use Rattle.reception_report.specs.Missing.{begun_after, ended_by, runs_from, runs_text, run_text}
use Rattle.reception_report.specs.Inner.Missing.{ended_text, IsBegun}

-- ---- numbers from one on up to a last one

range_next : (b n : ℕ) → b < n → range_with_len b (n - b) ≡ b ∷ range_with_len (b + 1) (n - (b + 1))
range_next b n h = let e : n - b ≡ suc (n - (b + 1)) = omega (arith, h) in ap (range_with_len b) e

range_end : (b n : ℕ) → n ≤ b → range_with_len b (n - b) ≡ []
range_end b n h = let e : n - b ≡ 0 = omega (arith, h) in ap (range_with_len b) e

-- ---- text so far, and the runs that are still to come

runs_next : (b : ℕ) (begun : Option ℕ) (there : Bool) (others : List Bool)
    → runs_text (runs_from b begun (there ∷ others)) ≡ ended_text begun b there ++ runs_text (runs_from (b + 1) (begun_after begun b there) others)
unfolding runs_from
runs_next b begun there others = flat_map-append (λ run. 32 ∷ run_text run) (ended_by begun b there) (runs_from (b + 1) (begun_after begun b there) others)

-- what is told from a block on
abbrev pub to_come : (has : ℕ → Bool) (b : ℕ) (begun : Option ℕ) (n : ℕ) → Bytes
to_come has b begun n = runs_text (runs_from b begun (map has (range_with_len b (n - b))))

pub come_next : (has : ℕ → Bool) (b n : ℕ) (begun next : Option ℕ) (there : Bool) (old new whole : Bytes) → b < n → there ≡ has b → next ≡ begun_after begun b there → new ≡ old ++ ended_text begun b there
    → old ++ to_come has b begun n ≡ whole → new ++ to_come has (b + 1) next n ≡ whole
come_next has b n begun next there old new whole h t e text so_far =
    ap (λ bs. bs ++ to_come has (b + 1) next n) text ∙ append_assoc old (ended_text begun b there) (to_come has (b + 1) next n)
    ∙ ap (λ (o : Option ℕ). old ++ (ended_text begun b there ++ to_come has (b + 1) o n)) e
    ∙ ap (λ bs. old ++ bs) (sym (runs_next b begun there (map has (range_with_len (b + 1) (n - (b + 1))))))
    ∙ ap (λ (x : Bool). old ++ runs_text (runs_from b begun (x ∷ map has (range_with_len (b + 1) (n - (b + 1)))))) t
    ∙ ap (λ (xs : List ℕ). old ++ runs_text (runs_from b begun (map has xs))) (sym (range_next b n h)) ∙ so_far

come_end : (has : ℕ → Bool) (b n : ℕ) (begun : Option ℕ) → n ≤ b → to_come has b begun n ≡ ended_text begun b true
unfolding runs_from
come_end has b n begun h = ap (λ (xs : List ℕ). runs_text (runs_from b begun (map has xs))) (range_end b n h)

-- a run that is open after the last block ends there
pub come_last : (has : ℕ → Bool) (b n : ℕ) (begun : Option ℕ) (old new whole : Bytes) → n ≤ b → b ≤ n → new ≡ old ++ ended_text begun n true → old ++ to_come has b begun n ≡ whole → new ≡ whole
come_last has b n begun old new whole h k text so_far =
    let same : n ≡ b = omega (arith, h, k) in
    text ∙ ap (λ m. old ++ ended_text begun m true) same ∙ ap (λ bs. old ++ bs) (sym (come_end has b n begun h)) ∙ so_far

-- before the first block all is to come
pub come_first : (has : ℕ → Bool) (n m : ℕ) (text : Bytes) (front : Bytes) → text ≡ front → n ≡ m → text ++ to_come has 0 None n ≡ front ++ runs_text (runs_from 0 None (map has (range_with_len 0 m)))
come_first has n m text front e same =
    let all : n - 0 ≡ m = omega (arith, same) in
    ap (λ bs. bs ++ to_come has 0 None n) e ∙ ap (λ k. front ++ runs_text (runs_from 0 None (map has (range_with_len 0 k)))) all

pub begun_at : (begun : Option ℕ) (b n : ℕ) → b ≡ n → IsBegun begun b → IsBegun begun n
begun_at begun b n e h = let P : ℕ → Type 0 = λ k. IsBegun begun k in subst P e h

-- where a run has begun
pub begun_next : (begun next : Option ℕ) (b : ℕ) (there : Bool) → next ≡ begun_after begun b there → IsBegun begun b → IsBegun next (b + 1)
begun_next begun next b there e h = rw e (go begun there h) where
  go : (o : Option ℕ) (there : Bool) → IsBegun o b → IsBegun (begun_after o b there) (b + 1)
  go None true h = tt
  go None false h = omega arith
  go (Some first) true h = tt
  go (Some first) false h = omega (arith, h)

-- ---- how many blocks are there

count_more : (has : ℕ → Bool) (n a : ℕ) → count_by has (range_with_len a (suc n)) ≡ count_by has (range_with_len a n) + cond (has (a + n)) 1 0
count_more has zero a =
    let e : a ≡ a + 0 = omega arith in
    let none : cond (has a) 1 0 + 0 ≡ 0 + cond (has a) 1 0 = omega arith in
    sum_by-cons (λ (b : ℕ). cond (has b) 1 0) a [] ∙ none ∙ ap (λ b. 0 + cond (has b) 1 0) e
count_more has (suc n) a =
    let e : (a + 1) + n ≡ a + suc n = omega arith in
    let grouped : (x y z : ℕ) → x + (y + z) ≡ (x + y) + z = λ x y z. omega arith in
    sum_by-cons (λ (b : ℕ). cond (has b) 1 0) a (range_with_len (a + 1) (suc n))
    ∙ ap (λ k. cond (has a) 1 0 + k) (count_more has n (a + 1))
    ∙ grouped (cond (has a) 1 0) (count_by has (range_with_len (a + 1) n)) (cond (has ((a + 1) + n)) 1 0)
    ∙ ap (λ k. k + cond (has ((a + 1) + n)) 1 0) (sym (sum_by-cons (λ (b : ℕ). cond (has b) 1 0) a (range_with_len (a + 1) n)))
    ∙ ap (λ b. count_by has (range_with_len a (suc n)) + cond (has b) 1 0) e

-- one block more
pub count_next : (has : ℕ → Bool) (b : ℕ) → count_by has (range_with_len 0 (b + 1)) ≡ count_by has (range_with_len 0 b) + cond (has b) 1 0
count_next has b =
    let e : 0 + b ≡ b = omega arith in
    ap (λ n. count_by has (range_with_len 0 n)) (add-one b) ∙ count_more has b 0 ∙ ap (λ n. count_by has (range_with_len 0 b) + cond (has n) 1 0) e

pub count_one : (has : ℕ → Bool) (b count one : ℕ) → one ≡ cond (has b) 1 0 → count ≡ count_by has (range_with_len 0 b) → count + one ≡ count_by has (range_with_len 0 (b + 1))
count_one has b count one h e = ap (λ n. n + one) e ∙ ap (λ n. count_by has (range_with_len 0 b) + n) h ∙ sym (count_next has b)
