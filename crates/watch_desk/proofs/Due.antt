-- The notices are those that are due, in order.
use Rattle.std.proofs.Common.{ℕ, ◌≡◌, ◌≢◌, ◌+◌, ◌≤◌, inl, inr, Bool, true, false, cond, not, ◌&&◌, List, [], ◌∷◌, map, Some, refl, sym, ap, subst, arith}
use Rattle.std.specs.Prelude.{slice_get}
use Rattle.std.specs.List.{All, AllPairs, Contains, enumerate_from, filter, flat_map}
use Rattle.std.proofs.lemmas.Bool.{and_from, and_parts}
use Rattle.std.proofs.lemmas.List.Elements.{All-append, All-cons, All-nil, All-weaker}
use Rattle.std.proofs.lemmas.List.Kept.{AllPairs-cons}
use Rattle.path_tree.specs.Paths.{PathNames}
use Rattle.path_resolver.specs.declared.answer.Answer.{Answer}
use Rattle.path_resolver.specs.Comparing.{same_answer}
use Rattle.path_resolver.proofs.CallerLemmas.{same_answer-refl, tells_equal}
use Rattle.watch_desk.specs.declared.notice.Notice.{Notice}
use Rattle.watch_desk.specs.Wanting.{is_wanted}
use Rattle.watch_desk.specs.Notices.{ComesBefore, EachChangeIsTold, IsDue, differs, is_told, notice, notices, notices_to}
use Rattle.watch_desk.proofs.Lists.{at_place, joined_from, joined_none, joined_to, filter_none, kept_from, kept_to, pairs_append, pairs_none, with_place}

-- ---- answers that differ

differ_from : (a b : Answer) → not (same_answer a b) ≡ true → a ≢ b
differ_from a b t e = let same : same_answer a b ≡ true = subst (λ (x : Answer). same_answer a x ≡ true) e (same_answer-refl a) in absurd (cc (ap not same, t))

differ_to : (a b : Answer) → a ≢ b → not (same_answer a b) ≡ true
differ_to a b other = go (same_answer a b) refl where
  go : (r : Bool) → same_answer a b ≡ r → not (same_answer a b) ≡ true
  go true e = absurd (other ((tells_equal a b).0 e))
  go false e = ap not e

-- ---- each that is due, and no other

abbrev as_notice : ℕ → ℕ × PathNames → Notice
as_notice watcher x = notice watcher x.0

abbrev told_here : (before now : PathNames → Answer) (prefix : PathNames) → ℕ × PathNames → Bool
told_here before now prefix x = is_told before now prefix x.1

abbrev to_watcher : (paths : List PathNames) (before now : PathNames → Answer) → ℕ × PathNames → List Notice
to_watcher paths before now w = notices_to w.0 w.1 paths before now

due_from : (prefixes paths : List PathNames) (before now : PathNames → Answer) (n : Notice) → Contains (notices prefixes paths before now) n → IsDue prefixes paths before now n
due_from prefixes paths before now n h =
    let j = joined_from (to_watcher paths before now) (enumerate_from 0 prefixes) n h in
    let k = kept_from (as_notice j.source.0) (told_here before now j.source.1) (enumerate_from 0 paths) n j.within in
    let both = and_parts (differs before now k.source.1) (is_wanted j.source.1 k.source.1) k.passes in
    record {
      prefix = j.source.1;
      path = k.source.1;
      watches = subst (λ (m : Notice). slice_get prefixes m.watcher ≡ Some j.source.1) k.gives (at_place prefixes j.source.0 j.source.1 j.among);
      stands = subst (λ (m : Notice). slice_get paths m.path ≡ Some k.source.1) k.gives (at_place paths k.source.0 k.source.1 k.among);
      wanted = both.1;
      changed = differ_from (before k.source.1) (now k.source.1) both.0;
    }

due_to : (prefixes paths : List PathNames) (before now : PathNames → Answer) (n : Notice) → IsDue prefixes paths before now n → Contains (notices prefixes paths before now) n
due_to prefixes paths before now n d =
    let passes = and_from (differs before now d.path) (is_wanted d.prefix d.path) (differ_to (before d.path) (now d.path) d.changed) d.wanted in
    let within : Contains (notices_to n.watcher d.prefix paths before now) n =
    kept_to (as_notice n.watcher) (told_here before now d.prefix) (enumerate_from 0 paths) (n.path, d.path) (with_place paths n.path d.path d.stands) passes in
    joined_to (to_watcher paths before now) (enumerate_from 0 prefixes) (n.watcher, d.prefix) n (with_place prefixes n.watcher d.prefix d.watches) within

-- ---- in order

abbrev IsTo : (watcher i : ℕ) → Notice → Type 0
IsTo watcher i n = (n.watcher ≡ watcher) × (i ≤ n.path)

to_later : (watcher i : ℕ) (ns : List Notice) → All (IsTo watcher (i + 1)) ns → All (IsTo watcher i) ns
to_later watcher i ns h = All-weaker (IsTo watcher (i + 1)) (IsTo watcher i) (λ n k. (k.0, omega (arith, k.1))) ns h

-- with one path before others, which is told or isn't
more_to : (watcher i : ℕ) (p : PathNames) (xs : List (ℕ × PathNames)) (b : Bool) → All (IsTo watcher (i + 1)) (map (as_notice watcher) xs) → All (IsTo watcher i) (map (as_notice watcher) (cond b ((i, p) ∷ xs) xs))
more_to watcher i p xs true h = All-cons (IsTo watcher i) (notice watcher i) (map (as_notice watcher) xs) (refl, omega arith) (to_later watcher i (map (as_notice watcher) xs) h)
more_to watcher i p xs false h = to_later watcher i (map (as_notice watcher) xs) h

to_one : (watcher : ℕ) (test : ℕ × PathNames → Bool) (i : ℕ) (ps : List PathNames) → All (IsTo watcher i) (map (as_notice watcher) (filter test (enumerate_from i ps)))
to_one watcher test i [] = All-nil (IsTo watcher i)
to_one watcher test i (p ∷ ps) = more_to watcher i p (filter test (enumerate_from (i + 1) ps)) (test (i, p)) (to_one watcher test (i + 1) ps)

more_in_order : (watcher i : ℕ) (p : PathNames) (xs : List (ℕ × PathNames)) (b : Bool) → All (IsTo watcher (i + 1)) (map (as_notice watcher) xs) → AllPairs ComesBefore (map (as_notice watcher) xs)
    → AllPairs ComesBefore (map (as_notice watcher) (cond b ((i, p) ∷ xs) xs))
more_in_order watcher i p xs true h pairs =
    AllPairs-cons ComesBefore (notice watcher i) (map (as_notice watcher) xs)
    (All-weaker (IsTo watcher (i + 1)) (ComesBefore (notice watcher i)) (λ n k. inr (sym k.0, omega (arith, k.1))) (map (as_notice watcher) xs) h) pairs
more_in_order watcher i p xs false h pairs = pairs

one_in_order : (watcher : ℕ) (test : ℕ × PathNames → Bool) (i : ℕ) (ps : List PathNames) → AllPairs ComesBefore (map (as_notice watcher) (filter test (enumerate_from i ps)))
one_in_order watcher test i [] = pairs_none ComesBefore
one_in_order watcher test i (p ∷ ps) =
    more_in_order watcher i p (filter test (enumerate_from (i + 1) ps)) (test (i, p)) (to_one watcher test (i + 1) ps) (one_in_order watcher test (i + 1) ps)

-- those to the watchers from a place on
abbrev IsFrom : ℕ → Notice → Type 0
IsFrom watcher n = watcher ≤ n.watcher

from_place : (paths : List PathNames) (before now : PathNames → Answer) (watcher : ℕ) (prefixes : List PathNames) → All (IsFrom watcher) (flat_map (to_watcher paths before now) (enumerate_from watcher prefixes))
from_place paths before now watcher [] = All-nil (IsFrom watcher)
from_place paths before now watcher (prefix ∷ prefixes) =
    All-append (IsFrom watcher) (notices_to watcher prefix paths before now) (flat_map (to_watcher paths before now) (enumerate_from (watcher + 1) prefixes))
    (All-weaker (IsTo watcher 0) (IsFrom watcher) (λ n k. omega (arith, k.0)) (notices_to watcher prefix paths before now) (to_one watcher (told_here before now prefix) 0 paths))
    (All-weaker (IsFrom (watcher + 1)) (IsFrom watcher) (λ n k. omega (arith, k)) (flat_map (to_watcher paths before now) (enumerate_from (watcher + 1) prefixes)) (from_place paths before now (watcher + 1) prefixes))

in_order : (paths : List PathNames) (before now : PathNames → Answer) (watcher : ℕ) (prefixes : List PathNames) → AllPairs ComesBefore (flat_map (to_watcher paths before now) (enumerate_from watcher prefixes))
in_order paths before now watcher [] = pairs_none ComesBefore
in_order paths before now watcher (prefix ∷ prefixes) =
    let rest : List Notice = flat_map (to_watcher paths before now) (enumerate_from (watcher + 1) prefixes) in
    let later : All (IsFrom (watcher + 1)) rest = from_place paths before now (watcher + 1) prefixes in
    pairs_append ComesBefore (notices_to watcher prefix paths before now) rest (one_in_order watcher (told_here before now prefix) 0 paths) (in_order paths before now (watcher + 1) prefixes)
    (All-weaker (IsTo watcher 0) (λ (m : Notice). All (ComesBefore m) rest)
    (λ m k. All-weaker (IsFrom (watcher + 1)) (ComesBefore m) (λ n l. inl (omega (arith, k.0, l))) rest later)
    (notices_to watcher prefix paths before now) (to_one watcher (told_here before now prefix) 0 paths))

pub each_is_told : EachChangeIsTold
each_is_told prefixes paths before now = record {
  each = λ n. (due_from prefixes paths before now n, due_to prefixes paths before now n);
  order = in_order paths before now 0 prefixes;
}

-- ---- where no answer changed

not_told : (before now : PathNames → Answer) (prefix path : PathNames) → before path ≡ now path → is_told before now prefix path ≡ false
not_told before now prefix path e =
    let same : same_answer (before path) (now path) ≡ true = subst (λ (x : Answer). same_answer (before path) x ≡ true) e (same_answer-refl (before path)) in
    ap (λ (b : Bool). not b && is_wanted prefix path) same

pub nothing_told : (prefixes paths : List PathNames) (before now : PathNames → Answer) → ((path : PathNames) → before path ≡ now path) → notices prefixes paths before now ≡ []
nothing_told prefixes paths before now same =
    joined_none (to_watcher paths before now) (enumerate_from 0 prefixes)
    (λ w. ap (map (as_notice w.0)) (filter_none (told_here before now w.1) (enumerate_from 0 paths) (λ x. not_told before now w.1 x.1 (same x.1))))
