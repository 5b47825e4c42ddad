-- What is told over a list of candidates: what is due after each, in order, and with one candidate more.
use Rattle.std.proofs.Common.{ℕ, zero, suc, ◌≡◌, ◌<◌, ◌≤◌, ◌⊎◌, inl, inr, List, [], ◌∷◌, ◌++◌, length, refl, sym, ap, subst, ◌∙◌, append_assoc, append-nil, length-append, arith}
use Rattle.std.specs.List.{All, AllPairs, Contains}
use Rattle.std.proofs.lemmas.Bool.{cases_lt}
use Rattle.std.proofs.lemmas.List.{take-append-le, take_all, take_at}
use Rattle.std.proofs.lemmas.List.Elements.{All-append, All-map, All-nil, All-weaker, Contains-append_cases, Contains-append_left, Contains-append_right}
use Rattle.path_tree.specs.Paths.{Bytes, PathNames}
use Rattle.path_resolver.specs.declared.answer.Answer.{Answer}
use Rattle.path_resolver.specs.declared.answer.Answer.TheVariants as answers
use Rattle.tuner_core.specs.Turns.{answer_after}
use Rattle.watch_desk.specs.declared.notice.Notice.{Notice}
use Rattle.watch_desk.specs.Notices.{ComesBefore, IsDue, notices}
use Rattle.watch_desk.specs.Watching.{answer_on, last_shot}
use Rattle.watch_desk.specs.Telling.{EachChangeIsToldAfter, ShotsTellIt, Told, ToldBefore, answers_after, shots_after, told_at, told_by_shots, told_in, told_upto}
use Rattle.watch_desk.proofs.Lists.{mapped_from, mapped_to, pairs_append, pairs_map, pairs_none}
use Rattle.watch_desk.proofs.Due.{each_is_told}

abbrev as_told : ℕ → Notice → Told
as_told mark n = record { mark = mark; notice = n }

-- ---- each that is due, and no other

-- of the first k steps
record IsDueIn (paths prefixes : List PathNames) (answers : ℕ → PathNames → Answer) (k : ℕ) (t : Told) : Type 0 where
  before : ℕ
  mark : t.mark ≡ suc before
  within : before < k
  due : IsDue prefixes paths (answers before) (answers (suc before)) t.notice

due_from : (paths prefixes : List PathNames) (answers : ℕ → PathNames → Answer) (k : ℕ) (t : Told) → Contains (told_upto paths prefixes answers k) t → IsDueIn paths prefixes answers k t
due_from paths prefixes answers zero t h = absurd (omega (arith, h.1))
due_from paths prefixes answers (suc k) t h =
    go (Contains-append_cases (told_upto paths prefixes answers k) (told_at (suc k) (notices prefixes paths (answers k) (answers (suc k)))) t h) (due_from paths prefixes answers k t)
  where
    go : Contains (told_upto paths prefixes answers k) t ⊎ Contains (told_at (suc k) (notices prefixes paths (answers k) (answers (suc k)))) t → (Contains (told_upto paths prefixes answers k) t → IsDueIn paths prefixes answers k t)
        → IsDueIn paths prefixes answers (suc k) t
    go (inl g) more = let d = more g in record { before = d.before; mark = d.mark; within = omega (arith, d.within); due = d.due }
    go (inr g) more =
        let m = mapped_from (as_told (suc k)) (notices prefixes paths (answers k) (answers (suc k))) t g in
        record {
          before = k;
          mark = sym (ap (λ (u : Told). u.mark) m.gives);
          within = omega arith;
          due = subst (λ (u : Told). IsDue prefixes paths (answers k) (answers (suc k)) u.notice) m.gives (((each_is_told prefixes paths (answers k) (answers (suc k))).each m.source).0 m.among);
        }

due_to : (paths prefixes : List PathNames) (answers : ℕ → PathNames → Answer) (k : ℕ) (t : Told) → IsDueIn paths prefixes answers k t → Contains (told_upto paths prefixes answers k) t
due_to paths prefixes answers zero t d = absurd (omega (arith, d.within))
due_to paths prefixes answers (suc k) t d = go (cases_lt d.before k) (due_to paths prefixes answers k t) where
  go : (d.before < k) ⊎ (k ≤ d.before) → (IsDueIn paths prefixes answers k t → Contains (told_upto paths prefixes answers k) t) → Contains (told_upto paths prefixes answers (suc k)) t
  go (inl lt) more =
      Contains-append_left (told_upto paths prefixes answers k) (told_at (suc k) (notices prefixes paths (answers k) (answers (suc k)))) t
      (more (record { before = d.before; mark = d.mark; within = lt; due = d.due }))
  go (inr le) more =
      let here : d.before ≡ k = omega (arith, d.within, le) in
      let due : IsDue prefixes paths (answers k) (answers (suc k)) t.notice = subst (λ (n : ℕ). IsDue prefixes paths (answers n) (answers (suc n)) t.notice) here d.due in
      let among : Contains (notices prefixes paths (answers k) (answers (suc k))) t.notice = ((each_is_told prefixes paths (answers k) (answers (suc k))).each t.notice).1 due in
      let mark : suc k ≡ t.mark = ap (λ (n : ℕ). suc n) (sym here) ∙ sym d.mark in
      Contains-append_right (told_upto paths prefixes answers k) (told_at (suc k) (notices prefixes paths (answers k) (answers (suc k)))) t
      (subst (λ (n : ℕ). Contains (told_at (suc k) (notices prefixes paths (answers k) (answers (suc k)))) (as_told n t.notice)) mark (mapped_to (as_told (suc k)) (notices prefixes paths (answers k) (answers (suc k))) t.notice among))

-- ---- in order

abbrev IsUpTo : ℕ → Told → Type 0
IsUpTo k t = t.mark ≤ k

abbrev IsAt : ℕ → Told → Type 0
IsAt k t = t.mark ≡ k

marks_are : (k : ℕ) (ns : List Notice) → All (IsAt k) (told_at k ns)
marks_are k ns = All-map (IsAt k) (as_told k) ns (λ i d lt. refl)

marks_upto : (paths prefixes : List PathNames) (answers : ℕ → PathNames → Answer) (k : ℕ) → All (IsUpTo k) (told_upto paths prefixes answers k)
marks_upto paths prefixes answers zero = All-nil (IsUpTo 0)
marks_upto paths prefixes answers (suc k) =
    let ns : List Notice = notices prefixes paths (answers k) (answers (suc k)) in
    All-append (IsUpTo (suc k)) (told_upto paths prefixes answers k) (told_at (suc k) ns)
    (All-weaker (IsUpTo k) (IsUpTo (suc k)) (λ t h. omega (arith, h)) (told_upto paths prefixes answers k) (marks_upto paths prefixes answers k))
    (All-weaker (IsAt (suc k)) (IsUpTo (suc k)) (λ t h. omega (arith, h)) (told_at (suc k) ns) (marks_are (suc k) ns))

in_order : (paths prefixes : List PathNames) (answers : ℕ → PathNames → Answer) (k : ℕ) → AllPairs ToldBefore (told_upto paths prefixes answers k)
in_order paths prefixes answers zero = pairs_none ToldBefore
in_order paths prefixes answers (suc k) =
    let ns : List Notice = notices prefixes paths (answers k) (answers (suc k)) in
    let here : All (IsAt (suc k)) (told_at (suc k) ns) = marks_are (suc k) ns in
    pairs_append ToldBefore (told_upto paths prefixes answers k) (told_at (suc k) ns) (in_order paths prefixes answers k)
    (pairs_map ComesBefore ToldBefore (as_told (suc k)) ns (λ a b h. inr (refl, h)) (each_is_told prefixes paths (answers k) (answers (suc k))).order)
    (All-weaker (IsUpTo k) (λ (t : Told). All (ToldBefore t) (told_at (suc k) ns))
    (λ t h. All-weaker (IsAt (suc k)) (ToldBefore t) (λ u g. inl (omega (arith, h, g))) (told_at (suc k) ns) here)
    (told_upto paths prefixes answers k) (marks_upto paths prefixes answers k))

pub each_is_told_after : EachChangeIsToldAfter
each_is_told_after paths prefixes candidates = record {
  each = λ t. (
    λ h. let d = due_from paths prefixes (answers_after candidates) (length candidates) t h in record { before = d.before; mark = d.mark; within = d.within; due = d.due },
    λ d. due_to paths prefixes (answers_after candidates) (length candidates) t (record { before = d.before; mark = d.mark; within = d.within; due = d.due }),
  );
  order = in_order paths prefixes (answers_after candidates) (length candidates);
}

-- ---- one candidate more

-- what is told depends on the answers up to the last step
same_upto : (paths prefixes : List PathNames) (f g : ℕ → PathNames → Answer) (k : ℕ) → ((j : ℕ) → j ≤ k → f j ≡ g j) → told_upto paths prefixes f k ≡ told_upto paths prefixes g k
same_upto paths prefixes f g zero same = refl
same_upto paths prefixes f g (suc k) same =
    let early = same_upto paths prefixes f g k (λ j le. same j (omega (arith, le))) in
    let before : f k ≡ g k = same k (omega arith) in
    let now : f (suc k) ≡ g (suc k) = same (suc k) (omega arith) in
    λ i. early i ++ told_at (suc k) (notices prefixes paths (before i) (now i))

pub told_more : (paths prefixes : List PathNames) (candidates : List Bytes) (c : Bytes)
    → told_in paths prefixes (candidates ++ c ∷ []) ≡ told_in paths prefixes candidates ++ told_at (suc (length candidates)) (notices prefixes paths (answer_after candidates) (answer_after (candidates ++ c ∷ [])))
told_more paths prefixes candidates c =
    let longer : List Bytes = candidates ++ c ∷ [] in
    let n : ℕ = length candidates in
    let size : length longer ≡ suc n = length-append candidates (c ∷ []) ∙ omega arith in
    let early : told_upto paths prefixes (answers_after longer) n ≡ told_upto paths prefixes (answers_after candidates) n =
    same_upto paths prefixes (answers_after longer) (answers_after candidates) n (λ j le. ap answer_after (take-append-le j candidates (c ∷ []) le)) in
    let before : answers_after longer n ≡ answer_after candidates = ap answer_after (take_at candidates (c ∷ []) n refl) in
    let now : answers_after longer (suc n) ≡ answer_after longer = ap answer_after (take_all (suc n) longer (omega (arith, size))) in
    let step : told_upto paths prefixes (answers_after longer) (suc n) ≡ told_upto paths prefixes (answers_after candidates) n ++ told_at (suc n) (notices prefixes paths (answer_after candidates) (answer_after longer)) =
    λ i. early i ++ told_at (suc n) (notices prefixes paths (before i) (now i)) in
    ap (told_upto paths prefixes (answers_after longer)) size ∙ step

-- ---- over shots

begins : answer_on (last_shot []) ≡ answer_after []
begins = λ i p. answers.NoCarousel

over_shots : (paths prefixes : List PathNames) (heard candidates : List Bytes)
    → told_in paths prefixes (heard ++ candidates) ≡ told_in paths prefixes heard ++ told_by_shots paths prefixes (answer_after heard) (length heard) (shots_after heard candidates)
over_shots paths prefixes heard [] = ap (told_in paths prefixes) (append-nil heard) ∙ sym (append-nil (told_in paths prefixes heard))
over_shots paths prefixes heard (c ∷ cs) =
    let longer : List Bytes = heard ++ c ∷ [] in
    let n : ℕ = length heard in
    let size : length longer ≡ suc n = length-append heard (c ∷ []) ∙ omega arith in
    let here : List Told = told_at (suc n) (notices prefixes paths (answer_after heard) (answer_after longer)) in
    let later : ℕ → List Told = λ k. told_by_shots paths prefixes (answer_after longer) k (shots_after longer cs) in
    ap (told_in paths prefixes) (sym (append_assoc heard (c ∷ []) cs))
    ∙ over_shots paths prefixes longer cs
    ∙ ap (λ (ts : List Told). ts ++ later (length longer)) (told_more paths prefixes heard c)
    ∙ append_assoc (told_in paths prefixes heard) here (later (length longer))
    ∙ ap (λ (k : ℕ). told_in paths prefixes heard ++ (here ++ later k)) size

pub shots_tell : ShotsTellIt
shots_tell paths prefixes candidates =
    ap (λ (before : PathNames → Answer). told_by_shots paths prefixes before 0 (shots_after [] candidates)) begins
    ∙ sym (over_shots paths prefixes [] candidates)
