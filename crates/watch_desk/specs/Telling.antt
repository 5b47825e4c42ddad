-- What is told over a list of candidates, where a shot is shown after each of them (this project's own rules).
use Rattle.std.specs.Prelude.{◌≡◌, ◌≢◌, ◌⊎◌, ◌↔◌, ℕ, zero, suc, ◌<◌, true, List, [], ◌∷◌, ◌++◌, length, map, take}
use Rattle.std.specs.List.{AllPairs, Contains}
use Rattle.path_tree.specs.Paths.{Bytes, PathNames}
use Rattle.path_resolver.specs.Resolving.{Held, answer_of}
use Rattle.path_resolver.specs.declared.answer.Answer.{Answer}
use Rattle.tuner_core.specs.Answers.{fed_after}
use Rattle.tuner_core.specs.Heard.{as_heard}
use Rattle.tuner_core.specs.Turns.{held_after, answer_after}
use Rattle.tuner_core.specs.declared.told.Fed.TheVariants.{Changed}
use Rattle.watch_desk.specs.declared.notice.Notice.{Notice}
use Rattle.watch_desk.specs.Notices.{ComesBefore, IsDue, notices}
use Rattle.watch_desk.specs.Parts.{HeldStays, is_of_blocks, whole_after}
use Rattle.watch_desk.specs.Watching.{answer_on, last_shot}

-- a notice, with the number of candidates that had come by then
pub record Told : Type 0 where
  pub mark : ℕ
  pub notice : Notice

abbrev pub told_at : ℕ → List Notice → List Told
told_at mark told = map (λ (n : Notice). record { mark = mark; notice = n }) told

-- what the first k steps tell, where `answers` gives the answers before the first step and after each
abbrev pub told_upto : (paths prefixes : List PathNames) (answers : ℕ → PathNames → Answer) → ℕ → List Told
told_upto paths prefixes answers zero = []
told_upto paths prefixes answers (suc k) = told_upto paths prefixes answers k ++ told_at (suc k) (notices prefixes paths (answers k) (answers (suc k)))

-- the answers after the first k candidates
abbrev pub answers_after : (candidates : List Bytes) → ℕ → PathNames → Answer
answers_after candidates k = answer_after (take k candidates)

-- what is told over all candidates
abbrev pub told_in : (paths prefixes : List PathNames) → (candidates : List Bytes) → List Told
told_in paths prefixes candidates = told_upto paths prefixes (answers_after candidates) (length candidates)

-- ---- the same in other words

-- the k-th candidate, counted from 1, changed the answer to a path that a watcher wants
pub record IsDueAfter (paths prefixes : List PathNames) (candidates : List Bytes) (t : Told) : Type 0 where
  pub before : ℕ
  pub mark : t.mark ≡ suc before
  pub within : before < length candidates
  pub due : IsDue prefixes paths (answers_after candidates before) (answers_after candidates (suc before)) t.notice

-- by candidate, and then by watcher and by path
abbrev pub ToldBefore : Told → Told → Type 0
ToldBefore a b = (a.mark < b.mark) ⊎ ((a.mark ≡ b.mark) × ComesBefore a.notice b.notice)

-- what is told is what is due, and nothing else; it is in order, so each is there once
pub record AreThoseDueAfter (paths prefixes : List PathNames) (candidates : List Bytes) : Type 0 where
  pub each : (t : Told) → Contains (told_in paths prefixes candidates) t ↔ IsDueAfter paths prefixes candidates t
  pub order : AllPairs ToldBefore (told_in paths prefixes candidates)

abbrev pub EachChangeIsToldAfter : Type 0
EachChangeIsToldAfter = (paths prefixes : List PathNames) (candidates : List Bytes) → AreThoseDueAfter paths prefixes candidates

-- ---- over shots

-- what the shots hold that are taken after each of these candidates, which came after others
abbrev pub shots_after : (heard candidates : List Bytes) → List Held
shots_after heard [] = []
shots_after heard (c ∷ cs) = held_after (map as_heard (heard ++ c ∷ [])) ∷ shots_after (heard ++ c ∷ []) cs

-- what showing shots one after another tells; `before` are the answers on the one before them, and `k` candidates came before them
abbrev pub told_by_shots : (paths prefixes : List PathNames) (before : PathNames → Answer) (k : ℕ) → List Held → List Told
told_by_shots paths prefixes before k [] = []
told_by_shots paths prefixes before k (h ∷ hs) = told_at (suc k) (notices prefixes paths before (answer_of h)) ++ told_by_shots paths prefixes (answer_of h) (suc k) hs

-- showing a shot after each candidate tells just what is told over the candidates
abbrev pub ShotsTellIt : Type 0
ShotsTellIt = (paths prefixes : List PathNames) (candidates : List Bytes) → told_by_shots paths prefixes (answer_on (last_shot [])) 0 (shots_after [] candidates) ≡ told_in paths prefixes candidates

-- ---- where a shot is needed

-- the answers on the last of these shots are those after these candidates
abbrev pub AreUpToDate : (shots : List Held) (candidates : List Bytes) → Type 0
AreUpToDate shots candidates = (path : PathNames) → answer_on (last_shot shots) path ≡ answer_after candidates path

-- A shot is needed only where what is held changes: after a candidate to which a receiver answers so, unless it is a section of blocks
-- after which as many modules are whole as before.
pub record ShotsAreNeededAtChanges : Type 0 where
  -- before any candidate no shot is needed
  pub begun : AreUpToDate [] []
  -- what a shot tells that is shown after one candidate more stands behind what is told over those before
  pub shown : (paths prefixes : List PathNames) (shots : List Held) (candidates : List Bytes) (c : Bytes) → AreUpToDate shots candidates
      → told_in paths prefixes (candidates ++ c ∷ [])
      ≡ told_in paths prefixes candidates ++ told_at (suc (length candidates)) (notices prefixes paths (answer_on (last_shot shots)) (answer_of (held_after (map as_heard (candidates ++ c ∷ [])))))
  pub up_to_date : (shots : List Held) (candidates : List Bytes) → AreUpToDate (shots ++ held_after (map as_heard candidates) ∷ []) candidates
  -- a candidate that changes nothing of what is held tells nothing, and the shot before it is still that of all answers
  pub skipped : (paths prefixes : List PathNames) (candidates : List Bytes) (c : Bytes) → HeldStays candidates c → told_in paths prefixes (candidates ++ c ∷ []) ≡ told_in paths prefixes candidates
  pub still : (shots : List Held) (candidates : List Bytes) (c : Bytes) → HeldStays candidates c → AreUpToDate shots candidates → AreUpToDate shots (candidates ++ c ∷ [])
  -- which candidates those are
  pub nothing : (candidates : List Bytes) (c : Bytes) → fed_after candidates c ≢ Changed → HeldStays candidates c
  pub part : (candidates : List Bytes) (c : Bytes) → is_of_blocks c ≡ true → whole_after (candidates ++ c ∷ []) ≡ whole_after candidates → HeldStays candidates c
