-- Opens and kept answers while the known list grows.
use Rattle.std.proofs.Common.{ℕ, List, [], ◌∷◌, ◌++◌}
use mathlib.Core.List.{IsPrefix}
use Rattle.shot_board.proofs.CallerLemmas.{prefix_get}
use Rattle.std.specs.declared.string.String.{String}
use Rattle.path_resolver.specs.declared.answer.Answer.{Answer}
use Rattle.path_resolver.specs.declared.shot.Shot.{Shot}
use Rattle.open_history.specs.declared.entry.OpenEntry.{OpenEntry}
use Rattle.open_history.specs.Opens.{Answered, AllAnswered}
use Rattle.open_history.specs.Inner.Cached.{AreAnswersIn}

pub answered_on : (xs ys : List Shot) (es : List OpenEntry) → IsPrefix xs ys → AllAnswered xs es → AllAnswered ys es
answered_on xs ys [] p h = tt
answered_on xs ys (e ∷ es) p h =
    ((h.0.0, prefix_get xs ys e.shot h.0.0 p h.0.1, h.0.2, h.0.3, h.0.4, h.0.5), answered_on xs ys es p h.1)

pub answered_push : (xs : List Shot) (es : List OpenEntry) (e : OpenEntry) → AllAnswered xs es → Answered xs e → AllAnswered xs (es ++ e ∷ [])
answered_push xs [] e h a = (a, tt)
answered_push xs (x ∷ es) e h a = (h.0, answered_push xs es e h.1 a)

pub kept_on : {Z : Type 0} (xs ys : List Shot) (n : ℕ) (es : List (String Z × Answer)) → IsPrefix xs ys → AreAnswersIn xs n es → AreAnswersIn ys n es
kept_on xs ys n es p h = λ e c. let a = h e c in (a.0, prefix_get xs ys n a.0 p a.1, a.2)
