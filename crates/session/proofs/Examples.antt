-- A script's lines by their actors: worked examples.
use Rattle.session.proofs.Words.{◌≡◌, ℕ, true, List, [], ◌∷◌, refl, Fate, PathNames, Stage, Before, During, After, Act, LineFields, Fields, events_of, DrawFields, Asked, commits_by, draws_in, asked_of, draws_before_start, settles}
use Rattle.ts_packet.specs.declared.Fate.TheVariants.{Keep, Lose}
use Rattle.path_tree.specs.declared.tree.Edit.TheVariants as edits
use Rattle.session_script.specs.Scripts as acts

abbrev file : PathNames
file = (120 ∷ []) ∷ []

abbrev line : ℕ → Stage → Act → LineFields
line number stage act = record { number = number; stage = stage; act = act }

abbrev draw_of : ℕ → List Fate → DrawFields
draw_of asked fates = record { asked = asked; fates = fates }

abbrev asked_at : ℕ → Asked
asked_at least = record { path = file; least = least }

-- Two editors, the feeder and two readers, of whom the first opens before `start`, after it and at the end
abbrev script : Fields
script = record {
  editors = 1 ∷ 2 ∷ [];
  readers = 1 ∷ 2 ∷ [];
  lines =
      line 1 Before (acts.Put 1 file (49 ∷ [])) ∷ line 2 Before (acts.Commit 1) ∷ line 3 Before (acts.Open 2 file) ∷ line 4 Before (acts.Draw 5 (Keep ∷ Lose ∷ []))
      ∷ line 5 Before (acts.Open 1 file) ∷ line 7 During (acts.Draw 7 []) ∷ line 8 During (acts.Remove 2 file) ∷ line 9 During (acts.Open 1 file)
      ∷ line 10 During (acts.Put 1 file (50 ∷ [])) ∷ line 11 During (acts.Commit 2) ∷ line 12 During (acts.Commit 1)
      ∷ line 13 After acts.Settle ∷ line 14 After (acts.Open 1 file) ∷ [];
}

of_the_first : commits_by 1 (events_of script) ≡ (edits.Put file (49 ∷ []) ∷ []) ∷ (edits.Put file (50 ∷ []) ∷ []) ∷ []
of_the_first = refl

of_the_second : commits_by 2 (events_of script) ≡ (edits.Remove file ∷ []) ∷ []
of_the_second = refl

of_nobody : commits_by 3 (events_of script) ≡ []
of_nobody = refl

all_draws_are : draws_in (events_of script) ≡ draw_of 5 (Keep ∷ Lose ∷ []) ∷ draw_of 7 [] ∷ draw_of 1048576 [] ∷ draw_of 1048576 [] ∷ []
all_draws_are = refl

one_before : draws_before_start script ≡ 1
one_before = refl

-- the draw above it; the draws before `start`; and all of them
first_reader : asked_of 1 script ≡ asked_at 1 ∷ asked_at 1 ∷ asked_at 4 ∷ []
first_reader = refl

-- no draw is above it
second_reader : asked_of 2 script ≡ asked_at 0 ∷ []
second_reader = refl

it_settles : settles script ≡ true
it_settles = refl
