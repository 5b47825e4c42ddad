use Rattle.session.proofs.Words.{◌≡◌, ◌≢◌, ◌<◌, ℕ, slice_index_or, EditorSeat}
use Rattle.session.proofs.editor.commit_now.Given as goal

-- the editor isn't among the seats so far
abbrev pub invariant-loop-place : goal.invariant-loop-place
invariant-loop-place g l = record { same : l.seats ≡ l.fn.seats; past : (k : ℕ) (d : EditorSeat) → k < l.place → (slice_index_or l.seats.items k d).number ≢ l.editor }
