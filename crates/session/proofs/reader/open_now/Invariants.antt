use Rattle.session.proofs.Words.{◌≡◌, ◌≢◌, ◌<◌, ℕ, slice_index_or, ReaderSeat}
use Rattle.session.proofs.reader.open_now.Given as goal

-- the reader isn't among the seats so far
abbrev pub invariant-loop-place : goal.invariant-loop-place
invariant-loop-place l = record { same : l.seats ≡ l.fn.seats; past : (k : ℕ) (d : ReaderSeat) → k < l.place → (slice_index_or l.seats.items k d).pass.reader ≢ l.reader }
