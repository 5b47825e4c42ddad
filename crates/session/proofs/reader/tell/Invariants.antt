use Rattle.session.proofs.Words.{◌≡◌, ℕ, ◌<◌, ◌≤◌, List, length, slice_index_or, Shot, Step, ReaderSeat, shown_by, ReaderStands, ReadersStand, Setting}
use Rattle.shot_board.specs.Showers.{ShowsNothing}
use Rattle.session.proofs.reader.tell.Given as goal

abbrev pub invariant-loop-place : goal.invariant-loop-place
invariant-loop-place l = record {
  shows : ShowsNothing l.fn.shower l.shower;
  count : length l.seats.items ≡ length l.fn.seats.items;
  left : (k : ℕ) (d : ReaderSeat) → l.place ≤ k → k < length l.fn.seats.items → slice_index_or l.seats.items k d ≡ slice_index_or l.fn.seats.items k d;
  told : (setting : Setting) (done : List Step) (shots : List Shot) → ReadersStand setting done shots l.fn.seats.items → (k : ℕ) (d : ReaderSeat) → k < l.place → k < length l.fn.seats.items
      → ReaderStands setting done (shown_by l.fn.shower) k (slice_index_or l.seats.items k d);
}
