use Rattle.session.proofs.Words.{◌≡◌, ◌++◌, ◌+◌, ◌≤◌, ℕ, List, map, length, false, IsPrefix, IsSameReader, Asked, HasOpened, asked_at}
use Rattle.session.proofs.reader.read.Given as goal

-- the paths so far were opened
abbrev pub invariant-loop-path : goal.invariant-loop-path
invariant-loop-path g l = record {
  unfinished : l.seat.whole ≡ false;
  finales : l.seat.finales ≡ l.fn.seat.finales;
  same : IsSameReader l.fn.seat.pass l.seat.pass;
  told : l.seat.pass.told ≡ l.fn.seat.pass.told;
  known : IsPrefix l.fn.seat.pass.known l.seat.pass.known;
  most : length l.fn.seat.pass.known ≤ l.fn.seat.pass.most + 1 → length l.seat.pass.known ≤ l.seat.pass.most + 1;
  count : length l.seat.pass.opens ≡ length l.fn.seat.pass.opens + length l.yielded;
  opened : (least : ℕ) (asked : List Asked) → least + 1 ≤ length l.fn.seat.pass.told → HasOpened asked l.fn.seat.pass → HasOpened (asked ++ map (asked_at least) l.yielded) l.seat.pass;
}
