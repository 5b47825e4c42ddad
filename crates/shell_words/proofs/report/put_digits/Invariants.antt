use Rattle.std.proofs.Common.{◌≡◌, List, ℕ, ◌++◌}
use Rattle.std.specs.Slice.Iter.{chunks_rest, chunks_size}
use Rattle.hex.specs.Hex.{encode_lower}
use Rattle.shell_streams.specs.Sending.{HasPut}
use Rattle.shell_words.proofs.report.put_digits.Given as goal

-- digits were put, and with those of the rest they are all
abbrev pub invariant-loop-piece : goal.invariant-loop-piece
invariant-loop-piece g l =
    (goal.iterator-loop-piece g).can_next l.piece-iterator
    × (goal.iterator-loop-piece g).is_finite l.piece-iterator
    × (chunks_size l.piece-iterator ≡ 16384)
    × ((done : List ℕ) × HasPut (g.O.Output.state l.fn.out) (g.O.Output.state l.out) done × (done ++ encode_lower (chunks_rest l.piece-iterator) ≡ encode_lower l.fn.content))
