use Rattle.std.proofs.Common.{◌≡◌, ◌==◌, ◌<◌, ℕ, false, length, take, get_or}
use Rattle.generation.proofs.Words.{list_any}
use Rattle.generation.proofs.keys.marks.Given as goal

abbrev pub invariant-loop-number : goal.invariant-loop-number
invariant-loop-number l = record {
  end : length l.marks.items ≡ l.end;
  marks : (k : ℕ) → k < l.end → get_or l.marks.items k false ≡ list_any (λ j. j == k) (take l.number-index l.numbers);
}
