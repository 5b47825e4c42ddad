use Rattle.std.proofs.Common.{◌≡◌, ◌≤◌, ◌-◌, ◌++◌, length, vec_len}
use Rattle.oc_bytes.specs.Outcome.{Known}
use Rattle.shell_streams.proofs.whole.read_all.Given as goal

abbrev pub invariant-loop-bytes : goal.invariant-loop-bytes
invariant-loop-bytes g l = record {
  room : vec_len l.piece ≡ 65536;
  within : length l.bytes.items ≤ l.most;
  taken : Known (g.S.Source.left l.fn.source) (g.S.Source.left l.source) (λ input left. input ≡ l.bytes.items ++ left);
  later : g.S.Source.faults l.fn.source ≤ g.S.Source.faults l.source;
}

abbrev pub decreases-loop-bytes : goal.decreases-loop-bytes
decreases-loop-bytes g l = l.most - length l.bytes.items
