use Rattle.std.proofs.Common.{◌≡◌, ◌++◌, ◌-◌, ◌<◌, ◌≤◌, length, vec_len}
use Rattle.oc_bytes.specs.Outcome.{Known}
use Rattle.folder_store.proofs.real.read_pieces.Given as goal

abbrev pub invariant-loop-source : goal.invariant-loop-source
invariant-loop-source g l =
    let left = g.S.Source.left in
    record {
      within : vec_len l.bytes ≤ l.most;
      room : 0 < length l.piece;
      so_far : Known (left l.fn.source) (left l.source) (λ before after. before ≡ l.bytes.items ++ after);
      later : g.S.Source.faults l.fn.source ≤ g.S.Source.faults l.source;
    }

abbrev pub decreases-loop-source : goal.decreases-loop-source
decreases-loop-source g l = l.most - vec_len l.bytes
