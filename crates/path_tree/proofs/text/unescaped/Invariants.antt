use Rattle.std.proofs.Common.{length, ◌≡◌}
use Rattle.path_tree.specs.Texts.{Plain, undo_all, undo_escapes, if_plain}
use Rattle.oc_bytes.specs.Numbers.{IsBytes}
use Rattle.path_tree.proofs.text.unescaped.Given as goal

abbrev pub invariant-loop-rest : goal.invariant-loop-rest
invariant-loop-rest l = record {
  so_far : undo_escapes l.text ≡ if_plain (undo_all (Plain, l.bytes.items) l.rest);
  in_byte : IsBytes l.bytes.items;
}

abbrev pub decreases-loop-rest : goal.decreases-loop-rest
decreases-loop-rest l = length l.rest
