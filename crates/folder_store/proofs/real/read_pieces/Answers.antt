use Rattle.std.proofs.Common.{length, ap, rules, arith}
use Rattle.folder_store.proofs.RealReads.{told_begun, told_more, told_ended, told_full}
use Rattle.folder_store.proofs.real.read_pieces.Goals as goal

pub loop-source-init : goal.loop-source-init
loop-source-init g c = record {
  within = omega (arith, ap length c.requires.empty);
  room = c.requires.room;
  so_far = rw c.requires.empty (told_begun _);
  later = search rules;
}

pub returns-then-n-eq0-clause-front : goal.returns-then-n-eq0-clause-front
returns-then-n-eq0-clause-front g c =
    told_ended _ _ _ c.loop-source.bytes.items c.read_piece.new.piece c.args.most c.in_ok-n.n c.loop-source.invariant.so_far c.in_ok-n.ensures.read c.if-n-eq0.true (omega (arith, c.loop-source.invariant.within))

pub loop-source-preserved : goal.loop-source-preserved
loop-source-preserved g c = record {
  within = search rules;
  room = search rules;
  so_far = told_more _ _ _ c.loop-source.bytes.items _ c.read_piece.new.piece c.in_ok-n.n c.loop-source.invariant.so_far c.in_ok-n.ensures.read c.in_ok-extend_from_slice.ensures.items;
  later = omega (arith, c.loop-source.invariant.later, c.in_ok-n.ensures.later);
}

pub returns-clause-front : goal.returns-clause-front
returns-clause-front g c = told_full _ _ c.loop-source.bytes.items c.args.most c.loop-source.invariant.so_far (omega (arith, c.loop-source.invariant.within)) (omega (arith, c.loop-source-test.false))
