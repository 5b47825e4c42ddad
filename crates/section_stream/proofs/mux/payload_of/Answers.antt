use Rattle.std.proofs.Common.{arith}
use Rattle.section_stream.proofs.Filling.{three_writes}
use Rattle.section_stream.proofs.mux.payload_of.Goals as goal

pub returns : goal.returns
returns c =
    three_writes c.args.pointer.now c.args.held.now c.args.front.now c.copy_at.new.to c.copy_at-2.new.to _ (omega (arith, c.requires)) c.copy_at.ensures c.copy_at-2.ensures c.copy_to.ensures
