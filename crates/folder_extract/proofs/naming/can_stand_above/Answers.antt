use Rattle.std.proofs.Common.{◌-◌, ◌<◌, length, sym, arith}
use Rattle.folder_extract.specs.Naming.{is_file_name, names_above}
use Rattle.folder_extract.proofs.Places.{named, unnamed, slice_get_front, stand_never, stand_next}
use Rattle.folder_extract.proofs.naming.can_stand_above.Goals as goal

pub returns-in_default : goal.returns-in_default
returns-in_default c =
    let within : c.loop-i.i < length c.args.path.now - 1 = omega (arith, c.saturating_sub-i-end.ensures, c.len.ensures.names, c.loop-i-test.true) in
    sym (stand_never (names_above c.args.path.now) c.loop-i.i c.name.result.now (slice_get_front c.args.path.now (length c.args.path.now - 1) c.loop-i.i c.name.result.now within c.name.ensures)
    (unnamed (is_file_name c.name.result.now) c.name.result.now c.in_default.ensures))

pub loop-i-preserved : goal.loop-i-preserved
loop-i-preserved c = stand_next c.args.path.now c.loop-i.i c.name.result.now c.loop-i.invariant c.name.ensures
    (named (is_file_name c.name.result.now) c.name.result.now _ c.in-Some.ensures).0
