use Rattle.std.proofs.Common.{slice_index_or, subst, arith}
use Rattle.station.specs.Passes.{IsStationPass}
use Rattle.bench_programs.proofs.station_commits.edit_all.Goals as goal

pub returns : goal.returns
returns g c = λ k d lt.
    let same = c.for_each_mut.auto.s in
    let at = (c.for_each_mut.ensures k d (omega arith)).1 in
    subst (IsStationPass c.args.station.now) {y = slice_index_or c.for_each_mut.new.s k d} at.left at.call
