use Rattle.std.proofs.Common.{◌≡◌, ◌++◌, length}
use Rattle.std.specs.List.{filter_map}
use Rattle.psi_tables.specs.Pmts.{carousel_of, carousels_in}
use Rattle.psi_tables.proofs.pmt.carousels_named.Given as goal

abbrev pub invariant-loop-descriptor : goal.invariant-loop-descriptor
invariant-loop-descriptor l = l.carousels.items ++ filter_map carousel_of l.descriptors ≡ carousels_in l.info

abbrev pub decreases-loop-descriptor : goal.decreases-loop-descriptor
decreases-loop-descriptor l = length l.descriptors
