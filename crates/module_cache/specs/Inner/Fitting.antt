-- What a block answers by whether it fits into a module of which nothing more is taken.
use Rattle.std.specs.Prelude.{Result, Ok, Err}
use Rattle.module_cache.specs.declared.stored.Misfit.{Misfit}
use Rattle.module_cache.specs.declared.stored.Misfit.TheVariants as misfits
use Rattle.module_cache.specs.declared.taken.Taken.{Taken}
use Rattle.module_cache.specs.declared.taken.Taken.TheVariants as taken

abbrev pub taken_misfit : Misfit → Taken
taken_misfit misfits.WrongPlace = taken.WrongPlace
taken_misfit misfits.WrongLength = taken.WrongLength

-- where the block is there already
abbrev pub taken_there : {U : Type 0} → Result U Misfit → Taken
taken_there (Ok fits) = taken.Again
taken_there (Err misfit) = taken_misfit misfit
