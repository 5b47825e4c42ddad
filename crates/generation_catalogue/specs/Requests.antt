-- Refusals as definitions see them.
use Rattle.std.specs.Prelude.{Option, Some, None}
use Rattle.path_tree.specs.declared.tree.ApplyFault.{ApplyFault}
use Rattle.path_tree.specs.declared.tree.ApplyFault.TheVariants as apply_faults
use Rattle.generation.specs.declared.limit.Limit.{Limit}
use Rattle.generation.specs.declared.limit.Limit.TheVariants as limits
use Rattle.generation_catalogue.specs.declared.entry.Refusal.{Refusal}
use Rattle.generation_catalogue.specs.declared.entry.Refusal.TheVariants as refusals
use Rattle.generation_catalogue.specs.declared.entry.CommitFault.{CommitFault}
use Rattle.generation_catalogue.specs.declared.entry.CommitFault.TheVariants as faults

abbrev pub commit_cause : CommitFault → Option Refusal
commit_cause (faults.Refused refusal) = Some refusal
commit_cause faults.NoMemory = None

-- a fault of edits, and a limit, as the answer of a commit
abbrev pub of_edits : ApplyFault → CommitFault
of_edits (apply_faults.Edit place fault) = faults.Refused (refusals.Edit place fault)
of_edits apply_faults.NoMemory = faults.NoMemory

abbrev pub of_limit : Limit → CommitFault
of_limit (limits.TooManyObjects n) = faults.Refused (refusals.TooManyObjects n)
of_limit (limits.FolderTooLarge p) = faults.Refused (refusals.FolderTooLarge p)
of_limit (limits.TooManyBytes n) = faults.Refused (refusals.TooManyBytes n)
of_limit (limits.TooManyModules n) = faults.Refused (refusals.TooManyModules n)
of_limit limits.NoMemory = faults.NoMemory
