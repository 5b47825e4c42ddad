use Rattle.std.proofs.Common.{◌∙◌}
use Rattle.std.specs.String.{string_bytes}
use Rattle.folder_store.specs.Surveys.{view_standing}
use Rattle.publication_plan.proofs.Between.{same_left}
use Rattle.publication_plan.proofs.Telltale.{ok_as}
use Rattle.publication_plan.proofs.lines.left_text.Goals as goal

pub returns : goal.returns
returns c =
    ok_as string_bytes _ _ c.left_joined.result
    (same_left c.deref.result.now c.standing_mark.result.now (view_standing c.args.standing.now) (c.deref.ensures ∙ c.in_ok-path.ensures) c.standing_mark.ensures) c.left_joined.ensures
