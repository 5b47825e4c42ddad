use Rattle.std.proofs.Common.{◌∙◌, ap}
use Rattle.generation.specs.Layouts.{next_of}
use Rattle.folder_playout.specs.Notices.{difference_of}
use Rattle.folder_playout.proofs.playout.Playout.new.Goals as goal

pub returns-clause-differs : goal.returns-clause-differs
returns-clause-differs c =
    c.compared-difference.ensures ∙ ap (difference_of c.in_ok-none.none) c.in_ok-generation.ensures.exact ∙ ap (λ g. difference_of g (next_of g c.args.tree)) c.in_ok-none.ensures.first
