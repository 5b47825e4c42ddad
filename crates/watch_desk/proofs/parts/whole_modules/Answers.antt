use Rattle.std.proofs.Common.{List, length, sym, ap, ◌∙◌}
use Rattle.std.specs.Prelude.{is_some}
use Rattle.std.specs.List.{filter}
use Rattle.path_resolver.specs.declared.shot.Held.{Held}
use Rattle.watch_desk.proofs.Staying.{whole_alike}
use Rattle.watch_desk.proofs.parts.whole_modules.Goals as goal

pub returns : goal.returns
returns c =
    c.whole_among.ensures ∙ ap (λ (hs : List Held). length (filter (λ h. is_some h.«module») hs)) c.deref.ensures.value ∙ sym (whole_alike c.args.shot.now.table.items)
