use Rattle.std.proofs.Common.{arith, ap, ◌∙◌, ◌-◌, sym, length}
use Rattle.path_tree.specs.Paths.{same_name}
use Rattle.path_tree.proofs.Places.{last_name_is-at}
use Rattle.path_tree.proofs.entries.last_name_is.Goals as goal

pub returns-in-len1-up : goal.returns-in-len1-up
returns-in-len1-up c =
    c.same_bytes.ensures
    ∙ ap (same_name c.args.name.now) (c.bytes.ensures ∙ c.last-item.is)
    ∙ sym (last_name_is-at c.args.names.now c.args.name.now (length c.args.names.now - 1) c.last-item.result (omega arith))
