use Rattle.std.proofs.Common.{◌≡◌, None, ap, sym, subst, ◌∙◌}
use Rattle.path_tree.specs.Edits.{fault_of}
use Rattle.path_tree.specs.Trees.{IsTree}
use Rattle.path_tree.proofs.Keeping.{edit_keeps}
use Rattle.path_tree.proofs.There.{if_none}
use Rattle.path_tree.proofs.tree.apply_one.Goals as goal

pub returns-in_ok-make-clause-tree : goal.returns-in_ok-make-clause-tree
returns-in_ok-make-clause-tree c = if_none c.refusal-fault.result (λ none.
    let no_fault : fault_of c.args.entries.now.items c.args.edit.now ≡ None = ap (λ t. fault_of t c.args.edit.now) (sym c.deref-2.ensures.value) ∙ (sym c.refusal-fault.ensures.fault ∙ none) in
    subst IsTree (sym c.in_ok-make.ensures) (edit_keeps c.args.entries.now.items c.args.edit.now c.requires c.refusal-fault.ensures.edit no_fault))
