use Rattle.std.proofs.Common.{◌≡◌, Some, None, true, false, ap, sym, subst, ◌∙◌, arith}
use Rattle.std.proofs.lemmas.Grind.{common_steps}
use Rattle.path_tree.specs.Trees.{File, Folder, IsListing, IsTree, content_at, is_folder, names_below}
use Rattle.path_tree.proofs.Changes.{node-file, node-folder, node-none}
use Rattle.path_tree.proofs.Names.{listing}
use Rattle.path_tree.proofs.There.{file_there, on_err}
use Rattle.path_tree.proofs.tree.Tree.lookup.Goals as goal

pub returns-in_err-share-clause-no_memory : goal.returns-in_err-share-clause-no_memory
returns-in_err-share-clause-no_memory c =
    let is : content_at c.args.self.now c.args.path.now ≡ Some c.in-Some.content.now = grind (arith, common_steps) in
    on_err c.from_residual.result (file_there c.args.self.now c.args.path.now c.in-Some.content.now is)

pub returns-in-Some-clause-node : goal.returns-in-Some-clause-node
returns-in-Some-clause-node c =
    let is : content_at c.args.self.now c.args.path.now ≡ Some c.in-Some.content.now = grind (arith, common_steps) in
    ap File c.in_ok-share.ensures ∙ node-file c.args.self.now c.args.path.now c.in-Some.content.now is

pub returns-then-not-is_folder-clause-node : goal.returns-then-not-is_folder-clause-node
returns-then-not-is_folder-clause-node c =
    let none : content_at c.args.self.now c.args.path.now ≡ None = grind (arith, common_steps) in
    let folder : is_folder c.args.self.now c.args.path.now ≡ false = grind (arith, common_steps) in
    sym (node-none c.args.self.now c.args.path.now none folder)

pub returns-clause-node : goal.returns-clause-node
returns-clause-node c =
    let none : content_at c.args.self.now c.args.path.now ≡ None = grind (arith, common_steps) in
    let folder : is_folder c.args.self.now c.args.path.now ≡ true = grind (arith, common_steps) in
    let names : c.in_ok-names.names.items ≡ names_below c.args.self.now c.args.path.now = grind (arith, common_steps) in
    sym (node-folder c.args.self.now c.args.path.now none folder ∙ ap Folder (sym names))

pub returns-clause-listing : goal.returns-clause-listing
returns-clause-listing c =
    let is : c.in_ok-names.names.items ≡ names_below c.args.self.now c.args.path.now = grind (arith, common_steps) in
    subst (IsListing c.args.self.now c.args.path.now) (sym is) (listing c.args.self.now c.args.path.now (subst IsTree c.self.view_is c.self.invariant))
