use Rattle.path_tree.proofs.path.same_bytes.Goals as goal

pub returns : goal.returns
returns c = c.eq.ensures
