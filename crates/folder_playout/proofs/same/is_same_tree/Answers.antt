use Rattle.std.proofs.Common.{ap, length, rules, tests}
use Rattle.std.proofs.lemmas.Iterator.{YieldsList-from_slice, YieldsList-from_zip, same_from_all}
use Rattle.folder_playout.proofs.Changing.{entry_is, entry_alike, same_by, other_length}
use Rattle.folder_playout.proofs.same.is_same_tree.Goals as goal

pub returns-then-entries-others : goal.returns-then-entries-others
returns-then-entries-others c =
    same_by c.args.tree.now c.args.other.now c.all.result
    (same_from_all c.all.new.self _ _ _ _ c.all.ensures.ran (YieldsList-from_zip (YieldsList-from_slice c.args.tree.now cc) (YieldsList-from_slice c.args.other.now cc)) (search rules)
    (λ x q k. search (rules, tests, entry_is)) (λ x q k. search (rules, tests, entry_alike)))

pub returns-else-entries-others : goal.returns-else-entries-others
returns-else-entries-others c = other_length c.args.tree.now c.args.other.now _ _ (ap length c.entries-entries.ensures.entries)
    (ap length c.entries-others.ensures.entries) c.if-entries-others.false
