use Rattle.std.proofs.Common.{◌≡◌, rules, Bool}
use Rattle.std.specs.Ordering.{is_lt}
use Rattle.std.proofs.lemmas.List.Sorted.{ranks_by, answers_always}
use Rattle.path_tree.specs.Paths.{name_cmp}
use Rattle.path_tree.proofs.CallerLemmas.{name_total}
use Rattle.mount_table.specs.declared.mount.Mount.{Mount}
use Rattle.mount_table.proofs.mount.sort_by_name.Goals as goal

pub returns : goal.returns
returns c =
    let less : Mount → Mount → Bool = λ x y. is_lt (name_cmp x.name y.name) in
    record {
      moved = c.sort_unstable_by.ensures.permutation;
      rises = c.sort_unstable_by.ensures.sorted less (ranks_by name_total (λ (m : Mount). m.name)) (answers_always _ (λ a r. is_lt r ≡ less a.0.now a.1.0.now) _ (λ f a r f' k. search rules));
    }
