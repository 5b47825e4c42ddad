use Rattle.std.proofs.Common.{◌≡◌, ◌∙◌, rules, ap, ◌==◌}
use Rattle.std.proofs.lemmas.Fn.{always_returns_same}
use Rattle.std.proofs.lemmas.List.Sorted.{IsNonDecreasingBy-from_sort_by_key}
use Rattle.generation.proofs.Words.{filter, is_of, group_by}
use Rattle.generation.proofs.Searching.{stable_at}
use Rattle.generation.proofs.Members.{of_any}
use Rattle.generation.proofs.links.gather.Goals as goal

pub returns : goal.returns
returns c =
    let n = group_by c.args.by in
    let sort = c.in_ok-sort_by_key.ensures in
    record {
      rising = IsNonDecreasingBy-from_sort_by_key n _ sort.sorted (λ a r q w. search rules);
      each = λ k.
          of_any c.args.by (λ g. filter (λ o. n o == g) c.sort_by_key.new.self.items ≡ filter (λ o. n o == g) c.in_ok-members.members.items)
          (stable_at n _ _ (sort.stable n (always_returns_same _ (λ a r. r ≡ n a.0.now) _ (λ a r q w. search rules)))) k
          ∙ ap (filter (is_of c.args.by k)) c.in_ok-members.ensures.items;
    }
