use Rattle.std.proofs.Common.{◌≡◌, ◌∙◌, List, ℕ, map, length, ap, subst, arith}
use Rattle.std.specs.Prelude.{IfOk}
use Rattle.std.specs.List.{sum}
use Rattle.std.specs.String.{string_bytes}
use Rattle.history_merge.specs.Merging.{known_view}
use Rattle.carousel_shell.proofs.Tallies.{same_line}
use Rattle.carousel_shell.proofs.counts.big_line.Goals as goal

pub returns : goal.returns
returns c =
    let files : c.len-files.result ≡ length c.in_ok-lengths.lengths.items = let len = c.len-files.ensures in let ok = c.in_ok-lengths.lengths.ok.0 in omega (arith, len, ok) in
    subst (λ (text : List ℕ). IfOk c.counts_line.result (λ line. string_bytes line ≡ text))
    (same_line c.args.size c.accepted-commits.result c.len-files.result c.total-bytes.result c.in_ok-lengths.lengths.items (map known_view c.args.told.now) c.accepted-commits.ensures
    c.in_ok-lengths.ensures files (c.total-bytes.ensures ∙ ap sum c.deref.ensures.value)) c.counts_line.ensures
