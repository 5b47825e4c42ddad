use Rattle.std.proofs.Common.{◌≡◌, ◌∙◌, ap, Some, length, rules}
use Rattle.publication_plan.proofs.Telltale.{size_read}
use Rattle.publication_plan.proofs.refusing.file_size.Goals as goal

pub returns-in_ok-content-in-Some-clause-size : goal.returns-in_ok-content-in-Some-clause-size
returns-in_ok-content-in-Some-clause-size g c = λ t told.
    let size : c.len.result ≡ length c.in_ok-content-in-Some.content.items = search rules in
    rw c.in-Some.is (ap Some size ∙ size_read t _ c.in_ok-content-in-Some.content.items (rw c.deref.ensures at (c.in_ok-content-in-Some.ensures.bytes t told)))
