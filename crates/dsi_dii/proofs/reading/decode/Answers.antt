use Rattle.std.proofs.Common.{arith}
use Rattle.oc_bytes.proofs.CallerLemmas.{bytes_fit}
use Rattle.dsi_dii.proofs.Laws.{answer_found, read_again}
use Rattle.dsi_dii.proofs.reading.decode.Goals as goal

pub returns-clause-found : goal.returns-clause-found
returns-clause-found c =
    let fits = bytes_fit c.args.payload.now (λ i. omega (arith, c.type_inv.payload i)) in
    answer_found c.args.payload.now c.control.result fits c.control.ensures.exact

pub returns-clause-only : goal.returns-clause-only
returns-clause-only c = λ m h. rw (read_again c.args.payload.now m h) at c.control.ensures.exact
