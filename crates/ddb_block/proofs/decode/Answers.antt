use Rattle.std.proofs.Common.{sym, ◌∙◌, ap, Ok}
use Rattle.ddb_block.proofs.Laws.{block_is_read}
use Rattle.ddb_block.proofs.decode.Goals as goal

pub returns-in_err-parts-clause-only : goal.returns-in_err-parts-clause-only
returns-in_err-parts-clause-only c = λ b r. absurd (cc (block_is_read c.args.payload.now b r, c.in_err-parts.ensures))

pub returns-clause-only : goal.returns-clause-only
returns-clause-only c = λ b r. sym (block_is_read c.args.payload.now b r) ∙ c.in_ok-parts.ensures ∙ ap Ok (sym c.in_ok-owned.ensures.same)
