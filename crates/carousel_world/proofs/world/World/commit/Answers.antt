use Rattle.std.proofs.Common.{◌≡◌, Err, subst}
use Rattle.generation_catalogue.specs.Calls.{IsCommitted}
use Rattle.generation_catalogue.specs.declared.entry.CommitFault.TheVariants as commits
use Rattle.carousel_world.proofs.Happening.{refused}
use Rattle.carousel_world.proofs.world.World.commit.Goals as goal

pub returns-in-Err-Refused-clause-reply : goal.returns-in-Err-Refused-clause-reply
returns-in-Err-Refused-clause-reply g c =
    let same : c.commit_edits.result ≡ Err (commits.Refused c.in-Err-Refused.refusal) = cc in
    λ w st. (refused c.args.self.now.journal c.commit_edits.new.self w c.args.self.now.downlink c.args.editor c.args.edits c.in-Err-Refused.refusal
    (subst (λ r. IsCommitted c.args.self.now.journal c.args.editor c.args.edits r c.commit_edits.new.self) same c.commit_edits.ensures) st).0

pub returns-in-Err-Refused-clause-stands : goal.returns-in-Err-Refused-clause-stands
returns-in-Err-Refused-clause-stands g c =
    let same : c.commit_edits.result ≡ Err (commits.Refused c.in-Err-Refused.refusal) = cc in
    λ w st. (refused c.args.self.now.journal c.commit_edits.new.self w c.args.self.now.downlink c.args.editor c.args.edits c.in-Err-Refused.refusal
    (subst (λ r. IsCommitted c.args.self.now.journal c.args.editor c.args.edits r c.commit_edits.new.self) same c.commit_edits.ensures) st).1
