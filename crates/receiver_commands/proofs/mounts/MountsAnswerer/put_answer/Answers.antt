use Rattle.std.proofs.Common.{◌∙◌, sym, ap, true}
use Rattle.std.proofs.lemmas.Result.{err_from_is_err_and, IfOk-weaker}
use Rattle.mount_table.specs.declared.mounts.Mounted.TheVariants.{Root, NoMount, At}
use Rattle.shell_words.specs.Texts.{is_found}
use Rattle.shell_streams.proofs.CallerLemmas.{puts_none, puts_ok, puts_err, puts_as}
use Rattle.receiver_commands.proofs.Entries.{entry_as}
use Rattle.receiver_commands.proofs.Serving.{is_answer, root_entry}
use Rattle.receiver_commands.proofs.mounts.MountsAnswerer.put_answer.Goals as goal

pub returns-in_err-mounted-clause-puts : goal.returns-in_err-mounted-clause-puts
returns-in_err-mounted-clause-puts g c =
    let p = err_from_is_err_and c.from_residual.result c.from_residual.ensures.1 in
    rw (p.1, p.2) (λ answer h. puts_none _ _)

pub returns-in_err-put_root-in-Root-clause-puts : goal.returns-in_err-put_root-in-Root-clause-puts
returns-in_err-put_root-in-Root-clause-puts g c =
    let p = err_from_is_err_and c.from_residual-in_err-put_root-in-Root.result c.from_residual-in_err-put_root-in-Root.ensures.1 in
    rw (p.1, p.2)
    (λ answer h. puts_err (puts_as (root_entry c.args.self.now answer c.args.path.now h (λ packets s. sym c.in-Root.is ∙ c.in_ok-mounted.ensures.answer packets s)) c.in_err-put_root-in-Root.ensures))

pub returns-in_ok-put_root-in-Root-clause-found : goal.returns-in_ok-put_root-in-Root-clause-found
returns-in_ok-put_root-in-Root-clause-found g c = λ answer h. ap is_found (is_answer c.args.self.now answer c.args.path.now Root h (λ packets s. sym c.in-Root.is ∙ c.in_ok-mounted.ensures.answer packets s))

pub returns-in_ok-put_root-in-Root-clause-puts : goal.returns-in_ok-put_root-in-Root-clause-puts
returns-in_ok-put_root-in-Root-clause-puts g c = λ answer h.
    puts_ok true (puts_as (root_entry c.args.self.now answer c.args.path.now h (λ packets s. sym c.in-Root.is ∙ c.in_ok-mounted.ensures.answer packets s)) c.in_ok-put_root-in-Root.ensures)

pub returns-in-NoMount-clause-found : goal.returns-in-NoMount-clause-found
returns-in-NoMount-clause-found g c = IfOk-weaker c.put_entry.result _ _
    (λ found e answer h. e ∙ ap is_found (is_answer c.args.self.now answer c.args.path.now NoMount h (λ packets s. sym c.in-NoMount.is ∙ c.in_ok-mounted.ensures.answer packets s))) c.put_entry.ensures.found

pub returns-in-NoMount-clause-puts : goal.returns-in-NoMount-clause-puts
returns-in-NoMount-clause-puts g c = λ answer h.
    entry_as c.args.path.now (is_answer c.args.self.now answer c.args.path.now NoMount h (λ packets s. sym c.in-NoMount.is ∙ c.in_ok-mounted.ensures.answer packets s)) c.put_entry.ensures.puts

pub returns-in-At-clause-found : goal.returns-in-At-clause-found
returns-in-At-clause-found g c = IfOk-weaker c.put_entry-in-At.result _ _
    (λ found e answer h. e ∙ ap is_found (is_answer c.args.self.now answer c.args.path.now (At c.in-At.field-0 c.in-At.answer) h (λ packets s. sym c.in-At.is ∙ c.in_ok-mounted.ensures.answer packets s)))
    c.put_entry-in-At.ensures.found

pub returns-in-At-clause-puts : goal.returns-in-At-clause-puts
returns-in-At-clause-puts g c = λ answer h.
    entry_as c.args.path.now (is_answer c.args.self.now answer c.args.path.now (At c.in-At.field-0 c.in-At.answer) h (λ packets s. sym c.in-At.is ∙ c.in_ok-mounted.ensures.answer packets s))
    c.put_entry-in-At.ensures.puts
