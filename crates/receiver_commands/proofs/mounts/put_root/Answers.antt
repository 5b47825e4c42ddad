use Rattle.std.proofs.Common.{◌∙◌, sym, ap}
use Rattle.std.proofs.lemmas.Result.{err_from_is_err_and}
use Rattle.std.proofs.lemmas.List.{length-map}
use Rattle.mount_table.specs.declared.mount.Mount.{Mount}
use Rattle.mount_table.specs.Stands.{mounts_of}
use Rattle.shell_streams.proofs.CallerLemmas.{puts_none, puts_then, puts_stop, puts_as}
use Rattle.receiver_commands.specs.Inner.Mounts.{root_line}
use Rattle.receiver_commands.proofs.mounts.put_root.Goals as goal

pub returns-in_err-line : goal.returns-in_err-line
returns-in_err-line g c =
    let p = err_from_is_err_and c.from_residual.result c.from_residual.ensures.1 in
    rw (p.1, p.2) (puts_none _ _)

pub returns-in_err-put : goal.returns-in_err-put
returns-in_err-put g c =
    let p = err_from_is_err_and c.from_residual-in_err-put.result c.from_residual-in_err-put.ensures.1 in
    let line = c.as_bytes.ensures.value ∙ c.in_ok-line.ensures ∙ ap root_line (c.len.ensures ∙ sym (length-map (mounts_of c.args.mounts.now) (λ (m : Mount). m.name))) in
    rw (p.1, p.2) (puts_stop _ (puts_as line c.in_err-put.ensures.puts))

pub returns : goal.returns
returns g c =
    let line = c.as_bytes.ensures.value ∙ c.in_ok-line.ensures ∙ ap root_line (c.len.ensures ∙ sym (length-map (mounts_of c.args.mounts.now) (λ (m : Mount). m.name))) in
    puts_then (puts_as line c.in_ok-put.ensures.puts) c.put_mount_names.ensures
