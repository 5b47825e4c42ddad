use Rattle.std.proofs.Common.{ap, ◌∙◌}
use Rattle.std.specs.List.{flat_map}
use Rattle.std.proofs.lemmas.Result.{err_from_is_err_and}
use Rattle.path_resolver.specs.Shots.{held_of}
use Rattle.shell_streams.proofs.CallerLemmas.{puts_none, puts_then, puts_stop, puts_as}
use Rattle.reception_report.specs.Listing.{more_unless}
use Rattle.reception_report.specs.Telling.{path_line}
use Rattle.reception_report.proofs.report.put_paths.Goals as goal

pub returns-in_err-listing : goal.returns-in_err-listing
returns-in_err-listing g c =
    let p = err_from_is_err_and c.from_residual.result c.from_residual.ensures.1 in
    rw (p.1, p.2) (puts_none _ _)

pub returns-in_err-put_each : goal.returns-in_err-put_each
returns-in_err-put_each g c =
    let p = err_from_is_err_and c.from_residual-in_err-put_each.result c.from_residual-in_err-put_each.ensures.1 in
    let lines = ap (flat_map (path_line (held_of c.args.shot.now))) c.in_ok-listing.ensures.paths in
    rw (p.1, p.2) (puts_stop _ (puts_as lines (rw c.deref.ensures.value at c.in_err-put_each.ensures)))

pub returns : goal.returns
returns g c =
    let lines = ap (flat_map (path_line (held_of c.args.shot.now))) c.in_ok-listing.ensures.paths in
    puts_then (puts_as lines (rw c.deref.ensures.value at c.in_ok-put_each.ensures)) (puts_as (c.last_line.ensures ∙ ap more_unless c.in_ok-listing.ensures.whole) c.put.ensures.puts)
