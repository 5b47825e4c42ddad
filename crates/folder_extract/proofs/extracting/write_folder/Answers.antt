use Rattle.std.proofs.Common.{sym}
use Rattle.std.specs.List.{list_all}
use Rattle.std.proofs.lemmas.Result.{err_from_is_err_and}
use Rattle.path_tree.specs.Texts.{is_name}
use Rattle.shell_streams.proofs.CallerLemmas.{puts_then, puts_stop, puts_ok, puts_err}
use Rattle.folder_extract.specs.Telling.{unnamed_lines}
use Rattle.folder_extract.proofs.Taking.{part_all}
use Rattle.folder_extract.proofs.Choosing.{none_breaks, by_all}
use Rattle.folder_extract.proofs.extracting.write_folder.Goals as goal

pub returns-in-Err-NoMemory-clause-takes : goal.returns-in-Err-NoMemory-clause-takes
returns-in-Err-NoMemory-clause-takes g c = none_breaks _ _ _ _ _ c.in-Err-NoMemory.ensures.err

pub returns-in_err-put_entry-clause-takes : goal.returns-in_err-put_entry-clause-takes
returns-in_err-put_entry-clause-takes g c =
    let p = err_from_is_err_and c.from_residual.result c.from_residual.ensures.1 in
    rw (p.1, p.2) (record {
      part = part_all _ _ _ c.in-Ok.ensures.made;
      told_is = puts_stop (unnamed_lines c.args.path.now c.args.names.now) (rw c.count.ensures at c.in_err-put_entry.ensures);
    })

pub returns-in_err-all-clause-takes : goal.returns-in_err-all-clause-takes
returns-in_err-all-clause-takes g c =
    let p = err_from_is_err_and c.from_residual-in_err-all.result c.from_residual-in_err-all.ensures.1 in
    rw (p.1, p.2) (record {
      part = part_all _ _ _ c.in-Ok.ensures.made;
      told_is = puts_err (puts_then (rw c.count.ensures at c.in_ok-put_entry.ensures) c.in_err-all.ensures.puts);
    })

pub returns-clause-takes : goal.returns-clause-takes
returns-clause-takes g c =
    rw c.all_or_not.ensures (by_all _ _ _ _ _ _ _ _ (list_all is_name c.args.names.now) c.in_ok-all.all (sym c.in_ok-all.ensures.all)
    (record { wrote = c.in-Ok.ensures.made; told_is = puts_ok tt (puts_then (rw c.count.ensures at c.in_ok-put_entry.ensures) c.in_ok-all.ensures.puts) }))
