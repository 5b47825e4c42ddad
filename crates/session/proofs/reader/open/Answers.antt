use Rattle.session.proofs.Opening.{one_open_more}
use Rattle.session.proofs.Showing.{if_ok, if_err}
use Rattle.session.proofs.reader.open.Goals as goal
use Rattle.session.proofs.reader.open.Goals.{in-Ok, in-Err}

pub returns-clause-opened : goal.returns-clause-opened
returns-clause-opened c = elim c.match-open_path.branch [
  | in-Ok w ↦ if_ok c.match-open_path.result _ _ w.result-is (
      let made = w.in-Ok.ensures.open in
      one_open_more c.args.pass.now c.open_path.new.self made.0 c.args.path made.1 made.2 made.3 c.open_path.ensures.known.0 w.in-Ok.ensures.told)
  | in-Err w ↦ if_err c.match-open_path.result _ _ w.result-is
]
