use Rattle.watch_desk.specs.View.{state}
use Rattle.watch_desk.proofs.Agreeing.{stands_kept, told_are, within_are}
use Rattle.watch_desk.proofs.desk.Desk.show_held.Goals as goal

pub returns-clause-told : goal.returns-clause-told
returns-clause-told g c = told_are (state c.args.self.now) (g.H.Holding.state c.args.held.now) c.turn_to.result c.turn_to.ensures.told

pub returns-clause-stands : goal.returns-clause-stands
returns-clause-stands g c = stands_kept (state c.args.self.now) (state c.turn_to.new.self) (g.H.Holding.state c.args.held.now) c.turn_to.result c.turn_to.ensures.kept

pub returns-clause-within : goal.returns-clause-within
returns-clause-within g c = within_are (state c.args.self.now) (g.H.Holding.state c.args.held.now) c.turn_to.result c.turn_to.ensures.told
