use Rattle.generation_catalogue.proofs.Drawing.{items_of_batch}
use Rattle.generation_catalogue.proofs.journal.Journal.draw.Goals as goal

pub returns-clause-items : goal.returns-clause-items
returns-clause-items g c = items_of_batch c.args.self.now _ c.args.asked c.draw_next.result c.draw_next.ensures
