use Rattle.generation_catalogue.specs.View.{state}
use Rattle.generation_catalogue.specs.History.{trees_of}
use Rattle.generation_catalogue.proofs.catalogue.Catalogue.entries.Goals as goal

pub returns-clause-lawful : goal.returns-clause-lawful
returns-clause-lawful g c =
    let s = state c.args.self.now in
    c.layouts_are_lawful.ensures s.carousel (trees_of s) c.entries.ensures.history.published
