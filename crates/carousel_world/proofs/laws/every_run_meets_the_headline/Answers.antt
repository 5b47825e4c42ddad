use Rattle.carousel_world.proofs.Promised.{every_run}
use Rattle.carousel_world.proofs.laws.every_run_meets_the_headline.Goals as goal

pub returns : goal.returns
returns c =
    every_run (record {
      grow = c.histories_grow.ensures;
      lists = c.generations_are_of_the_lists.ensures;
      lawful = c.layouts_are_lawful.ensures;
      receptions = c.every_reception_meets.ensures;
      labels = c.labels_never_fall.ensures;
    })
