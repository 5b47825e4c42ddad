use Rattle.carousel_world.proofs.Settling.{Laws, every_whole, every_opens}
use Rattle.carousel_world.proofs.laws.settling_is_whole.Goals as goal

pub returns : goal.returns
returns c =
    let laws : Laws = record {
      grow = c.histories_grow.ensures;
      lists = c.generations_are_of_the_lists.ensures;
      lawful = c.layouts_are_lawful.ensures;
      later = c.later_groups_are_given.ensures;
      spelled = record {
        section = c.spellings_read.ensures.is_read;
        block = c.spellings_read-2.ensures.is_read;
        block_size = c.spellings_read-2.ensures.length;
        dii = c.spellings_read_back.ensures.dii;
        dii_size = c.spellings_read_back.ensures.dii_size;
        dsi = c.spellings_read_back.ensures.dsi;
        dsi_size = c.spellings_read_back.ensures.dsi_size;
      };
      framed = c.spellings_read.ensures.framed;
    } in
    record { whole = every_whole laws; opens = every_opens c.every_run_meets_the_headline.ensures laws }
