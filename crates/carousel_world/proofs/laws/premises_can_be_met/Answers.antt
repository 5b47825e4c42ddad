use Rattle.carousel_world.proofs.Reaching.{can_be_met}
use Rattle.carousel_world.proofs.laws.premises_can_be_met.Goals as goal

pub returns : goal.returns
returns c = can_be_met (record {
  section = c.spellings_read.ensures.is_read;
  block = c.spellings_read-2.ensures.is_read;
  block_size = c.spellings_read-2.ensures.length;
  dii = c.spellings_read_back.ensures.dii;
  dii_size = c.spellings_read_back.ensures.dii_size;
  dsi = c.spellings_read_back.ensures.dsi;
  dsi_size = c.spellings_read_back.ensures.dsi_size;
}) c.layouts_are_lawful.ensures c.every_publication_meets.ensures
