use Rattle.carousel_world.proofs.Opening.{each_cycle}
use Rattle.carousel_world.proofs.laws.each_cycle_opens.Goals as goal

pub returns : goal.returns
returns c = each_cycle c.every_publication_meets.ensures c.packets_give_the_groups.ensures c.layouts_are_lawful.ensures (record {
  section = c.spellings_read.ensures.is_read;
  block = c.spellings_read-2.ensures.is_read;
  block_size = c.spellings_read-2.ensures.length;
  dii = c.spellings_read_back.ensures.dii;
  dii_size = c.spellings_read_back.ensures.dii_size;
  dsi = c.spellings_read_back.ensures.dsi;
  dsi_size = c.spellings_read_back.ensures.dsi_size;
}) c.spellings_read.ensures.framed
