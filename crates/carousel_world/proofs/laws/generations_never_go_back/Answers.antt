use Rattle.carousel_world.proofs.Onward.{never_back}
use Rattle.carousel_world.proofs.laws.generations_never_go_back.Goals as goal

pub returns : goal.returns
returns c = never_back c.spellings_read.ensures.framed (record {
  section = c.spellings_read.ensures.is_read;
  block = c.spellings_read-2.ensures.is_read;
  block_size = c.spellings_read-2.ensures.length;
  dii = c.spellings_read_back.ensures.dii;
  dii_size = c.spellings_read_back.ensures.dii_size;
  dsi = c.spellings_read_back.ensures.dsi;
  dsi_size = c.spellings_read_back.ensures.dsi_size;
}) c.cuts_come_in_order.ensures
