use Rattle.carousel_world.proofs.Premising.{every_reception}
use Rattle.carousel_world.proofs.laws.every_reception_meets.Goals as goal

pub returns : goal.returns
returns c = every_reception c.spellings_read.ensures.framed (record {
  section = c.spellings_read.ensures.is_read;
  block = c.spellings_read-2.ensures.is_read;
  block_size = c.spellings_read-2.ensures.length;
  dii = c.spellings_read_back.ensures.dii;
  dii_size = c.spellings_read_back.ensures.dii_size;
  dsi = c.spellings_read_back.ensures.dsi;
  dsi_size = c.spellings_read_back.ensures.dsi_size;
}) c.equal_versions_mean_equal_bytes.ensures c.cuts_come_in_order.ensures
