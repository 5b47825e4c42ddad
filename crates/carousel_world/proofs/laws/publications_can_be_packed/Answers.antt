use Rattle.carousel_world.proofs.Opening.{published_like}
use Rattle.carousel_world.proofs.laws.publications_can_be_packed.Goals as goal

pub returns : goal.returns
returns c = published_like c.layouts_are_lawful.ensures (record {
  section = c.spellings_read.ensures.is_read;
  block = c.spellings_read-2.ensures.is_read;
  block_size = c.spellings_read-2.ensures.length;
  dii = c.spellings_read_back.ensures.dii;
  dii_size = c.spellings_read_back.ensures.dii_size;
  dsi = c.spellings_read_back.ensures.dsi;
  dsi_size = c.spellings_read_back.ensures.dsi_size;
}) c.spellings_read.ensures.framed
