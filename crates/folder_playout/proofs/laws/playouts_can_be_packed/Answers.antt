use Rattle.folder_playout.proofs.Framing.{all_like}
use Rattle.folder_playout.proofs.laws.playouts_can_be_packed.Goals as goal

pub returns : goal.returns
returns c = all_like (record {
  framed = c.spellings_read.ensures.framed;
  block = c.spellings_read-2.ensures.length;
  dii = c.spellings_read_back.ensures.dii_size;
  dsi = c.spellings_read_back.ensures.dsi_size;
})
