-- What a downlink hears of packets more.
use Rattle.std.specs.Prelude.{◌≡◌, List, ◌++◌}
use Rattle.path_tree.specs.Paths.{Bytes}
use Rattle.section_stream.specs.Cuts.{candidates}
use Rattle.section_stream.specs.Rules as rules
use Rattle.tuner_core.specs.Stands as tuning
use Rattle.carousel_world.specs.DownView.{DownlinkState}

-- what stood for packets stands for them with these behind them
pub record Hears (d e : DownlinkState) (came : List Bytes) : Type 0 where
  pub spent : e.spent ≡ d.spent
  pub one_pid : e.demux.pid ≡ d.demux.pid
  pub demux : (packets : List Bytes) → rules.StandsFor d.demux packets → rules.StandsFor e.demux (packets ++ came)
  pub tuner : (packets : List Bytes) → rules.StandsFor d.demux packets → tuning.StandsFor d.tuner (candidates d.demux.pid packets)
      → tuning.StandsFor e.tuner (candidates d.demux.pid (packets ++ came))
