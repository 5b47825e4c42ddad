use Rattle.std.proofs.Common.{◌≡◌, ◌+◌, take}
use Rattle.carousel_world.specs.Fates.{received_under}
use Rattle.carousel_world.specs.Inner.DownView.{Hears}
use Rattle.carousel_world.proofs.downlink.Downlink.receive.Given as goal

abbrev pub invariant-loop-packet : goal.invariant-loop-packet
invariant-loop-packet l = record {
  number : l.number ≡ l.from + l.packet-index;
  mux : l.self.mux ≡ l.fn.self.mux;
  hears : Hears l.fn.self l.self (received_under l.fates l.from (take l.packet-index l.packets));
}
