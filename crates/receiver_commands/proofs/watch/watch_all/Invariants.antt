use Rattle.std.proofs.Common.{◌≡◌, ◌≤◌, List, []}
use Rattle.shell_streams.specs.Cuts.{Bytes}
use Rattle.shell_streams.specs.Packets.{HasCut}
use Rattle.shell_streams.specs.Sending.{HasPut}
use Rattle.watch_desk.specs.Prefixes.{prefixes_of}
use Rattle.receiver_commands.specs.Watch.{watched_paths, first_watchers, text_for}
use Rattle.receiver_commands.specs.Inner.Watching.{StandsFor}
use Rattle.receiver_commands.proofs.watch.watch_all.Given as goal

abbrev pub invariant-loop-reader : goal.invariant-loop-reader
invariant-loop-reader g l = record {
  candidates : List Bytes;
  cut : HasCut l.pid l.reader (g.S.Source.left l.fn.source) (g.S.Source.left l.source) candidates;
  stands : StandsFor l.watcher (watched_paths l.fn.paths) (first_watchers (prefixes_of l.fn.filters.items)) candidates;
  puts : HasPut (g.O.Output.state l.fn.out) (g.O.Output.state l.out) (text_for (prefixes_of l.fn.filters.items) l.fn.paths candidates);
  empty : (g.O.Output.state l.out).pending ≡ [];
  later : g.S.Source.faults l.fn.source ≤ g.S.Source.faults l.source;
}

abbrev pub decreases-loop-reader : goal.decreases-loop-reader
decreases-loop-reader g l = l.reader.most
