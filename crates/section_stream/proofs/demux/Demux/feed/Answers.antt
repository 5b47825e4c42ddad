use Rattle.section_stream.proofs.Completing.{fed}
use Rattle.section_stream.proofs.demux.Demux.feed.Goals as goal

pub returns-clause-stands : goal.returns-clause-stands
returns-clause-stands c = (fed c.args.self.now c.self.inside.receiver c.feed.new.self c.self.inside.unfinished c.args.packet.now _ c.self.view_is c.feed.ensures.ok c.feed.ensures.memory).stands

pub returns-clause-pid : goal.returns-clause-pid
returns-clause-pid c = (fed c.args.self.now c.self.inside.receiver c.feed.new.self c.self.inside.unfinished c.args.packet.now _ c.self.view_is c.feed.ensures.ok c.feed.ensures.memory).pid

pub returns-clause-short : goal.returns-clause-short
returns-clause-short c = (fed c.args.self.now c.self.inside.receiver c.feed.new.self c.self.inside.unfinished c.args.packet.now _ c.self.view_is c.feed.ensures.ok c.feed.ensures.memory).short

pub returns-clause-cuts : goal.returns-clause-cuts
returns-clause-cuts c = (fed c.args.self.now c.self.inside.receiver c.feed.new.self c.self.inside.unfinished c.args.packet.now _ c.self.view_is c.feed.ensures.ok c.feed.ensures.memory).cuts

pub returns-clause-completes : goal.returns-clause-completes
returns-clause-completes c = (fed c.args.self.now c.self.inside.receiver c.feed.new.self c.self.inside.unfinished c.args.packet.now _ c.self.view_is c.feed.ensures.ok c.feed.ensures.memory).completes
