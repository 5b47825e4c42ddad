use Rattle.session.proofs.Words.{refl}
use Rattle.session.proofs.Closing.{gathered_of, all_passes}
use Rattle.session.proofs.ending.end_of_threads.Goals as goal

pub close-catalogue-requires : goal.close-catalogue-requires
close-catalogue-requires g c = all_passes c.args.station c.args.editors.items c.args.feeder _ c.in_ok-passes.ensures c.requires.count c.requires.editors c.requires.feeder

pub returns : goal.returns
returns g c = gathered_of c.actors_gather.ensures c.args.station c.args.editors.items c.args.feeder _
    (record { catalogue = c.close-catalogue.result; downlink = c.args.feeder.downlink; fates = c.args.feeder.fates }) c.in_ok-passes.ensures refl refl
    c.close-catalogue.ensures.carousel c.close-catalogue.ensures.weights c.entries.ensures.history c.close-catalogue.ensures.seen c.close-catalogue.ensures.owned
