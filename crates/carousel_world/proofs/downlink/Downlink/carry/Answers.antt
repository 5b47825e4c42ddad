use Rattle.std.proofs.Common.{map}
use Rattle.std.proofs.lemmas.List.Elements.{All-map}
use Rattle.section_stream.specs.Kept.{view_bytes}
use Rattle.section_stream.specs.Packing.{IsSectionLike}
use Rattle.carousel_world.proofs.Carrying.{carries}
use Rattle.carousel_world.proofs.downlink.Downlink.carry.Goals as goal

pub returns-else-is_err-clause-stands : goal.returns-else-is_err-clause-stands
returns-else-is_err-clause-stands c =
    carries c.send-carried.result c.args.last c.args.self.now c.send-carried.new.self c.args.fates.now c.args.from (map view_bytes c.args.sections.now)
    (All-map IsSectionLike view_bytes c.args.sections.now c.requires.sections) c.send-carried.ensures.mux c.send-carried.ensures.hears
