use Rattle.std.proofs.Common.{◌++◌, ◌∷◌, [], map, refl}
use Rattle.std.proofs.lemmas.Result.{on_ok_weaker}
use Rattle.section_stream.specs.Kept.{view_bytes}
use Rattle.receiver_commands.proofs.Seeking.{hears_on, seeks_its_own}
use Rattle.receiver_commands.proofs.open_id.SeekerPacketListener.hear.Goals as goal

pub returns-in_ok-sections-in-Some : goal.returns-in_ok-sections-in-Some
returns-in_ok-sections-in-Some c = on_ok_weaker c.hear_each.result (λ k start packets h.
    hears_on start.finder.directory.carousel c.args.self.now _ c.in-Some.stream c.feed.new.self packets c.args.packet.now (map view_bytes c.in_ok-sections-in-Some.sections.items)
    c.in-Some.is refl c.in_ok-sections-in-Some.ensures.pid c.in_ok-sections-in-Some.ensures.stands c.in_ok-sections-in-Some.ensures.cuts
    (λ ss s. rw c.deref.ensures.value at (k c.args.self.now.receiver ss s)) h) c.hear_each.ensures

pub returns-in-None : goal.returns-in-None
returns-in-None c = on_ok_weaker c.seek.result (λ k start packets h.
    seeks_its_own start.finder.directory.carousel c.args.self.now c.seek.new.self packets (packets ++ c.args.packet.now ∷ []) c.in-None.is (k packets) h) c.seek.ensures
