use Rattle.std.proofs.Common.{refl, sym, ap, ◌∙◌, ◌++◌, ◌∷◌, []}
use Rattle.section_stream.specs.Rules as streams
use Rattle.psi_tables.specs.Finding.{found_in}
use Rattle.receiver_commands.proofs.Seeking.{not_at, seeks_on, finds_now}
use Rattle.receiver_commands.proofs.open_id.Seeker.seek.Goals as goal

pub returns-in_ok-stream : goal.returns-in_ok-stream
returns-in_ok-stream c = λ packets h.
    let p = c.args.packet.now in
    finds_now c.args.self.now.finder.directory.carousel c.args.self.now _ c.in_ok-stream.stream c.in-At.pid packets p c.feed.new.self c.requires refl refl
    (ap (λ (d : streams.DemuxState). d.pid) c.in_ok-stream.ensures.fresh) c.in_ok-stream.ensures.stands (c.in_ok-feed.ensures.stands packets)
    (λ s. sym c.in-At.is ∙ c.find.ensures (packets ++ p ∷ []) s ∙ ap (λ k. found_in k (packets ++ p ∷ [])) c.in_ok-feed.ensures.carousel) h

pub returns-in_default : goal.returns-in_default
returns-in_default c = λ packets h.
    let p = c.args.packet.now in
    seeks_on c.args.self.now.finder.directory.carousel c.args.self.now _ packets p c.requires refl refl c.in_ok-feed.ensures.carousel (c.in_ok-feed.ensures.stands packets) c.find.result
    (not_at _ c.find.result c.in_default.not-At)
    (λ s. c.find.ensures (packets ++ p ∷ []) s ∙ ap (λ k. found_in k (packets ++ p ∷ [])) c.in_ok-feed.ensures.carousel) h
