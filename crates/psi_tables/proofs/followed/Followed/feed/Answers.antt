use Rattle.std.proofs.Common.{List, [], ◌∷◌, ◌++◌, map, sym, ap, subst, ◌∙◌}
use Rattle.section_stream.specs.Cuts.{Bytes}
use Rattle.section_stream.specs.Kept.{view_bytes}
use Rattle.section_stream.specs.Rules.{DemuxState}
use Rattle.psi_tables.specs.Receiving.{HeardOn}
use Rattle.psi_tables.specs.Stands.{view_followed}
use Rattle.psi_tables.specs.Inner.Steps.{after_pmts}
use Rattle.psi_tables.proofs.Programs.{hears_more, hears_still}
use Rattle.psi_tables.proofs.Hearing.{heard_more, cuts_more, other_pid, own_pid}
use Rattle.psi_tables.proofs.followed.Followed.feed.Goals as goal

pub returns-then-pid-self-clause-hears : goal.returns-then-pid-self-clause-hears
returns-then-pid-self-clause-hears c =
    let old = c.args.self.now in
    hears_still c.args.carousel (view_followed old) c.args.packet.now (other_pid old.pid c.args.pid c.args.packet.now c.requires c.if-pid-self.true)

pub returns-clause-hears : goal.returns-clause-hears
returns-clause-hears c =
    let old = c.args.self.now in
    let x = c.args.packet.now in
    let new = map view_bytes c.in_ok-sections.sections.items in
    let mine = own_pid old.pid c.args.pid x c.requires c.if-pid-self.false in
    let heard : (packets : List Bytes) → HeardOn old.pid old.demux packets → HeardOn old.pid c.take_all.new.self.demux (packets ++ x ∷ []) = λ packets h.
    subst (λ (d : DemuxState). HeardOn old.pid d (packets ++ x ∷ [])) (sym c.take_all.ensures.demux)
    (heard_more old.pid old.demux c.feed.new.self x mine c.in_ok-sections.ensures.pid c.in_ok-sections.ensures.stands packets h) in
    hears_more c.args.carousel (view_followed old) (view_followed c.take_all.new.self) x new heard (cuts_more old.pid old.demux x new mine c.in_ok-sections.ensures.cuts) c.take_all.ensures.pid
    (c.in_ok-take_all.ensures.programs ∙ ap (λ xs. after_pmts c.args.carousel old.programs.items (map view_bytes xs)) c.deref.ensures.value)
