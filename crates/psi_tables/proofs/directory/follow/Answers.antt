use Rattle.std.proofs.Common.{List, refl, sym, ap, ◌∙◌}
use Rattle.section_stream.specs.Rules.{DemuxState}
use Rattle.psi_tables.specs.declared.followed.Followed.{Followed}
use Rattle.psi_tables.specs.Inner.Steps.{becomes_followed}
use Rattle.psi_tables.proofs.Following.{not_wanted, is_wanted}
use Rattle.psi_tables.proofs.directory.follow.Goals as goal

pub returns-then-not-is_wanted : goal.returns-then-not-is_wanted
returns-then-not-is_wanted c =
    not_wanted c.args.followed.now.items c.args.line (ap (λ (fs : List Followed). becomes_followed fs c.args.line) (sym c.deref.ensures.value) ∙ sym c.is_wanted.ensures ∙ c.if-not-is_wanted.true)

pub returns : goal.returns
returns c =
    let one : Followed = record { pid = c.args.line.pid; demux = c.in_ok-demux.demux; programs = c.new-2.result } in
    is_wanted c.args.followed.now.items c.push.new.self.items c.args.line one
    (ap (λ (fs : List Followed). becomes_followed fs c.args.line) (sym c.deref.ensures.value) ∙ sym c.is_wanted.ensures ∙ c.if-not-is_wanted.false)
    c.in_ok-push.ensures.items refl (ap (λ (d : DemuxState). d.pid) c.in_ok-demux.ensures.fresh) c.in_ok-demux.ensures.stands c.new-2.ensures.items
