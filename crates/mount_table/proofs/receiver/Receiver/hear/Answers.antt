use Rattle.std.proofs.Common.{◌≡◌, ◌==◌, ℕ, true, length, map, refl, sym, ap, ◌∙◌, arith}
use Rattle.std.proofs.lemmas.Result.{on_ok_weaker}
use Rattle.section_stream.specs.Kept.{view_bytes}
use Rattle.mount_table.specs.declared.receiver.Receiver.{Receiver}
use Rattle.mount_table.proofs.Hearing.{hears, hears_none, grows_in_demux, grows_in_tuner, own_pid}
use Rattle.mount_table.proofs.receiver.Receiver.hear.Goals as goal

pub returns-in_err-sections-clause-memory : goal.returns-in_err-sections-clause-memory
returns-in_err-sections-clause-memory c = λ e packets h.
    let r = c.args.self.now in
    grows_in_demux c.args.packet.now r (own_pid r.mount.pid c.args.packet.now c.requires) c.in_err-sections.ensures.completes packets h

pub returns-then-is_empty-clause-receives : goal.returns-then-is_empty-clause-receives
returns-then-is_empty-clause-receives c =
    let r = c.args.self.now in
    let sections = c.in_ok-sections.sections.items in
    let s : Receiver = record { mount = r.mount; demux = c.feed.new.self; tuner = r.tuner } in
    let none : (length sections == 0) ≡ true = ap (λ (n : ℕ). n == 0) (sym c.in_ok-sections.sections.ok.0) ∙ sym c.is_empty.ensures ∙ c.if-is_empty.true in
    hears c.args.packet.now (map view_bytes sections) r s (own_pid r.mount.pid c.args.packet.now c.requires) refl c.in_ok-sections.ensures.pid
    c.in_ok-sections.ensures.stands c.in_ok-sections.ensures.cuts (hears_none view_bytes sections r.tuner none)

pub returns-clause-receives : goal.returns-clause-receives
returns-clause-receives c =
    let r = c.args.self.now in
    let sections = c.in_ok-sections.sections.items in
    let s : Receiver = record { mount = r.mount; demux = c.feed.new.self; tuner = c.hear_all.new.tuner } in
    on_ok_weaker c.hear_all.result (λ k.
    hears c.args.packet.now (map view_bytes sections) r s (own_pid r.mount.pid c.args.packet.now c.requires) refl c.in_ok-sections.ensures.pid
    c.in_ok-sections.ensures.stands c.in_ok-sections.ensures.cuts k) c.hear_all.ensures.stands

pub returns-clause-memory : goal.returns-clause-memory
returns-clause-memory c = λ e packets h.
    let r = c.args.self.now in
    let sections = c.in_ok-sections.sections.items in
    let some = c.hear_all.ensures.some e in
    grows_in_tuner c.args.packet.now view_bytes sections r (own_pid r.mount.pid c.args.packet.now c.requires) (omega arith)
    c.in_ok-sections.ensures.cuts packets h
