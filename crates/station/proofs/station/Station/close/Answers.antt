use Rattle.std.proofs.Common.{sym, ap, ◌∙◌, subst}
use Rattle.generation_catalogue.specs.History.{CatalogueState}
use Rattle.station.proofs.Closing.{closed_carousel, closed_weights, closed_seen, closed_owned}
use Rattle.history_lock.specs.History.{Begins, Each, once_within}
use Rattle.station.specs.Passes.{entries_seen, owners_of}
use Rattle.std.proofs.Common.{◌≡◌, ℕ, length}
use Rattle.station.proofs.station.Station.close.Goals as goal

pub of-requires : goal.of-requires
of-requires g c = sym (closed_weights c.args.self.lock c.args.self.opened c.close-journal.result.journal c.close-journal.ensures.opening ∙ c.args.self.weighed)

pub returns-clause-carousel : goal.returns-clause-carousel
returns-clause-carousel g c =
    ap (λ (s : CatalogueState). s.carousel) c.of.ensures
    ∙ closed_carousel c.args.self.lock c.args.self.opened c.close-journal.result.journal c.close-journal.ensures.opening

pub returns-clause-weights : goal.returns-clause-weights
returns-clause-weights g c =
    ap (λ (s : CatalogueState). s.weights) c.of.ensures
    ∙ closed_weights c.args.self.lock c.args.self.opened c.close-journal.result.journal c.close-journal.ensures.opening
    ∙ c.args.self.weighed

pub returns-clause-seen : goal.returns-clause-seen
returns-clause-seen g c =
    subst (λ (s : CatalogueState). Each (λ p. Begins (entries_seen p) s.entries) c.args.passes.items) (sym c.of.ensures)
    (closed_seen c.args.self.lock c.args.self.opened c.close-journal.result.journal c.args.passes.items c.close-journal.ensures.seen)

pub returns-clause-owned : goal.returns-clause-owned
returns-clause-owned g c =
    subst (λ (s : CatalogueState). (place : ℕ) → owners_of place c.args.passes.items ≡ once_within 0 (length s.entries) place) (sym c.of.ensures)
    (closed_owned c.args.self.lock c.args.self.opened c.close-journal.result.journal c.args.passes.items c.close-journal.ensures.owned)
