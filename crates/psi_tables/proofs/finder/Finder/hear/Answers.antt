use Rattle.std.proofs.Common.{List, [], ◌∷◌, ◌++◌, refl, sym, ap, subst}
use Rattle.section_stream.specs.Cuts.{Bytes}
use Rattle.psi_tables.specs.Stands.{FinderState, Holds, view_directory}
use Rattle.psi_tables.proofs.Stepping.{holds_step, holds_unheard, heard_on_followed}
use Rattle.psi_tables.proofs.finder.Finder.hear.Goals as goal

pub returns-in_default-clause-holds : goal.returns-in_default-clause-holds
returns-in_default-clause-holds c = holds_unheard c.args.self.now c.args.packet.now (sym c.in_default.ensures)

pub returns-in_err-completed-clause-memory : goal.returns-in_err-completed-clause-memory
returns-in_err-completed-clause-memory c = λ e packets h.
    heard_on_followed c.args.self.now c.self.inside.directory packets c.args.packet.now c.in-Some.pid (sym c.in-Some.ensures) (ap (λ (f : FinderState). f.directory) (sym c.self.view_is))
    (c.in_err-completed.ensures.memory refl) h

pub returns-clause-holds : goal.returns-clause-holds
returns-clause-holds c =
    let old = c.self.inside in
    let new = c.self-2.inside in
    let x = c.args.packet.now in
    let g : FinderState = record { tables = new.tables; directory = view_directory new.directory; found = c.answer-self-inside.result; spent = new.spent } in
    subst (λ (f : FinderState). (packets : List Bytes) → Holds f packets → Holds g (packets ++ x ∷ [])) c.self.view_is
    (holds_step (record { tables = old.tables; directory = view_directory old.directory; found = old.found; spent = old.spent }) g x (record {
      middle = view_directory c.feed.new.self;
      after = c.hear_tables.new.self;
      completed = c.in_ok-completed.completed;
      listed = c.in_ok-listed.listed;
      heard = c.in_ok-completed.ensures.followed;
      carousel = c.feed.ensures.rest.0;
      newest = c.feed.ensures.rest.1;
      sections = c.feed.ensures.rest.2;
      turned = c.in_ok-listed.ensures.heard;
      tables = ap (λ (f : FinderState). f.tables) c.self-2.view_is;
      directory = ap (λ (f : FinderState). f.directory) c.self-2.view_is;
      found = c.answer-self-inside.ensures;
    }))
