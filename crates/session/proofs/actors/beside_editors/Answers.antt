use Rattle.session.proofs.Words.{rules, ℕ, ◌<◌, List, length, slice_index_or, subst, EditorSeat, DidEdit}
use Rattle.session.proofs.actors.beside_editors.Goals as goal

pub returns-clause-editors : goal.returns-clause-editors
returns-clause-editors g c = let old = c.args.editors.now in
    let Did : List EditorSeat → Type 0 = λ new. (i : ℕ) (d : EditorSeat) → i < length old → DidEdit c.args.station.now (slice_index_or old i d) (slice_index_or new i d) in
    subst Did {x = c.join_mut.new.f.4.now} (search rules) c.join_mut.ensures.0.met.1
