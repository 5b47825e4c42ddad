use Rattle.std.proofs.Common.{◌≡◌, ◌==◌, ℕ, Bool, true, false, not, List, [], ◌∷◌, length, map, refl, sym, ap, subst, ◌∙◌, arith}
use Rattle.std.proofs.lemmas.Bool.{ne_eqb}
use Rattle.std.specs.declared.vec.Vec.{Vec}
use Rattle.std.specs.declared.alloc.Global.{Global}
use Rattle.section_stream.specs.Kept.{view_bytes}
use Rattle.psi_tables.specs.Stands.{FinderState, view_directory}
use Rattle.psi_tables.specs.Inner.Steps.{TablesHeard}
use Rattle.psi_tables.proofs.Hearing.{heard_more, cuts_more, other_pid, own_pid}
use Rattle.psi_tables.proofs.Keeping.{Takes}
use Rattle.psi_tables.proofs.Stepping.{tables_unheard}
use Rattle.psi_tables.proofs.finder.Finder.hear_tables.Goals as goal

pub returns-then-pid-ne-PAT_PID-clause-heard : goal.returns-then-pid-ne-PAT_PID-clause-heard
returns-then-pid-ne-PAT_PID-clause-heard c = tables_unheard c.args.self.now c.args.packet.now (other_pid 0 c.args.pid c.args.packet.now c.requires c.if-pid-ne-PAT_PID.true)

none_completed : (b : Bool) (xs : List (Vec ℕ Global)) → b ≡ (length xs == 0) → not b ≡ false → map view_bytes xs ≡ []
none_completed b [] e f = refl
none_completed true (x ∷ xs) e f = let some : (length (x ∷ xs) == 0) ≡ false = ne_eqb (length (x ∷ xs)) 0 (λ s. omega (arith, s)) in absurd (cc (e, some))
none_completed false (x ∷ xs) e f = cc

pub returns-clause-heard : goal.returns-clause-heard
returns-clause-heard c =
    let old = c.self.inside in
    let x = c.args.packet.now in
    let sections = c.in_ok-sections.sections.items in
    let new = map view_bytes sections in
    let mine = own_pid 0 c.args.pid x c.requires c.if-pid-ne-PAT_PID.false in
    let after : FinderState = record { tables = c.feed.new.self; directory = view_directory c.take_all.new.self; found = old.found; spent = old.spent } in
    subst (λ (f : FinderState). TablesHeard x (not c.is_empty.result) f after) c.self.view_is (record {
      new = new;
      tables = heard_more 0 old.tables c.feed.new.self x mine c.in_ok-sections.ensures.pid c.in_ok-sections.ensures.stands;
      cuts = cuts_more 0 old.tables x new mine c.in_ok-sections.ensures.cuts;
      takes = subst (λ (ss : List (Vec ℕ Global)). Takes old.directory c.take_all.new.self (map view_bytes ss)) c.deref.ensures.value c.in_ok-take_all.ensures.keeps;
      carousel = c.take_all.ensures.carousel;
      found = refl;
      quiet = none_completed c.is_empty.result sections (c.is_empty.ensures ∙ ap (λ (n : ℕ). n == 0) (sym c.deref.ensures.len ∙ ap length c.deref.ensures.value));
    })
