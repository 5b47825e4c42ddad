use Rattle.std.proofs.Common.{List, ◌==◌, sym, ap, ◌∙◌}
use Rattle.std.specs.List.{list_any}
use Rattle.psi_tables.specs.declared.followed.Followed.{Followed}
use Rattle.psi_tables.proofs.Following.{none_hears}
use Rattle.psi_tables.proofs.directory.Directory.feed.Goals as goal

pub returns-then-not-is_followed-clause-followed : goal.returns-then-not-is_followed-clause-followed
returns-then-not-is_followed-clause-followed c =
    let old = c.args.self.now in
    none_hears old.carousel c.args.pid c.args.packet.now old.followed.items c.requires
    (ap (λ (fs : List Followed). list_any (λ f. f.pid == c.args.pid) fs) (sym c.deref.ensures.value) ∙ sym c.is_followed.ensures ∙ c.if-not-is_followed.true)
