use Rattle.session.proofs.Words.{rules, ◌∙◌, List, Shot, IsPrefix, refl, sym, subst, shown_by}
use Rattle.session.proofs.Finale.{may_read, reads_last}
use Rattle.session.proofs.ending.read_last.Goals as goal

pub learn-requires : goal.learn-requires
learn-requires c = let r = c.requires in c.front.ensures.board ∙ r.2.board ∙ sym r.1.board_is

pub read-requires : goal.read-requires
read-requires c = let r = c.requires in (search rules, may_read r.0 (shown_by c.args.shower.now) c.args.seat r.1 r.3 c.learn.new.self c.look.new.self c.learn.ensures.same c.look.ensures.same)

pub returns-clause-reader : goal.returns-clause-reader
returns-clause-reader c = c.read.ensures.same.0 ∙ c.look.ensures.same.0.0 ∙ c.learn.ensures.same.0.0

pub returns-clause-read : goal.returns-clause-read
returns-clause-read c = λ setting done all. reads_last setting (shown_by c.args.shower.now) c.args.seat done all c.learn.new.self c.look.new.self c.learn.ensures.same c.look.ensures.same
    (subst (λ (ss : List Shot). IsPrefix ss c.learn.new.self.told) c.front.ensures.list c.learn.ensures.told.1) c.look.ensures.known c.in_ok-look.ensures.told
    _ c.read.new.seat c.read.ensures refl refl c.if-not-last.false c.opens.ensures.answered
