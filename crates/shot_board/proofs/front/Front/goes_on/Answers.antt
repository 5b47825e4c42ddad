use Rattle.std.proofs.Common.{◌<◌, ◌≤◌, ap, subst, arith}
use mathlib.Core.List.{IsPrefix}
use Rattle.std.proofs.lemmas.Bool.Decides.{nat_tests}
use Rattle.shot_board.proofs.Prefixes.{prefix_shorter}
use Rattle.shot_board.proofs.front.Front.goes_on.Goals as goal

pub returns-clause-yes : goal.returns-clause-yes
returns-clause-yes g c = λ e.
    let both = c.learn.new.self.log in
    let this : IsPrefix c.args.self.now.seen.log both = subst (λ l. IsPrefix l both) (ap (λ s. s.log) c.again-both.ensures) c.learn.ensures.2 in
    let le : c.args.other.now.number ≤ c.args.self.now.number = grind (arith, nat_tests) in
    prefix_shorter c.args.other.now.seen.log c.args.self.now.seen.log both c.learn.ensures.3 this (omega (arith, c.args.self.now.counted, c.args.other.now.counted))

pub returns-clause-no : goal.returns-clause-no
returns-clause-no g c = λ e.
    let both = c.learn.new.self.log in
    let this : IsPrefix c.args.self.now.seen.log both = subst (λ l. IsPrefix l both) (ap (λ s. s.log) c.again-both.ensures) c.learn.ensures.2 in
    let le : c.args.self.now.number ≤ c.args.other.now.number = grind (arith, nat_tests) in
    prefix_shorter c.args.self.now.seen.log c.args.other.now.seen.log both this c.learn.ensures.3 (omega (arith, c.args.self.now.counted, c.args.other.now.counted))

pub returns-clause-shorter : goal.returns-clause-shorter
returns-clause-shorter g c = λ e.
    let lt : c.args.self.now.number < c.args.other.now.number = grind (arith, nat_tests) in
    omega (arith, lt, c.args.self.now.counted, c.args.other.now.counted)
