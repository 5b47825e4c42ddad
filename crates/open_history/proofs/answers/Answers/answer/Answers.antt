use Rattle.std.proofs.Common.{ap, ◌∙◌}
use Rattle.path_tree.specs.Texts.{path_of}
use Rattle.path_resolver.specs.Shots.{held_of}
use Rattle.open_history.proofs.answers.Answers.answer.Goals as goal

pub returns-in-Some-clause-answer : goal.returns-in-Some-clause-answer
returns-in-Some-clause-answer c = c.in-Some.ensures.found (held_of c.args.shot.now) c.args.path.now c.requires (ap path_of c.as_str.ensures.value ∙ c.in-Ok.ensures.parses)

pub returns-in-Some-clause-kept : goal.returns-in-Some-clause-kept
returns-in-Some-clause-kept c = c.find.ensures.kept (held_of c.args.shot.now) c.requires

pub returns-in_err-answer-clause-kept : goal.returns-in_err-answer-clause-kept
returns-in_err-answer-clause-kept c = c.find.ensures.kept (held_of c.args.shot.now) c.requires

pub returns-clause-kept : goal.returns-clause-kept
returns-clause-kept c = c.keep.ensures.kept (held_of c.args.shot.now) c.args.path.now (c.find.ensures.kept (held_of c.args.shot.now) c.requires) c.in-Ok.ensures.parses c.in_ok-answer.ensures.answer
