use Rattle.std.proofs.Common.{◌≡◌, []}
use Rattle.path_resolver.specs.Resolving.{answer_of}
use Rattle.path_resolver.specs.Shots.{held_of}
use Rattle.path_listing.proofs.Parts.{root_is, all_listed}
use Rattle.path_listing.proofs.walking.listed_paths.Goals as goal

pub returns-clause-paths : goal.returns-clause-paths
returns-clause-paths c = let none : c.new-paths.result.items ≡ [] = cc in (all_listed (answer_of (held_of c.args.shot.now)) c.in-Ok.root _ _ _ (root_is c.in-Ok.root c.in-Ok.ensures.reads) none c.in_ok-whole.ensures).0

pub returns-clause-whole : goal.returns-clause-whole
returns-clause-whole c = let none : c.new-paths.result.items ≡ [] = cc in (all_listed (answer_of (held_of c.args.shot.now)) c.in-Ok.root _ _ _ (root_is c.in-Ok.root c.in-Ok.ensures.reads) none c.in_ok-whole.ensures).1
