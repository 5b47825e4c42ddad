use Rattle.shell_words.proofs.Naming.{each_begins}
use Rattle.shell_words.proofs.values.paths.Goals as goal

pub loop-word-init : goal.loop-word-init
loop-word-init c = rw c.new-paths.ensures.items (each_begins _)
