use Rattle.ior_tap.proofs.Grammar.{ior_agrees, written_reads, written_again}
use Rattle.ior_tap.proofs.reading.one_reading.Goals as goal

pub returns-clause-agree : goal.returns-clause-agree
returns-clause-agree c = ior_agrees

pub returns-clause-written : goal.returns-clause-written
returns-clause-written c = written_reads

pub returns-clause-again : goal.returns-clause-again
returns-clause-again c = written_again
