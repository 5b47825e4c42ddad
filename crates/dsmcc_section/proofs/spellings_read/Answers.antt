use Rattle.dsmcc_section.proofs.Readings.{relation_is_read, spelling_reads, spelling_framed}
use Rattle.dsmcc_section.specs.Sections.{spelling}
use Rattle.dsmcc_section.proofs.spellings_read.Goals as goal

pub returns-clause-reads : goal.returns-clause-reads
returns-clause-reads c = spelling_reads

pub returns-clause-framed : goal.returns-clause-framed
returns-clause-framed c = spelling_framed

pub returns-clause-is_read : goal.returns-clause-is_read
returns-clause-is_read c = λ s fits. relation_is_read (spelling s) s (spelling_reads s fits)
