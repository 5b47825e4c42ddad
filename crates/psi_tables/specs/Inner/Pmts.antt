-- A stream as the code has it, as its fields.
use Rattle.psi_tables.specs.declared.pmt.Stream as code
use Rattle.psi_tables.specs.Pmts.{Stream}

abbrev pub view_stream : code.Stream → Stream
view_stream s = record { kind = s.kind; pid = s.pid; info = s.info.now }
