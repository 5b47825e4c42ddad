-- The module that is asked for, as the code has it.
use Rattle.receiver_commands.specs.Input.{Asked}
use Rattle.receiver_commands.specs.declared.assemble.Wanted.{Wanted}

abbrev pub asked_of : Wanted → Asked
asked_of m = record { id = m.id; version = m.version; size = m.size; download = m.download }
