-- The listener that gathers one module.
use Rattle.std.specs.Prelude.{◌≡◌, List}
use Rattle.shell_streams.specs.Cuts.{Bytes}
use Rattle.receiver_commands.specs.Gathering.{asked_of}
use Rattle.receiver_commands.specs.Inner.Gathering.{HasBlocks}
use Rattle.receiver_commands.specs.declared.assemble.Gatherer.{Gatherer}

-- since it began, it was offered the blocks of these sections
pub record Gathers (start now : Gatherer) (sections : List Bytes) : Type 0 where
  pub same : now.wanted ≡ start.wanted
  pub blocks : HasBlocks (asked_of start.wanted) now.assembler sections
