use Rattle.std.proofs.Common.{ℕ, List, refl, subst}
use Rattle.std.specs.Prelude.{IsOk}
use Rattle.oc_bytes.specs.Numbers.{IsBytes}
use Rattle.oc_bytes.specs.Cursor.{from_start}
use Rattle.oc_bytes.specs.Grammar.{read}
use Rattle.biop_object.specs.Inner.Objects.{framed}
use Rattle.biop_object.proofs.ModuleLaws.{begins_framed, index_reads, index_only}
use Rattle.biop_object.proofs.module.Module.read.Goals as goal

pub returns-in-Ok-clause-reads : goal.returns-in-Ok-clause-reads
returns-in-Ok-clause-reads c = index_reads c.args.bytes.items (subst IsBytes c.deref.ensures.value c.read_index.ensures.fit)

pub returns-in-Ok-clause-only : goal.returns-in-Ok-clause-only
returns-in-Ok-clause-only c = λ objects stop h. index_only c.args.bytes.items objects stop (subst IsBytes c.deref.ensures.value c.read_index.ensures.fit) h

pub returns-in-Err-clause-memory : goal.returns-in-Err-clause-memory
returns-in-Err-clause-memory c = λ h. begins_framed c.args.bytes.items (subst IsBytes c.deref.ensures.value c.read_index.ensures.fit)
    (subst (λ (l : List ℕ). IsOk (read framed (from_start l))) c.deref.ensures.value (c.in-Err.ensures.memory refl))
