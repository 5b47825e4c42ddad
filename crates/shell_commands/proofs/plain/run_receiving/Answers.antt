use Rattle.std.proofs.Common.{refl}
use Rattle.std.proofs.lemmas.Bool.{true≢false}
use Rattle.watch_desk.specs.Prefixes.{prefixes_of}
use Rattle.shell_commands.proofs.Dispatching.{declined}
use Rattle.shell_commands.proofs.plain.run_receiving.Goals as goal

pub returns-in-Assemble-clause-promises : goal.returns-in-Assemble-clause-promises
returns-in-Assemble-clause-promises g c = rw c.in-Assemble.is (λ other. c.assemble.ensures.assembles)

pub returns-in-OpenSections-clause-promises : goal.returns-in-OpenSections-clause-promises
returns-in-OpenSections-clause-promises g c = rw (c.in-OpenSections.is, ← c.deref.ensures.value) (λ other. c.open.ensures.answers)

pub returns-in-Open-clause-promises : goal.returns-in-Open-clause-promises
returns-in-Open-clause-promises g c = rw (c.in-Open.is, ← c.deref-in-Open.ensures.value) (λ other. c.open-in-Open.ensures.answers)

pub returns-in-OpenId-clause-promises : goal.returns-in-OpenId-clause-promises
returns-in-OpenId-clause-promises g c = rw (c.in-OpenId.is, ← c.deref-in-OpenId.ensures.value) (λ other. c.open_id.ensures.opens)

pub returns-in-List-clause-promises : goal.returns-in-List-clause-promises
returns-in-List-clause-promises g c = rw c.in-List.is (λ other. c.list.ensures.answers)

pub returns-in-Record-clause-promises : goal.returns-in-Record-clause-promises
returns-in-Record-clause-promises g c = rw c.in-Record.is (λ other. c.record.ensures.records)

pub returns-in-Find-clause-promises : goal.returns-in-Find-clause-promises
returns-in-Find-clause-promises g c = rw c.in-Find.is (λ other. c.find.ensures.finds)

pub returns-in-Mounts-clause-promises : goal.returns-in-Mounts-clause-promises
returns-in-Mounts-clause-promises g c = rw (c.in-Mounts.is, ← c.deref-in-Mounts.ensures.value) (λ other. c.mounts.ensures.serves)

pub returns-in-Watch-clause-promises : goal.returns-in-Watch-clause-promises
returns-in-Watch-clause-promises g c = rw (c.in-Watch.is, ← c.deref-in-Watch.ensures.value) (λ other. c.watch.ensures.watches)

pub watch-requires-clause-few : goal.watch-requires-clause-few
watch-requires-clause-few g c = rw c.deref-in-Watch.ensures.value ((rw c.in-Watch.is at c.requires.sized).1)

pub returns-in-Inspect-clause-promises : goal.returns-in-Inspect-clause-promises
returns-in-Inspect-clause-promises g c = rw c.in-Inspect.is (λ other. c.inspect.ensures.inspects)

pub returns-in-Extract-clause-promises : goal.returns-in-Extract-clause-promises
returns-in-Extract-clause-promises g c = rw (c.in-Extract.is, ← c.as_str.ensures.value) (λ other. c.extract.ensures.extracts)

pub returns-in-Extract-clause-stored : goal.returns-in-Extract-clause-stored
returns-in-Extract-clause-stored g c = rw c.in-Extract.is (λ none. absurd (true≢false none))

pub returns-in-Why-clause-promises : goal.returns-in-Why-clause-promises
returns-in-Why-clause-promises g c = rw c.in-Why.is (λ other. record { unread = refl; keeps = c.why.ensures.says })

pub returns-in_default-clause-promises : goal.returns-in_default-clause-promises
returns-in_default-clause-promises g c other =
    let d = c.in_default in
    declined (prefixes_of c.args.filters.items) _ _ _ refl refl c.args.command other
    d.not-Assemble d.not-OpenSections d.not-Open d.not-OpenId d.not-List d.not-Record d.not-Find d.not-Mounts d.not-Watch d.not-Inspect d.not-Extract d.not-Why

pub returns-in-Assemble-clause-declines : goal.returns-in-Assemble-clause-declines
returns-in-Assemble-clause-declines g c = rw c.in-Assemble.is (λ none. absurd (true≢false none))

pub returns-in-OpenSections-clause-declines : goal.returns-in-OpenSections-clause-declines
returns-in-OpenSections-clause-declines g c = rw c.in-OpenSections.is (λ none. absurd (true≢false none))

pub returns-in-Open-clause-declines : goal.returns-in-Open-clause-declines
returns-in-Open-clause-declines g c = rw c.in-Open.is (λ none. absurd (true≢false none))

pub returns-in-OpenId-clause-declines : goal.returns-in-OpenId-clause-declines
returns-in-OpenId-clause-declines g c = rw c.in-OpenId.is (λ none. absurd (true≢false none))

pub returns-in-List-clause-declines : goal.returns-in-List-clause-declines
returns-in-List-clause-declines g c = rw c.in-List.is (λ none. absurd (true≢false none))

pub returns-in-Record-clause-declines : goal.returns-in-Record-clause-declines
returns-in-Record-clause-declines g c = rw c.in-Record.is (λ none. absurd (true≢false none))

pub returns-in-Find-clause-declines : goal.returns-in-Find-clause-declines
returns-in-Find-clause-declines g c = rw c.in-Find.is (λ none. absurd (true≢false none))

pub returns-in-Mounts-clause-declines : goal.returns-in-Mounts-clause-declines
returns-in-Mounts-clause-declines g c = rw c.in-Mounts.is (λ none. absurd (true≢false none))

pub returns-in-Watch-clause-declines : goal.returns-in-Watch-clause-declines
returns-in-Watch-clause-declines g c = rw c.in-Watch.is (λ none. absurd (true≢false none))

pub returns-in-Inspect-clause-declines : goal.returns-in-Inspect-clause-declines
returns-in-Inspect-clause-declines g c = rw c.in-Inspect.is (λ none. absurd (true≢false none))

pub returns-in-Extract-clause-declines : goal.returns-in-Extract-clause-declines
returns-in-Extract-clause-declines g c = rw c.in-Extract.is (λ none. absurd (true≢false none))

pub returns-in-Why-clause-declines : goal.returns-in-Why-clause-declines
returns-in-Why-clause-declines g c = rw c.in-Why.is (λ none. absurd (true≢false none))

pub returns-in_default-clause-declines : goal.returns-in_default-clause-declines
returns-in_default-clause-declines g c other = (refl, refl, refl)
