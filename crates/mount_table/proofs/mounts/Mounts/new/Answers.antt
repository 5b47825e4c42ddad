use Rattle.std.proofs.Common.{◌≡◌, List, length, None, sym, ap, subst, ◌∙◌}
use Rattle.mount_table.specs.declared.mount.Mount.{Mount}
use Rattle.mount_table.specs.Mounts.{refusal_of, IsTableOf}
use Rattle.mount_table.proofs.Checking.{told}
use Rattle.mount_table.proofs.Hearing.{written_back}
use Rattle.mount_table.proofs.Placing.{table_apart}
use Rattle.mount_table.proofs.mounts.Mounts.new.Goals as goal

pub returns-in-Some-clause-refused : goal.returns-in-Some-clause-refused
returns-in-Some-clause-refused c = told c.args.mounts.items c.in-Some.fault (ap refusal_of (sym c.deref.ensures.value) ∙ sym c.refusal.ensures ∙ c.in-Some.is)

pub places_of-requires : goal.places_of-requires
places_of-requires c =
    let mounts = c.args.mounts in
    let sorted : List Mount = c.sort_by_name.new.mounts in
    let accepted : refusal_of mounts.items ≡ None = ap refusal_of (sym c.deref.ensures.value) ∙ sym c.refusal.ensures ∙ c.in_default.is in
    let kept : length sorted ≡ length mounts.items = c.sort_by_name.auto.mounts ∙ ap (λ (ms : List Mount). length ms) c.deref_mut.ensures.value in
    let back : c.deref-2.result.now ≡ sorted = c.deref-2.ensures.value ∙ written_back mounts.len mounts.items sorted mounts.ok.0 kept in
    let table : IsTableOf mounts.items sorted = subst (λ (ms : List Mount). IsTableOf ms sorted) c.deref_mut.ensures.value c.sort_by_name.ensures in
    table_apart mounts.items c.deref-2.result.now accepted (subst (IsTableOf mounts.items) (sym back) table)
