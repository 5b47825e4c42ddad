use Rattle.std.proofs.Common.{◌==◌, Bool, sym, ◌∙◌, arith}
use Rattle.psi_tables.specs.declared.followed.Program.{Program}
use Rattle.psi_tables.proofs.Lists.{placed, placed_in, put_behind_in}
use Rattle.psi_tables.proofs.followed.note.Goals as goal

pub index_mut-requires : goal.index_mut-requires
index_mut-requires c =
    let test : Program → Bool = λ e. e.program == c.args.entry.program in
    let p = placed test c.deref.result.now c.in-Some.place (sym c.in-Some.ensures) in omega (arith, p.within, c.deref.ensures.len)

pub returns-in-Some : goal.returns-in-Some
returns-in-Some c =
    let test : Program → Bool = λ e. e.program == c.args.entry.program in
    sym ((placed_in test c.args.programs.now.items c.deref.result.now c.in-Some.place c.deref.ensures.value c.in-Some.ensures).puts c.args.entry)

pub returns-in_ok-push-in-None : goal.returns-in_ok-push-in-None
returns-in_ok-push-in-None c =
    let test : Program → Bool = λ e. e.program == c.args.entry.program in
    c.in_ok-push-in-None.ensures.items ∙ sym (put_behind_in test c.args.programs.now.items c.deref.result.now c.deref.ensures.value c.in-None.ensures c.args.entry)
