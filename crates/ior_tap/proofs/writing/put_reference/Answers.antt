use Rattle.std.proofs.Common.{◌≡◌, ◌++◌, List, ℕ, subst}
use Rattle.std.specs.Prelude.{OnOk}
use Rattle.ior_tap.proofs.Grammar.{put_is}
use Rattle.ior_tap.proofs.writing.put_reference.Goals as goal

pub returns-clause-put : goal.returns-clause-put
returns-clause-put c =
    let put = rw (c.to_be_bytes.ensures, c.to_be_bytes-2.ensures, c.to_be_bytes-3.ensures, c.to_be_bytes-4.ensures, c.to_be_bytes-5.ensures, c.to_be_bytes-6.ensures, c.to_be_bytes-7.ensures, c.to_be_bytes-8.ensures, c.to_be_bytes-9.ensures, c.to_be_bytes-10.ensures, c.delivery_of_module.ensures, c.bytes.ensures.value) at c.put_each.ensures.ok in
    subst (λ (s : List ℕ). OnOk c.put_each.result (c.put_each.new.self ≡ c.args.out.now ++ s)) (put_is c.args.kind.now c.args.location.now c.requires.key) put
