use Rattle.std.proofs.Common.{◌≡◌, false, nat_lt, length, drop, refl, arith}
use Rattle.std.proofs.lemmas.Bool.{le-ltb}
use Rattle.std.proofs.lemmas.List.{drop-drop, drop-take, length-drop}
use Rattle.oc_bytes.proofs.fields.Fields.part.Goals as goal

pub returns : goal.returns
returns c =
    let s = c.self.inside in
    let long : nat_lt (length (drop s.place s.bytes.now)) c.args.n ≡ false = le-ltb _ _ (omega (arith, c.self.invariant, c.if-bytes-place.false, length-drop s.place s.bytes.now)) in
    rw (← c.self.view_is, long, drop-take s.place c.args.n s.bytes.now, drop-drop c.args.n s.place s.bytes.now) refl
