use Rattle.oc_bytes.proofs.CallerLemmas.{read_here, stops_here}
use Rattle.ior_tap.specs.Iors.{ior}
use Rattle.biop_object.proofs.Places.{cut_moves}
use Rattle.biop_object.proofs.reading.ior_of.Goals as goal

pub returns-in_ok-take-in-Ok : goal.returns-in_ok-take-in-Ok
returns-in_ok-take-in-Ok c =
    rw (cut_moves c.in-Ok.count c.args.fields.now _ (c.in_ok-take-in-Ok.field-0.now, c.take.new.self) c.in_ok-take-in-Ok.ensures.bytes).1
    (read_here ior c.args.fields.now _ _ (rw c.rest.ensures at c.in-Ok.ensures.exact))

pub returns-in_ok-take-in-Err-BadIor : goal.returns-in_ok-take-in-Err-BadIor
returns-in_ok-take-in-Err-BadIor c =
    let said = rw c.in-Err-BadIor.field-0-is at c.in-Err-BadIor.ensures.exact in
    rw (c.place.ensures, (cut_moves c.in-Err-BadIor.place c.args.fields.now _ (c.in_ok-take-in-Err-BadIor.field-0.now, c.take-in-Err-BadIor.new.self) c.in_ok-take-in-Err-BadIor.ensures.bytes).1)
    (stops_here ior c.args.fields.now _ (rw c.rest.ensures at said))
