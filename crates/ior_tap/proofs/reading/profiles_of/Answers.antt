use Rattle.std.proofs.Common.{◌≡◌, ◌++◌, ◌∷◌, [], map}
use Rattle.std.proofs.lemmas.Result.{err_from_is_err_and}
use Rattle.std.proofs.lemmas.List.{map_push}
use Rattle.ior_tap.specs.Iors.{view_profile, cause}
use Rattle.ior_tap.specs.Inner.IorReading.{profile_at}
use Rattle.oc_bytes.specs.Cursor.{each_at}
use Rattle.oc_bytes.proofs.CallerLemmas.{begins, goes_on, ends, is_done}
use Rattle.ior_tap.proofs.reading.profiles_of.Goals as goal

pub loop-init : goal.loop-init
loop-init c = rw c.new-profiles.ensures.items (begins profile_at c.args.count c.args.fields.now)

pub returns-in_err-profile-clause-exact : goal.returns-in_err-profile-clause-exact
returns-in_err-profile-clause-exact c =
    let p = err_from_is_err_and c.from_residual.result c.from_residual.ensures.1 in
    rw (p.1, p.2) (ends profile_at (cause c.in_err-profile.field-0.0) (map view_profile c.loop.profiles.items) c.args.count c.loop.counter c.loop.fields (each_at profile_at c.args.count c.args.fields.now) c.loop-test.true c.in_err-profile.ensures c.loop.invariant)

pub loop-preserved : goal.loop-preserved
loop-preserved c =
    let t = c.in_ok-profile.profile in
    let e : map view_profile c.push.new.self.items ≡ map view_profile c.loop.profiles.items ++ view_profile t ∷ [] = rw c.in_ok-push.ensures.items (map_push view_profile c.loop.profiles.items t) in
    rw e (goes_on profile_at (map view_profile c.loop.profiles.items) c.args.count c.loop.counter c.loop.fields c.profile_of.new.fields (view_profile t) (each_at profile_at c.args.count c.args.fields.now) c.loop-test.true c.in_ok-profile.ensures c.loop.invariant)

pub returns-clause-exact : goal.returns-clause-exact
returns-clause-exact c = is_done profile_at (map view_profile c.loop.profiles.items) c.args.count c.loop.counter c.loop.fields (each_at profile_at c.args.count c.args.fields.now) c.loop-test.false c.loop.invariant
