use Rattle.std.proofs.Common.{◌≡◌, true, false, sym, arith}
use Rattle.path_resolver.proofs.Alike.{names_apart, names_next, names_differ, names_end}
use Rattle.path_resolver.proofs.comparing.has_same_names.Goals as goal

pub returns-then-count-others : goal.returns-then-count-others
returns-then-count-others c = sym (names_apart c.args.a.now c.args.b.now (λ e. let other = c.if-count-others.true in omega arith))

pub returns-then-not-is_same_name : goal.returns-then-not-is_same_name
returns-then-not-is_same_name c =
    let differ : c.is_same_name.result ≡ false = cc in
    sym (names_differ c.args.a.now c.args.b.now c.loop-i.i c.name-name.result.now c.name-other.result.now c.is_same_name.result _
    c.name-name.ensures c.name-other.ensures c.is_same_name.ensures differ c.loop-i.invariant)

pub loop-i-preserved : goal.loop-i-preserved
loop-i-preserved c =
    let same : c.is_same_name.result ≡ true = cc in
    names_next c.args.a.now c.args.b.now c.loop-i.i c.name-name.result.now c.name-other.result.now c.is_same_name.result _
    c.name-name.ensures c.name-other.ensures c.is_same_name.ensures same c.loop-i.invariant

pub returns : goal.returns
returns c = sym (names_end c.args.a.now c.args.b.now c.loop-i.i _ (omega arith) (omega arith) c.loop-i.invariant)
