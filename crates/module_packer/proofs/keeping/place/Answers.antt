use Rattle.std.proofs.Common.{◌≡◌, ◌-◌, ℕ, List, length, take, drop, lit≤, sym, subst, MatchOption}
use Rattle.module_groups.specs.declared.TheConstants.{GREATEST_ID}
use Rattle.module_packer.specs.Placement.{IsPlacement, fresh}
use Rattle.module_packer.specs.Kept.{kept_modules, sizes_in}
use Rattle.module_packer.proofs.Kept.{kept_is}
use Rattle.module_packer.proofs.Passing.{were_others, stayed_within, started, start_told, kept_from, afresh_is, placed_is}
use Rattle.module_packer.proofs.keeping.place.Goals as goal

pub stay-requires : goal.stay-requires
stay-requires c = were_others GREATEST_ID (length c.args.objects.now - 1) c.args.objects.now c.requires.old

pub numbers-requires : goal.numbers-requires
numbers-requires c =
    let tells = start_told GREATEST_ID c.new-filling.result.sums c.put.new.self.sums c.args.objects.now (lit≤ tt) c.new-filling.ensures c.put.ensures in
    stayed_within GREATEST_ID (take (length c.args.objects.now - 1) (drop 1 c.args.objects.now)) c.in_ok-others.others.items c.deref.result.now (started c.args.objects.now)
    c.deref.ensures.value (c.in_ok-others.ensures.passed (started c.args.objects.now) tells) (were_others GREATEST_ID (length c.args.objects.now - 1) c.args.objects.now c.requires.old)

pub returns-in-Some-clause-kept : goal.returns-in-Some-clause-kept
returns-in-Some-clause-kept c =
    let objects = c.args.objects.now in
    subst (λ a. MatchOption a (fresh (sizes_in objects) ≡ kept_modules GREATEST_ID objects) (λ ms. ms.items ≡ kept_modules GREATEST_ID objects)) c.in-Some.is
    (kept_from GREATEST_ID objects c.in_ok-others.others.items c.deref.result.now c.new-filling.result.sums c.put.new.self.sums c.stay.new.filling.sums c.in_ok-modules.field-0 c.requires.some (lit≤ tt)
    c.new-filling.ensures c.put.ensures c.deref.ensures.value c.in_ok-others.ensures.passed c.in_ok-others.ensures.filled c.in_ok-modules.ensures)

pub returns-in-Some-clause-fits : goal.returns-in-Some-clause-fits
returns-in-Some-clause-fits c = subst (λ (ms : List ℕ). IsPlacement GREATEST_ID (sizes_in c.args.objects.now) ms) (sym (returns-in-Some-clause-kept c)) (kept_is GREATEST_ID c.args.objects.now c.requires)

pub returns-clause-kept : goal.returns-clause-kept
returns-clause-kept c =
    let objects = c.args.objects.now in
    let same : fresh (sizes_in objects) ≡ kept_modules GREATEST_ID objects = subst (λ a. MatchOption a (fresh (sizes_in objects) ≡ kept_modules GREATEST_ID objects) (λ ms. ms.items ≡ kept_modules GREATEST_ID objects)) c.in-None.is
    (kept_from GREATEST_ID objects c.in_ok-others.others.items c.deref.result.now c.new-filling.result.sums c.put.new.self.sums c.stay.new.filling.sums c.in_ok-modules.field-0 c.requires.some (lit≤ tt)
    c.new-filling.ensures c.put.ensures c.deref.ensures.value c.in_ok-others.ensures.passed c.in_ok-others.ensures.filled c.in_ok-modules.ensures) in
    afresh_is c.afresh.result objects (kept_modules GREATEST_ID objects) same c.afresh.ensures

pub returns-clause-fits : goal.returns-clause-fits
returns-clause-fits c = placed_is c.afresh.result c.args.objects.now c.requires (returns-clause-kept c)
