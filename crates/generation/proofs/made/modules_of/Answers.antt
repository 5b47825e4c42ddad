use Rattle.std.proofs.Common.{◌≡◌, ◌≤◌, length, sym, ◌∙◌, ap, map, arith, rules}
use Rattle.generation.proofs.Words.{all_unmap, MOST_TOTAL_SIZE, option_map, All-push, module_if_used, objects_in, view_listed, IsMarked}
use Rattle.generation.proofs.Filling.{fine_as, lines_of_fine, ids_more, ids_same, all_ids}
use Rattle.generation.proofs.made.modules_of.Goals as goal
use Rattle.generation.proofs.made.modules_of.Goals.{in-Some+in_ok-push, in_default}

pub loop-below-preserved : goal.loop-below-preserved
loop-below-preserved c =
    let f = module_if_used c.args.carousel (objects_in c.args.objects.now) in
    let marked = IsMarked (map view_listed c.args.before.now) in
    elim c.match-branch-2.branch [
      | in-Some+in_ok-push w ↦ record {
        layout = rw (w.modules-is, w.in_ok-push.ensures.items) (ids_more f view_listed c.loop-below.below c.loop-below.modules.items w.in-Some.listed c.loop-below.invariant.layout (ap (option_map view_listed) (sym w.in-Some.is) ∙ c.in_ok-listed.ensures.listed));
        marked = rw (w.modules-is, w.in_ok-push.ensures.items) (All-push marked c.loop-below.modules.items w.in-Some.listed c.loop-below.invariant.marked (rw w.in-Some.is at c.in_ok-listed.ensures.stays));
      }
      | in_default w ↦ record {
        layout = rw w.modules-is (ids_same f view_listed c.loop-below.below c.loop-below.modules.items c.loop-below.invariant.layout (ap (option_map view_listed) (sym w.in_default.is) ∙ c.in_ok-listed.ensures.listed));
        marked = rw w.modules-is c.loop-below.invariant.marked;
      }
    ]

pub returns-clause-layout : goal.returns-clause-layout
returns-clause-layout c =
    let end : c.loop-below.below ≡ c.last_module-below-end.result = omega (arith, c.loop-below.auto.below-end) in
    all_ids c.args.carousel c.args.objects.now c.loop-below.below (map view_listed c.loop-below.modules.items) (end ∙ rw c.deref.ensures.value at c.last_module-below-end.ensures) c.loop-below.invariant.layout

pub returns-clause-rising : goal.returns-clause-rising
returns-clause-rising c = search (rules, (fine_as c.args.carousel c.args.objects.now (map view_listed c.loop-below.modules.items) (returns-clause-layout c) c.requires.ready).form)

pub returns-clause-sizes : goal.returns-clause-sizes
returns-clause-sizes c = all_unmap (λ m. length m.1 ≤ MOST_TOTAL_SIZE) view_listed c.loop-below.modules.items
    (λ k d lt. omega (arith, (fine_as c.args.carousel c.args.objects.now (map view_listed c.loop-below.modules.items) (returns-clause-layout c) c.requires.ready).sizes k d lt))

pub returns-clause-lines : goal.returns-clause-lines
returns-clause-lines c = lines_of_fine (map view_listed c.loop-below.modules.items) (fine_as c.args.carousel c.args.objects.now (map view_listed c.loop-below.modules.items) (returns-clause-layout c) c.requires.ready)
