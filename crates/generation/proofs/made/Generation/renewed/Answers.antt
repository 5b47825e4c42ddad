use Rattle.std.proofs.Common.{◌≤◌, ◌+◌, sym, subst, ap, ◌∙◌, map, arith, ◌≡◌}
use Rattle.generation.proofs.Words.{All, GenerationState, next_of, lines_in, AreLines, AreAsBefore, objects_after, view_generation, view_listed, view_placed, layout_of, counts_after}
use Rattle.generation.proofs.Lists.{stands_next}
use Rattle.generation.proofs.Counting.{small_counts}
use Rattle.generation.proofs.made.Generation.renewed.Goals as goal

pub modules_that_stay-requires-clause-named : goal.modules_that_stay-requires-clause-named
modules_that_stay-requires-clause-named c =
    rw (c.in_ok-objects.ensures.tree, c.tree.view_is) (subst (λ g. AreAsBefore g.tree c.args.tree c.args.flags.now) (sym c.self.view_is) c.requires.flags)

pub modules_of-requires-clause-before : goal.modules_of-requires-clause-before
modules_of-requires-clause-before c = rw c.deref-2.ensures.value c.self.invariant.rising

pub invariant_of-result : goal.invariant_of-result
invariant_of-result c =
    let lines = c.in_ok-lines.ensures ∙ ap (λ m. lines_in (map view_listed m)) c.deref-6.ensures.value in
    let before = map view_listed c.deref-2.result.now in
    record {
      ready = c.in_ok-objects.ensures.ready;
      layout = c.in_ok-modules.ensures.layout;
      rising = c.in_ok-modules.ensures.rising;
      lines = lines;
      cycle = subst AreLines (sym lines) c.in_ok-modules.ensures.lines;
      number = omega (arith, c.requires.number, ap (λ g. g.number) c.self.view_is);
      counts = subst (All (λ k. k ≤ c.self.inside.number + 1)) (sym (c.in_ok-counts.ensures before (rw c.deref-4.ensures.value c.in_ok-modules.ensures.stays)))
          (small_counts before (map view_listed c.deref-4.result.now) c.deref-5.result.now c.self.inside.number (rw c.deref-5.ensures.value c.self.invariant.counts));
      sizes = c.in_ok-modules.ensures.sizes;
    }

pub returns-clause-exact : goal.returns-clause-exact
returns-clause-exact c =
    let s = view_generation c.self.inside in
    let counts : c.in_ok-counts.counts.items ≡ counts_after s.layout (map view_listed c.in_ok-modules.modules.items) s.counts =
    rw (← c.deref-2.ensures.value, ← c.deref-4.ensures.value, ← c.deref-5.ensures.value) (c.in_ok-counts.ensures (map view_listed c.deref-2.result.now) (rw c.deref-4.ensures.value c.in_ok-modules.ensures.stays)) in
    let objects = c.in_ok-objects.ensures.objects ∙ (λ i. objects_after (map (view_placed c.self.inside.objects.tree) (c.deref.ensures.value i)) (c.tree.view_is i)) in
    let layout = c.in_ok-modules.ensures.layout ∙ ap (layout_of s.carousel) objects in
    let tree = c.in_ok-objects.ensures.tree ∙ c.tree.view_is in
    let now = counts ∙ ap (λ l. counts_after s.layout l s.counts) layout in
    (λ i. let x : GenerationState = record { carousel = s.carousel; number = s.number + 1; tree = tree i; objects = objects i; layout = layout i; counts = now i } in x)
    ∙ ap (λ g. next_of g c.args.tree) c.self.view_is

pub returns-clause-stands : goal.returns-clause-stands
returns-clause-stands c = stands_next c.args.self.now _ c.args.tree (returns-clause-exact c)
