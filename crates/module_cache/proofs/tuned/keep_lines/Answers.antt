use Rattle.std.proofs.Common.{◌≡◌, ◌∷◌, [], List, length, refl, sym, ap, ◌∙◌, append_assoc, append-nil, arith}
use Rattle.std.specs.List.{fold}
use Rattle.std.specs.Vec.Iter.{into_iter_items}
use Rattle.std.proofs.lemmas.List.Sums.{fold-append}
use Rattle.module_cache.specs.Inner.Keeping.{lines_keeping}
use Rattle.module_cache.proofs.tuned.keep_lines.Goals as goal

nothing_left : {X : Type 0} (l : List X) → length l ≡ 0 → l ≡ []
nothing_left [] h = refl
nothing_left (x ∷ xs) h = absurd (omega arith)

pub loop-line-preserved : goal.loop-line-preserved
loop-line-preserved c =
    let at = c.loop-line in
    let x = c.in-Some.line in
    let steps : into_iter_items at.line-iterator ≡ x ∷ into_iter_items c.next.new.self = c.in-Some.ensures.steps.0 in (
      append_assoc at.yielded (x ∷ []) _ ∙ rw (← steps) at.invariant.0,
      c.keep_in.ensures ∙ ap (λ ls. lines_keeping ls x) at.invariant.1 ∙ sym (fold-append lines_keeping c.args.lines.now at.yielded (x ∷ [])),
      let was = at.invariant.2 in
          let gone = c.in-Some.ensures.steps.1 in
          let short = ap length steps in
          omega arith,
    )

pub returns : goal.returns
returns c =
    let at = c.loop-line in
    let none = c.in-None.ensures.steps in
    let empty : into_iter_items at.line-iterator ≡ [] = nothing_left _ (sym at.invariant.2 ∙ none.0) in
    let all = sym (append-nil at.yielded) ∙ rw empty at at.invariant.0 ∙ c.into_iter-line-iterator.ensures.into_iter_gives.0 in
    at.invariant.1 ∙ ap (fold lines_keeping c.args.lines.now) all
