use Rattle.std.proofs.Common.{◌≡◌, ◌∷◌, ◌++◌, [], List, length, refl, sym, ap, ◌∙◌, append_assoc, append-nil, arith}
use Rattle.std.specs.Vec.Iter.{into_iter_items}
use Rattle.std.proofs.lemmas.List.{map-append}
use Rattle.mount_table.specs.declared.mount.Mount.{Mount}
use Rattle.shell_words.specs.Values.{Entry}
use Rattle.receiver_commands.specs.Mounts.{mount_of, mounts_in}
use Rattle.receiver_commands.proofs.mounts.listed.Goals as goal

nothing_left : {X : Type 0} (l : List X) → length l ≡ 0 → l ≡ []
nothing_left [] h = refl
nothing_left (x ∷ xs) h = absurd (omega arith)

pub loop-name-preserved : goal.loop-name-preserved
loop-name-preserved c =
    let at = c.loop-name in
    let x : Entry = (c.in-Some.name, c.in-Some.pid) in
    let steps : into_iter_items at.name-iterator ≡ x ∷ into_iter_items c.next.new.self = c.in-Some.ensures.steps.0 in (
      append_assoc at.yielded (x ∷ []) _ ∙ rw (← steps) at.invariant.0,
      c.in_ok-push.ensures.items ∙ ap (λ (ms : List Mount). ms ++ mount_of x ∷ []) at.invariant.1 ∙ sym (map-append mount_of at.yielded (x ∷ [])),
      let was = at.invariant.2 in
          let gone = c.in-Some.ensures.steps.1 in
          let short = ap length steps in
          omega arith,
    )

pub returns : goal.returns
returns c =
    let at = c.loop-name in
    let none = c.in-None.ensures.steps in
    let empty : into_iter_items at.name-iterator ≡ [] = nothing_left _ (sym at.invariant.2 ∙ none.0) in
    let all = sym (append-nil at.yielded) ∙ rw empty at at.invariant.0 ∙ c.into_iter-name-iterator.ensures.into_iter_gives.0 in
    at.invariant.1 ∙ ap mounts_in all
