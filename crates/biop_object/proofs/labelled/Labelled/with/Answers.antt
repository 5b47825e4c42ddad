use Rattle.std.proofs.Common.{◌≡◌, ◌++◌, ◌∷◌, [], map, sym, ◌∙◌}
use Rattle.std.proofs.lemmas.List.{map_push, length-map}
use Rattle.biop_object.proofs.Finding.{known_name, new_name}
use Rattle.biop_object.proofs.labelled.Labelled.with.Goals as goal
use Rattle.biop_object.proofs.labelled.Labelled.with.Goals.{then-not-contains_key+in_ok-label+in_ok-insert, else-not-contains_key}

pub invariant_of-result : goal.invariant_of-result
invariant_of-result g c =
    let names = map g.T.HasLabel.label c.self.inside.items.items in
    let e : map g.T.HasLabel.label c.push.new.self.items ≡ names ++ c.label.result.now ∷ [] = rw (c.in_ok-push.ensures.items, c.label.ensures) (map_push g.T.HasLabel.label c.self.inside.items.items c.args.item) in
    rw e (elim c.if-not-contains_key.branch [
      | then-not-contains_key+in_ok-label+in_ok-insert w ↦ rw w.firsts-is (new_name names c.label.result.now c.self.inside.firsts w.insert.new.self w.in_ok-label.label w.len.result c.self.invariant (w.in_ok-label.ensures.items ∙ w.label-then-not-contains_key.ensures ∙ sym c.label.ensures) (w.len.ensures ∙ c.self.inside.items.ok.0 ∙ sym (length-map c.self.inside.items.items g.T.HasLabel.label)) (sym c.contains_key.ensures ∙ w.if-not-contains_key.true) w.in_ok-insert.ensures.updates)
      | else-not-contains_key w ↦ rw w.firsts-is (known_name names c.label.result.now c.self.inside.firsts c.self.invariant (sym c.contains_key.ensures ∙ w.if-not-contains_key.false))
    ])
