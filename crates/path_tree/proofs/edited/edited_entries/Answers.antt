use Rattle.std.proofs.Common.{◌≡◌, true, false, None, Some, length, map, set, ap, sym, ◌∙◌, subst, arith, rules}
use Rattle.std.proofs.lemmas.Grind.{common_steps}
use Rattle.std.proofs.lemmas.List.{take_all, length-map}
use Rattle.std.proofs.lemmas.Simd.{splat_is_map}
use Rattle.path_tree.specs.Edits.{is_edited, AreAsBefore}
use Rattle.path_tree.specs.Trees.{entry_at}
use Rattle.path_tree.proofs.Flagged.{found_within, one_flagged, none_flagged, as_before}
use Rattle.path_tree.proofs.edited.edited_entries.Goals as goal
use Rattle.path_tree.proofs.edited.edited_entries.Goals.{in-Some, in_default}

pub loop-edit-init : goal.loop-edit-init
loop-edit-init c = c.in_ok-edited.ensures.items_if_clones_equal (λ y same. same) ∙ splat_is_map c.args.tree.now _ false (ap length (sym c.entries-2.ensures.entries))

pub index_mut-requires : goal.index_mut-requires
index_mut-requires c =
    let within = found_within c.args.tree.now c.path.result.now c.in-Some.entry c.in-Some.ensures.found in
    let long : length c.loop-edit.edited.items ≡ length c.args.tree.now = ap length c.loop-edit.invariant ∙ length-map _ _ in
    omega (arith, within, long)

pub loop-edit-preserved : goal.loop-edit-preserved
loop-edit-preserved c =
    let t = c.args.tree.now in
    let edits = c.args.edits.now in
    let i = c.loop-edit.edit-index in
    let e = c.edit-item.result in
    elim c.match-find.branch [
      | in-Some w ↦
          let items : c.match-find.edited.items ≡ set c.loop-edit.edited.items w.in-Some.entry true = first_of (cc, search rules, grind (arith, common_steps)) in
          items ∙ ap (λ flags. set flags w.in-Some.entry true) c.loop-edit.invariant
          ∙ one_flagged t edits i w.in-Some.entry e c.entries.ensures.tree (omega arith) c.edit-item.is (w.in-Some.ensures.found ∙ ap Some c.path.ensures)
      | in_default w ↦
          let none : entry_at t c.path.result.now ≡ None = rw w.in_default.is at c.find.ensures.none in
          ap (λ v. v.items) w.edited-is ∙ c.loop-edit.invariant
          ∙ none_flagged t edits i e (omega arith) c.edit-item.is (ap (entry_at t) (sym c.path.ensures) ∙ none)
    ]

pub returns-clause-as_before : goal.returns-clause-as_before
returns-clause-as_before c =
    let t = c.args.tree.now in
    let edits = c.args.edits.now in
    let flags : c.loop-edit.edited.items ≡ map (λ e. is_edited edits e.0) t = c.loop-edit.invariant ∙ ap (λ es. map (λ e. is_edited es e.0) t) (take_all c.loop-edit.edit-index edits (omega arith)) in
    λ old applied. subst (AreAsBefore old t) (sym flags) (as_before c.others_stay.ensures t edits c.entries.ensures.tree old applied)
