-- What stands at the end of what a pass has seen after a call, and what a call that made no entry says of it.
use Rattle.std.proofs.Common.{◌≡◌, ℕ, ◌≤◌, Bool, true, false, cond, drop, List, [], ◌∷◌, ◌++◌, length, sym, ap, ◌∙◌, refl, subst, Result, Ok, Err, IfOk, nat_le, arith}
use Rattle.std.specs.Arc.{arc_value}
use Rattle.std.proofs.lemmas.Bool.Decides.{nat_tests}
use Rattle.std.proofs.lemmas.Bool.{cond-true, cond-false}
use Rattle.std.proofs.lemmas.List.{length-take, length-drop}
use Rattle.history_lock.specs.declared.pass.Pass.{Pass}
use Rattle.path_tree.specs.declared.tree.Edit.{Edit}
use Rattle.generation_catalogue.specs.History.{CatalogueState, is_entered, outcome_of, with_entry, with_commit, draws_of, current_of, cursor_of, cycle_in, count_drawn, items_drawn}
use Rattle.generation_catalogue.specs.Calls.{IsCommitted, IsDrawn, BatchFields, view_batch}
use Rattle.generation_catalogue.specs.declared.entry.Refusal.{Refusal}
use Rattle.generation_catalogue.specs.declared.entry.Entry.TheVariants as entries
use Rattle.generation_catalogue.specs.declared.entry.CommitFault.{CommitFault}
use Rattle.generation_catalogue.specs.declared.entry.CommitFault.TheVariants as commits
use Rattle.generation_catalogue.specs.declared.entry.Batch.{Batch}
use Rattle.generation_catalogue.specs.declared.entry.DrawFault.{DrawFault}
use Rattle.generation_catalogue.specs.declared.entry.DrawFault.TheVariants as draws
use Rattle.station.specs.declared.kept.Kept.{Kept}
use Rattle.station.specs.declared.kept.KeptItem.{KeptItem}
use Rattle.station.specs.Passes.{entries_seen}
use Rattle.station.specs.Calls.{InOneHold, IfAnswered, IfFull, EndsWith}

-- the catalogue after a commit of this outcome
abbrev after_outcome : CatalogueState → ℕ → List Edit → Result ℕ Refusal → CatalogueState
after_outcome c editor edits o = cond (is_entered o) (with_entry c (entries.Commit editor edits o)) c

entered_last : (c : CatalogueState) (editor : ℕ) (edits : List Edit) (o : Result ℕ Refusal) → is_entered o ≡ true → after_outcome c editor edits o ≡ with_entry c (entries.Commit editor edits o)
entered_last c editor edits o h = cond-true _ _ _ h

not_entered : (c : CatalogueState) (editor : ℕ) (edits : List Edit) (o : Result ℕ Refusal) → is_entered o ≡ false → after_outcome c editor edits o ≡ c
not_entered c editor edits o h = cond-false _ _ _ h

module _ (k : ℕ) (ws : List ℕ) (p q : Pass Kept KeptItem) (editor : ℕ) (edits : List Edit) where
  module _ (c d : CatalogueState) (seen : entries_seen q ≡ d.entries) (o : Result ℕ Refusal) (answer : outcome_of c edits ≡ o) (entry : d ≡ with_commit c editor edits) where
    left : d ≡ after_outcome c editor edits o
    left = entry ∙ ap (after_outcome c editor edits) answer

    ends : is_entered o ≡ true → EndsWith (entries_seen q) (entries.Commit editor edits o)
    ends h = (c.entries, seen ∙ ap (λ (s : CatalogueState). s.entries) (left ∙ entered_last c editor edits o h))

    full : c.carousel ≡ k → c.weights ≡ ws → is_entered o ≡ false → outcome_of (record { carousel = k; weights = ws; entries = entries_seen q }) edits ≡ o
    full same weighs h =
        let es : entries_seen q ≡ c.entries = seen ∙ ap (λ (s : CatalogueState). s.entries) (left ∙ not_entered c editor edits o h) in
        (λ i. outcome_of (record { carousel = sym same i; weights = sym weighs i; entries = es i }) edits) ∙ answer

  abbrev Committed : Result ℕ CommitFault → Type 0
  Committed result = InOneHold k ws p q (λ c d. IsCommitted c editor edits result d)

  pub committed_ends : (result : Result ℕ CommitFault) → Committed result → IfAnswered result (λ o. is_entered o ≡ true → EndsWith (entries_seen q) (entries.Commit editor edits o))
  committed_ends (Ok n) h = ends h.before h.after h.seen (Ok n) h.call.answer h.call.entry
  committed_ends (Err (commits.Refused r)) h = ends h.before h.after h.seen (Err r) h.call.answer h.call.entry
  committed_ends (Err commits.NoMemory) h = tt

  pub committed_full : (result : Result ℕ CommitFault) → Committed result → IfAnswered result (λ o. is_entered o ≡ false → outcome_of (record { carousel = k; weights = ws; entries = entries_seen q }) edits ≡ o)
  committed_full (Ok n) h = full h.before h.after h.seen (Ok n) h.call.answer h.call.entry h.same h.weighs
  committed_full (Err (commits.Refused r)) h = full h.before h.after h.seen (Err r) h.call.answer h.call.entry h.same h.weighs
  committed_full (Err commits.NoMemory) h = tt

given : (full : Bool) (m : ℕ) (a b : BatchFields) → cond full (Err m) (Ok a) ≡ Ok b → a ≡ b
given true m a b e = cc
given false m a b e = cc

refused : (full : Bool) (m n : ℕ) (a : BatchFields) → cond full (Err m) (Ok a) ≡ Err n → (full ≡ true) × (n ≡ m)
refused true m n a e = (refl, cc)
refused false m n a e = cc

-- so many items are drawn
count_is : (c : CatalogueState) (n : ℕ) → length (items_drawn c n) ≡ count_drawn c n
count_is c n = let a = length-take (count_drawn c n) (drop (cursor_of c) (cycle_in c)) in let b = length-drop (cursor_of c) (cycle_in c) in omega arith

module _ (k : ℕ) (ws : List ℕ) (p q : Pass Kept KeptItem) (n : ℕ) where
  abbrev Drawn : Result Batch DrawFault → Type 0
  Drawn result = InOneHold k ws p q (λ c d. IsDrawn c n result d)

  pub drawn_ends : (result : Result Batch DrawFault) → Drawn result → IfOk result (λ b. EndsWith (entries_seen q) (entries.Draw n (arc_value b.generation).number b.first (length b.items.items)))
  drawn_ends (Ok b) h =
      let c = h.before in
      let is : record { generation = current_of c; first = cursor_of c; items = items_drawn c n } ≡ view_batch b = given (nat_le 16777216 (draws_of c)) 16777216 _ (view_batch b) h.call.answer in (
        c.entries,
        h.seen ∙ ap (λ (s : CatalogueState). s.entries) h.call.entry
            ∙ (λ i. c.entries ++ entries.Draw n (current_of c).number (cursor_of c) (sym (count_is c n) i) ∷ [])
            ∙ ap (λ (f : BatchFields). c.entries ++ entries.Draw n f.generation.number f.first (length f.items) ∷ []) is,
      )
  drawn_ends (Err fault) h = tt

  pub drawn_full : (result : Result Batch DrawFault) → Drawn result → IfFull result (λ m. (m ≡ 16777216) × (16777216 ≤ draws_of (record { carousel = k; weights = ws; entries = entries_seen q })))
  drawn_full (Ok b) h = tt
  drawn_full (Err draws.NoMemory) h = tt
  drawn_full (Err (draws.DrawsFull m)) h =
      let c = h.before in
      let r = refused (nat_le 16777216 (draws_of c)) 16777216 m _ h.call.answer in
      let es : entries_seen q ≡ c.entries = h.seen ∙ ap (λ (s : CatalogueState). s.entries) h.call.entry in
      let same : draws_of (record { carousel = k; weights = ws; entries = entries_seen q }) ≡ draws_of c = λ i. draws_of (record { carousel = sym h.same i; weights = sym h.weighs i; entries = es i }) in
      (r.1, subst (λ m. 16777216 ≤ m) (sym same) (at_least (draws_of c) r.0))
    where
      at_least : (m : ℕ) → nat_le 16777216 m ≡ true → 16777216 ≤ m
      at_least m e = grind (arith, nat_tests)
