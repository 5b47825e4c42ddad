-- The editors' numbers decide no outcome and no draw.
use Rattle.history_merge.proofs.Words.{◌≡◌, ℕ, ◌+◌, ◌-◌, ◌%◌, min, cond, List, [], ◌∷◌, length, map, drop, take, get_or, Result, Ok, Err, sym, ap, ◌∙◌, refl, ◌==◌, nat_lt, if◌then◌else◌, sum_by, sum_by-cons, Edit, Fate, generation_of, lines_of, trees_after, with_tree, last_tree, drawn_since, put_bytes, put_bytes_of, is_draw, draws_of, current_of, cursor_of, cycle_in, count_drawn, entry_after, unless_edit, CatalogueState, Refusal, Entry, drawing_of, state_of}
use Rattle.oc_bytes.specs.Outcome.{cap_at_u64}
use Rattle.path_tree.specs.Trees.{Tree}
use Rattle.path_tree.specs.Edits.{apply_all}
use Rattle.cycle_planner.specs.Cycle.{cycle_of}
use Rattle.generation_catalogue.specs.declared.entry.Refusal.TheVariants as refusals
use Rattle.generation_catalogue.specs.declared.entry.Entry.TheVariants as entries

-- the entry with its editor's number for its place
abbrev pub numbered : List ℕ → Entry → Entry
numbered editors (entries.Commit editor edits outcome) = entries.Commit (get_or editors editor 0) edits outcome
numbered editors (entries.Draw asked generation first count) = entries.Draw asked generation first count

abbrev outcome_with : ℕ → List Tree → ℕ → List Edit → Result ℕ Refusal
outcome_with carousel trees journal edits = if (generation_of carousel trees).number == 16383 then Err (refusals.SeasonFull 16383)
    else (if nat_lt 536870912 (journal + put_bytes edits) then Err (refusals.JournalFull (cap_at_u64 (journal + put_bytes edits)))
    else unless_edit ((generation_of carousel trees).number + 1) (apply_all (last_tree trees) edits))

module _ (editors : List ℕ) where
  pub trees_same : (ts : List Tree) (es : List Entry) → trees_after ts (map (numbered editors) es) ≡ trees_after ts es
  trees_same ts [] = refl
  trees_same ts (entries.Commit editor edits (Ok number) ∷ es) = trees_same (with_tree ts edits) es
  trees_same ts (entries.Commit editor edits (Err refusal) ∷ es) = trees_same ts es
  trees_same ts (entries.Draw asked generation first count ∷ es) = trees_same ts es

  since_same : (n : ℕ) (es : List Entry) → drawn_since n (map (numbered editors) es) ≡ drawn_since n es
  since_same n [] = refl
  since_same n (entries.Commit editor edits (Ok number) ∷ es) = since_same 0 es
  since_same n (entries.Commit editor edits (Err refusal) ∷ es) = since_same n es
  since_same n (entries.Draw asked generation first count ∷ es) = since_same (n + count) es

  sum_same : (f : Entry → ℕ) → ((e : Entry) → f (numbered editors e) ≡ f e) → (es : List Entry) → sum_by f (map (numbered editors) es) ≡ sum_by f es
  sum_same f same [] = refl
  sum_same f same (e ∷ es) =
      sum_by-cons f (numbered editors e) (map (numbered editors) es) ∙ (λ i. same e i + sum_same f same es i) ∙ sym (sum_by-cons f e es)

  put_same : (e : Entry) → put_bytes_of (numbered editors e) ≡ put_bytes_of e
  put_same (entries.Commit editor edits outcome) = refl
  put_same (entries.Draw asked generation first count) = refl

  draw_same : (e : Entry) → cond {A = ℕ} (is_draw (numbered editors e)) 1 0 ≡ cond {A = ℕ} (is_draw e) 1 0
  draw_same (entries.Commit editor edits outcome) = refl
  draw_same (entries.Draw asked generation first count) = refl

  module _ (carousel : ℕ) (weights : List ℕ) (es : List Entry) where
    abbrev plain : CatalogueState
    plain = state_of carousel weights es

    abbrev stored : CatalogueState
    stored = state_of carousel weights (map (numbered editors) es)

    pub draws_same : draws_of stored ≡ draws_of plain
    draws_same = sum_same (λ e. cond {A = ℕ} (is_draw e) 1 0) draw_same es

    current_same : current_of stored ≡ current_of plain
    current_same = ap (generation_of carousel) (trees_same [] es)

    cycle_same : cycle_in stored ≡ cycle_in plain
    cycle_same = λ i. cycle_of weights (lines_of (current_same i))

    cursor_same : cursor_of stored ≡ cursor_of plain
    cursor_same = λ i. since_same 0 es i % length (cycle_same i)

    count_drawn_same : (asked : ℕ) → count_drawn stored asked ≡ count_drawn plain asked
    count_drawn_same asked = λ i. min asked (length (cycle_same i) - cursor_same i)

    pub drawing_same : (asked : ℕ) (fates : List Fate) → drawing_of stored asked fates ≡ drawing_of plain asked fates
    drawing_same asked fates = λ i. record {
      generation = current_same i;
      items = take (count_drawn_same asked i) (drop (cursor_same i) (cycle_same i));
      fates = fates;
    }

    pub entry_same : (e : Entry) → entry_after stored (numbered editors e) ≡ numbered editors (entry_after plain e)
    entry_same (entries.Commit editor edits outcome) = λ i.
        entries.Commit (get_or editors editor 0) edits (outcome_with carousel (trees_same [] es i) (sum_same put_bytes_of put_same es i) edits)
    entry_same (entries.Draw asked generation first count) = λ i. entries.Draw asked (current_same i).number (cursor_same i) (count_drawn_same asked i)
