-- Lemmas for callers: a history goes on with a draw.
use Rattle.std.proofs.Common.{◌≡◌, ℕ, ◌+◌, ◌<◌, ◌≤◌, cond, [], ◌∷◌, refl, sym, subst, arith}
use Rattle.std.proofs.lemmas.List.Sums.{fold_push}
use Rattle.generation.specs.Lawful.{ArePublishable}
use Rattle.generation_catalogue.specs.History.{CatalogueState, IsHistory, current_of, cursor_of, count_drawn, with_draw, draws_of, is_draw}
use Rattle.generation_catalogue.specs.declared.entry.Entry.{Entry}
use Rattle.generation_catalogue.specs.declared.entry.Entry.TheVariants as entries
use Rattle.generation_catalogue.proofs.Replay.{history_more, trees_more}

-- where there is room for a draw, the history with it is one
pub history_drawn : (c : CatalogueState) (asked : ℕ) → 1 ≤ asked → asked ≤ 1048576 → draws_of c < 16777216 → IsHistory c → IsHistory (with_draw c asked)
history_drawn c asked some most room h =
    let new : Entry = entries.Draw asked (current_of c).number (cursor_of c) (count_drawn c asked) in
    let counted : draws_of (with_draw c asked) ≡ draws_of c + 1 = fold_push (λ (n : ℕ) (x : Entry). n + cond (is_draw x) 1 0) 0 c.entries new in
    history_more c new refl (some, most) (omega (arith, counted, room))
    (subst (ArePublishable c.carousel) (sym (trees_more c.entries (entries.Draw asked (current_of c).number (cursor_of c) (count_drawn c asked) ∷ []) [])) h.published) h
