-- A draw more, by who has the whole catalogue.
use Rattle.session.proofs.Words.{length-map, ◌≡◌, ℕ, Bool, true, false, cond, List, [], ◌∷◌, ◌++◌, length, filter, inl, inr, sym, ap, ◌∙◌, refl, subst, arith, append_assoc, append-nil, map-append, filter-append, Edit, Fate, current_of, cursor_of, count_drawn, Entry, drawing_of, Each, IsPlaced, is_commit_at, state_of, drawings_after, DrawFields, AreEntered, IsFullAfter, entries_to_next, asked_in, GatherGrows}
use Rattle.generation_catalogue.specs.declared.entry.Entry.TheVariants as entries
use Rattle.generation_catalogue.proofs.CallerLemmas.{history_drawn}
use Rattle.session.proofs.Rooms.{full_later}
use Rattle.session.proofs.Feeding.{fates_in}

each_more : (n : ℕ) (es : List Entry) (e : Entry) → Each (IsPlaced n) es → IsPlaced n e → Each (IsPlaced n) (es ++ e ∷ [])
each_more n [] e h k = (k, tt)
each_more n (x ∷ es) e h k = (h.0, each_more n es e h.1 k)

-- up to the next commit there are at least as many entries
to_next_more : (place : ℕ) (es more : List Entry) → (rest : List Entry) × (entries_to_next place (es ++ more) ≡ entries_to_next place es ++ rest)
to_next_more place [] more = (entries_to_next place more, refl)
to_next_more place (e ∷ es) more = by (to_next_more place es more) (is_commit_at place e)
  where
    by : (rest : List Entry) × (entries_to_next place (es ++ more) ≡ entries_to_next place es ++ rest) → (b : Bool)
        → (rest : List Entry) × (cond b [] (e ∷ entries_to_next place (es ++ more)) ≡ cond b [] (e ∷ entries_to_next place es) ++ rest)
    by r true = ([], refl)
    by r false = (r.0, ap (λ l. e ∷ l) r.1)

module _ (asked generation first count : ℕ) where
  abbrev drawn : Entry
  drawn = entries.Draw asked generation first count

  -- a draw at the end is no editor's
  entered_more : (place : ℕ) (before : List Entry) (lines : List (List Edit)) (es : List Entry) → AreEntered place before lines es → AreEntered place before lines (es ++ drawn ∷ [])
  entered_more place before [] es h = filter-append (is_commit_at place) es (drawn ∷ []) ∙ append-nil (filter (is_commit_at place) es) ∙ h
  entered_more place before (edits ∷ lines) es (inl h) = inl (
    h.0,
    h.1,
    h.2 ++ drawn ∷ [],
    ap (λ l. l ++ drawn ∷ []) h.3 ∙ append_assoc h.0 (entries.Commit place edits h.1 ∷ h.2) (drawn ∷ []),
    h.4,
    entered_more place (before ++ h.0 ++ entries.Commit place edits h.1 ∷ []) lines h.2 h.5,
  )
  entered_more place before (edits ∷ lines) es (inr h) = let r = to_next_more place es (drawn ∷ []) in
      let longer : before ++ entries_to_next place (es ++ drawn ∷ []) ≡ (before ++ entries_to_next place es) ++ r.0 = ap (λ l. before ++ l) r.1 ∙ sym (append_assoc before (entries_to_next place es) r.0) in
      inr (subst (λ l. IsFullAfter l edits) (sym longer) (full_later (before ++ entries_to_next place es) r.0 edits h.0), entered_more place before lines es h.1)

  asked_more : (es : List Entry) → asked_in (es ++ drawn ∷ []) ≡ asked_in es ++ asked ∷ []
  asked_more [] = refl
  asked_more (entries.Commit editor edits outcome ∷ es) = asked_more es
  asked_more (entries.Draw a g f n ∷ es) = ap (λ l. a ∷ l) (asked_more es)

  -- the last draw has the last of the fates
  drawings_more : (id : ℕ) (ws : List ℕ) (before : List Entry) (fates : List (List Fate)) (last : List Fate) (es : List Entry) → length fates ≡ length (asked_in es)
      → drawings_after id ws before (fates ++ last ∷ []) (es ++ drawn ∷ []) ≡ drawings_after id ws before fates es ++ drawing_of (state_of id ws (before ++ es)) asked last ∷ []
  drawings_more id ws before [] last [] e = ap (λ l. drawing_of (state_of id ws l) asked last ∷ []) (sym (append-nil before))
  drawings_more id ws before (f ∷ fates) last [] e = absurd (omega (arith, e))
  drawings_more id ws before fates last (entries.Commit editor edits outcome ∷ es) e = drawings_more id ws (before ++ entries.Commit editor edits outcome ∷ []) fates last es e
      ∙ ap (λ l. drawings_after id ws (before ++ entries.Commit editor edits outcome ∷ []) fates es ++ drawing_of (state_of id ws l) asked last ∷ []) (append_assoc before (entries.Commit editor edits outcome ∷ []) es)
  drawings_more id ws before [] last (entries.Draw a g n k ∷ es) e = absurd (omega (arith, e))
  drawings_more id ws before (f ∷ fates) last (entries.Draw a g n k ∷ es) e = ap (λ l. drawing_of (state_of id ws before) a f ∷ l)
      (drawings_more id ws (before ++ entries.Draw a g n k ∷ []) fates last es (omega (arith, e))
      ∙ ap (λ l. drawings_after id ws (before ++ entries.Draw a g n k ∷ []) fates es ++ drawing_of (state_of id ws l) asked last ∷ []) (append_assoc before (entries.Draw a g n k ∷ []) es))

pub grows : GatherGrows
grows editors draws drawings c line h room some most = let asked = line.asked in let generation = (current_of c).number in let first = cursor_of c in let count = count_drawn c line.asked in record {
  history = history_drawn c asked some most room h.history;
  placed = each_more (length editors) c.entries (entries.Draw asked generation first count) h.placed tt;
  commits = λ place lines at. entered_more asked generation first count place [] lines c.entries (h.commits place lines at);
  asked = asked_more asked generation first count c.entries ∙ ap (λ l. l ++ asked ∷ []) h.asked ∙ sym (map-append (λ (d : DrawFields). d.asked) draws (line ∷ []));
  drawn = ap (λ l. drawings_after c.carousel c.weights [] l (c.entries ++ entries.Draw asked generation first count ∷ [])) (map-append (λ (d : DrawFields). d.fates) draws (line ∷ []))
      ∙ drawings_more asked generation first count c.carousel c.weights [] (fates_in draws) line.fates c.entries (length-map draws (λ (d : DrawFields). d.fates) ∙ sym (length-map draws (λ (d : DrawFields). d.asked)) ∙ ap length (sym h.asked))
      ∙ ap (λ l. l ++ drawing_of c asked line.fates ∷ []) h.drawn;
}
