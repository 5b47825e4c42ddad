-- From the draws that the feeder made to the draws of the whole history.
use Rattle.session.proofs.Words.{◌≡◌, ℕ, ◌+◌, List, [], ◌∷◌, ◌++◌, length, map, filter, Some, slice_get, sym, ap, ◌∙◌, refl, arith, append_assoc, append-nil, length-append, Fate, Begins, times, CatalogueState, is_draw, Entry, Drawing, drawing_of, state_of, drawings_after, Seen, GoesOnWith, Draws, DrawFields, asked_in}
use Rattle.generation_catalogue.specs.declared.entry.Entry.TheVariants as entries
use Rattle.session.proofs.Lists.{get_behind, none_pass, first_fails, begins_on, times_append, times_other}
use Rattle.session.proofs.Entering.{seen_with, first_draw, draws_enter, draw_entry, enters_begins, enters_keeps}
use Rattle.session.proofs.Entered.{AreToCome, none_between, goes_on, still_own}

abbrev pub fates_in : List DrawFields → List (List Fate)
fates_in lines = map (λ (l : DrawFields). l.fates) lines

abbrev pub asked_by : List DrawFields → List ℕ
asked_by lines = map (λ (l : DrawFields). l.asked) lines

-- ---- commits between the draws

pub asked_past : (xs ys : List Entry) → filter is_draw xs ≡ [] → asked_in (xs ++ ys) ≡ asked_in ys
asked_past [] ys h = refl
asked_past (entries.Commit editor edits outcome ∷ xs) ys h = asked_past xs ys (first_fails is_draw (entries.Commit editor edits outcome) xs h).1
asked_past (entries.Draw asked generation first count ∷ xs) ys h = let f = (first_fails is_draw (entries.Draw asked generation first count) xs h).0 in absurd (cc)

pub drawings_past : (id : ℕ) (ws : List ℕ) (before : List Entry) (fates : List (List Fate)) (xs ys : List Entry) → filter is_draw xs ≡ []
    → drawings_after id ws before fates (xs ++ ys) ≡ drawings_after id ws (before ++ xs) fates ys
drawings_past id ws before fates [] ys h = ap (λ l. drawings_after id ws l fates ys) (sym (append-nil before))
drawings_past id ws before fates (entries.Commit editor edits outcome ∷ xs) ys h =
    drawings_past id ws (before ++ entries.Commit editor edits outcome ∷ []) fates xs ys (first_fails is_draw (entries.Commit editor edits outcome) xs h).1
    ∙ ap (λ l. drawings_after id ws l fates ys) (append_assoc before (entries.Commit editor edits outcome ∷ []) xs)
drawings_past id ws before fates (entries.Draw asked generation first count ∷ xs) ys h = let f = (first_fails is_draw (entries.Draw asked generation first count) xs h).0 in absurd (cc)

asked_none : (xs : List Entry) → filter is_draw xs ≡ [] → asked_in xs ≡ []
asked_none xs h = ap asked_in (sym (append-nil xs)) ∙ asked_past xs [] h

drawings_none : (id : ℕ) (ws : List ℕ) (before : List Entry) (fates : List (List Fate)) (xs : List Entry) → filter is_draw xs ≡ [] → drawings_after id ws before fates xs ≡ []
drawings_none id ws before fates xs h = ap (drawings_after id ws before fates) (sym (append-nil xs)) ∙ drawings_past id ws before fates xs [] h

-- a draw on a history is a drawing of it
drawing_on : (id : ℕ) (ws : List ℕ) (c : CatalogueState) (before : List Entry) (asked : ℕ) (fates : List Fate) → c.carousel ≡ id → c.weights ≡ ws → c.entries ≡ before
    → drawing_of (state_of id ws before) asked fates ≡ drawing_of c asked fates
drawing_on id ws c before asked fates carousel weighs is = sym (λ i. drawing_of (state_of (carousel i) (weighs i) (is i)) asked fates)

module _ (id : ℕ) (ws : List ℕ) (history : List Entry) where
  abbrev pub AreDrawn : List DrawFields → List Drawing → List Entry → List Entry → Type 0
  AreDrawn lines ds before es = (asked_in es ≡ asked_by lines) × (drawings_after id ws before (fates_in lines) es ≡ ds)

  drawn_next : (l : DrawFields) (lines : List DrawFields) (d : Drawing) (ds : List Drawing) (s t : Seen) (before es : List Entry) → (c : CatalogueState) → GoesOnWith id ws s c
      → d ≡ drawing_of c l.asked l.fates → Draws id ws (seen_with s c.entries (draw_entry c l.asked)) lines ds t
      → Begins t.entries history → Begins before s.entries → history ≡ before ++ es → AreToCome is_draw history (length before) s t
      → ((later : List Entry) → history ≡ (c.entries ++ draw_entry c l.asked ∷ []) ++ later → AreToCome is_draw history (length (c.entries ++ draw_entry c l.asked ∷ [])) (seen_with s c.entries (draw_entry c l.asked)) t
      → AreDrawn lines ds (c.entries ++ draw_entry c l.asked ∷ []) later)
      → AreDrawn (l ∷ lines) (d ∷ ds) before es
  drawn_next l lines d ds s t before es c on drew chain ends begins is come rest = let e : Entry = draw_entry c l.asked in
      let next : Seen = seen_with s c.entries e in let came = draws_enter id ws lines ds next t chain in
      let whole : Begins (c.entries ++ e ∷ []) history = begins_on (c.entries ++ e ∷ []) t.entries history (enters_begins next came.0 t came.1) ends in
      let b = begins_on before s.entries c.entries begins on.begins in let between = b.0 in let later = whole.0 in
      let cut : history ≡ (before ++ between) ++ e ∷ later = whole.1 ∙ append_assoc c.entries (e ∷ []) later ∙ ap (λ l. l ++ e ∷ later) b.1 in
      let long = length-append c.entries (e ∷ []) in let same_size = ap length b.1 in let both = length-append before between in
      let none : filter is_draw between ≡ [] = none_between is_draw history s t before between (e ∷ later) cut come
      (λ k below.
      let kept = enters_keeps next came.0 t came.1 k (omega (arith, below, long, same_size)) in let parts = times_append k s.own (length c.entries ∷ []) in
      let other = times_other k (length c.entries) (λ q. omega (arith, q, below, same_size)) in omega (arith, kept, parts, other)) in
      let parts : es ≡ between ++ e ∷ later = goes_on history before es between (e ∷ later) is cut in let r = rest later whole.1 (λ k x far here passes.
      let more = come k x (omega (arith, far, long, same_size, both)) here passes in let still = still_own s c.entries k (omega (arith, far, long)) in
      omega (arith, more, still)) in (
        ap asked_in parts ∙ asked_past between (e ∷ later) none ∙ ap (λ as'. l.asked ∷ as') r.0,
        ap (drawings_after id ws before (fates_in (l ∷ lines))) parts ∙ drawings_past id ws before (fates_in (l ∷ lines)) between (e ∷ later) none
            ∙ ap (λ p. drawings_after id ws p (fates_in (l ∷ lines)) (e ∷ later)) (sym b.1)
            ∙ (λ i. (drawing_on id ws c c.entries l.asked l.fates on.carousel on.weighs refl ∙ sym drew) i ∷ r.1 i),
      )

  pub are_drawn : (lines : List DrawFields) (ds : List Drawing) (s t : Seen) (before es : List Entry) → Draws id ws s lines ds t
      → Begins t.entries history → Begins before s.entries → history ≡ before ++ es → AreToCome is_draw history (length before) s t → AreDrawn lines ds before es
  are_drawn [] [] s t before es chain ends begins is come = let none : filter is_draw es ≡ [] = none_pass is_draw es (λ k e here passes.
      let there : slice_get history (length before + k) ≡ Some e = ap (λ l. slice_get l (length before + k)) is ∙ get_behind before es k e here in
      let less = come (length before + k) e (omega arith) there passes in let same = ap (λ (u : Seen). times (length before + k) u.own) chain in
      omega (arith, less, same)) in
      (asked_none es none, drawings_none id ws before [] es none)
  are_drawn [] (d ∷ ds) s t before es chain ends begins is come = absurd chain
  are_drawn (l ∷ lines) [] s t before es chain ends begins is come = absurd chain
  are_drawn (l ∷ lines) (d ∷ ds) s t before es chain ends begins is come = let c : CatalogueState = chain.0 in let e : Entry = draw_entry c l.asked in
      let next = first_draw id ws s l lines d ds t chain in drawn_next l lines d ds s t before es c chain.1 chain.3 next ends begins is come
      (λ later cut own. are_drawn lines ds (seen_with s c.entries e) t (c.entries ++ e ∷ []) later next ends ([], sym (append-nil (c.entries ++ e ∷ []))) cut own)
