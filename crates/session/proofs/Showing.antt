-- One shot more.
use Rattle.session.proofs.Words.{◌≡◌, ◌⊎◌, inl, inr, ℕ, zero, suc, ◌<◌, List, [], ◌∷◌, ◌++◌, map, length, Some, slice_get, Result, Ok, Err, OnOk, refl, ap, sym, ◌∙◌, subst, length-append, arith, arc_value, take-append-le, take_all, Bytes, Fate, Item, GenerationState, section_of, Batch, drawing_in, Shot, view, snapshot_after, DownlinkState, DownlinkStands, WorldState, Drawing, sections_of, groups_sent, arrivals, initial_world, stands_after_draw, candidates_after, AreShots, HasShown}
use Rattle.section_stream.specs.Cuts.{candidates}
use Rattle.section_stream.specs.Groups.{packets_of_group}
use Rattle.carousel_world.specs.Fates.{received_under}

-- what stands in a list with one element more
got : {A : Type 0} (xs : List A) (x : A) (k : ℕ) (y : A) → slice_get (xs ++ x ∷ []) k ≡ Some y → ((k < length xs) × (slice_get xs k ≡ Some y)) ⊎ ((k ≡ length xs) × (x ≡ y))
got [] x zero y e = inr (refl, cc)
got [] x (suc k) y e = absurd cc
got (z ∷ xs) x zero y e = inl (omega arith, e)
got (z ∷ xs) x (suc k) y e = go (got xs x k y e) where
  go : ((k < length xs) × (slice_get xs k ≡ Some y)) ⊎ ((k ≡ length xs) × (x ≡ y)) → ((suc k < suc (length xs)) × (slice_get xs k ≡ Some y)) ⊎ ((suc k ≡ suc (length xs)) × (x ≡ y))
  go (inl h) = inl (omega (arith, h), h.1)
  go (inr h) = inr (ap suc h.0, h.1)

module _ (drawings : List Drawing) (d : Drawing) (shots : List Shot) (shot : Shot) (are : AreShots drawings shots) where
  all_heard : candidates_after (drawings ++ d ∷ []) (length shots) ≡ candidates 256 (map (λ a. a.1) (arrivals (drawings ++ d ∷ [])))
  all_heard = let count = are.count in let whole = length-append drawings (d ∷ []) in
      ap (λ (ds : List Drawing). candidates 256 (map (λ a. a.1) (arrivals ds))) (take_all (length shots) (drawings ++ d ∷ []) (omega (arith, count, whole)))

  fewer_heard : (k : ℕ) → k < length shots → candidates_after (drawings ++ d ∷ []) k ≡ candidates_after drawings k
  fewer_heard k lt = let count = are.count in
      ap (λ (ds : List Drawing). candidates 256 (map (λ a. a.1) (arrivals ds))) (take-append-le k drawings (d ∷ []) (omega (arith, lt, count)))

  shots_push : view shot ≡ snapshot_after (length shots) (length shots) (candidates 256 (map (λ a. a.1) (arrivals (drawings ++ d ∷ [])))) → AreShots (drawings ++ d ∷ []) (shots ++ shot ∷ [])
  shots_push is = record {
    count = let count = are.count in let a = length-append shots (shot ∷ []) in let b = length-append drawings (d ∷ []) in omega (arith, count, a, b);
    each = λ k s at. go k s (got shots shot k s at);
  }
    where
      go : (k : ℕ) (s : Shot) → ((k < length shots) × (slice_get shots k ≡ Some s)) ⊎ ((k ≡ length shots) × (shot ≡ s)) → view s ≡ snapshot_after k k (candidates_after (drawings ++ d ∷ []) k)
      go k s (inl h) = are.each k s h.1 ∙ ap (snapshot_after k k) (sym (fewer_heard k h.0))
      go k s (inr h) = subst (λ (n : ℕ). view s ≡ snapshot_after n n (candidates_after (drawings ++ d ∷ []) n)) (sym h.0)
          (ap view (sym h.1) ∙ is ∙ ap (snapshot_after (length shots) (length shots)) (sym all_heard))

-- a drawing was carried, and then a shot was shown
pub one_shot_more : (drawings : List Drawing) (d : Drawing) (old new : DownlinkState) (before after : List Shot) (shot : Shot) (n : ℕ)
    → ((pid : ℕ) (groups : List (List Bytes)) (packets : List Bytes) → DownlinkStands old pid groups [] packets
    → DownlinkStands new pid (groups ++ sections_of d ∷ []) [] (packets ++ received_under d.fates 0 (packets_of_group old.mux (sections_of d))))
    → ((pid : ℕ) (groups : List (List Bytes)) (begun packets : List Bytes) → DownlinkStands new pid groups begun packets → view shot ≡ snapshot_after n n (candidates pid packets))
    → n ≡ length before → after ≡ before ++ shot ∷ []
    → HasShown drawings old before → HasShown (drawings ++ d ∷ []) new after
one_shot_more drawings d old new before after shot n carry look number shown has =
    let w : WorldState = record { catalogue = (initial_world 0 []).catalogue; drawings = drawings } in
    let stands = stands_after_draw w d old new has.carried (carry 256 (groups_sent drawings) (map (λ a. a.1) (arrivals drawings)) has.carried) in
    let all = map (λ a. a.1) (arrivals (drawings ++ d ∷ [])) in let is : view shot ≡ snapshot_after (length before) (length before) (candidates 256 all) =
    look 256 (groups_sent (drawings ++ d ∷ [])) [] all stands ∙ ap (λ (k : ℕ). snapshot_after k k (candidates 256 all)) number in
    record { carried = stands; shown = subst (AreShots (drawings ++ d ∷ [])) (sym shown) (shots_push drawings d before shot has.shown is) }

-- the same of what was drawn, where it was lent
pub one_drawing_more : (drawings : List Drawing) (b : Batch) (fates : List Fate) (old new : DownlinkState) (before after : List Shot) (shot : Shot) (n : ℕ) (g : GenerationState) (items : List Item)
    → g ≡ arc_value b.generation → items ≡ b.items.items
    → ((pid : ℕ) (groups : List (List Bytes)) (packets : List Bytes) → DownlinkStands old pid groups [] packets
    → DownlinkStands new pid (groups ++ map (section_of g) items ∷ []) [] (packets ++ received_under fates 0 (packets_of_group old.mux (map (section_of g) items))))
    → ((pid : ℕ) (groups : List (List Bytes)) (begun packets : List Bytes) → DownlinkStands new pid groups begun packets → view shot ≡ snapshot_after n n (candidates pid packets))
    → n ≡ length before → after ≡ before ++ shot ∷ []
    → HasShown drawings old before → HasShown (drawings ++ drawing_in b fates ∷ []) new after
one_drawing_more drawings b fates old new before after shot n g items generation listed carry look number shown =
    let P : GenerationState → List Item → Type 0 = λ x xs. (pid : ℕ) (groups : List (List Bytes)) (packets : List Bytes) → DownlinkStands old pid groups [] packets
    → DownlinkStands new pid (groups ++ map (section_of x) xs ∷ []) [] (packets ++ received_under fates 0 (packets_of_group old.mux (map (section_of x) xs))) in
    one_shot_more drawings (drawing_in b fates) old new before after shot n (subst (P (arc_value b.generation)) listed (subst (λ (x : GenerationState). P x items) generation carry)) look number shown

-- P where the result is Ok
pub if_ok : {X E : Type 0} (r : Result X E) (x : X) (P : Type 0) → r ≡ Ok x → P → OnOk r P
if_ok r x P is p = subst (λ (s : Result _ _). OnOk s P) (sym is) p

pub if_err : {X E : Type 0} (r : Result X E) (e : E) (P : Type 0) → r ≡ Err e → OnOk r P
if_err r e P is = subst (λ (s : Result _ _). OnOk s P) (sym is) tt
