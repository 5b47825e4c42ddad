-- Events above `start`, one after another.
use Rattle.session.proofs.Words.{◌≡◌, ◌<◌, suc, List, [], ◌∷◌, ◌++◌, map, length, take, drop, get_or, sym, ap, ◌∙◌, arith, subst, All, take-append-drop, map-append, drop-cons, get_or-map, length-map, InRange, Happening, before_steps, IsNext, Setting, view_happening}

module _ (items yielded : List Happening) (x : Happening) (far : yielded ≡ take (length yielded) items) (lt : length yielded < length items) (at' : x ≡ get_or items (length yielded) x) where
  -- the next one stands after those
  split : map view_happening items ≡ map view_happening yielded ++ view_happening x ∷ map view_happening (drop (suc (length yielded)) items)
  split = let k = length yielded in let left = drop (suc k) items in
      ap (map view_happening) (sym (take-append-drop k items) ∙ (λ i. sym far i ++ (drop-cons items k x lt ∙ ap (λ (y : Happening). y ∷ left) (sym at')) i))
      ∙ map-append view_happening yielded (x ∷ left)

  pub next_in : (setting : Setting) → map view_happening items ≡ before_steps setting.parts → IsNext setting (map view_happening yielded) (view_happening x)
  next_in setting same = (map view_happening (drop (suc (length yielded)) items), sym same ∙ split)

  pub range_of : All InRange (map view_happening items) → InRange (view_happening x)
  range_of all = let k = length yielded in subst InRange (get_or-map view_happening items k x (view_happening x) lt ∙ ap view_happening (sym at'))
      (all k (view_happening x) (let n = length-map items view_happening in omega (arith, lt, n)))
