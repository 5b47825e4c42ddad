-- One open more.
use Rattle.session.proofs.Words.{◌≡◌, ◌⊎◌, inl, inr, ℕ, ◌+◌, ◌≤◌, List, [], ◌∷◌, ◌++◌, length, ap, sym, ◌∙◌, subst, append_assoc, arith, IsPrefix, PathNames, prefix_length, ReaderView, OpenEntry, Asked, AreOpened, Rises, HasOpened, asked_at}

pub begins_later : {A : Type 0} (xs ys zs : List A) → IsPrefix xs ys → IsPrefix ys zs → IsPrefix xs zs
begins_later xs ys zs p q = (p.0 ++ q.0, sym (append_assoc xs p.0 q.0) ∙ ap (λ l. l ++ q.0) p.1 ∙ q.1)

opened_push : (asked : List Asked) (es : List OpenEntry) (a : Asked) (e : OpenEntry) → AreOpened asked es → e.path ≡ a.path → a.least ≤ e.shot → AreOpened (asked ++ a ∷ []) (es ++ e ∷ [])
opened_push [] [] a e h path least = (path, least, tt)
opened_push [] (x ∷ es) a e h path least = absurd h
opened_push (x ∷ asked) [] a e h path least = absurd h
opened_push (x ∷ asked) (y ∷ es) a e h path least = (h.0, h.1, opened_push asked es a e h.2 path least)

rises_push : (first : ℕ) (es : List OpenEntry) (last : ℕ) (e : OpenEntry) → Rises first es last → last ≤ e.shot + 1 → Rises first (es ++ e ∷ []) (e.shot + 1)
rises_push first [] last e h le = (omega (arith, h, le), omega arith)
rises_push first (x ∷ es) last e h le = (h.0, rises_push (x.shot + 1) es last e h.1 le)

pub one_open_more : (old new : ReaderView) (made : OpenEntry) (path : PathNames) → new.opens ≡ old.opens ++ made ∷ [] → made.path ≡ path → made.shot + 1 ≡ length new.known
    → IsPrefix old.known new.known → IsPrefix old.told new.known
    → (least : ℕ) (asked : List Asked) → (least + 1 ≤ length old.told) ⊎ (least + 1 ≤ length old.known) → HasOpened asked old → HasOpened (asked ++ asked_at least path ∷ []) new
one_open_more old new made path opens its last knew told least asked enough has = let known = prefix_length old.known new.known knew in
    let heard = prefix_length old.told new.known told in record {
      opened = subst (AreOpened (asked ++ asked_at least path ∷ [])) (sym opens) (opened_push asked old.opens (asked_at least path) made has.opened its (at_least enough known heard));
      rises = subst (λ (es : List OpenEntry). Rises 0 es (length new.known)) (sym opens)
          (subst (Rises 0 (old.opens ++ made ∷ [])) last (rises_push 0 old.opens (length old.known) made has.rises (omega (arith, known, last))));
    }
  where
    at_least : (least + 1 ≤ length old.told) ⊎ (least + 1 ≤ length old.known) → length old.known ≤ length new.known → length old.told ≤ length new.known → least ≤ made.shot
    at_least (inl le) known heard = omega (arith, le, heard, last)
    at_least (inr le) known heard = omega (arith, le, known, last)
