-- What is kept after a look-up, after an answer more, and on another shot.
use Rattle.std.proofs.Common.{◌≡◌, ◌≢◌, ◌⊎◌, ℕ, List, [], Some, slice_get, Option, Result, Ok, Err, OnOk, OnErr, IfOk, IfSome, Contains, Bool, true, false, sym, ap, subst, ◌∙◌, ⊎_elim, arith}
use Rattle.std.specs.Map.{lookup}
use Rattle.std.specs.declared.string.String.{String}
use Rattle.std.specs.String.{string_bytes, string_eq}
use Rattle.std.specs.Str.{bytes_eq}
use Rattle.std.specs.Cmp.Lexicographic.{same_text}
use Rattle.std.proofs.Math.Dec.{eqb}
use Rattle.std.proofs.lemmas.Bool.Decides.{eqb_tells}
use Rattle.std.specs.Result.{result_ok}
use Rattle.lru.specs.LruCache.{LruCache, lru_cache, promoted, put_entries}
use Rattle.lru.proofs.CallerLemmas.{Contains-promoted, Contains-lookup, Contains-put_entries, IsPut}
use Rattle.path_tree.specs.Paths.{Bytes, PathNames}
use Rattle.path_tree.specs.Texts.{path_of}
use Rattle.path_resolver.specs.declared.answer.Answer.{Answer}
use Rattle.path_resolver.specs.declared.shot.Shot.{Shot}
use Rattle.path_resolver.specs.Resolving.{Held, answer_of}
use Rattle.path_resolver.specs.Shots.{held_of}
use Rattle.open_history.specs.Inner.Cached.{IsAnswerOn, AreAnswersOn, AreAnswersIn}

nothing_in : {A : Type 0} (es : List A) (e : A) → es ≡ [] → Contains es e → ⊥
nothing_in es e none c = let h = (subst (λ l. Contains l e) none c).1 in omega arith

module _ {Z : Type 0} where
  -- a look-up moves an answer to the front
  pub still_kept : (test : String Z → Bool) (held : Held) (es : List (String Z × Answer)) → AreAnswersOn held es → AreAnswersOn held (promoted test es)
  still_kept test held es h e c = h e (Contains-promoted test es e c)

  -- what a look-up finds is the path's answer
  pub found_is : (held : Held) (path : PathNames) (text : Bytes) (es : List (String Z × Answer)) (a : Answer)
      → AreAnswersOn held es → path_of text ≡ Ok path → lookup (λ k. bytes_eq text (string_bytes k)) es ≡ Some a → a ≡ answer_of held path
  found_is held path text es a h is at =
      let e = Contains-lookup (λ (k : String Z). bytes_eq text (string_bytes k)) es a at in
      let same : text ≡ string_bytes e.0 = same_text text (string_bytes e.0) (sym e.2) in
      h (e.0, a) e.1 path (ap path_of (sym same) ∙ is)

  same_key : (text key : String Z) (entries : List (String Z × Answer)) → (key ≡ text) ⊎ ((w : Answer) × Contains entries (key, w) × (string_eq text key ≡ true)) → string_bytes key ≡ string_bytes text
  same_key text key entries was = ⊎_elim
      (λ (e : key ≡ text). ap string_bytes e)
      (λ (t : (w : Answer) × Contains entries (key, w) × (string_eq text key ≡ true)). sym (same_text (string_bytes text) (string_bytes key) (sym t.2)))
      was

  -- one answer more
  pub more_kept : (held : Held) (path : PathNames) (text : String Z) (a : Answer) (c : LruCache (String Z) Answer)
      → AreAnswersOn held c.entries → path_of (string_bytes text) ≡ Ok path → a ≡ answer_of held path → AreAnswersOn held (put_entries string_eq c text a)
  more_kept held path text a c h is right e there = ⊎_elim
      (h e)
      (λ (new : IsPut string_eq c text a e). λ p parsed.
      let same : string_bytes e.0 ≡ string_bytes text = same_key text e.0 c.entries new.1 in
      let one : p ≡ path = cc (ap path_of same, parsed, is) in
      new.0 ∙ (right ∙ ap (answer_of held) (sym one)))
      (Contains-put_entries string_eq c text a e there)

  -- after a put, whether or not there was memory for it
  pub put_keeps : {A B : Type 0} (held : Held) (path : PathNames) (text : String Z) (a : Answer) (c d : LruCache (String Z) Answer) (r : Result A B)
      → OnOk r (d ≡ lru_cache (put_entries string_eq c text a) c.cap) → OnErr r (d ≡ c)
      → AreAnswersOn held c.entries → path_of (string_bytes text) ≡ Ok path → a ≡ answer_of held path → AreAnswersOn held d.entries
  put_keeps held path text a c d (Ok _) put same h is right = subst (λ (x : LruCache (String Z) Answer). AreAnswersOn held x.entries) (sym put) (more_kept held path text a c h is right)
  put_keeps held path text a c d (Err _) put same h is right = subst (λ (x : LruCache (String Z) Answer). AreAnswersOn held x.entries) (sym same) h

  -- after a turn to a shot of the list: all were answers on it before, or there are none
  pub turned : (known : List Shot) (before number : ℕ) (shot : Shot) (es fs : List (String Z × Answer))
      → AreAnswersIn known before es → slice_get known number ≡ Some shot
      → (number ≡ before → fs ≡ es) → (number ≢ before → fs ≡ []) → AreAnswersOn (held_of shot) fs
  turned known before number shot es fs h at same other e c = ⊎_elim
      (λ (t : (eqb number before ≡ true) × (number ≡ before)).
      let a = h e (subst (λ l. Contains l e) (same t.1) c) in
      let one : a.0 ≡ shot = cc (ap (slice_get known) t.1, at, a.1) in
      subst (λ s. IsAnswerOn (held_of s) e) one a.2)
      (λ (t : (eqb number before ≡ false) × (number ≢ before)). absurd (nothing_in fs e (other t.1) c))
      (eqb_tells number before)

  -- they are then answers on the shot of that number
  pub kept_in : (known : List Shot) (number now : ℕ) (shot : Shot) (es : List (String Z × Answer)) → slice_get known number ≡ Some shot → now ≡ number → AreAnswersOn (held_of shot) es → AreAnswersIn known now es
  kept_in known number now shot es at is h e c = (shot, ap (slice_get known) is ∙ at, h e c)

-- an answer that is shared, where there was memory
pub if_shared : {E : Type 0} (held : Held) (path : PathNames) (a : Answer) (r : Result Answer E) (o : Option Answer)
    → o ≡ result_ok r → IfOk r (λ s. s ≡ a) → a ≡ answer_of held path → IfSome o (λ x. x ≡ answer_of held path)
if_shared held path a (Ok s) o is same right = subst (λ z. IfSome z (λ x. x ≡ answer_of held path)) (sym is) (same ∙ right)
if_shared held path a (Err e) o is same right = subst (λ z. IfSome z (λ x. x ≡ answer_of held path)) (sym is) tt
