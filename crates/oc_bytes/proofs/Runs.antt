-- Items one after another, gone over as a loop does.
use Rattle.std.proofs.Common.{◌≡◌, ℕ, zero, suc, ◌≤◌, ◌<◌, Bool, true, false, cond, leb, List, [], ◌∷◌, length, take, drop, Option, Some, None, refl, sym, ap, ◌∙◌, arith, length-drop}
use Rattle.std.proofs.lemmas.Option.{same_Some}
use Rattle.oc_bytes.specs.Descriptors.{run, onto_run, next_descriptor, descriptors_in}

-- an item has a byte at least
abbrev pub Shortens : {A : Type 0} → (List ℕ → Option (A × List ℕ)) → Type 0
Shortens {A} next = (bytes : List ℕ) (x : A) (after : List ℕ) → next bytes ≡ Some (x, after) → length after < length bytes

-- where nothing stands at the front, nothing is in the run
none_stands : {A : Type 0} (next : List ℕ → Option (A × List ℕ)) (steps : ℕ) (bytes : List ℕ) → next bytes ≡ None → run next steps bytes ≡ ([], bytes)
none_stands next zero bytes e = refl
none_stands next (suc steps) bytes e = rw e refl

-- steps beyond the number of bytes change nothing
more_steps : {A : Type 0} (next : List ℕ → Option (A × List ℕ)) (steps others : ℕ) (bytes : List ℕ) → Shortens next → length bytes ≤ steps → length bytes ≤ others → run next steps bytes ≡ run next others bytes
more_steps {A} next zero others [] shorter le ge = by (next []) refl others where
  by : (o : Option (A × List ℕ)) → next [] ≡ o → (n : ℕ) → ([], []) ≡ run next n []
  by None e n = sym (none_stands next n [] e)
  by (Some x) e n = absurd (omega (arith, shorter [] x.0 x.1 e))
more_steps next zero others (b ∷ bytes) shorter le ge = absurd (omega (arith, le))
more_steps {A} next (suc steps) others bytes shorter le ge = by (next bytes) refl others ge (λ n after. more_steps next steps n after shorter) where
  by : (o : Option (A × List ℕ)) → next bytes ≡ o → (n : ℕ) → length bytes ≤ n
      → ((k : ℕ) (after : List ℕ) → length after ≤ steps → length after ≤ k → run next steps after ≡ run next k after) → run next (suc steps) bytes ≡ run next n bytes
  by None e n ge others = none_stands next (suc steps) bytes e ∙ sym (none_stands next n bytes e)
  by (Some x) e zero ge others = absurd (omega (arith, shorter bytes x.0 x.1 e))
  by (Some x) e (suc n) ge others =
      let less = shorter bytes x.0 x.1 e in
      let same = others n x.1 (omega (arith, less, le)) (omega (arith, less, ge)) in
      rw (e, same) refl

-- the run of all of these bytes
abbrev pub whole_run : {A : Type 0} → (List ℕ → Option (A × List ℕ)) → List ℕ → List A × List ℕ
whole_run next bytes = run next (length bytes) bytes

pub run_more : {A : Type 0} (next : List ℕ → Option (A × List ℕ)) (bytes : List ℕ) (x : A) (after : List ℕ) → Shortens next → next bytes ≡ Some (x, after)
    → whole_run next bytes ≡ (x ∷ (whole_run next after).0, (whole_run next after).1)
run_more {A} next bytes x after shorter e = by bytes e (shorter bytes x after e) where
  by : (rest : List ℕ) → next rest ≡ Some (x, after) → length after < length rest → run next (length rest) rest ≡ (x ∷ (whole_run next after).0, (whole_run next after).1)
  by [] e less = absurd (omega (arith, less))
  by (b ∷ rest) e less =
      let same = more_steps next (length rest) (length after) after shorter (omega (arith, less)) (omega arith) in
      rw (e, same) refl

pub run_end : {A : Type 0} (next : List ℕ → Option (A × List ℕ)) (bytes : List ℕ) → next bytes ≡ None → whole_run next bytes ≡ ([], bytes)
run_end next bytes e = none_stands next (length bytes) bytes e

-- what is left of a run is no longer than the bytes
pub left_within : {A : Type 0} (next : List ℕ → Option (A × List ℕ)) (steps : ℕ) (bytes : List ℕ) → Shortens next → length (run next steps bytes).1 ≤ length bytes
left_within next zero bytes shorter = omega arith
left_within {A} next (suc steps) bytes shorter = by (next bytes) refl (λ after. left_within next steps after shorter) where
  by : (o : Option (A × List ℕ)) → next bytes ≡ o → ((after : List ℕ) → length (run next steps after).1 ≤ length after) → length (onto_run (run next steps) bytes o).1 ≤ length bytes
  by None e within = omega arith
  by (Some x) e within = omega (arith, shorter bytes x.0 x.1 e, within x.1)

-- ---- descriptors

-- a descriptor has two bytes at least
descriptor_shortens : Shortens next_descriptor
descriptor_shortens [] x after e = cc
descriptor_shortens (a ∷ []) x after e = cc
descriptor_shortens (a ∷ n ∷ bytes) x after e = by (leb n (length bytes)) e where
  by : (b : Bool) → cond {A = Option ((ℕ × List ℕ) × List ℕ)} b (Some ((a, take n bytes), drop n bytes)) None ≡ Some (x, after) → length after < suc (suc (length bytes))
  by true h = let same : drop n bytes ≡ after = ap (λ (d : (ℕ × List ℕ) × List ℕ). d.1) (same_Some ((a, take n bytes), drop n bytes) (x, after) h) in omega (arith, length-drop n bytes, ap length same)
  by false h = absurd cc

pub descriptors_more : (bytes : List ℕ) (d : ℕ × List ℕ) (after : List ℕ) → next_descriptor bytes ≡ Some (d, after) → descriptors_in bytes ≡ d ∷ descriptors_in after
descriptors_more bytes d after e = ap (λ (r : List (ℕ × List ℕ) × List ℕ). r.0) (run_more next_descriptor bytes d after descriptor_shortens e)

pub descriptors_end : (bytes : List ℕ) → next_descriptor bytes ≡ None → descriptors_in bytes ≡ []
descriptors_end bytes e = ap (λ (r : List (ℕ × List ℕ) × List ℕ). r.0) (run_end next_descriptor bytes e)
