-- Descriptors (ISO/IEC 13818-1, 2.6): a tag, a length and that many bytes, one after another.
use Rattle.std.specs.Prelude.{ℕ, zero, suc, List, [], ◌∷◌, length, take, drop, Option, Some, None, nat_le, if◌then◌else◌}

-- ---- what stands one after another

-- the items that stand whole one after another from the front on, and what is left after the last of them; each item has a byte
-- at least, so that the bytes bound the steps
abbrev pub onto_run : {A : Type 0} → (List ℕ → List A × List ℕ) → List ℕ → Option (A × List ℕ)
    → List A × List ℕ
onto_run more bytes (Some x) = (x.0 ∷ (more x.1).0, (more x.1).1)
onto_run more bytes None = ([], bytes)

abbrev pub run : {A : Type 0} → (List ℕ → Option (A × List ℕ)) → ℕ → List ℕ
    → List A × List ℕ
run next zero bytes = ([], bytes)
run next (suc steps) bytes = onto_run (run next steps) bytes (next bytes)

-- ---- descriptors

-- the tag and the bytes of the descriptor that stands whole at the front, and what follows it
abbrev pub next_descriptor : List ℕ → Option ((ℕ × List ℕ) × List ℕ)
next_descriptor (tag ∷ n ∷ bytes) =
    if nat_le n (length bytes) then Some ((tag, take n bytes), drop n bytes) else None
next_descriptor _ = None

-- the tag and the bytes of each descriptor; one that runs past the end is passed over with what follows it
abbrev pub descriptors_in : List ℕ → List (ℕ × List ℕ)
descriptors_in bytes = (run next_descriptor (length bytes) bytes).0
