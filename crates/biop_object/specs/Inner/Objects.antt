-- Parts of messages, as the code reads and writes them.
use Rattle.std.specs.Prelude.{ℕ, ◌+◌, List, ◌∷◌, ◌++◌, length}
use Rattle.oc_bytes.specs.Numbers.{two_bytes, four_bytes}
use Rattle.oc_bytes.specs.Grammar.{Grammar, four, eight, enclosed, field, gives, this}
use Rattle.biop_object.specs.declared.reading.TheConstants.{HEAD}
use Rattle.biop_object.specs.Objects.{message_front}

-- a size in four bytes and as many bytes, whatever they say, and with a message's front before them
abbrev pub cut_off : Grammar (Unit {0})
cut_off = enclosed four (gives tt)

abbrev pub framed : Grammar (Unit {0})
framed =
    field (this eight HEAD) (λ u. HEAD) λ head.
    cut_off

-- what stands before the body of a message whose key and kind have four bytes each
abbrev pub biop_prefix : (key kind info : List ℕ) → ℕ → List ℕ
biop_prefix key kind info body_length = message_front ++ four_bytes (20 + length info + body_length)
    ++ (4 ∷ key) ++ four_bytes 4 ++ kind ++ two_bytes (length info) ++ info ++ 0 ∷ four_bytes body_length
