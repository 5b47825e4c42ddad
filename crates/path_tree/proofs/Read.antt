-- Names read from the left, after those that are read already.
use Rattle.std.proofs.Common.{◌≡◌, ℕ, ◌+◌, ◌<◌, false, nat_eq, List, [], ◌∷◌, ◌++◌, length, Some, None, Result, Ok, Err, refl, ap, sym, append_assoc, arith}
use Rattle.std.specs.List.{slice_split}
use Rattle.std.proofs.lemmas.Bool.{ne_eqb}
use Rattle.path_tree.specs.Paths.{Bytes, PathNames}
use Rattle.path_tree.specs.Texts.{TextFault, BadName, TooDeep, name_of, with_name, names_of, is_slash}
use Rattle.path_tree.proofs.Pieces.{slice_split-nonempty}

abbrev pub after : PathNames → Result PathNames TextFault → Result PathNames TextFault
after names (Ok more) = Ok (names ++ more)
after names (Err fault) = Err fault

pub after-nothing : (r : Result PathNames TextFault) → after [] r ≡ r
after-nothing (Ok more) = refl
after-nothing (Err fault) = refl

after-with_name : (names : PathNames) (name : Bytes) (place : ℕ) (r : Result PathNames TextFault) → after names (with_name (Some name) place r) ≡ after (names ++ name ∷ []) r
after-with_name names name place (Ok more) = ap Ok (sym (append_assoc names (name ∷ []) more))
after-with_name names name place (Err fault) = refl

pub names_of-cons : (place n : ℕ) (piece : Bytes) (pieces : List Bytes) → n < 16 → names_of place n (piece ∷ pieces) ≡ with_name (name_of piece) place (names_of (place + length piece + 1) (n + 1) pieces)
names_of-cons place n piece pieces few = let e : nat_eq n 16 ≡ false = ne_eqb n 16 (λ same. omega arith) in rw e refl

-- a name was read, and a slash follows it
pub read_more : (names : PathNames) (name : Bytes) (place n : ℕ) (text piece rest : Bytes) → n < 16 → slice_split is_slash text ≡ piece ∷ slice_split is_slash rest → name_of piece ≡ Some name → after names (names_of place n (slice_split is_slash text)) ≡ after (names ++ name ∷ []) (names_of (place + length piece + 1) (n + 1) (slice_split is_slash rest))
read_more names name place n text piece rest few cut e =
    rw (cut, names_of-cons place n piece (slice_split is_slash rest) few, e) (after-with_name names name place _)

-- the last name was read
pub read_last : (names : PathNames) (name : Bytes) (place n : ℕ) (text piece : Bytes) → n < 16 → slice_split is_slash text ≡ piece ∷ [] → name_of piece ≡ Some name → after names (names_of place n (slice_split is_slash text)) ≡ Ok (names ++ name ∷ [])
read_last names name place n text piece few cut e = rw (cut, names_of-cons place n piece [] few, e) refl

-- a text that is no name
pub read_none : (names : PathNames) (place n : ℕ) (text piece : Bytes) (pieces : List Bytes) → n < 16 → slice_split is_slash text ≡ piece ∷ pieces → name_of piece ≡ None → after names (names_of place n (slice_split is_slash text)) ≡ Err (BadName place)
read_none names place n text piece pieces few cut e = rw (cut, names_of-cons place n piece pieces few, e) refl

deep : (names : PathNames) (place : ℕ) (pieces : List Bytes) → 0 < length pieces → after names (names_of place 16 pieces) ≡ Err TooDeep
deep names place [] some = absurd (omega arith)
deep names place (piece ∷ pieces) some = refl

pub read_deep : (names : PathNames) (place n : ℕ) (text : Bytes) → n ≡ 16 → after names (names_of place n (slice_split is_slash text)) ≡ Err TooDeep
read_deep names place n text e = rw e (deep names place (slice_split is_slash text) (slice_split-nonempty is_slash text))
