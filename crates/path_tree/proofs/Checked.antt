-- Texts that are checked before memory is asked for.
use Rattle.std.proofs.Common.{◌≡◌, ℕ, ◌+◌, ◌<◌, Bool, true, false, not, ◌&&◌, ◌||◌, nat_le, List, [], ◌∷◌, ◌++◌, length, Option, Some, None, is_some, Result, Ok, Err, refl, ap, sym, ◌∙◌, length-append}
use Rattle.std.specs.List.{list_any, slice_split}
use Rattle.std.proofs.lemmas.List.Folds.{list_any-append}
use Rattle.path_tree.specs.Paths.{Bytes, PathNames}
use Rattle.path_tree.specs.Texts.{TextFault, BadName, TooDeep, Plain, undo_all, if_plain, undo_escapes, is_name, is_zero_or_slash, checked_name, name_of, with_name, names_of, is_slash}
use Rattle.path_tree.specs.Inner.Steps.{Undoes, verdict_of}
use Rattle.path_tree.proofs.Read.{after-nothing, names_of-cons, read_none, read_deep}

-- so many bytes are undone, and what is left of the text is still to be
pub record IsUndone (text left : Bytes) (count : ℕ) (clean : Bool) : Type 0 where
  pub out : Bytes
  pub so_far : undo_escapes text ≡ if_plain (undo_all (Plain, out) left)
  pub size : length out ≡ count
  pub free : not (list_any is_zero_or_slash out) ≡ clean

pub undone_none : (text : Bytes) → IsUndone text text 0 true
undone_none text = record { out = []; so_far = refl; size = refl; free = refl }

neither : (a b : Bool) → not (a || (b || false)) ≡ (not a && not b)
neither true b = refl
neither false true = refl
neither false false = refl

pub undone_more : (text left next : Bytes) (b count : ℕ) (clean : Bool) → IsUndone text left count clean → Undoes left (Some (b, next)) → IsUndone text next (count + 1) (clean && not (is_zero_or_slash b))
undone_more text left next b count clean h step = record {
  out = h.out ++ b ∷ [];
  so_far = h.so_far ∙ ap if_plain (step.1 h.out);
  size = length-append h.out (b ∷ []) ∙ ap (λ n. n + 1) h.size;
  free = ap not (list_any-append is_zero_or_slash h.out (b ∷ [])) ∙ neither (list_any is_zero_or_slash h.out) (is_zero_or_slash b) ∙ ap (λ c. c && not (is_zero_or_slash b)) h.free;
}

no_name : (o : Option Bytes) → o ≡ None → is_some (checked_name o) ≡ false
no_name o e = rw e refl

pub undone_broken : (text left : Bytes) (count : ℕ) (clean : Bool) → IsUndone text left count clean → Undoes left None → is_some (name_of text) ≡ false
undone_broken text left count clean h broken = no_name (undo_escapes text) (h.so_far ∙ broken h.out)

name_or_none : (name : Bytes) (b : Bool) → is_name name ≡ b → is_some (checked_name (Some name)) ≡ b
name_or_none name true e = rw e refl
name_or_none name false e = rw e refl

pub undone_all : (text left : Bytes) (count : ℕ) (clean : Bool) → IsUndone text left count clean → left ≡ [] → is_some (name_of text) ≡ (nat_le 1 count && nat_le count 254 && clean)
undone_all text left count clean h ended =
    let whole : undo_escapes text ≡ Some h.out = h.so_far ∙ ap (λ (l : Bytes). if_plain (undo_all (Plain, h.out) l)) ended in
    ap (λ (o : Option Bytes). is_some (checked_name o)) whole ∙ name_or_none h.out (is_name h.out) refl
    ∙ ap (λ n. nat_le 1 n && nat_le n 254 && not (list_any is_zero_or_slash h.out)) h.size
    ∙ ap (λ c. nat_le 1 count && nat_le count 254 && c) h.free

-- ---- the names of a text

verdict_of-with_name : (o : Option Bytes) (place : ℕ) (r : Result PathNames TextFault) → is_some o ≡ true → verdict_of (with_name o place r) ≡ verdict_of r
verdict_of-with_name None place r e = cc
verdict_of-with_name (Some name) place (Ok names) e = refl
verdict_of-with_name (Some name) place (Err fault) e = refl

not_some : (o : Option Bytes) → is_some o ≡ false → o ≡ None
not_some None e = refl
not_some (Some name) e = cc

-- a piece is a name, and a slash follows it
pub check_more : (place n : ℕ) (text piece rest : Bytes) → n < 16 → slice_split is_slash text ≡ piece ∷ slice_split is_slash rest → is_some (name_of piece) ≡ true → verdict_of (names_of place n (slice_split is_slash text)) ≡ verdict_of (names_of (place + length piece + 1) (n + 1) (slice_split is_slash rest))
check_more place n text piece rest few cut e =
    rw (cut, names_of-cons place n piece (slice_split is_slash rest) few) (verdict_of-with_name (name_of piece) place _ e)

-- the last piece is a name
pub check_last : (place n : ℕ) (text piece : Bytes) → n < 16 → slice_split is_slash text ≡ piece ∷ [] → is_some (name_of piece) ≡ true → verdict_of (names_of place n (slice_split is_slash text)) ≡ Ok tt
check_last place n text piece few cut e =
    rw (cut, names_of-cons place n piece [] few) (verdict_of-with_name (name_of piece) place _ e)

-- a piece is no name
pub check_none : (place n : ℕ) (text piece : Bytes) (pieces : List Bytes) → n < 16 → slice_split is_slash text ≡ piece ∷ pieces → is_some (name_of piece) ≡ false → verdict_of (names_of place n (slice_split is_slash text)) ≡ Err (BadName place)
check_none place n text piece pieces few cut e =
    ap verdict_of (sym (after-nothing (names_of place n (slice_split is_slash text))) ∙ read_none [] place n text piece pieces few cut (not_some (name_of piece) e))

pub check_deep : (place n : ℕ) (text : Bytes) → n ≡ 16 → verdict_of (names_of place n (slice_split is_slash text)) ≡ Err TooDeep
check_deep place n text e = ap verdict_of (sym (after-nothing (names_of place n (slice_split is_slash text))) ∙ read_deep [] place n text e)
