-- The lines of a folder's names that no path can have, one after another.
use Rattle.std.proofs.Common.{◌≡◌, ℕ, ◌+◌, ◌<◌, Bool, cond, true, false, not, ◌&&◌, List, [], ◌∷◌, ◌++◌, length, take, drop, Some, sym, ap, ◌∙◌, arith, append-nil, append_assoc}
use Rattle.std.specs.Prelude.{slice_get}
use Rattle.std.specs.List.{flat_map, list_all}
use Rattle.std.proofs.lemmas.List.{take-append-drop}
use Rattle.std.proofs.lemmas.List.Elements.{filter-append}
use Rattle.std.proofs.lemmas.List.Folds.{list_all-append}
use Rattle.std.proofs.lemmas.Grind.{flat_map-append}
use Rattle.path_tree.specs.Paths.{Bytes, PathNames}
use Rattle.path_tree.specs.Texts.{is_name, printed_byte, printed_name, text_of}
use Rattle.folder_extract.specs.Telling.{passed_line, unnamed_in, unnamed_lines}
use Rattle.folder_extract.proofs.Places.{front_more, and_true, and_false}

-- the text of a path and one name more, below the root and below others
pub text_below_root : (n : Bytes) → ([] ++ 47 ∷ []) ++ flat_map printed_byte n ≡ text_of (n ∷ [])
text_below_root n = sym (append-nil (printed_name n))

pub text_below_path : (p : PathNames) (n : Bytes) → 0 < length p → (text_of p ++ 47 ∷ []) ++ flat_map printed_byte n ≡ text_of (p ++ n ∷ [])
text_below_path [] n h = absurd (omega arith)
text_below_path (m ∷ ms) n h =
    append_assoc (flat_map printed_name (m ∷ ms)) (47 ∷ []) (flat_map printed_byte n)
    ∙ ap (λ (bs : Bytes). flat_map printed_name (m ∷ ms) ++ bs) (sym (append-nil (printed_name n)))
    ∙ sym (flat_map-append printed_name (m ∷ ms) (n ∷ []))

-- ---- the lines

-- the parts of a line, one after another
pub entry_parts : (kind text number : Bytes) → kind ++ (32 ∷ (text ++ (32 ∷ (number ++ 10 ∷ [])))) ≡ ((kind ++ 32 ∷ text) ++ 32 ∷ number) ++ 10 ∷ []
entry_parts kind text number = simp append_assoc

pub unnamed_both : (p : PathNames) (xs ys : List Bytes) → unnamed_lines p (xs ++ ys) ≡ unnamed_lines p xs ++ unnamed_lines p ys
unnamed_both p xs ys =
    ap (flat_map (λ (n : Bytes). passed_line (p ++ n ∷ []))) (filter-append (λ (n : Bytes). not (is_name n)) xs ys)
    ∙ flat_map-append (λ (n : Bytes). passed_line (p ++ n ∷ [])) (unnamed_in xs) (unnamed_in ys)

unnamed_one : (p : PathNames) (n : Bytes) (b : Bool) → is_name n ≡ b → unnamed_lines p (n ∷ []) ≡ cond b [] (passed_line (p ++ n ∷ []))
unnamed_one p n true e = ap (λ b. flat_map (λ (m : Bytes). passed_line (p ++ m ∷ [])) (cond (not b) (n ∷ []) [])) e
unnamed_one p n false e = ap (λ b. flat_map (λ (m : Bytes). passed_line (p ++ m ∷ [])) (cond (not b) (n ∷ []) [])) e ∙ append-nil (passed_line (p ++ n ∷ []))

-- a name that a path can have
pub unnamed_same : (p : PathNames) (names : List Bytes) (i : ℕ) (n : Bytes) → slice_get names i ≡ Some n → is_name n ≡ true → unnamed_lines p (take (i + 1) names) ≡ unnamed_lines p (take i names)
unnamed_same p names i n e is =
    ap (unnamed_lines p) (front_more names i n e) ∙ unnamed_both p (take i names) (n ∷ [])
    ∙ ap (λ (bs : Bytes). unnamed_lines p (take i names) ++ bs) (unnamed_one p n true is) ∙ append-nil (unnamed_lines p (take i names))

-- one that none can
pub unnamed_more : (p : PathNames) (names : List Bytes) (i : ℕ) (n : Bytes) → slice_get names i ≡ Some n → is_name n ≡ false → unnamed_lines p (take (i + 1) names) ≡ unnamed_lines p (take i names) ++ passed_line (p ++ n ∷ [])
unnamed_more p names i n e is =
    ap (unnamed_lines p) (front_more names i n e) ∙ unnamed_both p (take i names) (n ∷ [])
    ∙ ap (λ (bs : Bytes). unnamed_lines p (take i names) ++ bs) (unnamed_one p n false is)

-- the others
pub unnamed_rest : (p : PathNames) (names : List Bytes) (i : ℕ) → unnamed_lines p names ≡ unnamed_lines p (take i names) ++ unnamed_lines p (drop i names)
unnamed_rest p names i = ap (unnamed_lines p) (sym (take-append-drop i names)) ∙ unnamed_both p (take i names) (drop i names)

-- ---- whether paths can have all of them

pub all_same : (names : List Bytes) (i : ℕ) (n : Bytes) (all : Bool) → slice_get names i ≡ Some n → is_name n ≡ true → all ≡ list_all is_name (take i names) → all ≡ list_all is_name (take (i + 1) names)
all_same names i n all e is h =
    h ∙ sym (ap (list_all is_name) (front_more names i n e) ∙ list_all-append is_name (take i names) (n ∷ [])
    ∙ ap (λ b. list_all is_name (take i names) && (b && true)) is ∙ and_true (list_all is_name (take i names)))

pub all_none : (names : List Bytes) (i : ℕ) (n : Bytes) → slice_get names i ≡ Some n → is_name n ≡ false → false ≡ list_all is_name (take (i + 1) names)
all_none names i n e is =
    sym (ap (list_all is_name) (front_more names i n e) ∙ list_all-append is_name (take i names) (n ∷ [])
    ∙ ap (λ b. list_all is_name (take i names) && (b && true)) is ∙ and_false (list_all is_name (take i names)))
