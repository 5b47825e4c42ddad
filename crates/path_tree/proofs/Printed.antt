-- The text that is printed of a path is read as that path.
use Rattle.std.proofs.Common.{◌≡◌, ◌≢◌, ℕ, ◌+◌, ◌*◌, ◌/◌, ◌%◌, ◌<◌, ◌≤◌, Bool, true, false, not, ◌&&◌, nat_eq, nat_le, cond, [], ◌∷◌, ◌++◌, length, map, Some, Ok, refl, ap, sym, ◌∙◌, append_assoc, append-nil, length-append, arith}
use Rattle.std.specs.List.{All, flat_map, slice_split, list_any}
use Rattle.std.proofs.lemmas.List.Elements.{All-head, All-tail, All-append, All-cons, All-nil}
use Rattle.std.proofs.lemmas.List.Folds.{list_any_none}
use Rattle.std.proofs.lemmas.Bool.{ne_eqb}
use Rattle.std.proofs.lemmas.List.Splits.{slice_split_none, slice_split_at}
use Rattle.std.proofs.lemmas.Bool.Decides.{nat_tests}
use Rattle.path_tree.specs.Paths.{Bytes, PathNames, IsName, IsPath}
use Rattle.path_tree.specs.Texts.{Plain, digit, upper_digit, undo_all, undo_escapes, if_plain, is_name, is_slash, is_zero_or_slash, name_of, names_of, names_after, path_of, printed_byte, printed_name, text_of}

digit-upper_digit : (d : ℕ) → d < 16 → digit (upper_digit d) ≡ Some d
digit-upper_digit d few = grind (arith, nat_tests)

-- what an escape's two digits give
escaped : (high low : ℕ) (out rest : Bytes) → high < 16 → low < 16 → undo_all (Plain, out) (37 ∷ upper_digit high ∷ upper_digit low ∷ rest) ≡ undo_all (Plain, out ++ (16 * high + low) ∷ []) rest
escaped high low out rest h l = rw (digit-upper_digit high h, digit-upper_digit low l) refl

plain : (b : ℕ) (out rest : Bytes) → b ≢ 37 → undo_all (Plain, out) (b ∷ rest) ≡ undo_all (Plain, out ++ b ∷ []) rest
plain b out rest other = let e : nat_eq b 37 ≡ false = ne_eqb b 37 other in rw e refl

abbrev stands_plain : ℕ → Bool
stands_plain b = nat_le 33 b && nat_le b 126 && not (nat_eq b 37) && not (nat_eq b 47)

undo_all-byte : (b : ℕ) (out rest : Bytes) → b < 256 → (t : Bool) → stands_plain b ≡ t → undo_all (Plain, out) ((cond t (b ∷ []) (37 ∷ upper_digit (b / 16) ∷ upper_digit (b % 16) ∷ [])) ++ rest) ≡ undo_all (Plain, out ++ b ∷ []) rest
undo_all-byte b out rest in_byte true e = plain b out rest (λ same. grind (arith, nat_tests))
undo_all-byte b out rest in_byte false e =
    let whole : 16 * (b / 16) + b % 16 ≡ b = omega arith in
    escaped (b / 16) (b % 16) out rest (omega arith) (omega arith) ∙ ap (λ n. undo_all (Plain, out ++ n ∷ []) rest) whole

undo_all-printed : (name out : Bytes) → All (λ b. b < 256) name → undo_all (Plain, out) (flat_map printed_byte name) ≡ (Plain, out ++ name)
undo_all-printed [] out in_byte = ap (λ l. (Plain, l)) (sym (append-nil out))
undo_all-printed (b ∷ bs) out in_byte =
    undo_all-byte b out (flat_map printed_byte bs) (All-head (λ c. c < 256) b bs in_byte) (stands_plain b) refl
    ∙ undo_all-printed bs (out ++ b ∷ []) (All-tail (λ c. c < 256) b bs in_byte)
    ∙ ap (λ l. (Plain, l)) (append_assoc out (b ∷ []) bs)

is_name-IsName : (name : Bytes) → IsName name → is_name name ≡ true
is_name-IsName name h =
    let none : list_any is_zero_or_slash name ≡ false = list_any_none is_zero_or_slash name (λ k d within. grind (arith, nat_tests, h.no_zero k d within, h.no_slash k d within)) in
    rw none (grind (arith, nat_tests, h.at_least, h.at_most))

name_of-printed : (name : Bytes) → IsName name → name_of (flat_map printed_byte name) ≡ Some name
name_of-printed name h =
    let whole : undo_escapes (flat_map printed_byte name) ≡ Some name = ap if_plain (undo_all-printed name [] h.in_byte) in
    rw (whole, is_name-IsName name h) refl

slash_free-digit : (d : ℕ) → d < 16 → is_slash (upper_digit d) ≡ false
slash_free-digit d few = grind (arith, nat_tests)

abbrev NotSlash : ℕ → Type 0
NotSlash c = is_slash c ≡ false

slash_free-byte : (b : ℕ) → b < 256 → (t : Bool) → stands_plain b ≡ t → All NotSlash (cond t (b ∷ []) (37 ∷ upper_digit (b / 16) ∷ upper_digit (b % 16) ∷ []))
slash_free-byte b in_byte true e = All-cons NotSlash b [] (grind (arith, nat_tests)) (All-nil NotSlash)
slash_free-byte b in_byte false e =
    let low : Bytes = upper_digit (b % 16) ∷ [] in
    All-cons NotSlash 37 (upper_digit (b / 16) ∷ low) refl (All-cons NotSlash (upper_digit (b / 16)) low (slash_free-digit (b / 16) (omega arith)) (All-cons NotSlash (upper_digit (b % 16)) [] (slash_free-digit (b % 16) (omega arith)) (All-nil NotSlash)))

slash_free : (name : Bytes) → All (λ b. b < 256) name → All NotSlash (flat_map printed_byte name)
slash_free [] in_byte = All-nil NotSlash
slash_free (b ∷ bs) in_byte = All-append NotSlash (printed_byte b) (flat_map printed_byte bs) (slash_free-byte b (All-head (λ c. c < 256) b bs in_byte) (stands_plain b) refl) (slash_free bs (All-tail (λ c. c < 256) b bs in_byte))

pieces : (name : Bytes) (names : PathNames) → All IsName (name ∷ names) → slice_split is_slash (flat_map printed_byte name ++ flat_map printed_name names) ≡ map (flat_map printed_byte) (name ∷ names)
pieces name [] all = rw (append-nil (flat_map printed_byte name)) (slice_split_none is_slash _ (slash_free name (All-head IsName name [] all).in_byte))
pieces name (next ∷ names) all =
    slice_split_at is_slash (flat_map printed_byte name) 47 (flat_map printed_byte next ++ flat_map printed_name names) (slash_free name (All-head IsName name (next ∷ names) all).in_byte) refl
    ∙ ap (λ l. flat_map printed_byte name ∷ l) (pieces next names (All-tail IsName name (next ∷ names) all))

names_of-printed : (place n : ℕ) (names : PathNames) → n + length names ≤ 16 → All IsName names → names_of place n (map (flat_map printed_byte) names) ≡ Ok names
names_of-printed place n [] few all = refl
names_of-printed place n (name ∷ names) few all =
    let e : nat_eq n 16 ≡ false = ne_eqb n 16 (λ same. omega arith) in
    rw (e, name_of-printed name (All-head IsName name names all), names_of-printed (place + length (flat_map printed_byte name) + 1) (n + 1) names (omega arith) (All-tail IsName name names all)) refl

path_of-slash : (rest : Bytes) → 0 < length rest → path_of (47 ∷ rest) ≡ names_after rest
path_of-slash [] some = absurd (omega arith)
path_of-slash (c ∷ cs) some = refl

nonempty-byte : (b : ℕ) (t : Bool) → 0 < length (cond t (b ∷ []) (37 ∷ upper_digit (b / 16) ∷ upper_digit (b % 16) ∷ []))
nonempty-byte b true = omega arith
nonempty-byte b false = omega arith

nonempty : (name more : Bytes) → 1 ≤ length name → 0 < length (flat_map printed_byte name ++ more)
nonempty [] more some = absurd (omega arith)
nonempty (b ∷ bs) more some = omega (arith, nonempty-byte b (stands_plain b), length-append (flat_map printed_byte (b ∷ bs)) more, length-append (printed_byte b) (flat_map printed_byte bs))

-- the law of printing
pub path_of-text_of : (path : PathNames) → IsPath path → path_of (text_of path) ≡ Ok path
path_of-text_of [] h = refl
path_of-text_of (name ∷ names) h =
    path_of-slash (flat_map printed_byte name ++ flat_map printed_name names) (nonempty name _ (All-head IsName name names h.names).at_least)
    ∙ ap (names_of 1 0) (pieces name names h.names)
    ∙ names_of-printed 1 0 (name ∷ names) (omega (arith, h.depth)) h.names

-- what the loop over the names has printed
pub text_of-nonempty : (path : PathNames) → 0 < length path → text_of path ≡ flat_map printed_name path
text_of-nonempty [] some = absurd (omega arith)
text_of-nonempty (name ∷ names) some = refl
