-- What the test of two answers says: they are equal. And names that are compared one after another.
use Rattle.std.proofs.Common.{◌≡◌, ◌↔◌, ℕ, ◌+◌, ◌≤◌, IsTrue, Bool, true, false, ◌&&◌, ◌==◌, List, length, drop, Some, refl, sym, ap, ap₂, subst, ◌∙◌, add-one}
use Rattle.std.specs.Prelude.{slice_get}
use Rattle.std.specs.Cmp.Lexicographic.{unequal}
use Rattle.std.proofs.lemmas.Bool.{eqb-true, eq-eqb, and_parts, and_from}
use Rattle.std.proofs.lemmas.List.{drop_all}
use Rattle.path_tree.specs.Paths.{Bytes, same_name}
use Rattle.path_tree.proofs.CallerLemmas.{same_name-is, same_name-refl, same_path-is, same_path-refl}
use Rattle.path_resolver.specs.Comparing.{same_names, same_answer}
use Rattle.path_resolver.specs.declared.answer.Answer.{Answer}
use Rattle.path_resolver.specs.declared.answer.Answer.TheVariants as answers
use Rattle.path_resolver.proofs.Finding.{front_of}

-- ---- names

pub names_apart : (p q : List Bytes) → (length p ≡ length q → ⊥) → same_names p q ≡ false
names_apart p q other = unequal same_name p q other

names_step : (p q : List Bytes) (i : ℕ) (m n : Bytes) → slice_get p i ≡ Some m → slice_get q i ≡ Some n → same_names (drop i p) (drop i q) ≡ (same_name m n && same_names (drop (i + 1) p) (drop (i + 1) q))
names_step p q i m n e f = rw add-one (ap₂ same_names (front_of p i m e) (front_of q i n f))

-- the names at a place are equal, so it depends on those behind it
pub names_next : (p q : List Bytes) (i : ℕ) (m n : Bytes) (here whole : Bool) → slice_get p i ≡ Some m → slice_get q i ≡ Some n → here ≡ same_name m n → here ≡ true
    → whole ≡ same_names (drop i p) (drop i q) → whole ≡ same_names (drop (i + 1) p) (drop (i + 1) q)
names_next p q i m n here whole e f is t so_far = so_far ∙ names_step p q i m n e f ∙ ap (λ (b : Bool). b && same_names (drop (i + 1) p) (drop (i + 1) q)) (sym is ∙ t)

-- they differ
pub names_differ : (p q : List Bytes) (i : ℕ) (m n : Bytes) (here whole : Bool) → slice_get p i ≡ Some m → slice_get q i ≡ Some n → here ≡ same_name m n → here ≡ false
    → whole ≡ same_names (drop i p) (drop i q) → whole ≡ false
names_differ p q i m n here whole e f is t so_far = so_far ∙ names_step p q i m n e f ∙ ap (λ (b : Bool). b && same_names (drop (i + 1) p) (drop (i + 1) q)) (sym is ∙ t)

-- no name is left
pub names_end : (p q : List Bytes) (i : ℕ) (whole : Bool) → length p ≤ i → length q ≤ i → whole ≡ same_names (drop i p) (drop i q) → whole ≡ true
names_end p q i whole past behind so_far = so_far ∙ ap₂ same_names (drop_all i p past) (drop_all i q behind)

-- ---- answers

same_itself : (a : Answer) → same_answer a a ≡ true
same_itself (answers.File b) = same_name-refl b
same_itself (answers.Folder ns) = same_path-refl ns
same_itself answers.NoSuch = refl
same_itself (answers.NotYet m) = eq-eqb m m refl
same_itself answers.NoCarousel = refl
same_itself answers.Elsewhere = refl
same_itself (answers.Compressed m) = eq-eqb m m refl
same_itself (answers.Bad m i) = and_from (m == m) (i == i) (eq-eqb m m refl) (eq-eqb i i refl)
same_itself (answers.Dangling m) = eq-eqb m m refl
same_itself (answers.OtherKind m) = eq-eqb m m refl

are_equal : (a b : Answer) → same_answer a b ≡ true → a ≡ b
are_equal (answers.File a) (answers.File b) e = ap answers.File (same_name-is a b e)
are_equal (answers.Folder a) (answers.Folder b) e = ap answers.Folder (same_path-is a b e)
are_equal answers.NoSuch answers.NoSuch e = refl
are_equal (answers.NotYet m) (answers.NotYet n) e = ap answers.NotYet (eqb-true m n e)
are_equal answers.NoCarousel answers.NoCarousel e = refl
are_equal answers.Elsewhere answers.Elsewhere e = refl
are_equal (answers.Compressed m) (answers.Compressed n) e = ap answers.Compressed (eqb-true m n e)
are_equal (answers.Bad m i) (answers.Bad n j) e = let both = and_parts (m == n) (i == j) e in ap₂ answers.Bad (eqb-true m n both.0) (eqb-true i j both.1)
are_equal (answers.Dangling m) (answers.Dangling n) e = ap answers.Dangling (eqb-true m n e)
are_equal (answers.OtherKind m) (answers.OtherKind n) e = ap answers.OtherKind (eqb-true m n e)
are_equal _ _ e = absurd cc

-- the test is true exactly where they are equal
pub tells_equal : (a b : Answer) → IsTrue (same_answer a b) ↔ (a ≡ b)
tells_equal a b = (are_equal a b, λ e. subst (λ (x : Answer). same_answer a x ≡ true) e (same_itself a))

pub same_answer-refl : (a : Answer) → same_answer a a ≡ true
same_answer-refl = same_itself
