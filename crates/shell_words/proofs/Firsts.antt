-- The word that is named is the first that doesn't fit, whatever follows it.
use Rattle.std.proofs.Common.{◌≡◌, ℕ, suc, ◌+◌, ◌-◌, ◌<◌, Bool, cond, true, false, nat_lt, List, [], ◌∷◌, ◌++◌, length, take, Option, Some, None, IfSome, refl, sym, ap, subst, ◌∙◌, arith, codes}
use Rattle.std.specs.Str.{bytes_eq}
use Rattle.std.proofs.lemmas.Bool.{cond-true, cond-false}
use Rattle.std.proofs.lemmas.Option.{same_Some}
use Rattle.path_tree.specs.Paths.{Bytes}
use Rattle.shell_words.specs.declared.keyword.Keyword.{Keyword}
use Rattle.shell_words.specs.declared.places.Slot.{Slot}
use Rattle.shell_words.specs.declared.places.Complaint.{Complaint}
use Rattle.shell_words.specs.declared.places.Complaint.TheVariants as complaints
use Rattle.shell_words.specs.Complaints.{named_word, IsFirst, FirstIsNamed}
use Rattle.shell_words.specs.Places.{keyword_of, slot_at, needed, breaks, complaint_at, complaint_after, complaint_by, complaint_behind, first_breaking, complaint_of}
use Rattle.shell_words.proofs.Complaining.{breaking_from}

-- Found at a place: what follows it doesn't matter, and none before it breaks a rule.
record IsFound (k : Keyword) (m : ℕ) (ws : List Bytes) (found : ℕ × Bytes) : Type 0 where
  place : ℕ
  is : found.0 ≡ m + place
  inside : place < length ws
  whatever : (more : List Bytes) → breaking_from k m (take (suc place) ws ++ more) ≡ Some found
  before : breaking_from k m (take place ws) ≡ None

found_first : (k : Keyword) (m : ℕ) (ws : List Bytes) (found : ℕ × Bytes) → breaking_from k m ws ≡ Some found → IsFound k m ws found
found_first k m [] found e = absurd (cc)
found_first k m (w ∷ ws) found e = by (breaks k m w) refl e (found_first k (m + 1) ws found)
  where
    by : (b : Bool) → breaks k m w ≡ b → cond b (Some (m, w)) (breaking_from k (m + 1) ws) ≡ Some found
        → (breaking_from k (m + 1) ws ≡ Some found → IsFound k (m + 1) ws found) → IsFound k m (w ∷ ws) found
    by true q h rest = record {
      place = 0;
      is = let same = ap (λ (p : ℕ × Bytes). p.0) (same_Some (m, w) found h) in omega (arith, same);
      inside = omega arith;
      whatever = λ more. cond-true _ _ _ q ∙ h;
      before = refl;
    }
    by false q h rest = let f = rest h in record {
      place = suc f.place;
      is = omega (arith, f.is);
      inside = omega (arith, f.inside);
      whatever = λ more. cond-false _ _ _ q ∙ f.whatever more;
      before = cond-false _ _ _ q ∙ f.before;
    }

after_names : (k : Keyword) (count : ℕ) → named_word (complaint_after k count) ≡ None
after_names k count = here (nat_lt count (needed k)) _
  where
    here : (b : Bool) (slot : Slot) → named_word (cond b (complaints.TooFew slot) complaints.Fits) ≡ None
    here true slot = refl
    here false slot = refl

at_names : (i : ℕ) (slot : Option Slot) → named_word (complaint_at i slot) ≡ Some (i + 2)
at_names i (Some slot) = refl
at_names i None = refl

-- the law, by what is named
named_so : (words : List Bytes) (c : Complaint) (o : Option ℕ) → complaint_of words ≡ c → named_word c ≡ o → IfSome o (IsFirst words) → FirstIsNamed words
named_so words c o e n h = subst (λ (x : Option ℕ). IfSome x (IsFirst words)) (sym (ap named_word e ∙ n)) h

module _ (w : Bytes) (plain : bytes_eq w (codes "why") ≡ false) where
  behind : (o : Option Keyword) → keyword_of w ≡ o → (ws : List Bytes) → complaint_of (w ∷ ws) ≡ complaint_behind o ws
  behind o e ws = cond-false _ _ _ plain ∙ ap (λ (p : Option Keyword). complaint_behind p ws) e

  unknown_first : keyword_of w ≡ None → (ws : List Bytes) → FirstIsNamed (w ∷ ws)
  unknown_first e ws = named_so (w ∷ ws) complaints.Unknown (Some 1) (behind None e ws) refl (record {
    among = (omega arith, omega arith);
    whatever = λ more. behind None e more ∙ sym (behind None e ws);
    before = refl;
  })

  module _ (k : Keyword) (e : keyword_of w ≡ Some k) where
    by : (ws : List Bytes) (f : Option (ℕ × Bytes)) → first_breaking k ws ≡ f → complaint_of (w ∷ ws) ≡ complaint_by k (length ws) f
    by ws f q = behind (Some k) e ws ∙ ap (λ (o : Option (ℕ × Bytes)). complaint_by k (length ws) o) q

    found_is_first : (ws : List Bytes) (found : ℕ × Bytes) → first_breaking k ws ≡ Some found → IsFirst (w ∷ ws) (found.0 + 2)
    found_is_first ws found q = subst (IsFirst (w ∷ ws)) number (record {
      among = (omega arith, omega (arith, f.inside));
      whatever = λ more. by (take (suc f.place) ws ++ more) (Some found) (f.whatever more) ∙ sym (by ws (Some found) q);
      before = subst (λ (n : ℕ). named_word (complaint_of (take n (w ∷ ws))) ≡ None) one_less fitting;
    })
      where
        f : IsFound k 0 ws found
        f = found_first k 0 ws found q

        number : suc (suc f.place) ≡ found.0 + 2
        number = omega (arith, f.is)

        one_less : suc f.place ≡ suc (suc f.place) - 1
        one_less = omega arith

        fitting : named_word (complaint_of (w ∷ take f.place ws)) ≡ None
        fitting = ap named_word (by (take f.place ws) None f.before) ∙ after_names k (length (take f.place ws))

    by_found : (ws : List Bytes) (f : Option (ℕ × Bytes)) → first_breaking k ws ≡ f → FirstIsNamed (w ∷ ws)
    by_found ws None q = named_so (w ∷ ws) (complaint_after k (length ws)) None (by ws None q) (after_names k (length ws)) tt
    by_found ws (Some found) q =
        named_so (w ∷ ws) (complaint_at found.0 (slot_at k found.0)) (Some (found.0 + 2)) (by ws (Some found) q) (at_names found.0 (slot_at k found.0)) (found_is_first ws found q)

  by_keyword : (ws : List Bytes) (o : Option Keyword) → keyword_of w ≡ o → FirstIsNamed (w ∷ ws)
  by_keyword ws None e = unknown_first e ws
  by_keyword ws (Some k) e = by_found k e ws (first_breaking k ws) refl

pub first_is_named : (ws : List Bytes) → FirstIsNamed ws
first_is_named [] = tt
first_is_named (w ∷ ws) = here (bytes_eq w (codes "why")) refl
  where
    here : (b : Bool) → bytes_eq w (codes "why") ≡ b → FirstIsNamed (w ∷ ws)
    here true q = named_so (w ∷ ws) complaints.Fits None (cond-true _ _ _ q) refl tt
    here false q = by_keyword w q ws (keyword_of w) refl
