-- Sections that are taken from the front of an input, one after another.
use Rattle.std.proofs.Common.{◌≡◌, ◌≢◌, ℕ, zero, suc, ◌+◌, ◌*◌, ◌%◌, ◌<◌, ◌≤◌, Bool, true, false, ◌&&◌, nat_le, cond, List, [], ◌∷◌, ◌++◌, length, take, drop, get_or, Option, Some, None, refl, arith, ◌∙◌, sym, ap, append_assoc, append-nil, length-drop, length-append, subst}
use Rattle.std.specs.Option.{is_some}
use Rattle.std.specs.List.{concat}
use Rattle.std.proofs.lemmas.Bool.{and_parts, and_from, cond-true, cond-false, leb-true, le-leb, lt-leb, lt-ltb, le-ltb, eq-eqb, ne_eqb, and_left, and_right}
use Rattle.std.proofs.lemmas.Option.{cond_some, same_Some}
use Rattle.std.proofs.lemmas.List.{get_or_append_left, take-append-le, drop-append-le, take-append-drop, take_at, take_all}
use Rattle.std.proofs.lemmas.List.Folds.{concat-append}
use Rattle.oc_bytes.specs.Outcome.{Known}
use Rattle.shell_streams.proofs.Putting.{told_here}
use Rattle.shell_streams.specs.Cuts.{Bytes, back_to_back_in, back_to_back}
use Rattle.shell_streams.specs.Inner.Cuts.{prefix_length}
use Rattle.shell_streams.specs.Packets.{onto_left, IsRear, AllTaken, is_over_sections, Stopped}
use Rattle.shell_streams.specs.Inner.Held.{IsDry, AreCut}
use Rattle.shell_streams.specs.declared.input.InputFault.{InputFault}
use Rattle.shell_streams.specs.declared.input.InputFault.TheVariants as faults

-- what the length field says, its own three bytes included
abbrev span : Bytes → ℕ
span bytes = 3 + (get_or bytes 1 0 % 16 * 256 + get_or bytes 2 0)

abbrev has_front : Bytes → Bool
has_front bytes = nat_le 3 (length bytes) && nat_le (span bytes) (length bytes)

-- enough steps give the same sections
cut_steps : (m n : ℕ) (bytes : Bytes) → length bytes ≤ m → length bytes ≤ n → back_to_back_in m bytes ≡ back_to_back_in n bytes
cut_steps zero zero bytes h k = refl
cut_steps zero (suc n) bytes h k = sym (cond-false (has_front bytes) (take (span bytes) bytes ∷ back_to_back_in n (drop (span bytes) bytes)) [] (and_left _ _ (no_front bytes h)))
  where
    no_front : (bytes : Bytes) → length bytes ≤ 0 → nat_le 3 (length bytes) ≡ false
    no_front bytes h = lt-leb 3 (length bytes) (omega arith)
cut_steps (suc m) zero bytes h k = cond-false (has_front bytes) (take (span bytes) bytes ∷ back_to_back_in m (drop (span bytes) bytes)) [] (and_left _ _ (no_front bytes k))
  where
    no_front : (bytes : Bytes) → length bytes ≤ 0 → nat_le 3 (length bytes) ≡ false
    no_front bytes h = lt-leb 3 (length bytes) (omega arith)
cut_steps (suc m) (suc n) bytes h k =
    ap (λ t. cond (has_front bytes) (take (span bytes) bytes ∷ t) [])
    (cut_steps m n (drop (span bytes) bytes) (omega (arith, length-drop (span bytes) bytes)) (omega (arith, length-drop (span bytes) bytes)))

-- a whole section at the front, as numbers
pub record Front (bytes : Bytes) (n : ℕ) : Type 0 where
  pub header : 3 ≤ length bytes
  pub is_span : span bytes ≡ n
  pub within : n ≤ length bytes

front_from : (bytes : Bytes) (n : ℕ) → prefix_length bytes ≡ Some n → Front bytes n
front_from bytes n e =
    let p = cond_some (has_front bytes) (span bytes) n e in
    let q = and_parts _ _ p.0 in
    record { header = leb-true 3 (length bytes) q.0; is_span = p.1; within = subst (λ m. m ≤ length bytes) p.1 (leb-true (span bytes) (length bytes) q.1) }

front_true : (bytes : Bytes) (n : ℕ) → Front bytes n → has_front bytes ≡ true
front_true bytes n f = and_from _ _ (le-leb 3 (length bytes) f.header) (le-leb (span bytes) (length bytes) (omega (arith, f.is_span, f.within)))

pub cut_some : (bytes : Bytes) (n : ℕ) → Front bytes n → back_to_back bytes ≡ take n bytes ∷ back_to_back (drop n bytes)
cut_some [] n f = absurd (omega (arith, f.header))
cut_some (c ∷ cs) n f =
    let bytes : Bytes = c ∷ cs in
    cond-true (has_front bytes) (take (span bytes) bytes ∷ back_to_back_in (length cs) (drop (span bytes) bytes)) [] (front_true bytes n f)
    ∙ ap (λ k. take k bytes ∷ back_to_back_in (length cs) (drop k bytes)) f.is_span
    ∙ ap (λ t. take n bytes ∷ t) (cut_steps (length cs) (length (drop n bytes)) (drop n bytes) (shorter c cs n f) (omega arith))
  where
    shorter : (c : ℕ) (cs : Bytes) (n : ℕ) → Front (c ∷ cs) n → length (drop n (c ∷ cs)) ≤ length cs
    shorter c cs n f = omega (arith, length-drop n (c ∷ cs), f.is_span)

front_false : (bytes : Bytes) → prefix_length bytes ≡ None → has_front bytes ≡ false
front_false bytes e = none (has_front bytes) (span bytes) e
  where
    none : (b : Bool) (n : ℕ) → cond b (Some n) None ≡ None → b ≡ false
    none true n e = cc
    none false n e = refl

pub cut_none : (bytes : Bytes) → prefix_length bytes ≡ None → back_to_back bytes ≡ []
cut_none [] e = refl
cut_none (c ∷ cs) e =
    let bytes : Bytes = c ∷ cs in
    cond-false (has_front bytes) (take (span bytes) bytes ∷ back_to_back_in (length cs) (drop (span bytes) bytes)) [] (front_false bytes e)

-- bytes after a whole section don't change it
front_append : (held rest : Bytes) (n : ℕ) → Front held n → Front (held ++ rest) n
front_append held rest n f = record {
  header = omega (arith, f.header, length-append held rest);
  is_span = span_same held rest f.header ∙ f.is_span;
  within = omega (arith, f.within, length-append held rest);
}
  where
    span_same : (held rest : Bytes) → 3 ≤ length held → span (held ++ rest) ≡ span held
    span_same held rest h =
        let one : 1 < length held = omega arith in
        let two : 2 < length held = omega arith in
        rw (get_or_append_left held rest 0 1 one, get_or_append_left held rest 0 2 two) refl

pub cut_next : (sections : List Bytes) (input held rest : Bytes) (n : ℕ) → prefix_length held ≡ Some n → AreCut sections input (held ++ rest)
    → AreCut (sections ++ take n held ∷ []) input (drop n held ++ rest)
cut_next sections input held rest n e c =
    let f = front_from held n e in
    let within : n ≤ length held = f.within in
    record {
      whole = c.whole ∙ sym (rw (concat-append sections (take n held ∷ []), append_assoc) (ap (λ bs. concat sections ++ bs)
          (rw (append-nil (take n held), ← append_assoc) (ap (λ bs. bs ++ rest) (take-append-drop n held)))));
      cuts = c.cuts ∙ ap (λ bs. sections ++ bs) (cut_some (held ++ rest) n (front_append held rest n f)
          ∙ ap (λ bs. bs ∷ back_to_back (drop n (held ++ rest))) (take-append-le n held rest within)
          ∙ ap (λ bs. take n held ∷ back_to_back bs) (drop-append-le n held rest within))
          ∙ sym (append_assoc sections (take n held ∷ []) (back_to_back (drop n held ++ rest)));
    }

pub cut_begin : (input : Bytes) → AreCut [] input input
cut_begin input = record { whole = refl; cuts = refl }

-- ---- where content is known

told_both : (a : Option Bytes) (held : Bytes) (left : Option Bytes) → is_some (onto_left held left) ≡ is_some left
told_both a held (Some l) = refl
told_both a held None = refl

pub told_begin : (a : Option Bytes) → Known a (onto_left [] a) (AreCut [])
told_begin a = record { kept = told_both a [] a; each = λ x y e g. begin a x y e g }
  where
    begin : (a : Option Bytes) (x y : Bytes) → a ≡ Some x → onto_left [] a ≡ Some y → AreCut [] x y
    begin (Some l) x y e g = let h : y ≡ x = sym (same_Some l y g) ∙ same_Some l x e in rw h (cut_begin x)
    begin None x y e g = cc

pub told_next : (a : Option Bytes) (held : Bytes) (left : Option Bytes) (sections : List Bytes) (n : ℕ) → prefix_length held ≡ Some n
    → Known a (onto_left held left) (AreCut sections) → Known a (onto_left (drop n held) left) (AreCut (sections ++ take n held ∷ []))
told_next a held left sections n e t = record {
  kept = told_both a (drop n held) left ∙ sym (told_both a held left) ∙ t.kept;
  each = λ x y i o. next left x y i o t;
}
  where
    next : (left : Option Bytes) (x y : Bytes) → a ≡ Some x → onto_left (drop n held) left ≡ Some y → Known a (onto_left held left) (AreCut sections) → AreCut (sections ++ take n held ∷ []) x y
    next (Some l) x y i o t = rw (sym (same_Some _ y o)) (cut_next sections x held l n e (t.each x (held ++ l) i refl))
    next None x y i o t = cc

-- ---- the end of an input

-- all its sections were taken, and this is what is left of it
pub record AreAll (sections : List Bytes) (input left : Bytes) : Type 0 where
  pub to_end : left ≡ []
  pub all : back_to_back input ≡ sections

pub told_end : (a : Option Bytes) (held : Bytes) (left : Option Bytes) (sections : List Bytes) → prefix_length held ≡ None → IsDry left
    → Known a (onto_left held left) (AreCut sections) → Known a left (AreAll sections)
told_end a held left sections e d t = record { kept = sym (told_both a held left) ∙ t.kept; each = λ x y i o. end left x y i o d t }
  where
    end : (left : Option Bytes) (x y : Bytes) → a ≡ Some x → left ≡ Some y → IsDry left → Known a (onto_left held left) (AreCut sections) → AreAll sections x y
    end (Some l) x y i o d t =
        let c = t.each x (held ++ l) i refl in
        record {
          to_end = sym (same_Some l y o) ∙ d;
          all = c.cuts ∙ ap (λ bs. sections ++ back_to_back bs) (ap (λ bs. held ++ bs) d ∙ append-nil held) ∙ ap (λ bs. sections ++ bs) (cut_none held e) ∙ append-nil sections;
        }
    end None x y i o d t = cc

pub told_rear : (a : Option Bytes) (held : Bytes) (left : Option Bytes) (sections : List Bytes) → Known a (onto_left held left) (AreCut sections) → Known a left IsRear
told_rear a held left sections t = record { kept = sym (told_both a held left) ∙ t.kept; each = λ x y i o. rear left x y i o t }
  where
    rear : (left : Option Bytes) (x y : Bytes) → a ≡ Some x → left ≡ Some y → Known a (onto_left held left) (AreCut sections) → IsRear x y
    rear (Some l) x y i o t =
        let c = t.each x (held ++ l) i refl in
        record { taken = concat sections ++ held; whole = c.whole ∙ rw (append_assoc, same_Some l y o) refl }
    rear None x y i o t = cc

-- ---- the limit

pub within_few : (most : ℕ) (input : Bytes) (sections : List Bytes) → back_to_back input ≡ sections → length sections < most → is_over_sections most input ≡ false
within_few most input sections e h =
    let short : take most sections ≡ sections = take_all most sections (omega arith) in
    rw (e, short) (and_left _ _ (ne_eqb (length sections) most (λ s. absurd (omega (arith, s)))))

pub within_all : (most : ℕ) (input : Bytes) (sections : List Bytes) → AreCut sections input [] → length sections ≡ most → is_over_sections most input ≡ false
within_all most input sections c h =
    let all : back_to_back input ≡ sections = c.cuts ∙ append-nil sections in
    let whole : input ≡ concat sections = c.whole ∙ append-nil (concat sections) in
    let short : take most sections ≡ sections = take_all most sections (omega arith) in
    rw (all, short) (and_right _ _ (le-ltb (length (concat sections)) (length input) (omega (arith, ap length whole))))

pub over_rest : (most : ℕ) (input rest : Bytes) (sections : List Bytes) → AreCut sections input rest → length sections ≡ most → rest ≢ [] → is_over_sections most input ≡ true
over_rest most input rest sections c h some =
    let front : take most (back_to_back input) ≡ sections = ap (take most) c.cuts ∙ take_at sections (back_to_back rest) most h in
    rw front (and_from _ _ (eq-eqb _ _ h) (lt-ltb (length (concat sections)) (length input) (omega (arith, ap length c.whole, length-append (concat sections) rest, longer rest some))))
  where
    longer : (rest : Bytes) → rest ≢ [] → 0 < length rest
    longer [] h = absurd (h refl)
    longer (c ∷ cs) h = omega arith

-- ---- how gathering stops and ends

-- a prefix was taken, and the status isn't that of the limit
pub stopped_other : {over : Bytes → Bool} {a b : Option Bytes} (s : InputFault) → (s ≡ faults.TooLong → ⊥) → Known a b IsRear → Known a b (Stopped over s)
stopped_other s n t = record { kept = t.kept; each = λ x y i o. record { rear = t.each x y i o; too_long = λ e. absurd (n e) } }

pub nil_by_cases : (rest : Bytes) → (rest ≢ [] → ⊥) → rest ≡ []
nil_by_cases [] n = refl
nil_by_cases (c ∷ cs) n = absurd (n (λ e. cc))

pub stopped_long : (most : ℕ) (a : Option Bytes) (held held2 : Bytes) (left left2 : Option Bytes) (sections : List Bytes) → length sections ≡ most
    → Known a (onto_left held left) (AreCut sections) → onto_left held2 left2 ≡ onto_left held left → ((rest : Bytes) → onto_left held left ≡ Some rest → rest ≢ [])
    → Known a left2 (Stopped (is_over_sections most) faults.TooLong)
stopped_long most a held held2 left left2 sections n t e more =
    let rear = told_rear a held2 left2 sections (rw e t) in
    record {
      kept = rear.kept;
      each = λ x y i o. record {
        rear = rear.each x y i o;
        too_long = λ _. let r = told_here a (onto_left held left) x t i in over_rest most x r.0 sections r.2 n (more r.0 r.1);
      };
    }

pub ended_few : (most : ℕ) (a left : Option Bytes) (sections : List Bytes) → length sections < most → Known a left (AreAll sections) → Known a left (AllTaken back_to_back (is_over_sections most) sections)
ended_few most a left sections n t = record {
  kept = t.kept;
  each = λ x y i o. let r = t.each x y i o in record { to_end = r.to_end; within = within_few most x sections r.all n; all = r.all };
}

pub dry_end : (left : Option Bytes) (y : Bytes) → IsDry left → left ≡ Some y → y ≡ []
dry_end (Some l) y d o = sym (same_Some l y o) ∙ d
dry_end None y d o = cc

pub ended_full : (most : ℕ) (a : Option Bytes) (held held2 : Bytes) (left left2 : Option Bytes) (sections : List Bytes) → length sections ≡ most
    → Known a (onto_left held left) (AreCut sections) → onto_left held2 left2 ≡ onto_left held left → IsDry left2 → ((rest : Bytes) → onto_left held left ≡ Some rest → rest ≢ [] → ⊥)
    → Known a left2 (AllTaken back_to_back (is_over_sections most) sections)
ended_full most a held held2 left left2 sections n t e dry none = record {
  kept = (told_rear a held2 left2 sections (rw e t)).kept;
  each = λ x y i o.
      let r = told_here a (onto_left held left) x t i in
      let z = nil_by_cases r.0 (none r.0 r.1) in
      let c : AreCut sections x [] = rw z at r.2 in
      record {
        to_end = dry_end left2 y dry o;
        within = within_all most x sections c n;
        all = c.cuts ∙ append-nil sections;
      };
}

-- what was taken is what stands in front of what is left
pub rear_of : {P : Bytes → Bytes → Type 0} (front : Bytes) (a : Option Bytes) (held : Bytes) (left : Option Bytes) → ((x l : Bytes) → P x l → x ≡ front ++ l)
    → Known a (onto_left held left) P → Known a left IsRear
rear_of {P} front a held left f t = record { kept = sym (told_both a held left) ∙ t.kept; each = λ x y i o. rear left x y i o t }
  where
    rear : (left : Option Bytes) (x y : Bytes) → a ≡ Some x → left ≡ Some y → Known a (onto_left held left) P → IsRear x y
    rear (Some l) x y i o t = record {
      taken = front ++ held;
      whole = f x (held ++ l) (t.each x (held ++ l) i refl) ∙ sym (append_assoc front held l) ∙ ap (λ bs. (front ++ held) ++ bs) (same_Some l y o);
    }
    rear None x y i o t = cc
