-- What one candidate more counts.
use Rattle.std.proofs.Common.{◌≡◌, ℕ, ◌+◌, ◌<◌, Bool, true, false, List, [], ◌∷◌, ◌++◌, length, replicate, get_or, set, cond, ◌⊎◌, inl, inr, refl, sym, ap, ◌∙◌, arith, append_assoc, append-nil}
use Rattle.std.proofs.lemmas.Bool.{cases_eq, eq-eqb, ne_eqb}
use Rattle.std.proofs.lemmas.List.{get_or-set_same, get_or-set_other}
use Rattle.oc_bytes.specs.Outcome.{cap_at_u64}
use Rattle.path_tree.specs.Paths.{Bytes}
use Rattle.section_stream.specs.Counting.{number_from, number_of}
use Rattle.tuner_core.specs.Answers.{fed_after}
use Rattle.std.specs.Fmt.{decimal}
use Rattle.reception_report.specs.Outcomes.{outcome_of, outcome_name, place_of, becomes, count_of, CountsAre}
use Rattle.reception_report.specs.Telling.{count_text}
use Rattle.reception_report.specs.declared.outcome.Outcome.{Outcome}
use Rattle.reception_report.specs.declared.outcome.Outcome.TheVariants as outcomes

-- ---- no candidate

pub none_counted : CountsAre (replicate 22 0) []
none_counted = record { each = by }
  where
    by : (o : Outcome) → get_or (replicate 22 0) (place_of o) 0 ≡ count_of [] o
    by outcomes.Changed = refl
    by outcomes.Short = refl
    by outcomes.Length = refl
    by outcomes.OtherTable = refl
    by outcomes.NoSyntax = refl
    by outcomes.NotCurrent = refl
    by outcomes.BadCrc = refl
    by outcomes.NotControl = refl
    by outcomes.NotDdb = refl
    by outcomes.NoGateway = refl
    by outcomes.SameDsi = refl
    by outcomes.OtherDii = refl
    by outcomes.DiiOverLimit = refl
    by outcomes.SameDii = refl
    by outcomes.NoDii = refl
    by outcomes.OtherDownload = refl
    by outcomes.Unlisted = refl
    by outcomes.OtherVersion = refl
    by outcomes.Compressed = refl
    by outcomes.WrongPlace = refl
    by outcomes.WrongLength = refl
    by outcomes.Again = refl

-- ---- one candidate more

one_if : Bool → ℕ
one_if b = cond b 1 0

number_more : (happens : List Bytes → Bytes → Bool) (before xs : List Bytes) (x : Bytes)
    → number_from happens before (xs ++ x ∷ []) ≡ number_from happens before xs + one_if (happens (before ++ xs) x)
unfolding one_if
number_more happens before [] x = nothing_beside (one_if (happens before x)) ∙ ap (λ b. 0 + one_if (happens b x)) (sym (append-nil before)) where
  nothing_beside : (n : ℕ) → n + 0 ≡ 0 + n
  nothing_beside n = omega arith
number_more happens before (y ∷ ys) x =
    ap (λ n. one_if (happens before y) + n) (number_more happens (before ++ y ∷ []) ys x)
    ∙ grouped (one_if (happens before y)) (number_from happens (before ++ y ∷ []) ys) (one_if (happens ((before ++ y ∷ []) ++ ys) x))
    ∙ ap (λ b. (one_if (happens before y) + number_from happens (before ++ y ∷ []) ys) + one_if (happens b x)) (append_assoc before (y ∷ []) ys)
  where
    grouped : (a b c : ℕ) → a + (b + c) ≡ (a + b) + c
    grouped a b c = omega arith

capped_yes : (n m : ℕ) → m ≡ n + 1 → cap_at_u64 (cap_at_u64 n + 1) ≡ cap_at_u64 m
capped_yes n m e = omega (arith, e)

count_yes : (cs : List Bytes) (c : Bytes) (o : Outcome) → becomes o cs c ≡ true → cap_at_u64 (count_of cs o + 1) ≡ count_of (cs ++ c ∷ []) o
unfolding one_if
count_yes cs c o e = capped_yes (number_of (becomes o) cs) (number_of (becomes o) (cs ++ c ∷ [])) (number_more (becomes o) [] cs c ∙ ap (λ b. number_of (becomes o) cs + one_if b) e)

count_no : (cs : List Bytes) (c : Bytes) (o : Outcome) → becomes o cs c ≡ false → count_of cs o ≡ count_of (cs ++ c ∷ []) o
unfolding one_if
count_no cs c o e = ap cap_at_u64 (sym (number_more (becomes o) [] cs c ∙ ap (λ b. number_of (becomes o) cs + one_if b) e ∙ nothing (number_of (becomes o) cs)))
  where
    nothing : (n : ℕ) → n + 0 ≡ n
    nothing n = omega arith

-- the number at the candidate's place rises
pub counted : (t : List ℕ) (cs : List Bytes) (c : Bytes) (place n : ℕ) → CountsAre t cs → place < length t → place ≡ place_of (outcome_of (fed_after cs c))
    → n ≡ cap_at_u64 (get_or t place 0 + 1) → CountsAre (set t place n) (cs ++ c ∷ [])
counted t cs c place n counts within e new = record { each = λ o. by o (cases_eq (place_of o) place) }
  where
    by : (o : Outcome) → (place_of o ≡ place) ⊎ (place_of o ≡ place → ⊥) → get_or (set t place n) (place_of o) 0 ≡ count_of (cs ++ c ∷ []) o
    by o (inl same) =
        ap (λ p. get_or (set t place n) p 0) same ∙ get_or-set_same t place n 0 within ∙ new
        ∙ ap (λ p. cap_at_u64 (get_or t p 0 + 1)) (sym same) ∙ ap (λ k. cap_at_u64 (k + 1)) (counts.each o)
        ∙ count_yes cs c o (eq-eqb _ _ (sym e ∙ sym same))
    by o (inr other) = get_or-set_other t place (place_of o) n 0 other ∙ counts.each o ∙ count_no cs c o (ne_eqb _ _ (λ is. other (sym is ∙ sym e)))

-- what is told of one kind
pub told_count : (cs : List Bytes) (o : Outcome) (old spaced new name : Bytes) (n : ℕ) → spaced ≡ old ++ 32 ∷ [] → name ≡ outcome_name o → new ≡ spaced ++ name ++ 32 ∷ decimal n → n ≡ count_of cs o
    → new ≡ old ++ count_text cs o
unfolding count_text
told_count cs o old spaced new name n e named f same =
    f ∙ ap (λ t. t ++ name ++ 32 ∷ decimal n) e ∙ ap (λ t. (old ++ 32 ∷ []) ++ t ++ 32 ∷ decimal n) named ∙ ap (λ k. (old ++ 32 ∷ []) ++ outcome_name o ++ 32 ∷ decimal k) same ∙ simp append_assoc
