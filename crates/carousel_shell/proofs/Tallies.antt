-- The counts of a session, event by event.
use Rattle.std.proofs.Common.{◌≡◌, ℕ, ◌+◌, ◌<◌, ◌≤◌, Bool, true, false, not, ◌||◌, cond, List, [], ◌∷◌, ◌++◌, map, take, length, filter, Option, Some, None, refl, sym, ap, ◌∙◌, arith, append-nil, length-append}
use Rattle.std.specs.Prelude.{slice_index_or, nat_lt, drop, if◌then◌else◌}
use Rattle.std.specs.List.{filter_map, cons_option, sum}
use Rattle.std.proofs.lemmas.List.{length-map, length-take-le, map-append, take_more, take_all, drop-append-le, drop_all}
use Rattle.std.proofs.lemmas.Bool.{ltb-true, ltb-false}
use Rattle.std.proofs.lemmas.List.Elements.{filter-append, filter_map-append}
use Rattle.std.proofs.lemmas.List.Sums.{sum_by_push, count_by-le-length, length-filter}
use Rattle.carousel_world.specs.Events.{Step, view}
use Rattle.carousel_world.specs.declared.event.Event.{Event}
use Rattle.carousel_world.specs.declared.event.Reply.{Reply}
use Rattle.history_merge.specs.Merging.{known_view}
use Rattle.history_merge.specs.Merged.{is_open_by}
use Rattle.session.specs.Sessions.{accepted_in, is_accepted}
use Rattle.carousel_shell.specs.Big.{is_first, length_in, finale_lengths, counts_line, big_line}
use Rattle.carousel_shell.specs.Inner.Big.{option_list, length_more}

-- ---- one event more

accepted_next : (xs : List (Step × Reply)) (x : Step × Reply) → accepted_in (xs ++ x ∷ []) ≡ accepted_in xs + cond (is_accepted x.1) 1 0
accepted_next xs x = sum_by_push (λ (y : Step × Reply). cond {A = ℕ} (is_accepted y.1) 1 0) xs x

abbrev opens_in : List (Step × Reply) → ℕ
opens_in xs = length (filter is_first xs)

one_length : (b : Bool) (x : Step × Reply) → length (cond b (x ∷ []) []) ≡ (if b then 1 else 0)
one_length true x = refl
one_length false x = refl

opens_next : (xs : List (Step × Reply)) (x : Step × Reply) → opens_in (xs ++ x ∷ []) ≡ opens_in xs + (if is_first x then 1 else 0)
opens_next xs x =
    ap (λ (ys : List (Step × Reply)). length ys) (filter-append is_first xs (x ∷ [])) ∙ length-append (filter is_first xs) (filter is_first (x ∷ []))
    ∙ ap (λ (n : ℕ). opens_in xs + n) (one_length (is_first x) x)

one_listed : (o : Option ℕ) → cons_option o [] ≡ option_list o
one_listed (Some n) = refl
one_listed None = refl

-- the finales among the opens of reader 1, and one open more
behind_opens : (ys : List (Step × Reply)) (x : Step × Reply) (few : Bool) → nat_lt (length ys) 64 ≡ few
    → filter_map length_in (drop 64 (ys ++ x ∷ [])) ≡ filter_map length_in (drop 64 ys) ++ (if few then [] else option_list (length_in x))
behind_opens ys x true e =
    let short : length ys < 64 = ltb-true (length ys) 64 e in
    let all : length (ys ++ x ∷ []) ≤ 64 = let n = length-append ys (x ∷ []) in omega (arith, n, short) in
    ap (λ (zs : List (Step × Reply)). filter_map length_in zs) (drop_all 64 (ys ++ x ∷ []) all)
    ∙ sym (ap (λ (zs : List (Step × Reply)). filter_map length_in zs ++ []) (drop_all 64 ys (omega (arith, short))))
behind_opens ys x false e =
    let long : 64 ≤ length ys = ltb-false (length ys) 64 e in
    ap (λ (zs : List (Step × Reply)). filter_map length_in zs) (drop-append-le 64 ys (x ∷ []) long)
    ∙ filter_map-append length_in (drop 64 ys) (x ∷ []) ∙ ap (λ (ns : List ℕ). filter_map length_in (drop 64 ys) ++ ns) (one_listed (length_in x))

by_first : (few first : Bool) (ys : List (Step × Reply)) (x : Step × Reply) → nat_lt (length ys) 64 ≡ few
    → filter_map length_in (drop 64 (ys ++ cond first (x ∷ []) [])) ≡ filter_map length_in (drop 64 ys) ++ (if few || not first then [] else option_list (length_in x))
by_first true true ys x e = behind_opens ys x true e
by_first false true ys x e = behind_opens ys x false e
by_first true false ys x e = ap (λ (zs : List (Step × Reply)). filter_map length_in (drop 64 zs)) (append-nil ys) ∙ sym (append-nil (filter_map length_in (drop 64 ys)))
by_first false false ys x e = ap (λ (zs : List (Step × Reply)). filter_map length_in (drop 64 zs)) (append-nil ys) ∙ sym (append-nil (filter_map length_in (drop 64 ys)))

lengths_next : (xs : List (Step × Reply)) (x : Step × Reply) → finale_lengths (xs ++ x ∷ []) ≡ finale_lengths xs ++ length_more (opens_in xs) x
lengths_next xs x =
    ap (λ (zs : List (Step × Reply)). filter_map length_in (drop 64 zs)) (filter-append is_first xs (x ∷ []))
    ∙ by_first (nat_lt (opens_in xs) 64) (is_first x) (filter is_first xs) x refl

-- ---- the first events and one more

module _ (told : List (Event × Reply)) (i : ℕ) (x : Event × Reply) (lt : i < length told) where
  abbrev first : List (Step × Reply)
  first = map known_view (take i told)

  abbrev more : List (Step × Reply)
  more = map known_view (take (i + 1) told)

  first_few : length first ≤ i
  first_few = let a = length-map (take i told) known_view in let n = length-take-le i told (omega (arith, lt)) in omega (arith, a, n)

  pub accepted_few : accepted_in first ≤ i
  accepted_few = let a = count_by-le-length (λ (y : Step × Reply). is_accepted y.1) first in let b = first_few in omega (arith, a, b)

  pub opens_few : opens_in first ≤ i
  opens_few =
      let a = length-filter is_first first in let b = count_by-le-length is_first first in let c = first_few in omega (arith, a, b, c)

  module _ (is : x ≡ slice_index_or told i x) where
    one_more : more ≡ first ++ known_view x ∷ []
    one_more =
        ap (λ (xs : List (Event × Reply)). map known_view xs) (take_more told i x lt)
        ∙ map-append known_view (take i told) (slice_index_or told i x ∷ [])
        ∙ ap (λ (y : Event × Reply). first ++ known_view y ∷ []) (sym is)

    pub accepted_counted : (t : Bool) (was now : ℕ) → t ≡ is_accepted x.1 → t ≡ true → now ≡ was + 1 → was ≡ accepted_in first → now ≡ accepted_in more
    accepted_counted t was now name is_true step h =
        let a = ap accepted_in one_more ∙ accepted_next first (known_view x) in
        let b : cond {A = ℕ} (is_accepted x.1) 1 0 ≡ 1 = ap (λ (b : Bool). cond {A = ℕ} b 1 0) (sym name ∙ is_true) in omega (arith, a, b, step, h)

    pub accepted_passed : (t : Bool) (was now : ℕ) → t ≡ is_accepted x.1 → t ≡ false → now ≡ was → was ≡ accepted_in first → now ≡ accepted_in more
    accepted_passed t was now name is_false step h =
        let a = ap accepted_in one_more ∙ accepted_next first (known_view x) in
        let b : cond {A = ℕ} (is_accepted x.1) 1 0 ≡ 0 = ap (λ (b : Bool). cond {A = ℕ} b 1 0) (sym name ∙ is_false) in omega (arith, a, b, step, h)

    pub opens_more : (was now : ℕ) → now ≡ was + (if is_open_by 1 (view x.0) then 1 else 0) → was ≡ opens_in first → now ≡ opens_in more
    opens_more was now step h = step ∙ ap (λ (n : ℕ). n + (if is_open_by 1 (view x.0) then 1 else 0)) h ∙ sym (ap opens_in one_more ∙ opens_next first (known_view x))

    pub lengths_more : (was now : List ℕ) (opens : ℕ) → now ≡ was ++ length_more opens (known_view x) → opens ≡ opens_in first → was ≡ finale_lengths first → now ≡ finale_lengths more
    lengths_more was now opens step o h =
        step ∙ ap (λ (ns : List ℕ). ns ++ length_more opens (known_view x)) h ∙ ap (λ (n : ℕ). finale_lengths first ++ length_more n (known_view x)) o
        ∙ sym (ap finale_lengths one_more ∙ lengths_next first (known_view x))

-- what the first events are once there are no more
pub all_told : (told : List (Event × Reply)) (i : ℕ) → length told ≤ i → map known_view (take i told) ≡ map known_view told
all_told told i past = ap (λ (xs : List (Event × Reply)). map known_view xs) (take_all i told past)

-- the line of counts that are those of a session
pub same_line : (size commits files bytes : ℕ) (lengths : List ℕ) (told : List (Step × Reply)) → commits ≡ accepted_in told → lengths ≡ finale_lengths told → files ≡ length lengths
    → bytes ≡ sum lengths → counts_line size commits files bytes ≡ big_line size told
same_line size commits files bytes lengths told a l f b =
    ap (λ (n : ℕ). counts_line size n files bytes) a
    ∙ ap (λ (n : ℕ). counts_line size (accepted_in told) n bytes) (f ∙ ap (λ (ns : List ℕ). length ns) l)
    ∙ ap (λ (n : ℕ). counts_line size (accepted_in told) (length (finale_lengths told)) n) (b ∙ ap sum l)
