-- The label never falls.
use Rattle.std.proofs.Common.{◌≡◌, ℕ, ◌+◌, ◌-◌, ◌^◌, ◌≤◌, List, [], ◌∷◌, ◌++◌, map, Option, Some, None, refl, ap, sym, ◌∙◌, subst, arith}
use Rattle.std.specs.List.{fold}
use Rattle.std.specs.Option.{option_map}
use Rattle.std.proofs.lemmas.List.Sums.{fold-append}
use Rattle.std.proofs.lemmas.List.{map-append}
use Rattle.oc_bytes.specs.Outcome.{cap_at_u64}
use Rattle.path_tree.specs.Paths.{Bytes}
use Rattle.dsi_dii.specs.Controls.{DiiFields, distance_of}
use Rattle.section_stream.specs.Cuts.{candidates}
use Rattle.section_stream.specs.Laws.{CandidatesGrow}
use Rattle.module_cache.specs.Turns.{continued, with_joined, Turn}
use Rattle.tuner_core.specs.Heard.{Heard, Skipped, NoControl, NoBlock, ADsi, ADii, ABlock, as_heard}
use Rattle.module_cache.specs.Spans.{Span}
use Rattle.tuner_core.specs.Turns.{is_near, label_in, version, turnings, turns_of, turn_after}
use Rattle.tuner_core.proofs.CallerLemmas.{by_admission}
use Rattle.carousel_world.specs.Receptions.{label_after, GoesOn, LabelsNeverFall}

-- ---- a label and a later one

-- no label, or one within a u64
abbrev pub IsCapped : Option ℕ → Type 0
IsCapped None = Unit {0}
IsCapped (Some n) = n ≤ 2 ^ 64 - 1

pub stays_so : (a : Option ℕ) → GoesOn a a
stays_so None = tt
stays_so (Some n) = omega arith

pub then : (a b c : Option ℕ) → GoesOn a b → GoesOn b c → GoesOn a c
then None b c p q = tt
then (Some m) (Some n) (Some k) p q = omega (arith, p, q)
then (Some m) (Some n) None p q = absurd q
then (Some m) None c p q = absurd p

small_version : (d : DiiFields) → version d ≤ 16383
small_version d = omega arith

labels_capped : (ss : List (Span Heard)) → IsCapped (label_in ss)
labels_capped [] = tt
labels_capped (s ∷ []) = let v = small_version s.dii in omega (arith, v)
labels_capped (s ∷ t ∷ ss) = go (label_in (t ∷ ss)) where
  go : (o : Option ℕ) → IsCapped (option_map (λ n. cap_at_u64 (n + distance_of (version t.dii) (version s.dii))) o)
  go None = tt
  go (Some n) = omega arith

pub turned_label : (d : DiiFields) (ss : List (Span Heard)) → GoesOn (label_in ss) (label_in (record { dii = d; kept = is_near ss d; since = [] } ∷ ss))
turned_label d [] = tt
turned_label d (s ∷ ss) = go (label_in (s ∷ ss)) (labels_capped (s ∷ ss)) where
  go : (o : Option ℕ) → IsCapped o → GoesOn o (option_map (λ n. cap_at_u64 (n + distance_of (version s.dii) (version d))) o)
  go None c = tt
  go (Some n) c = omega (arith, c)

-- ---- one candidate more

continued_label : (ts : List (Turn Heard)) (h : Heard) → label_in (turnings (continued ts h)) ≡ label_in (turnings ts)
continued_label [] h = refl
continued_label (t ∷ ts) h = refl

passes : (ts : List (Turn Heard)) (h : Heard) → GoesOn (label_in (turnings ts)) (label_in (turnings (continued ts h)))
passes ts h = subst (GoesOn (label_in (turnings ts))) (sym (continued_label ts h)) (stays_so (label_in (turnings ts)))

-- from no DII, or beside others
joined_label : (ts : List (Turn Heard)) (h : Heard) (d : DiiFields) → GoesOn (label_in (turnings ts)) (label_in (turnings (with_joined (continued ts h) d)))
joined_label [] h d = tt
joined_label (t ∷ ts) h d = stays_so (label_in (turnings (t ∷ ts)))

one_more : (ts : List (Turn Heard)) (h : Heard) → GoesOn (label_in (turnings ts)) (label_in (turnings (turn_after ts h)))
one_more ts (ADii d) =
    by_admission (λ us. GoesOn (label_in (turnings ts)) (label_in (turnings us))) ts d (λ e. turned_label d (turnings ts)) (λ e f. joined_label ts (ADii d) d) (λ e f. passes ts (ADii d))
one_more ts (ABlock b) = passes ts (ABlock b)
one_more ts (ADsi d) = passes ts (ADsi d)
one_more ts (Skipped c) = passes ts (Skipped c)
one_more ts (NoControl c) = passes ts (NoControl c)
one_more ts (NoBlock c) = passes ts (NoBlock c)

more : (ts : List (Turn Heard)) (hs : List Heard) → GoesOn (label_in (turnings ts)) (label_in (turnings (fold turn_after ts hs)))
more ts [] = stays_so (label_in (turnings ts))
more ts (h ∷ hs) = then (label_in (turnings ts)) (label_in (turnings (turn_after ts h))) (label_in (turnings (fold turn_after (turn_after ts h) hs))) (one_more ts h) (more (turn_after ts h) hs)

-- with more candidates the label isn't lower
pub never_falls : (cs ds : List Bytes) → GoesOn (label_after cs) (label_after (cs ++ ds))
never_falls cs ds =
    subst (λ ts. GoesOn (label_after cs) (label_in (turnings ts))) (sym (ap turns_of (map-append as_heard cs ds) ∙ fold-append turn_after [] (map as_heard cs) (map as_heard ds)))
    (more (turns_of (map as_heard cs)) (map as_heard ds))

pub never_fall : CandidatesGrow → LabelsNeverFall
never_fall grow = record {
  sections = never_falls;
  packets = λ pid packets more.
      let longer = grow pid packets more in
      subst (λ cs. GoesOn (label_after (candidates pid packets)) (label_after cs)) (sym longer.1) (never_falls (candidates pid packets) longer.0);
}
