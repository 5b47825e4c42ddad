-- The held DIIs differ in identification.
use Rattle.std.proofs.Common.{ℕ, ◌≡◌, true, false, eqb, List, [], ◌∷◌, ◌++◌, map, refl, sym, ap, subst, ◌∙◌}
use Rattle.std.specs.List.{fold, list_any}
use Rattle.std.proofs.lemmas.Bool.{true≢false}
use Rattle.std.proofs.lemmas.List.{map-append}
use Rattle.dsi_dii.specs.Controls.{DiiFields}
use Rattle.module_cache.specs.Joining.{outline}
pub use Rattle.module_cache.specs.Joining.{AreDistinct}
use Rattle.module_cache.specs.Turns.{admitted, newest, heard_by, continued, with_joined, Turn}
use Rattle.module_cache.proofs.CallerLemmas.{any_map, map_map, distinct_more}
use Rattle.tuner_core.specs.Heard.{Heard, Skipped, NoControl, NoBlock, ADsi, ADii, ABlock}
use Rattle.module_cache.specs.Spans.{Span}
use Rattle.tuner_core.specs.Turns.{identification, joins, turn_after}
use Rattle.tuner_core.proofs.Turning.{by_admission, joins_means}

abbrev pub numbers : List (Span Heard) → List ℕ
numbers ss = map (λ s. identification s.dii) ss

same_numbers : (h : Heard) (ss : List (Span Heard)) → numbers (map (heard_by h) ss) ≡ numbers ss
same_numbers h ss = map_map (heard_by h) (λ s. identification s.dii) ss

abbrev pub newest_distinct : List (Turn Heard) → Type 0
newest_distinct ts = AreDistinct (numbers (newest ts))

continued_distinct : (ts : List (Turn Heard)) (h : Heard) → newest_distinct ts → newest_distinct (continued ts h)
continued_distinct [] h a = a
continued_distinct (t ∷ ts) h a = subst AreDistinct (sym (same_numbers h (admitted t))) a

joined_distinct : (ts : List (Turn Heard)) (d : DiiFields) → joins ts d ≡ true → newest_distinct ts → newest_distinct (with_joined (continued ts (ADii d)) d)
joined_distinct [] d e a = absurd (true≢false (sym e))
joined_distinct (t ∷ ts) d e a =
    let other : list_any (λ k. eqb k (identification d)) (numbers (admitted t)) ≡ false =
    any_map (λ s. identification s.dii) (λ k. eqb k (identification d)) (admitted t)
    ∙ sym (any_map (λ s. outline s.dii) (λ o. eqb o.identification (identification d)) (admitted t)) ∙ (joins_means t ts d e).other in
    let all : AreDistinct (numbers (admitted t) ++ identification d ∷ []) = distinct_more (numbers (admitted t)) (identification d) a other in
    subst AreDistinct
    (ap (λ ns. identification t.turning.dii ∷ ns) (sym (map-append (λ s. identification s.dii) (map (heard_by (ADii d)) t.joined) (record { dii = d; kept = t.turning.kept; since = [] } ∷ []) ∙ ap (λ ns. ns ++ identification d ∷ []) (same_numbers (ADii d) t.joined))))
    all

dii_distinct : (ts : List (Turn Heard)) (d : DiiFields) → newest_distinct ts → newest_distinct (turn_after ts (ADii d))
dii_distinct ts d a = by_admission newest_distinct ts d (λ e. (refl, tt)) (λ e f. joined_distinct ts d f a) (λ e f. continued_distinct ts (ADii d) a)

after_distinct : (ts : List (Turn Heard)) (h : Heard) → newest_distinct ts → newest_distinct (turn_after ts h)
after_distinct ts (ADii d) a = dii_distinct ts d a
after_distinct ts (ABlock b) a = continued_distinct ts (ABlock b) a
after_distinct ts (ADsi d) a = continued_distinct ts (ADsi d) a
after_distinct ts (Skipped c) a = continued_distinct ts (Skipped c) a
after_distinct ts (NoControl c) a = continued_distinct ts (NoControl c) a
after_distinct ts (NoBlock c) a = continued_distinct ts (NoBlock c) a

pub distinct_from : (ts : List (Turn Heard)) (hs : List Heard) → newest_distinct ts → newest_distinct (fold turn_after ts hs)
distinct_from ts [] a = a
distinct_from ts (h ∷ hs) a = distinct_from (turn_after ts h) hs (after_distinct ts h a)
