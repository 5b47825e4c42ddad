-- What is held is bounded: few DIIs, with few bytes in their modules.
use Rattle.std.proofs.Common.{ℕ, ◌≡◌, ◌≤◌, ◌+◌, suc, Bool, true, false, List, [], ◌∷◌, ◌++◌, length, map, sym, ap, subst, ◌∙◌, arith}
use Rattle.std.specs.List.{fold, sum_by}
use Rattle.std.proofs.lemmas.Bool.{and_parts, leb-true, true≢false}
use Rattle.std.proofs.lemmas.List.{length-append, map-append}
use Rattle.std.proofs.lemmas.List.Sums.{sum_by_push}
use Rattle.dsi_dii.specs.Controls.{DiiFields}
use Rattle.dsi_dii.specs.declared.ModuleLine.{ModuleLine}
use Rattle.module_cache.specs.Joining.{Outline, outline}
use Rattle.module_cache.specs.Turns.{admitted, newest, heard_by, continued, with_turning, with_joined, Turn}
use Rattle.tuner_core.specs.Heard.{Heard, Skipped, NoControl, NoBlock, ADsi, ADii, ABlock}
use Rattle.tuner_core.specs.Said.{is_sound}
use Rattle.tuner_core.specs.Turns.{is_near, turnings, outlines, joins, turn_after, turns_of, HeldIsBounded}
use Rattle.tuner_core.specs.declared.turns.TheConstants.{MOST_HELD}
use Rattle.tuner_core.proofs.Turning.{by_admission, same_outlines, turns_sound, all_tuned_from}

abbrev size : Outline → ℕ
size o = sum_by (λ (l : ModuleLine). l.size) o.modules

record AreSmall (os : List Outline) : Type 0 where
  pub few : length os ≤ MOST_HELD
  pub small : sum_by size os ≤ 268435456

abbrev newest_small : List (Turn Heard) → Type 0
newest_small ts = AreSmall (outlines (newest ts))

continued_small : (ts : List (Turn Heard)) (h : Heard) → newest_small ts → newest_small (continued ts h)
continued_small [] h a = a
continued_small (t ∷ ts) h a = subst AreSmall (sym (same_outlines h (admitted t))) a

turning_small : (ts : List (Turn Heard)) (d : DiiFields) (kept : Bool) → is_sound d ≡ true → newest_small (with_turning ts d kept)
turning_small ts d kept e =
    let within = and_parts _ _ (and_parts _ _ e).1 in
    let small : sum_by (λ (l : ModuleLine). l.size) d.modules ≤ 268435456 = leb-true _ _ (and_parts _ _ within.0).1 in
    record { few = omega arith; small = omega (arith, small) }

one_more : (os : List Outline) (d : DiiFields) → suc (length os) ≤ MOST_HELD → sum_by size os + sum_by (λ (l : ModuleLine). l.size) d.modules ≤ 268435456 → AreSmall (os ++ outline d ∷ [])
one_more os d few small = record {
  few = subst (λ n. n ≤ MOST_HELD) (sym (length-append os (outline d ∷ []))) (omega (arith, few));
  small = subst (λ n. n ≤ 268435456) (sym (sum_by_push size os (outline d))) small;
}

joined_small : (t : Turn Heard) (ts : List (Turn Heard)) (d : DiiFields) → joins (t ∷ ts) d ≡ true → newest_small (with_joined (continued (t ∷ ts) (ADii d)) d)
joined_small t ts d e =
    let room = and_parts _ _ (and_parts _ _ e).1 in
    let all = one_more (outlines (admitted t)) d (leb-true _ _ (and_parts _ _ room.0).1) (leb-true _ _ room.1) in
    subst AreSmall
    (ap (λ os. outline t.turning.dii ∷ os) (sym (map-append (λ s. outline s.dii) (map (heard_by (ADii d)) t.joined) (record { dii = d; kept = t.turning.kept; since = [] } ∷ []) ∙ ap (λ os. os ++ outline d ∷ []) (same_outlines (ADii d) t.joined))))
    all

dii_small : (ts : List (Turn Heard)) (d : DiiFields) → newest_small ts → newest_small (turn_after ts (ADii d))
dii_small ts d a =
    by_admission newest_small ts d (λ e. turning_small ts d (is_near (turnings ts) d) (turns_sound ts d e)) (λ e f. joined ts f) (λ e f. continued_small ts (ADii d) a) where
      joined : (ts : List (Turn Heard)) → joins ts d ≡ true → newest_small (with_joined (continued ts (ADii d)) d)
      joined [] f = absurd (true≢false (sym f))
      joined (t ∷ ts) f = joined_small t ts d f

after_small : (ts : List (Turn Heard)) (h : Heard) → newest_small ts → newest_small (turn_after ts h)
after_small ts (ADii d) a = dii_small ts d a
after_small ts (ABlock b) a = continued_small ts (ABlock b) a
after_small ts (ADsi d) a = continued_small ts (ADsi d) a
after_small ts (Skipped c) a = continued_small ts (Skipped c) a
after_small ts (NoControl c) a = continued_small ts (NoControl c) a
after_small ts (NoBlock c) a = continued_small ts (NoBlock c) a

all_small : (ts : List (Turn Heard)) (hs : List Heard) → newest_small ts → newest_small (fold turn_after ts hs)
all_small ts [] a = a
all_small ts (h ∷ hs) a = all_small (turn_after ts h) hs (after_small ts h a)

pub held_bounded : HeldIsBounded
held_bounded hs =
    let tuned = all_tuned_from [] hs (tt, tt) in
    let s = all_small [] hs (record { few = omega arith; small = omega arith }) in
    record { few = s.few; small = s.small; once = tuned.0; apart = tuned.1 }
