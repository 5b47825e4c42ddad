-- Sections opened one after another: as many steps as there are bytes are enough.
use Rattle.std.proofs.Common.{◌≡◌, ℕ, zero, suc, ◌+◌, ◌-◌, ◌<◌, ◌≤◌, nat_lt, Bool, true, false, List, [], ◌∷◌, ◌++◌, length, take, drop, slice_index, Option, Some, None, refl, sym, ◌∙◌, ap, subst, arith, append_assoc, append-nil, add-one, length-drop}
use Rattle.std.proofs.lemmas.Grind.{common_steps}
use Rattle.std.proofs.lemmas.List.{take_all}
use Rattle.carousel_profile.specs.declared.TheConstants.{PACKET_LENGTH}
use Rattle.section_stream.specs.Cuts.{Bytes}
use Rattle.section_stream.specs.Rules.{After, Grown, Growing, Oversize, Whole, as_grown, with_out, open_on, closes, starts, up}
use Rattle.section_stream.specs.Steps.{no_section_in}
use Rattle.section_stream.specs.Inner.Steps.{HasDone, open_all}
use Rattle.section_stream.specs.declared.counts.Counts.{Counts}

pub whole_bounds : (here : Bytes) (n : ℕ) → as_grown here ≡ Whole n → (3 ≤ n) × (n ≤ length here)
whole_bounds here n e = (grind (arith, common_steps), grind (arith, common_steps))

no_bytes_end : (here : Bytes) → length here ≤ 0 → no_section_in here ≡ true
no_bytes_end here h = grind (arith, common_steps)

enough : (a b : ℕ) (here : Bytes) (c : Counts) → length here ≤ a → length here ≤ b → open_on a here c ≡ open_on b here c
enough zero zero here c h k = refl
enough zero (suc b) here c h k = rw (no_bytes_end here h) refl
enough (suc a) zero here c h k = rw (no_bytes_end here k) refl
enough (suc a) (suc b) here c h k = go (λ rest x y. enough a b rest c x y) (no_section_in here) refl where
  Next : Type 0
  Next = (rest : Bytes) → length rest ≤ a → length rest ≤ b → open_on a rest c ≡ open_on b rest c

  by : Next → no_section_in here ≡ false → (g : Grown) → as_grown here ≡ g → open_on (suc a) here c ≡ open_on (suc b) here c
  by next e Growing g = rw (e, g) refl
  by next e Oversize g = rw (e, g) refl
  by next e (Whole n) g =
      let bounds = whole_bounds here n g in
      let shorter : length (drop n here) < length here = omega (arith, bounds.0, bounds.1, length-drop n here) in
      rw (e, g) (ap (with_out (take n here ∷ [])) (next (drop n here) (omega (arith, shorter, h, add-one a)) (omega (arith, shorter, k, add-one b))))

  go : Next → (t : Bool) → no_section_in here ≡ t → open_on (suc a) here c ≡ open_on (suc b) here c
  go next true e = rw e refl
  go next false e = by next e (as_grown here) refl

pub nothing_done : (before : List Bytes) (opened : Option Bytes) (c : Counts) (a : After) → a ≡ record { opened = opened; out = []; counts = c } → HasDone a opened before before c
nothing_done before opened c a e = record { opened = ap (λ x. x.opened) e; out = sym (append-nil before) ∙ ap (λ out. before ++ out) (sym (ap (λ x. x.out) e)); counted = ap (λ x. x.counts) e }

pub open-ends : (here : Bytes) (c : Counts) (before : List Bytes) → no_section_in here ≡ true → HasDone (open_all here c) None before before c
unfolding open_all
open-ends here c before e = nothing_done before None c (open_on PACKET_LENGTH here c) (rw e refl)

pub open-growing : (here : Bytes) (c : Counts) (before : List Bytes) → no_section_in here ≡ false → as_grown here ≡ Growing → HasDone (open_all here c) (Some here) before before c
unfolding open_all
open-growing here c before e g = nothing_done before (Some here) c (open_on PACKET_LENGTH here c) (rw (e, g) refl)

pub open-oversize : (here : Bytes) (c : Counts) (before : List Bytes) → no_section_in here ≡ false → as_grown here ≡ Oversize → HasDone (open_all here c) None before before (record c { oversize = up c.oversize })
unfolding open_all
open-oversize here c before e g = nothing_done before None (record c { oversize = up c.oversize }) (open_on PACKET_LENGTH here c) (rw (e, g) refl)

pub whole_step : (here : Bytes) (c : Counts) (n : ℕ) → length here ≤ PACKET_LENGTH → no_section_in here ≡ false → as_grown here ≡ Whole n → open_all here c ≡ with_out (take n here ∷ []) (open_all (drop n here) c)
unfolding open_all
whole_step here c n h e g = enough PACKET_LENGTH (suc PACKET_LENGTH) here c h (omega (arith, h)) ∙ step_is where
  step_is : open_on (suc PACKET_LENGTH) here c ≡ with_out (take n here ∷ []) (open_on PACKET_LENGTH (drop n here) c)
  step_is = rw (e, g) refl

pub open-whole : (here : Bytes) (c : Counts) (n : ℕ) (rest : Bytes) (left : Option Bytes) (before more candidates : List Bytes) (counts : Counts)
    → length here ≤ PACKET_LENGTH → no_section_in here ≡ false → as_grown here ≡ Whole n → rest ≡ drop n here → more ≡ before ++ take n here ∷ []
    → HasDone (open_all rest c) left more candidates counts → HasDone (open_all here c) left before candidates counts
open-whole here c n rest left before more candidates counts h e g r m d =
    let is : open_all here c ≡ with_out (take n here ∷ []) (open_all rest c) = whole_step here c n h e g ∙ ap (λ x. with_out (take n here ∷ []) (open_all x c)) (sym r) in
    record {
      opened = ap (λ x. x.opened) is ∙ d.opened;
      out = d.out ∙ ap (λ x. x ++ (open_all rest c).out) m ∙ append_assoc before (take n here ∷ []) (open_all rest c).out ∙ ap (λ out. before ++ out) (sym (ap (λ x. x.out) is));
      counted = ap (λ x. x.counts) is ∙ d.counted;
    }

-- the slice from a place on
pub rest_is : (here : Bytes) (n : ℕ) → take (length here - n) (drop n here) ≡ drop n here
rest_is here n = take_all (length here - n) (drop n here) (omega (arith, length-drop n here))

-- what is left of a section stays below the longest
pub growing_bound : (here : Bytes) → as_grown here ≡ Growing → length here ≤ 4096
growing_bound here e = grind (arith, common_steps)

-- and so does a whole one
pub whole_most : (here : Bytes) (n : ℕ) → as_grown here ≡ Whole n → n ≤ 4096
whole_most here n e = grind (arith, common_steps)

pub starts_is : (o : Option Bytes) (payload : Bytes) (c : Counts) (p : ℕ) → p ≡ slice_index payload 0 → p < length payload
    → starts o payload c ≡ with_out (closes o (take p (drop 1 payload)) c).out (open_all (drop (1 + p) payload) (closes o (take p (drop 1 payload)) c).counts)
unfolding open_all
starts_is o payload c p e h = subst Claim (sym e) at_pointer where
  Claim : ℕ → Type 0
  Claim q = starts o payload c ≡ with_out (closes o (take q (drop 1 payload)) c).out (open_on PACKET_LENGTH (drop (1 + q) payload) (closes o (take q (drop 1 payload)) c).counts)

  fits : nat_lt (slice_index payload 0) (length payload) ≡ true
  fits = grind (arith, e, h)

  at_pointer : Claim (slice_index payload 0)
  at_pointer = rw fits refl

-- the slice between two places
pub part_is : (payload : Bytes) (p : ℕ) → take (1 + p - 1) (drop 1 payload) ≡ take p (drop 1 payload)
part_is payload p = ap (λ n. take n (drop 1 payload)) (omega arith)
