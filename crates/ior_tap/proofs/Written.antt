-- Which location an IOR of the written form has, and what its spelling says.
use Rattle.std.proofs.Common.{◌≡◌, List, [], ◌∷◌, ℕ, length, Option, Some, sym, ap, subst, ◌∙◌}
use Rattle.ior_tap.specs.declared.Location.{Location}
use Rattle.ior_tap.specs.Iors.{TapFields, Fields, Reads, IsWritten, IsLocation, written_tap, biop_of_profiles, spelling}
use Rattle.ior_tap.proofs.Grammar.{written_reads, spelling_length}

abbrev some : Location × List TapFields → Option (Location × List TapFields)
some x = Some x

-- the first BIOP profile of the written form has its location
location_is : (ior : Fields) (l m : Location) (taps : List TapFields) → IsWritten ior l → some (m, taps) ≡ biop_of_profiles ior.profiles → m ≡ l
location_is ior l m taps form e =
    let first = ap (λ (i : Fields). biop_of_profiles i.profiles) form.form in
    let both : (m, taps) ≡ (l, written_tap l.module ∷ []) = cc in
    ap (λ (x : Location × List TapFields). x.0) both

-- the bytes are the one spelling of a reference, which they read as
pub record IsEncoded (ior : Fields) (bytes : List ℕ) : Type 0 where
  pub spells : (l : Location) → IsWritten ior l → bytes ≡ spelling ior.kind l
  pub reads : Reads bytes ior
  pub size : length bytes ≡ 63

pub encoded : (ior : Fields) (l m : Location) (taps : List TapFields) (bytes : List ℕ) → IsWritten ior l → some (m, taps) ≡ biop_of_profiles ior.profiles → bytes ≡ spelling ior.kind m → IsLocation m → IsEncoded ior bytes
encoded ior l m taps bytes form e whole room =
    let w : IsWritten ior m = subst (IsWritten ior) (sym (location_is ior l m taps form e)) form in
    let reads = written_reads ior.kind m (subst (λ (i : Fields). IsWritten i m) w.form w) room in
    record {
      spells = λ k h. whole ∙ ap (spelling ior.kind) (location_is ior k m taps h e);
      reads = subst (λ (s : List ℕ). Reads s ior) (sym whole) (subst (λ (i : Fields). Reads (spelling ior.kind m) i) (sym w.form) reads);
      size = ap length whole ∙ spelling_length ior.kind m w.four w.key;
    }
