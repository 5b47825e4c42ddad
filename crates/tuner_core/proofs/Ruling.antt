-- What the rules make of a DII, by cases.
use Rattle.std.proofs.Common.{◌≡◌, Bool, true, false, cond, not, eqb, ltb, ◌&&◌, List, length, refl}
use Rattle.dsi_dii.specs.Controls.{DiiFields}
use Rattle.module_cache.specs.Joining.{Outline, is_there, is_apart, fits_beside, is_within}
use Rattle.tuner_core.specs.Turns.{identification}
use Rattle.tuner_core.specs.declared.turns.TheConstants.{MOST_HELD}
use Rattle.tuner_core.specs.Stands.{ruled, is_anew}
use Rattle.tuner_core.specs.declared.told.Cause.{Cause}
use Rattle.tuner_core.specs.declared.told.Cause.TheVariants as causes
use Rattle.tuner_core.specs.declared.told.Fed.{Fed}
use Rattle.tuner_core.specs.declared.told.Fed.TheVariants.{Nothing}

-- by the tests alone
abbrev pub ruled_by : {X : Type 0} → Bool → Bool → Bool → Bool → Bool → Bool → X → X → (Fed → X) → X
ruled_by zero_id within anew there room small turning joining refused =
    cond zero_id (refused (Nothing causes.OtherDii))
    (cond (not within) (refused (Nothing causes.DiiOverLimit))
    (cond anew turning
    (cond there (refused (Nothing causes.SameDii))
    (cond (not room) (refused (Nothing causes.OtherDii))
    (cond (not small) (refused (Nothing causes.DiiOverLimit)) joining)))))

-- what holds where the DII turns, joins or is refused holds of what the rules give
pub by_rule : {X : Type 0} (P : X → Type 0) (os : List Outline) (d : DiiFields) (turning joining : X) (refused : Fed → X) → (is_anew os d ≡ true → P turning) → P joining
    → ((cause : Cause) → P (refused (Nothing cause))) → P (ruled os d turning joining refused)
by_rule P os d turning joining refused at_turn at_join at_refusal =
    go (eqb (identification d) 0) (is_within d) (is_anew os d) refl (is_there os d) (ltb (length os) MOST_HELD) (is_apart os d && fits_beside os d) where
      go : (zero_id within anew : Bool) → is_anew os d ≡ anew → (there room small : Bool) → P (ruled_by zero_id within anew there room small turning joining refused)
      go true within anew e there room small = at_refusal causes.OtherDii
      go false false anew e there room small = at_refusal causes.DiiOverLimit
      go false true true e there room small = at_turn e
      go false true false e true room small = at_refusal causes.SameDii
      go false true false e false false small = at_refusal causes.OtherDii
      go false true false e false true false = at_refusal causes.DiiOverLimit
      go false true false e false true true = at_join

-- a function of what the rules give
pub of_ruled : {X Y : Type 0} (f : X → Y) (os : List Outline) (d : DiiFields) (turning joining : X) (refused : Fed → X)
    → f (ruled os d turning joining refused) ≡ ruled os d (f turning) (f joining) (λ fed. f (refused fed))
of_ruled f os d turning joining refused =
    go (eqb (identification d) 0) (is_within d) (is_anew os d) (is_there os d) (ltb (length os) MOST_HELD) (is_apart os d && fits_beside os d) where
      go : (zero_id within anew there room small : Bool)
          → f (ruled_by zero_id within anew there room small turning joining refused) ≡ ruled_by zero_id within anew there room small (f turning) (f joining) (λ fed. f (refused fed))
      go true within anew there room small = refl
      go false false anew there room small = refl
      go false true true there room small = refl
      go false true false true room small = refl
      go false true false false false small = refl
      go false true false false true false = refl
      go false true false false true true = refl
