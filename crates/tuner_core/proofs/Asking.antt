-- What memory is asked for.
use Rattle.std.proofs.Common.{◌≡◌, ℕ, true, Result, Ok, Err, OnErr, refl}
use Rattle.dsi_dii.specs.Controls.{Message, IsDsi, IsDii}
use Rattle.module_cache.specs.Joining.{CacheState}
use Rattle.tuner_core.specs.Heard.{heard_control}
use Rattle.tuner_core.specs.Stands.{asks}

-- for each control section
pub asks_control : (held : CacheState) (r : Result Message ℕ) → asks held (heard_control r) ≡ true
asks_control held (Ok (IsDsi d)) = refl
asks_control held (Ok (IsDii d)) = refl
asks_control held (Err place) = refl

pub on_error : {X E : Type 0} (r : Result X E) (P : Type 0) → P → OnErr r P
on_error (Ok x) P p = tt
on_error (Err e) P p = p
