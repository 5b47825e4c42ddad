-- The receiver's state, what one candidate makes of it by the rules, and the candidates that it stands for.
use Rattle.std.specs.Prelude.{◌≡◌, ℕ, ◌+◌, Bool, true, false, not, ◌&&◌, List, [], ◌∷◌, length, map, Option, Some, None, nat_lt, ◌==◌, if◌then◌else◌}
use Rattle.std.specs.List.{flat_map}
use Rattle.std.specs.Option.{option_map}
use Rattle.oc_bytes.specs.Outcome.{cap_at_u64}
use Rattle.path_tree.specs.Paths.{Bytes, same_name}
use Rattle.ior_tap.specs.Iors.{TapFields, biop_of_profiles, delivery_of_taps}
use Rattle.ior_tap.specs.declared.Location.{Location}
use Rattle.dsi_dii.specs.Controls.{DiiFields, distance_of}
use Rattle.ddb_block.specs.Blocks as ddb
use Rattle.module_cache.specs.Contents.{bytes_of, is_new}
use Rattle.module_cache.specs.Held.{TunedState}
use Rattle.module_cache.specs.Joining.{CacheState, empty, Outline, outline_held, is_there, is_apart, fits_beside, joined, turned, offered, taken_of, state_in, is_within}
use Rattle.module_cache.specs.declared.taken.Taken.{Taken}
use Rattle.module_cache.specs.declared.taken.Taken.TheVariants as taken
use Rattle.path_resolver.specs.Resolving.{Held, HeldModule}
use Rattle.path_resolver.specs.Shots.{Snapshot, view_gateway}
use Rattle.path_resolver.specs.declared.shot.Gateway.{Gateway}
use Rattle.tuner_core.specs.Heard.{Heard, Skipped, NoControl, NoBlock, ADsi, ADii, ABlock, as_heard}
use Rattle.tuner_core.specs.Said.{gateway_of, block_in}
use Rattle.tuner_core.specs.Turns.{version, identification, turns_of, epoch_of, label_in, turnings}
use Rattle.tuner_core.specs.declared.turns.TheConstants.{MOST_HELD}
use Rattle.tuner_core.specs.declared.told.Cause.TheVariants as causes
use Rattle.tuner_core.specs.declared.told.Fed.{Fed}
use Rattle.tuner_core.specs.declared.told.Fed.TheVariants.{Changed, Nothing}

-- the number of candidates, the gateway, the held DIIs and what waits, with what is there of their modules, the generation as the
-- receiver counts it, and how often a turn dropped all that was held
pub record TunerState : Type 0 where
  pub mark : ℕ
  pub gateway : Option Gateway
  pub cache : CacheState
  pub label : Option ℕ
  pub epoch : ℕ

abbrev pub fresh : TunerState
fresh = record { mark = 0; gateway = None; cache = empty; label = None; epoch = 0 }

-- the state is what looking back over these candidates gives, part by part
pub record StandsFor (t : TunerState) (candidates : List Bytes) : Type 0 where
  pub mark : t.mark ≡ cap_at_u64 (length candidates)
  pub gateway : option_map view_gateway t.gateway ≡ gateway_of (map as_heard candidates)
  pub cache : t.cache ≡ state_in block_in (turns_of (map as_heard candidates))
  pub label : t.label ≡ label_in (turnings (turns_of (map as_heard candidates)))
  pub epoch : t.epoch ≡ epoch_of (turns_of (map as_heard candidates))

-- the held DIIs, looking back, each with what is there of its modules
abbrev pub held_diis : List Bytes → List TunedState
held_diis candidates = (state_in block_in (turns_of (map as_heard candidates))).held

-- ---- one DSI

abbrev pub same_location : Location → Location → Bool
same_location a b = (a.carousel == b.carousel) && (a.module == b.module) && same_name a.key b.key

abbrev pub same_number : Option ℕ → Option ℕ → Bool
same_number (Some a) (Some b) = a == b
same_number None None = true
same_number _ _ = false

abbrev pub is_held : Option Gateway → Location → Option ℕ → Bool
is_held (Some g) l delivery = same_location g.location l && same_number g.delivery delivery
is_held None l delivery = false

abbrev pub after_gateway : Option Gateway → Location → Option ℕ → Option Gateway × Fed
after_gateway g l delivery = if is_held g l delivery then (g, Nothing causes.SameDsi) else (Some (record { location = l; delivery = delivery }), Changed)

abbrev pub after_dsi : Option Gateway → Option (Location × List TapFields) → Option Gateway × Fed
after_dsi g (Some (l, taps)) = after_gateway g l (delivery_of_taps taps)
after_dsi g None = (g, Nothing causes.NoGateway)

-- ---- what becomes of a DII, `os` being those that are held

-- none is held, or they are of another version
abbrev pub is_anew : List Outline → DiiFields → Bool
is_anew [] d = true
is_anew (o ∷ os) d = not (version d == o.version)

-- of the held version; `refused` gives the cause where it doesn't join
abbrev pub ruled_same : {X : Type 0} → List Outline → DiiFields → X → (Fed → X) → X
ruled_same os d joining refused =
    if is_there os d then refused (Nothing causes.SameDii)
    else (if not (nat_lt (length os) MOST_HELD) then refused (Nothing causes.OtherDii)
    else (if not (is_apart os d && fits_beside os d) then refused (Nothing causes.DiiOverLimit)
    else joining))

-- The first of these that holds. `turning` and `joining` are for a DII that is admitted, and `refused` gives the cause else.
abbrev pub ruled : {X : Type 0} → List Outline → DiiFields → X → X → (Fed → X) → X
ruled os d turning joining refused =
    if identification d == 0 then refused (Nothing causes.OtherDii)
    else (if not (is_within d) then refused (Nothing causes.DiiOverLimit)
    else (if is_anew os d then turning
    else ruled_same os d joining refused))

-- ---- one DII, one block

-- the part of the state that they change
pub record TurnState : Type 0 where
  pub cache : CacheState
  pub label : Option ℕ
  pub epoch : ℕ

abbrev pub parts_of : TunerState → TurnState
parts_of t = record { cache = t.cache; label = t.label; epoch = t.epoch }

abbrev pub held_outlines : CacheState → List Outline
held_outlines c = map outline_held c.held

-- The first DII that turns gives its version as the label. Each later one adds its distance, and one that is 256 or more after those
-- held before drops all that was held.
abbrev pub turn_from : TurnState → List Outline → DiiFields → TurnState
turn_from t [] d = record { cache = turned t.cache d false; label = Some (version d); epoch = t.epoch }
turn_from t (o ∷ os) d =
    let n = distance_of o.version (version d) in
    record {
      cache = turned t.cache d (nat_lt n 256);
      label = option_map (λ k. cap_at_u64 (k + n)) t.label;
      epoch = if nat_lt n 256 then t.epoch else cap_at_u64 (t.epoch + 1);
    }

abbrev pub join_from : TurnState → DiiFields → TurnState
join_from t d = record t { cache = joined t.cache d }

abbrev pub after_dii : TurnState → DiiFields → TurnState × Fed
after_dii t d =
    ruled {X = TurnState × Fed} (held_outlines t.cache) d (turn_from t (held_outlines t.cache) d, Changed) (join_from t d, Changed) (λ fed. (t, fed))

abbrev pub fed_by : Taken → Fed
fed_by taken.New = Changed
fed_by t = Nothing (causes.Block t)

abbrev pub after_block : CacheState → ddb.Block → CacheState × Fed
after_block c b = (offered c b, fed_by (taken_of c b))

-- ---- one candidate

abbrev pub with_gateway : TunerState → Option Gateway × Fed → TunerState × Fed
with_gateway t x = (record t { gateway = x.0 }, x.1)

abbrev pub with_parts : TunerState → TurnState × Fed → TunerState × Fed
with_parts t x = (record t { cache = x.0.cache; label = x.0.label; epoch = x.0.epoch }, x.1)

abbrev pub with_cache : TunerState → CacheState × Fed → TunerState × Fed
with_cache t x = (record t { cache = x.0 }, x.1)

abbrev pub after_heard : TunerState → Heard → TunerState × Fed
after_heard t (Skipped skip) = (t, Nothing (causes.Section skip))
after_heard t (NoControl place) = (t, Nothing (causes.NotControl place))
after_heard t (NoBlock place) = (t, Nothing (causes.NotDdb place))
after_heard t (ADsi d) = with_gateway t (after_dsi t.gateway (biop_of_profiles d.gateway.profiles))
after_heard t (ADii d) = with_parts t (after_dii (parts_of t) d)
after_heard t (ABlock b) = with_cache t (after_block t.cache b)

-- the same, with one candidate more
abbrev pub with_next_mark : TunerState → TunerState
with_next_mark t = record t { mark = cap_at_u64 (t.mark + 1) }

abbrev pub step : TunerState → Bytes → TunerState × Fed
step t candidate = let x = after_heard t (as_heard candidate) in (with_next_mark x.0, x.1)

-- Memory is asked for to read a section of the table of control messages, and for a block that is new.
abbrev pub asks : CacheState → Heard → Bool
asks c (Skipped skip) = false
asks c (NoControl place) = true
asks c (NoBlock place) = false
asks c (ADsi d) = true
asks c (ADii d) = true
asks c (ABlock b) = is_new (taken_of c b)

-- ---- what is answered on, and a shot

abbrev pub modules_of : TunedState → List HeldModule
modules_of t = map (λ x. record { identification = t.identification; line = x.line; bytes = bytes_of x.stored.content }) t.lines

-- what an answer depends on
abbrev pub held_by : TunerState → Held
held_by t = record {
  label = t.label;
  held = map (λ u. u.identification) t.cache.held;
  gateway = option_map view_gateway t.gateway;
  table = flat_map modules_of t.cache.held;
}

abbrev pub snapshot_of : ℕ → ℕ → TunerState → Snapshot
snapshot_of number draws t = record { number = number; draws = draws; mark = t.mark; epoch = t.epoch; held = held_by t }
