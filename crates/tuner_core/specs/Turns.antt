-- What a receiver holds where up to 16 DIIs describe a generation, looking back over all that it has heard, turn by turn.
--
-- Sound DIIs are taken in order. The first turns, and so does each later one of another version than the last that turned. One of the
-- same version joins those that were admitted since, where none of them has its identification or lists a module of it, and where
-- they are few and small enough; else it isn't admitted.
use Rattle.std.specs.Prelude.{◌≡◌, ◌≤◌, ℕ, Bool, false, not, ◌&&◌, List, [], ◌∷◌, ◌++◌, length, map, Option, Some, None, nat_lt, ◌==◌, if◌then◌else◌, ◌+◌, slice_get}
use Rattle.std.specs.List.{All, filter_map, flat_map, fold, sum_by}
use Rattle.oc_bytes.specs.Outcome.{cap_at_u64}
use Rattle.path_tree.specs.Paths.{Bytes}
use Rattle.dsi_dii.specs.Controls.{DiiFields, distance_of}
use Rattle.dsi_dii.specs.declared.ModuleLine.{ModuleLine}
use Rattle.module_cache.specs.Joining.{Outline, outline, is_there, is_apart, fits_beside, AreOnce, AreApart}
use Rattle.module_cache.specs.Turns.{Turn, module_among, admitted, newest, continued, with_turning, with_joined, before}
use Rattle.path_resolver.specs.Resolving.{Held, HeldModule, answer_of}
use Rattle.path_resolver.specs.Shots.{Snapshot}
use Rattle.path_resolver.specs.declared.answer.Answer.{Answer}
use Rattle.tuner_core.specs.Heard.{Heard, ADii, as_heard}
use Rattle.tuner_core.specs.Said.{is_sound, sound_in, gateway_of, block_in}
use Rattle.tuner_core.specs.declared.turns.TheConstants.{MOST_HELD}
use Rattle.std.specs.Option.{option_map, option_map_or}
use Rattle.module_cache.specs.Spans.{Span}
pub use Rattle.module_cache.specs.Spans.{version, identification, same_line, agrees, earlier, stretch}

-- ---- The DIIs that turned, each with what was heard after it up to the next that turns: the cuts of what was heard, and what is counted
-- from one to the next.

-- the DII is fewer than 256 versions after the newest of these
abbrev pub is_near : List (Span Heard) → DiiFields → Bool
is_near [] d = false
is_near (s ∷ ss) d = nat_lt (distance_of (version s.dii) (version d)) 256

-- ---- cuts of a list

-- of sound DIIs those that turn: each that differs in version from the last that turned
abbrev pub turning_after : ℕ → List DiiFields → List DiiFields
turning_after last [] = []
turning_after last (d ∷ ds) = if version d == last then turning_after last ds else d ∷ turning_after (version d) ds

abbrev pub turning_of : List DiiFields → List DiiFields
turning_of [] = []
turning_of (d ∷ ds) = d ∷ turning_after (version d) ds

abbrev pub or_first : Option DiiFields → List Heard → List Heard → List Heard
or_first (Some d) here later = here
or_first None here later = later

-- what was heard from the first sound DII on
abbrev pub from_first : List Heard → List Heard
from_first [] = []
from_first (h ∷ hs) = or_first (sound_in h) (h ∷ hs) (from_first hs)

-- the spans, the oldest first, one after another
abbrev pub put_together : List (Span Heard) → List Heard
put_together [] = []
put_together (s ∷ ss) = put_together ss ++ ADii s.dii ∷ s.since

-- their DIIs, the oldest first
abbrev pub openings : List (Span Heard) → List DiiFields
openings [] = []
openings (s ∷ ss) = openings ss ++ s.dii ∷ []

-- ---- label and epoch

-- the first turning version, and the distances from there on; it stays at the greatest u64
abbrev pub label_in : List (Span Heard) → Option ℕ
label_in [] = None
label_in (s ∷ ss) = option_map_or
    (λ t. option_map (λ n. cap_at_u64 (n + distance_of (version t.dii) (version s.dii)))
    (label_in ss))
    (slice_get ss 0) (Some (version s.dii))

abbrev pub epoch_from : DiiFields → List (Span Heard) → ℕ → ℕ
epoch_from d [] before = 0
epoch_from d (s ∷ ss) before = if is_near (s ∷ ss) d then before else cap_at_u64 (before + 1)

-- the turns that dropped all that was held; it stays at the greatest u64
abbrev pub epoch_in : List (Span Heard) → ℕ
epoch_in [] = 0
epoch_in (s ∷ ss) = epoch_from s.dii ss (epoch_in ss)

-- ---- turn by turn

-- the DIIs that turned, each with what was heard up to the next
abbrev pub turnings : List (Turn Heard) → List (Span Heard)
turnings ts = map (λ t. t.turning) ts

abbrev pub outlines : List (Span Heard) → List Outline
outlines ss = map (λ s. outline s.dii) ss

-- beside these a DII of their version may be admitted: at most MOST_HELD are held together
abbrev pub is_room : List Outline → DiiFields → Bool
is_room os d = not (is_there os d) && is_apart os d && nat_lt (length os) MOST_HELD && fits_beside os d

-- the DII turns: it is the first sound one, or of another version than the last that turned
abbrev pub turns : List (Turn Heard) → DiiFields → Bool
turns [] d = is_sound d
turns (t ∷ ts) d = is_sound d && not (version d == version t.turning.dii)

-- a DII that doesn't turn joins
abbrev pub joins : List (Turn Heard) → DiiFields → Bool
joins [] d = false
joins (t ∷ ts) d = is_sound d && is_room (outlines (admitted t)) d

abbrev pub turn_after : List (Turn Heard) → Heard → List (Turn Heard)
turn_after ts (ADii d) =
    if turns ts d then with_turning ts d (is_near (turnings ts) d)
    else (if joins ts d then with_joined (continued ts (ADii d)) d else continued ts (ADii d))
turn_after ts h = continued ts h

-- the turns, the newest first
abbrev pub turns_of : List Heard → List (Turn Heard)
turns_of hs = fold turn_after [] hs

-- ---- the same in other words, looking forward

-- whether a DII joins those that were admitted before; `since` is what was heard after it
abbrev pub joining_by : List Outline → ℕ → Bool → List Heard → Option DiiFields → List (Span Heard) → (DiiFields → List (Span Heard)) → List (Span Heard)
joining_by os v kept since None rest next = rest
joining_by os v kept since (Some d) rest next = if (version d == v) && is_room os d then record { dii = d; kept = kept; since = since } ∷ next d else rest

-- the DIIs of this version that join, each with what was heard after it
abbrev pub joining_in : List Outline → ℕ → Bool → List Heard → List (Span Heard)
joining_in os v kept [] = []
joining_in os v kept (h ∷ hs) = joining_by os v kept hs (sound_in h) (joining_in os v kept hs) (λ d. joining_in (os ++ outline d ∷ []) v kept hs)

-- those that join a turn are found in what was heard after the DII that turned
abbrev pub AreJoined : List (Turn Heard) → Type 0
AreJoined [] = Unit {0}
AreJoined (t ∷ ts) = (t.joined ≡ joining_in (outline t.turning.dii ∷ []) (version t.turning.dii) t.turning.kept t.turning.since) × AreJoined ts

-- no sound DII of another version is heard between one that turns and the next
abbrev pub AreOfOneVersion : List (Turn Heard) → Type 0
AreOfOneVersion [] = Unit {0}
AreOfOneVersion (t ∷ ts) = All (λ d. version d ≡ version t.turning.dii) (filter_map sound_in t.turning.since) × AreOfOneVersion ts

-- a turn keeps what was there exactly where its DII is near the one that turned before it; the first keeps nothing
abbrev pub AreKeptWhereNear : List (Turn Heard) → Type 0
AreKeptWhereNear [] = Unit {0}
AreKeptWhereNear (t ∷ ts) = (t.turning.kept ≡ is_near (turnings ts) t.turning.dii) × AreKeptWhereNear ts

-- The spans of the turning DIIs are what was heard from the first sound DII on, cut before each that turns: each sound one that differs
-- in version from the last that turned, so that those of one span are of one version. Those that join are found in the span that they
-- stand in, and what was there is kept exactly over the turns that are near.
pub record AreSpansOf (hs : List Heard) (ts : List (Turn Heard)) : Type 0 where
  pub whole : put_together (turnings ts) ≡ from_first hs
  pub cut : openings (turnings ts) ≡ turning_of (filter_map sound_in hs)
  pub steady : AreOfOneVersion ts
  pub kept : AreKeptWhereNear ts
  pub joined : AreJoined ts

abbrev pub SpansAreOfTheList : Type 0
SpansAreOfTheList = (hs : List Heard) → AreSpansOf hs (turns_of hs)

-- ---- the memory of what is held

-- at most MOST_HELD DIIs, with at most 268,435,456 bytes in all their modules, none of which is listed twice
pub record AreBounded (os : List Outline) : Type 0 where
  pub few : length os ≤ MOST_HELD
  pub small : sum_by (λ o. sum_by (λ l. l.size) o.modules) os ≤ 268435456
  pub once : AreOnce os
  pub apart : AreApart os

abbrev pub HeldIsBounded : Type 0
HeldIsBounded = (hs : List Heard) → AreBounded (outlines (newest (turns_of hs)))

-- ---- all that is held

abbrev pub epoch_of : List (Turn Heard) → ℕ
epoch_of ts = epoch_in (turnings ts)

abbrev pub held_module : Span Heard → List (Span Heard) → ModuleLine → HeldModule
held_module s ss l =
    record {
      identification = identification s.dii;
      line = l;
      bytes = module_among block_in (stretch s ss l) s.dii l;
    }

-- the modules of the DIIs that were admitted in the newest turn
abbrev pub table_in : List (Turn Heard) → List HeldModule
table_in [] = []
table_in (t ∷ ts) = flat_map (λ s. map (held_module s (before s ts)) s.dii.modules) (admitted t)

-- all that an answer depends on
abbrev pub held_after : List Heard → Held
held_after hs = record {
  label = label_in (turnings (turns_of hs));
  held = map (λ s. identification s.dii) (newest (turns_of hs));
  gateway = gateway_of hs;
  table = table_in (turns_of hs);
}

-- a shot of what is held, with the number of candidates as its mark
abbrev pub snapshot_after : ℕ → ℕ → List Bytes → Snapshot
snapshot_after number draws candidates = record {
  number = number;
  draws = draws;
  mark = cap_at_u64 (length candidates);
  epoch = epoch_of (turns_of (map as_heard candidates));
  held = held_after (map as_heard candidates);
}

-- the answer to a path after these candidates
abbrev pub answer_after : List Bytes → List Bytes → Answer
answer_after candidates path = answer_of (held_after (map as_heard candidates)) path
