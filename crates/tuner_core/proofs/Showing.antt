-- A shot is all that looking back gives, and so are answers.
use Rattle.std.proofs.Common.{ℕ, ◌≡◌, List, [], ◌∷◌, ◌++◌, map, Option, refl, ap, ◌∙◌}
use Rattle.std.specs.List.{flat_map}
use Rattle.block_assembler.specs.Blocks.{Bytes}
use Rattle.dsi_dii.specs.declared.ModuleLine.{ModuleLine}
use Rattle.module_cache.specs.Contents.{bytes_of}
use Rattle.module_cache.specs.Held.{line_among}
use Rattle.module_cache.specs.Joining.{tuned_of}
use Rattle.module_cache.specs.Joining as joining
use Rattle.module_cache.specs.Turns.{admitted, newest, before, Turn}
use Rattle.module_cache.proofs.CallerLemmas.{bytes_among, map_map}
use Rattle.path_tree.specs.Paths.{PathNames}
use Rattle.path_resolver.specs.Resolving.{HeldModule, Target, answer_of}
use Rattle.path_resolver.specs.Shots.{Snapshot}
use Rattle.tuner_core.specs.Heard.{as_heard, Heard}
use Rattle.tuner_core.specs.Said.{block_in}
use Rattle.module_cache.specs.Spans.{Span}
use Rattle.tuner_core.specs.Turns.{identification, stretch, turns_of, held_module, table_in, answer_after, snapshot_after}
use Rattle.tuner_core.specs.Stands.{TunerState, StandsFor, held_by, modules_of, snapshot_of}

module_with : ℕ → ModuleLine → Option Bytes → HeldModule
module_with i l b = record { identification = i; line = l; bytes = b }

-- the modules of one DII of a turn that stands before these
abbrev modules_in : List (Turn Heard) → Span Heard → List HeldModule
modules_in ts s = map (held_module s (before s ts)) s.dii.modules

modules_are : (s : Span Heard) (ss : List (Span Heard)) (ls : List ModuleLine)
    → ◌≡◌ {A = List HeldModule} (map (λ x. record { identification = (tuned_of block_in s ss).identification; line = x.line; bytes = bytes_of x.stored.content }) (map (λ l. line_among block_in (stretch s ss l) s.dii l) ls)) (map (held_module s ss) ls)
unfolding module_with
modules_are s ss [] = refl
modules_are s ss (l ∷ ls) =
    ap (λ y. y ∷ map (λ x. record { identification = (tuned_of block_in s ss).identification; line = x.line; bytes = bytes_of x.stored.content }) (map (λ l. line_among block_in (stretch s ss l) s.dii l) ls))
    (ap (module_with (tuned_of block_in s ss).identification l) (bytes_among block_in (stretch s ss l) s.dii l))
    ∙ ap (λ ys. held_module s ss l ∷ ys) (modules_are s ss ls)

rows_are : (ts : List (Turn Heard)) (ss : List (Span Heard)) → flat_map modules_of (map (λ s. tuned_of block_in s (before s ts)) ss) ≡ flat_map (modules_in ts) ss
rows_are ts [] = refl
rows_are ts (s ∷ ss) =
    ap (λ xs. xs ++ flat_map modules_of (map (λ s. tuned_of block_in s (before s ts)) ss)) (modules_are s (before s ts) s.dii.modules)
    ∙ ap (λ ys. modules_in ts s ++ ys) (rows_are ts ss)

table_is : (ts : List (Turn Heard)) → flat_map modules_of (joining.held_in block_in ts) ≡ table_in ts
table_is [] = refl
table_is (t ∷ ts) = rows_are ts (admitted t)

held_is : (ts : List (Turn Heard)) → map (λ u. u.identification) (joining.held_in block_in ts) ≡ map (λ s. identification s.dii) (newest ts)
held_is [] = refl
held_is (t ∷ ts) = map_map (λ s. tuned_of block_in s (before s ts)) (λ u. u.identification) (admitted t)

same_snapshot : (number draws mark m2 epoch e2 : ℕ) (label l2 : Option ℕ) (held h2 : List ℕ) (gateway g2 : Option Target) (table t2 : List HeldModule)
    → mark ≡ m2 → epoch ≡ e2 → label ≡ l2 → held ≡ h2 → gateway ≡ g2 → table ≡ t2
    → ◌≡◌ {A = Snapshot} (record { number = number; draws = draws; mark = mark; epoch = epoch; held = record { label = label; held = held; gateway = gateway; table = table } })
    (record { number = number; draws = draws; mark = m2; epoch = e2; held = record { label = l2; held = h2; gateway = g2; table = t2 } })
same_snapshot number draws mark m2 epoch e2 label l2 held h2 gateway g2 table t2 a b c d e f = cc

pub shot_is : (number draws : ℕ) (t : TunerState) (candidates : List Bytes) → StandsFor t candidates → snapshot_of number draws t ≡ snapshot_after number draws candidates
shot_is number draws t cs s =
    let ts = turns_of (map as_heard cs) in
    same_snapshot number draws _ _ _ _ _ _ _ _ _ _ _ _ s.mark s.epoch s.label
    (ap (λ c. map (λ u. u.identification) c.held) s.cache ∙ held_is ts)
    s.gateway
    (ap (λ c. flat_map modules_of c.held) s.cache ∙ table_is ts)

pub answer_is : (t : TunerState) (candidates : List Bytes) (path : PathNames) → StandsFor t candidates → answer_of (held_by t) path ≡ answer_after candidates path
answer_is t cs path s = ap (λ (shot : Snapshot). answer_of shot.held path) (shot_is 0 0 t cs s)
