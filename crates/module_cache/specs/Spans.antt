-- DIIs of one identification that take each other's place, and what was heard after each.
--
-- A DII that is held from now on opens a span, which goes on up to the turn in which another takes its place. What is there of a
-- module was heard in its stretch: in the newest span, and in the spans right before it in which the module was described in the
-- same way, as long as each turn kept what was there. Newer spans stand first. `H` is what is heard.
use Rattle.std.specs.Prelude.{ℕ, Bool, false, not, ◌&&◌, List, [], ◌∷◌, ◌++◌, ◌==◌, if◌then◌else◌}
use Rattle.std.specs.Option.{option_map_or}
use Rattle.std.specs.List.{find}
use Rattle.dsi_dii.specs.Controls.{DiiFields, version_of, identification_of}
use Rattle.dsi_dii.specs.declared.ModuleLine.{ModuleLine}

-- a DII that was held, whether the turn that it belongs to kept what was there before, and what was heard after it up to the next turn
pub record Span (H : Type 0) : Type 0 where
  pub dii : DiiFields
  pub kept : Bool
  pub since : List H

abbrev pub version : DiiFields → ℕ
version d = version_of d.transaction

abbrev pub identification : DiiFields → ℕ
identification d = identification_of d.transaction

-- ---- a module's stretch

-- two lines describe a module in the same way
abbrev pub same_line : ModuleLine → ModuleLine → Bool
same_line a b =
    (a.size == b.size) && (a.version == b.version)
    && (if a.compressed then b.compressed else not b.compressed)

-- the DII describes a module as the held one does
abbrev pub agrees : DiiFields → DiiFields → ModuleLine → Bool
agrees d held l =
    (d.download == held.download) && (d.block_size == held.block_size)
    && option_map_or (λ k. same_line k l) (find (λ k. k.id == l.id) d.modules) false

-- what was heard in the earlier spans of the stretch; `kept` says whether the next one kept what was there
abbrev pub earlier : {H : Type 0} → DiiFields → ModuleLine → Bool → List (Span H) → List H
earlier held l kept [] = []
earlier held l kept (s ∷ ss) = if kept && agrees s.dii held l then earlier held l s.kept ss ++ s.since else []

-- what was heard in the stretch of a module of the held DII
abbrev pub stretch : {H : Type 0} → Span H → List (Span H) → ModuleLine → List H
stretch s ss l = earlier s.dii l s.kept ss ++ s.since
