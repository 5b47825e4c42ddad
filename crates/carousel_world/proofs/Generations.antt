-- All that is held over turns is of one generation.
use Rattle.std.proofs.Common.{◌≡◌, ℕ, ◌+◌, ◌-◌, ◌<◌, ◌≤◌, inl, inr, Bool, true, false, cond, not, ◌&&◌, eqb, ltb, List, [], ◌∷◌, ◌++◌, map, length, get_or, Some, None, refl, ap, sym, ◌∙◌, subst, arith, lit<, Option}
use Rattle.std.specs.List.{All, fold, find}
use Rattle.std.specs.Option.{option_map_or}
use Rattle.std.proofs.lemmas.Bool.{and_parts, eqb-true, ltb-true}
use Rattle.std.proofs.lemmas.Option.{same_Some}
use Rattle.std.proofs.lemmas.List.Elements.{All-cons, All-nil, All-append}
use Rattle.carousel_profile.specs.declared.TheConstants.{BLOCK_SIZE}
use Rattle.oc_bytes.specs.Outcome.{cap_at_u64}
use Rattle.path_tree.specs.Paths.{Bytes}
use Rattle.ddb_block.specs.Blocks as ddb
use Rattle.dsi_dii.specs.Controls.{DiiFields, distance_of}
use Rattle.dsi_dii.specs.declared.ModuleLine.{ModuleLine}
use Rattle.biop_object.specs.Names.{Layout, module_in}
use Rattle.generation.specs.Lawful.{layout_at, version_in, dii_in, EqualVersionsMeanEqualBytes}
use Rattle.generation.specs.Groups.{group_in}
use Rattle.module_cache.specs.Turns.{admitted, heard_by, continued, with_turning, with_joined, chain, Turn}
use Rattle.tuner_core.specs.Heard.{Heard, Skipped, NoControl, NoBlock, ADsi, ADii, ABlock}
use Rattle.tuner_core.specs.LookBack.{is_sound, fits, bytes_if_fits, block_among}
use Rattle.tuner_core.specs.Said as said
use Rattle.module_cache.specs.Turns as back
use Rattle.module_cache.specs.Spans.{Span}
use Rattle.tuner_core.specs.Turns.{earlier, stretch, is_near, agrees, same_line, label_in, version, identification, turnings, turns, joins, turn_after}
use Rattle.tuner_core.proofs.CallerLemmas.{by_admission}
use Rattle.carousel_world.specs.Receptions.{IsDiiOf}
use Rattle.carousel_world.proofs.Lists.{MaybeIs, first_maybe, joined_maybe}
use Rattle.carousel_world.proofs.Modules.{IsSent, line_of, is_taken, number_is, generation_is, in_layout}
use Rattle.carousel_world.proofs.Saying.{dsi_of}

-- ---- blocks that are heard

-- a block of a generation, under the version of its module there
pub record IsBlockSaid (ls : List Layout) (k : ℕ) (x : ddb.Block) : Type 0 where
  pub bytes : Bytes
  pub listed : module_in (layout_at ls k) x.module_id ≡ Some bytes
  pub part : x.bytes ≡ ddb.block_of bytes BLOCK_SIZE x.number
  pub versioned : x.version ≡ version_in ls k x.module_id

-- a block of a generation from g on, fewer than 256 on, and no later than the last that was heard
pub record IsHeardIn (ls : List Layout) (g top : ℕ) (x : ddb.Block) : Type 0 where
  pub generation : ℕ
  pub from : g ≤ generation
  pub near : generation < g + 256
  pub upto : generation ≤ top
  pub said : IsBlockSaid ls generation x

abbrev pub HeardIn : List Layout → ℕ → ℕ → Heard → Type 0
HeardIn ls g top (ABlock x) = IsHeardIn ls g top x
HeardIn ls g top _ = Unit {0}

-- where what was held was kept, the span before isn't 256 or more generations earlier
abbrev pub IsKeptNear : List ℕ → ℕ → Bool → Type 0
IsKeptNear [] g kept = Unit {0}
IsKeptNear (h ∷ hs) g kept = kept ≡ true → g < h + 256

-- ---- a line of a generation's DII

pub record IsListed (ls : List Layout) (g : ℕ) (ms : Layout) (l : ModuleLine) : Type 0 where
  pub bytes : Bytes
  pub listed : module_in ms l.id ≡ Some bytes
  pub versioned : version_in ls g l.id ≡ l.version

pub found_line : (ls : List Layout) (g : ℕ) (l : ModuleLine) (ms : Layout)
    → option_map_or (λ k. same_line k l) (find (λ k. eqb k.id l.id) (map (line_of (version_in ls g)) ms)) false ≡ true → IsListed ls g ms l
found_line ls g l [] e = cc
found_line ls g l (n ∷ ns) e = go (eqb n.0 l.id) refl (found_line ls g l ns) where
  go : (t : Bool) → eqb n.0 l.id ≡ t → (option_map_or (λ k. same_line k l) (find (λ k. eqb k.id l.id) (map (line_of (version_in ls g)) ns)) false ≡ true → IsListed ls g ns l) → IsListed ls g (n ∷ ns) l
  go true t rest =
      let same : same_line (line_of (version_in ls g) n) l ≡ true = rw t at e in
      let parts = and_parts _ _ (and_parts _ _ same).0 in
      record { bytes = n.1; listed = rw t refl; versioned = ap (λ m. version_in ls g m) (sym (eqb-true n.0 l.id t)) ∙ eqb-true _ _ parts.1 }
  go false t rest = let r = rest (rw t at e) in record { bytes = r.bytes; listed = rw t r.listed; versioned = r.versioned }

-- ---- blocks that fit

six : (a b c d e f : Bool) → (((((a && b) && c) && d) && e) && f) ≡ true → (b ≡ true) × ((c ≡ true) × (d ≡ true))
six a b c d e f h =
    let five = (and_parts _ _ h).0 in
    let four = (and_parts _ _ five).0 in
    let q = and_parts _ _ four in
    let p = and_parts _ _ q.0 in
    ((and_parts _ _ p.0).1, (p.1, q.1))

-- a block that fits is the module's, whenever it was heard
fit_right : (ls : List Layout) → EqualVersionsMeanEqualBytes ls → (held : DiiFields) (versions : ℕ → ℕ) (m : ℕ × Bytes) (b g top : ℕ) → top < length ls
    → module_in (layout_at ls g) m.0 ≡ Some m.1 → version_in ls g m.0 ≡ versions m.0
    → (x : ddb.Block) → IsHeardIn ls g top x → MaybeIs (bytes_if_fits held (line_of versions m) b (ABlock x)) (ddb.block_of m.1 BLOCK_SIZE b)
fit_right ls law held versions m b g top lt listed versioned x of = by (fits held (line_of versions m) b x) refl where
  by : (t : Bool) → fits held (line_of versions m) b x ≡ t → MaybeIs (cond t (Some x.bytes) None) (ddb.block_of m.1 BLOCK_SIZE b)
  by false t = inr refl
  by true t =
      let parts = six (eqb x.download held.download) (eqb x.module_id m.0) (eqb x.version (versions m.0)) (eqb x.number b)
      (ltb b (ddb.block_count_of (length m.1) held.block_size)) (eqb (length x.bytes) (ddb.block_span_of (length m.1) held.block_size b)) t in
      let id : x.module_id ≡ m.0 = eqb-true _ _ parts.0 in
      let there : module_in (layout_at ls of.generation) m.0 ≡ Some of.said.bytes = subst (λ k. module_in (layout_at ls of.generation) k ≡ Some of.said.bytes) id of.said.listed in
      let version_is : version_in ls of.generation m.0 ≡ versions m.0 = ap (λ k. version_in ls of.generation k) (sym id) ∙ sym of.said.versioned ∙ eqb-true _ _ parts.1.0 in
      let same : m.1 ≡ of.said.bytes = law g of.generation m.0 m.1 of.said.bytes of.from (omega (arith, of.from, of.near)) (omega (arith, of.upto, lt)) listed there (versioned ∙ sym version_is) in
      inl (ap (λ (y : Bytes). Some y) (of.said.part ∙ ap (λ n. ddb.block_of of.said.bytes BLOCK_SIZE n) (eqb-true _ _ parts.1.1) ∙ ap (λ y. ddb.block_of y BLOCK_SIZE b) (sym same)))

pub heard_right : (ls : List Layout) → EqualVersionsMeanEqualBytes ls → (held : DiiFields) (versions : ℕ → ℕ) (m : ℕ × Bytes) (b g top : ℕ) → top < length ls
    → module_in (layout_at ls g) m.0 ≡ Some m.1 → version_in ls g m.0 ≡ versions m.0
    → (h : Heard) → HeardIn ls g top h → MaybeIs (bytes_if_fits held (line_of versions m) b h) (ddb.block_of m.1 BLOCK_SIZE b)
heard_right ls law held versions m b g top lt listed versioned (ABlock x) of = fit_right ls law held versions m b g top lt listed versioned x of
heard_right ls law held versions m b g top lt listed versioned (Skipped c) of = inr refl
heard_right ls law held versions m b g top lt listed versioned (NoControl c) of = inr refl
heard_right ls law held versions m b g top lt listed versioned (NoBlock c) of = inr refl
heard_right ls law held versions m b g top lt listed versioned (ADsi c) of = inr refl
heard_right ls law held versions m b g top lt listed versioned (ADii c) of = inr refl

abbrev pub IsRight : DiiFields → (ℕ → ℕ) → ℕ × Bytes → ℕ → Heard → Type 0
IsRight held versions m b h = MaybeIs (bytes_if_fits held (line_of versions m) b h) (ddb.block_of m.1 BLOCK_SIZE b)

-- the line of a listed module
pub line_found : (versions : ℕ → ℕ) (ms : Layout) (id : ℕ) (bytes : Bytes) → module_in ms id ≡ Some bytes → find (λ l. eqb l.id id) (map (line_of versions) ms) ≡ Some (line_of versions (id, bytes))
line_found versions [] id bytes e = cc
line_found versions (m ∷ ms) id bytes e = go (eqb m.0 id) refl (line_found versions ms id bytes) where
  go : (t : Bool) → eqb m.0 id ≡ t → (module_in ms id ≡ Some bytes → find (λ l. eqb l.id id) (map (line_of versions) ms) ≡ Some (line_of versions (id, bytes)))
      → find (λ l. eqb l.id id) (map (line_of versions) (m ∷ ms)) ≡ Some (line_of versions (id, bytes))
  go true t rest =
      let same : m.1 ≡ bytes = same_Some m.1 bytes (rw t at e) in
      let own : m.0 ≡ id = eqb-true m.0 id t in
      rw t (ap (λ k. Some (line_of versions (k, m.1))) own ∙ ap (λ b. Some (line_of versions (id, b))) same)
  go false t rest = rw t (rest (rw t at e))

-- ---- with a later candidate

pub more_heard : (ls : List Layout) (g top k : ℕ) → top ≤ k → (h : Heard) → HeardIn ls g top h → HeardIn ls g k h
more_heard ls g top k le (ABlock x) of = record { generation = of.generation; from = of.from; near = of.near; upto = omega (arith, of.upto, le); said = of.said }
more_heard ls g top k le (Skipped c) of = tt
more_heard ls g top k le (NoControl c) of = tt
more_heard ls g top k le (NoBlock c) of = tt
more_heard ls g top k le (ADsi c) of = tt
more_heard ls g top k le (ADii c) of = tt

-- the candidate is near the last DII
abbrev pub IsNearTo : List ℕ → ℕ → Heard → Type 0
IsNearTo (g ∷ gs) k (ABlock x) = k < g + 256
IsNearTo _ k h = Unit {0}

-- ---- the generations of the turns

-- with that of a DII that turns first
abbrev pub gens_after : List ℕ → ℕ → Bool → List ℕ
gens_after gs k true = k ∷ gs
gens_after gs k false = gs

-- whether the DII of a generation turns, after those of others
abbrev pub newer : List ℕ → ℕ → Bool
newer [] k = true
newer (g ∷ gs) k = not (eqb k g)

-- the generations after a candidate of generation k
abbrev pub gens_with : List ℕ → ℕ → Heard → List ℕ
gens_with gs k (ADii d) = gens_after gs k (newer gs k)
gens_with gs k _ = gs

-- the generations after these candidates
abbrev pub gens_of : List ℕ → List (ℕ × Heard) → List ℕ
gens_of gs [] = gs
gens_of gs (x ∷ xs) = gens_of (gens_with gs x.0 x.1) xs

-- a fact of each DII's generation
abbrev pub OnDii : (ℕ → Type 0) → ℕ → Heard → Type 0
OnDii P k (ADii d) = P k
OnDii P k _ = Unit {0}

abbrev pub AllOf : (ℕ → Type 0) → List ℕ → Type 0
AllOf P [] = Unit {0}
AllOf P (g ∷ gs) = P g × AllOf P gs

abbrev pub DiisAre : (ℕ → Type 0) → List (ℕ × Heard) → Type 0
DiisAre P [] = Unit {0}
DiisAre P (x ∷ xs) = OnDii P x.0 x.1 × DiisAre P xs

gens_step : (P : ℕ → Type 0) (gs : List ℕ) (k : ℕ) (h : Heard) → AllOf P gs → OnDii P k h → AllOf P (gens_with gs k h)
gens_step P gs k (ADii d) all p = go (newer gs k) where
  go : (b : Bool) → AllOf P (gens_after gs k b)
  go true = (p, all)
  go false = all
gens_step P gs k (ABlock b) all p = all
gens_step P gs k (ADsi d) all p = all
gens_step P gs k (Skipped c) all p = all
gens_step P gs k (NoControl c) all p = all
gens_step P gs k (NoBlock c) all p = all

-- what holds of the generation of each DII that was heard holds of each span's
pub gens_are : (P : ℕ → Type 0) (gs : List ℕ) (xs : List (ℕ × Heard)) → AllOf P gs → DiisAre P xs → AllOf P (gens_of gs xs)
gens_are P gs [] all diis = all
gens_are P gs (x ∷ xs) all diis = gens_are P (gens_with gs x.0 x.1) xs (gens_step P gs x.0 x.1 all diis.0) diis.1

-- ---- what is heard, generation by generation

-- one of the generation's sections says this, or it is no section
abbrev pub IsSaidIn : ℕ → List Layout → ℕ → Heard → Type 0
IsSaidIn carousel ls k (Skipped skip) = Unit {0}
IsSaidIn carousel ls k (NoControl place) = ⊥
IsSaidIn carousel ls k (NoBlock place) = ⊥
IsSaidIn carousel ls k (ADsi d) = d ≡ dsi_of carousel
IsSaidIn carousel ls k (ADii d) = IsDiiOf carousel ls k d
IsSaidIn carousel ls k (ABlock x) = IsBlockSaid ls k x

pub number_of : (carousel : ℕ) (ls : List Layout) (g : ℕ) (d : DiiFields) (of : IsDiiOf carousel ls g d) → identification d ≡ of.number
number_of carousel ls g d of = ap identification of.is ∙ number_is g of.number of.few

pub version_is : (carousel : ℕ) (ls : List Layout) (g : ℕ) (d : DiiFields) → g < 16384 → IsDiiOf carousel ls g d → version d ≡ g
version_is carousel ls g d lt of = ap version of.is ∙ generation_is g of.number lt of.few

-- ---- the DIIs of one identification, from generation to generation

-- a span that begins with DII i of generation g
pub record IsSpanIn (carousel : ℕ) (ls : List Layout) (i g top : ℕ) (gs : List ℕ) (s : Span Heard) : Type 0 where
  pub generation : g ≤ top
  pub near : IsKeptNear gs g s.kept
  pub dii : s.dii ≡ dii_in carousel ls g i
  pub since : All (HeardIn ls g top) s.since

abbrev pub AreChain : ℕ → List Layout → ℕ → ℕ → List ℕ → List (Span Heard) → Type 0
AreChain carousel ls i top [] [] = Unit {0}
AreChain carousel ls i top (g ∷ gs) (s ∷ ss) = IsSpanIn carousel ls i g top gs s × AreChain carousel ls i g gs ss
AreChain carousel ls i top _ _ = ⊥

-- in the spans before, as far as the stretch goes
earlier_right : (carousel : ℕ) (ls : List Layout) → EqualVersionsMeanEqualBytes ls → (i : ℕ) (held : DiiFields) (versions : ℕ → ℕ) (m : ℕ × Bytes) (b : ℕ)
    → (h : ℕ) (kept : Bool) → h < length ls → module_in (layout_at ls h) m.0 ≡ Some m.1 → version_in ls h m.0 ≡ versions m.0
    → (gs : List ℕ) (ss : List (Span Heard)) → IsKeptNear gs h kept → AreChain carousel ls i h gs ss → All (IsRight held versions m b) (earlier held (line_of versions m) kept ss)
earlier_right carousel ls law i held versions m b h kept lt listed versioned [] [] near of = All-nil (IsRight held versions m b)
earlier_right carousel ls law i held versions m b h kept lt listed versioned [] (s ∷ ss) near of = absurd of
earlier_right carousel ls law i held versions m b h kept lt listed versioned (g ∷ gs) [] near of = absurd of
earlier_right carousel ls law i held versions m b h kept lt listed versioned (g ∷ gs) (s ∷ ss) near of =
    go (kept && agrees s.dii held (line_of versions m)) refl
    (λ here kept_version. earlier_right carousel ls law i held versions m b g s.kept (omega (arith, of.0.generation, lt)) here kept_version gs ss of.0.near of.1) where
      go : (t : Bool) → (kept && agrees s.dii held (line_of versions m)) ≡ t
          → (module_in (layout_at ls g) m.0 ≡ Some m.1 → version_in ls g m.0 ≡ versions m.0 → All (IsRight held versions m b) (earlier held (line_of versions m) s.kept ss))
          → All (IsRight held versions m b) (cond t (earlier held (line_of versions m) s.kept ss ++ s.since) [])
      go false t rest = All-nil (IsRight held versions m b)
      go true t rest =
          let both = and_parts _ _ t in
          let close : h < g + 256 = near both.0 in
          let apart : h - g < 256 = omega (arith, close, of.0.generation) in
          let agreed : agrees (dii_in carousel ls g i) held (line_of versions m) ≡ true = subst (λ d. agrees d held (line_of versions m) ≡ true) of.0.dii both.1 in
          let line : IsListed ls g (group_in (layout_at ls g) i) (line_of versions m) = found_line ls g (line_of versions m) (group_in (layout_at ls g) i) (and_parts _ _ agreed).1 in
          let there : module_in (layout_at ls g) m.0 ≡ Some line.bytes = in_layout i (layout_at ls g) m.0 line.bytes line.listed in
          let same : line.bytes ≡ m.1 = law g h m.0 line.bytes m.1 of.0.generation apart lt there listed (line.versioned ∙ sym versioned) in
          let here : module_in (layout_at ls g) m.0 ≡ Some m.1 = there ∙ ap (λ (y : Bytes). Some y) same in
          All-append (IsRight held versions m b) (earlier held (line_of versions m) s.kept ss) s.since (rest here line.versioned)
          (λ k d inside. heard_right ls law held versions m b g h lt here line.versioned (get_or s.since k d) (of.0.since k d inside))

-- ---- a module of a DII

-- what was heard in a module's stretch is the module's
pub stretch_right : (carousel : ℕ) (ls : List Layout) → EqualVersionsMeanEqualBytes ls → (i g top : ℕ) → top < length ls → (s : Span Heard) (gs : List ℕ) (ss : List (Span Heard)) → AreChain carousel ls i top (g ∷ gs) (s ∷ ss)
    → (held : DiiFields) (m : ℕ × Bytes) → module_in (layout_at ls g) m.0 ≡ Some m.1 → (b : ℕ) → All (IsRight held (version_in ls g) m b) (earlier held (line_of (version_in ls g) m) s.kept ss ++ s.since)
stretch_right carousel ls law i g top lt s gs ss of held m listed b =
    All-append (IsRight held (version_in ls g) m b) (earlier held (line_of (version_in ls g) m) s.kept ss) s.since
    (earlier_right carousel ls law i held (version_in ls g) m b g s.kept (omega (arith, of.0.generation, lt)) listed refl gs ss of.0.near of.1)
    (λ k d inside. heard_right ls law held (version_in ls g) m b g top lt listed refl (get_or s.since k d) (of.0.since k d inside))

pub module_right : (carousel : ℕ) (ls : List Layout) → EqualVersionsMeanEqualBytes ls → (i g top : ℕ) → top < length ls → (s : Span Heard) (gs : List ℕ) (ss : List (Span Heard)) → AreChain carousel ls i top (g ∷ gs) (s ∷ ss)
    → (m : ℕ × Bytes) → module_in (layout_at ls g) m.0 ≡ Some m.1
    → MaybeIs (back.module_among said.block_in (stretch s ss (line_of (version_in ls g) m)) (dii_in carousel ls g i) (line_of (version_in ls g) m)) m.1
module_right carousel ls law i g top lt s gs ss of m listed =
    let held = dii_in carousel ls g i in
    let line = line_of (version_in ls g) m in
    let all = earlier held line s.kept ss ++ s.since in
    subst (λ d. MaybeIs (back.module_among said.block_in (earlier d line s.kept ss ++ s.since) held line) m.1) (sym of.0.dii)
    (joined_maybe (block_among all held line) m.1 BLOCK_SIZE (lit< tt)
    (λ b. first_maybe (bytes_if_fits held line b) (ddb.block_of m.1 BLOCK_SIZE b) all (stretch_right carousel ls law i g top lt s gs ss of held m listed b)))

-- ---- the turns are of generations

abbrev pub Each : (Span Heard → Type 0) → List (Span Heard) → Type 0
Each P [] = Unit {0}
Each P (s ∷ ss) = P s × Each P ss

pub each_like : (P Q : Span Heard → Type 0) (f : Span Heard → Span Heard) → ((s : Span Heard) → P s → Q (f s)) → (ss : List (Span Heard)) → Each P ss → Each Q (map f ss)
each_like P Q f h [] e = tt
each_like P Q f h (s ∷ ss) e = (h s e.0, each_like P Q f h ss e.1)

pub each_same : (P Q : Span Heard → Type 0) → ((s : Span Heard) → P s → Q s) → (ss : List (Span Heard)) → Each P ss → Each Q ss
each_same P Q h [] e = tt
each_same P Q h (s ∷ ss) e = (h s e.0, each_same P Q h ss e.1)

pub each_more : (P : Span Heard → Type 0) (s : Span Heard) (ss : List (Span Heard)) → Each P ss → P s → Each P (ss ++ s ∷ [])
each_more P s [] e p = (p, tt)
each_more P s (u ∷ ss) e p = (e.0, each_more P s ss e.1 p)

pub each_found : (P : Span Heard → Type 0) (p : Span Heard → Bool) (s : Span Heard) (ss : List (Span Heard)) → Each P ss → find p ss ≡ Some s → P s × (p s ≡ true)
each_found P p s [] e f = cc
each_found P p s (u ∷ ss) e f = go (p u) refl (each_found P p s ss e.1) where
  go : (t : Bool) → p u ≡ t → (find p ss ≡ Some s → P s × (p s ≡ true)) → P s × (p s ≡ true)
  go true g rest = let same : u ≡ s = same_Some u s (rw g at f) in (subst P same e.0, ap p (sym same) ∙ g)
  go false g rest = rest (rw g at f)

-- a DII of generation g, admitted in a turn that kept what was there before, or didn't
pub record IsAdmitted (carousel : ℕ) (ls : List Layout) (g top : ℕ) (kept : Bool) (s : Span Heard) : Type 0 where
  pub dii : IsDiiOf carousel ls g s.dii
  pub same : s.kept ≡ kept
  pub since : All (HeardIn ls g top) s.since

pub record IsTurnOf (carousel : ℕ) (ls : List Layout) (g top : ℕ) (gs : List ℕ) (t : Turn Heard) : Type 0 where
  pub generation : g ≤ top
  pub near : IsKeptNear gs g t.turning.kept
  pub each : Each (IsAdmitted carousel ls g top t.turning.kept) (admitted t)

-- the turns are of these generations, the newest first, each no later than the next
abbrev pub AreOf : ℕ → List Layout → ℕ → List ℕ → List (Turn Heard) → Type 0
AreOf carousel ls top [] [] = Unit {0}
AreOf carousel ls top (g ∷ gs) (t ∷ ts) = IsTurnOf carousel ls g top gs t × AreOf carousel ls g gs ts
AreOf carousel ls top _ _ = ⊥

-- ---- from turns to the DIIs of one identification

abbrev gens_onto : ℕ → Option (Span Heard) → List ℕ → List ℕ
gens_onto g (Some s) gs = g ∷ gs
gens_onto g None gs = []

abbrev pub chain_gens : ℕ → List ℕ → List (Turn Heard) → List ℕ
chain_gens i gs [] = []
chain_gens i [] (t ∷ ts) = []
chain_gens i (g ∷ gs) (t ∷ ts) = gens_onto g (find (λ s. eqb (identification s.dii) i) (admitted t)) (chain_gens i gs ts)

pub chain_near : (i : ℕ) (gs : List ℕ) (ts : List (Turn Heard)) (g : ℕ) (kept : Bool) → IsKeptNear gs g kept → IsKeptNear (chain_gens i gs ts) g kept
chain_near i gs [] g kept near = tt
chain_near i [] (t ∷ ts) g kept near = tt
chain_near i (h ∷ gs) (t ∷ ts) g kept near = go (find (λ s. eqb (identification s.dii) i) (admitted t)) where
  go : (o : Option (Span Heard)) → IsKeptNear (gens_onto h o (chain_gens i gs ts)) g kept
  go (Some s) = near
  go None = tt

-- a span of the turn, where it is of DII i
as_span : (carousel : ℕ) (ls : List Layout) (i g top : ℕ) (gs : List ℕ) (t : Turn Heard) (ts : List (Turn Heard)) (s : Span Heard) → g ≤ top → IsKeptNear gs g t.turning.kept → IsAdmitted carousel ls g top t.turning.kept s → identification s.dii ≡ i
    → IsSpanIn carousel ls i g top (chain_gens i gs ts) s
as_span carousel ls i g top gs t ts s le near a e = record {
  generation = le;
  near = subst (IsKeptNear (chain_gens i gs ts) g) (sym a.same) (chain_near i gs ts g t.turning.kept near);
  dii = a.dii.is ∙ ap (dii_in carousel ls g) (sym (number_of carousel ls g s.dii a.dii) ∙ e);
  since = a.since;
}

pub chain_are : (carousel : ℕ) (ls : List Layout) (i top : ℕ) (gs : List ℕ) (ts : List (Turn Heard)) → AreOf carousel ls top gs ts → AreChain carousel ls i top (chain_gens i gs ts) (chain i ts)
chain_are carousel ls i top [] [] of = tt
chain_are carousel ls i top [] (t ∷ ts) of = absurd of
chain_are carousel ls i top (g ∷ gs) [] of = absurd of
chain_are carousel ls i top (g ∷ gs) (t ∷ ts) of = go (find (λ s. eqb (identification s.dii) i) (admitted t)) refl (chain_are carousel ls i g gs ts of.1) where
  go : (o : Option (Span Heard)) → find (λ s. eqb (identification s.dii) i) (admitted t) ≡ o → AreChain carousel ls i g (chain_gens i gs ts) (chain i ts)
      → AreChain carousel ls i top (gens_onto g o (chain_gens i gs ts)) (option_map_or (λ s. s ∷ chain i ts) o [])
  go None e rest = tt
  go (Some s) e rest =
      let found = each_found (IsAdmitted carousel ls g top t.turning.kept) (λ s. eqb (identification s.dii) i) s (admitted t) of.0.each e in
      (as_span carousel ls i g top gs t ts s of.0.generation of.0.near found.0 (eqb-true _ _ found.1), rest)

-- an admitted DII of the newest turn, with those of its identification before
pub newest_are : (carousel : ℕ) (ls : List Layout) (g top : ℕ) (gs : List ℕ) (t : Turn Heard) (ts : List (Turn Heard)) → AreOf carousel ls top (g ∷ gs) (t ∷ ts) → (s : Span Heard) → IsAdmitted carousel ls g top t.turning.kept s
    → AreChain carousel ls (identification s.dii) top (g ∷ chain_gens (identification s.dii) gs ts) (s ∷ chain (identification s.dii) ts)
newest_are carousel ls g top gs t ts of s a =
    (as_span carousel ls (identification s.dii) g top gs t ts s of.0.generation of.0.near a refl, chain_are carousel ls (identification s.dii) g gs ts of.1)

-- ---- the label

first_of : (carousel : ℕ) (ls : List Layout) (g top : ℕ) (gs : List ℕ) (t : Turn Heard) → IsTurnOf carousel ls g top gs t → IsDiiOf carousel ls g t.turning.dii
first_of carousel ls g top gs t of = of.each.0.dii

pub apart_is : (carousel : ℕ) (ls : List Layout) (h g : ℕ) (d e : DiiFields) → h ≤ g → g < 16384 → IsDiiOf carousel ls h d → IsDiiOf carousel ls g e → distance_of (version d) (version e) ≡ g - h
apart_is carousel ls h g d e le lt a b =
    let one : version d ≡ h = version_is carousel ls h d (omega (arith, le, lt)) a in
    let two : version e ≡ g = version_is carousel ls g e lt b in
    rw (one, two) (between h g le lt)
  where
    between : (h g : ℕ) → h ≤ g → g < 16384 → distance_of h g ≡ g - h
    between h g le lt = omega (arith, le, lt)

-- a label and the distance to the next version
pub sums : (h g : ℕ) → h ≤ g → g < 16384 → cap_at_u64 (h + (g - h)) ≡ g
sums h g le lt = omega (arith, le, lt)

pub label_right : (carousel : ℕ) (ls : List Layout) → length ls ≤ 16384 → (top : ℕ) → top < length ls → (gs : List ℕ) (g : ℕ) (t : Turn Heard) (ts : List (Turn Heard)) → AreOf carousel ls top (g ∷ gs) (t ∷ ts) → label_in (turnings (t ∷ ts)) ≡ Some g
label_right carousel ls few top lt [] g t [] of = ap (λ (n : ℕ). Some n) (version_is carousel ls g t.turning.dii (omega (arith, of.0.generation, lt, few)) (first_of carousel ls g top [] t of.0))
label_right carousel ls few top lt [] g t (u ∷ us) of = absurd of.1
label_right carousel ls few top lt (h ∷ hs) g t [] of = absurd of.1
label_right carousel ls few top lt (h ∷ hs) g t (u ∷ us) of =
    let was : label_in (u.turning ∷ turnings us) ≡ Some h = label_right carousel ls few g (omega (arith, of.0.generation, lt)) hs h u us of.1 in
    let apart : distance_of (version u.turning.dii) (version t.turning.dii) ≡ g - h =
    apart_is carousel ls h g u.turning.dii t.turning.dii of.1.0.generation (omega (arith, of.0.generation, lt, few)) (first_of carousel ls h g hs u of.1.0) (first_of carousel ls g top (h ∷ hs) t of.0) in
    rw (was, apart) (ap (λ (n : ℕ). Some n) (sums h g of.1.0.generation (omega (arith, of.0.generation, lt, few))))

-- ---- one candidate more

later_top : (carousel : ℕ) (ls : List Layout) (g top k : ℕ) (kept : Bool) → top ≤ k → (s : Span Heard) → IsAdmitted carousel ls g top kept s → IsAdmitted carousel ls g k kept s
later_top carousel ls g top k kept le s a = record { dii = a.dii; same = a.same; since = λ i d inside. more_heard ls g top k le (get_or s.since i d) (a.since i d inside) }

heard_more : (carousel : ℕ) (ls : List Layout) (g top k : ℕ) (kept : Bool) (h : Heard) → top ≤ k → HeardIn ls g k h → (s : Span Heard) → IsAdmitted carousel ls g top kept s → IsAdmitted carousel ls g k kept (heard_by h s)
heard_more carousel ls g top k kept h le of s a = record {
  dii = a.dii;
  same = a.same;
  since = All-append (HeardIn ls g k) s.since (h ∷ []) (λ i d inside. more_heard ls g top k le (get_or s.since i d) (a.since i d inside)) (All-cons (HeardIn ls g k) h [] of (All-nil (HeardIn ls g k)));
}

heard_in : (carousel : ℕ) (ls : List Layout) (g k : ℕ) (gs : List ℕ) → g ≤ k → (h : Heard) → IsSaidIn carousel ls k h → IsNearTo (g ∷ gs) k h → HeardIn ls g k h
heard_in carousel ls g k gs le (ABlock x) said near = record { generation = k; from = le; near = near; upto = omega arith; said = said }
heard_in carousel ls g k gs le (Skipped c) said near = tt
heard_in carousel ls g k gs le (NoControl c) said near = tt
heard_in carousel ls g k gs le (NoBlock c) said near = tt
heard_in carousel ls g k gs le (ADsi c) said near = tt
heard_in carousel ls g k gs le (ADii c) said near = tt

pub continued_of : (carousel : ℕ) (ls : List Layout) (top k : ℕ) → top ≤ k → (h : Heard) → IsSaidIn carousel ls k h → (gs : List ℕ) (ts : List (Turn Heard)) → IsNearTo gs k h → AreOf carousel ls top gs ts
    → AreOf carousel ls k gs (continued ts h)
continued_of carousel ls top k le h said [] [] near of = tt
continued_of carousel ls top k le h said [] (t ∷ ts) near of = absurd of
continued_of carousel ls top k le h said (g ∷ gs) [] near of = absurd of
continued_of carousel ls top k le h said (g ∷ gs) (t ∷ ts) near of =
    let le_too : g ≤ k = omega (arith, of.0.generation, le) in (
      record {
        generation = le_too;
        near = of.0.near;
        each =
            each_like (IsAdmitted carousel ls g top t.turning.kept) (IsAdmitted carousel ls g k t.turning.kept) (heard_by h)
            (λ s a. heard_more carousel ls g top k t.turning.kept h le (heard_in carousel ls g k gs le_too h said near) s a) (admitted t) of.0.each;
      },
      of.1,
    )

below_top : (carousel : ℕ) (ls : List Layout) (top k : ℕ) → top ≤ k → (gs : List ℕ) (ts : List (Turn Heard)) → AreOf carousel ls top gs ts → AreOf carousel ls k gs ts
below_top carousel ls top k le [] [] of = tt
below_top carousel ls top k le [] (t ∷ ts) of = absurd of
below_top carousel ls top k le (g ∷ gs) [] of = absurd of
below_top carousel ls top k le (g ∷ gs) (t ∷ ts) of = (
  record {
    generation = omega (arith, of.0.generation, le);
    near = of.0.near;
    each = each_same (IsAdmitted carousel ls g top t.turning.kept) (IsAdmitted carousel ls g k t.turning.kept) (λ s a. later_top carousel ls g top k t.turning.kept le s a) (admitted t) of.0.each;
  },
  of.1,
)

kept_near : (carousel : ℕ) (ls : List Layout) (k : ℕ) (d : DiiFields) → IsDiiOf carousel ls k d → k < 16384 → (gs : List ℕ) (ts : List (Turn Heard)) → AreOf carousel ls k gs ts → IsKeptNear gs k (is_near (turnings ts) d)
kept_near carousel ls k d e lt [] [] of = tt
kept_near carousel ls k d e lt [] (t ∷ ts) of = absurd of
kept_near carousel ls k d e lt (g ∷ gs) [] of = absurd of
kept_near carousel ls k d e lt (g ∷ gs) (t ∷ ts) of = λ n.
    let far : distance_of (version t.turning.dii) (version d) ≡ k - g = apart_is carousel ls g k t.turning.dii d of.0.generation lt (first_of carousel ls g k gs t of.0) e in
    let small : distance_of (version t.turning.dii) (version d) < 256 = ltb-true _ _ n in
    near_by g k (subst (λ n. n < 256) far small) of.0.generation
  where
    near_by : (g k : ℕ) → k - g < 256 → g ≤ k → k < g + 256
    near_by g k lt le = omega (arith, lt, le)

turning_of : (carousel : ℕ) (ls : List Layout) (k : ℕ) (d : DiiFields) → IsDiiOf carousel ls k d → k < 16384 → (gs : List ℕ) (ts : List (Turn Heard)) → AreOf carousel ls k gs ts
    → AreOf carousel ls k (k ∷ gs) (with_turning ts d (is_near (turnings ts) d))
turning_of carousel ls k d e lt gs ts of = (
  record {
    generation = omega arith;
    near = kept_near carousel ls k d e lt gs ts of;
    each = (record { dii = e; same = refl; since = All-nil (HeardIn ls k k) }, tt);
  },
  of,
)

-- a DII of the newest turn's generation joins
joined_of : (carousel : ℕ) (ls : List Layout) (k : ℕ) (d : DiiFields) → IsDiiOf carousel ls k d → (g : ℕ) (gs : List ℕ) (t : Turn Heard) (ts : List (Turn Heard)) → g ≡ k → AreOf carousel ls k (g ∷ gs) (t ∷ ts)
    → AreOf carousel ls k (g ∷ gs) (with_joined (t ∷ ts) d)
joined_of carousel ls k d e g gs t ts same of = (
  record {
    generation = of.0.generation;
    near = of.0.near;
    each = (
      of.0.each.0,
      each_more (IsAdmitted carousel ls g k t.turning.kept) (record { dii = d; kept = t.turning.kept; since = [] }) t.joined of.0.each.1
          (record { dii = subst (λ n. IsDiiOf carousel ls n d) (sym same) e; same = refl; since = All-nil (HeardIn ls g k) }),
    );
  },
  of.1,
)

pub sound_of : (carousel : ℕ) (ls : List Layout) (k : ℕ) (d : DiiFields) → IsSent carousel ls k → IsDiiOf carousel ls k d → is_sound d ≡ true
sound_of carousel ls k d sent e = ap is_sound e.is ∙ is_taken carousel ls k e.number sent e.some e.few

-- a DII turns exactly where it is of another generation than the newest turn
pub turns_is : (carousel : ℕ) (ls : List Layout) (top k : ℕ) → top ≤ k → k < length ls → length ls ≤ 16384 → IsSent carousel ls k → (d : DiiFields) → IsDiiOf carousel ls k d
    → (gs : List ℕ) (ts : List (Turn Heard)) → AreOf carousel ls top gs ts → turns ts d ≡ newer gs k
turns_is carousel ls top k le lt few sent d e [] [] of = sound_of carousel ls k d sent e
turns_is carousel ls top k le lt few sent d e [] (t ∷ ts) of = absurd of
turns_is carousel ls top k le lt few sent d e (g ∷ gs) [] of = absurd of
turns_is carousel ls top k le lt few sent d e (g ∷ gs) (t ∷ ts) of =
    let one : version d ≡ k = version_is carousel ls k d (omega (arith, lt, few)) e in
    let two : version t.turning.dii ≡ g = version_is carousel ls g t.turning.dii (omega (arith, of.0.generation, le, lt, few)) (first_of carousel ls g top gs t of.0) in
    rw (sound_of carousel ls k d sent e, one, two) refl

same_gen : (k g : ℕ) (gs : List ℕ) → newer (g ∷ gs) k ≡ false → g ≡ k
same_gen k g gs e = go (eqb k g) refl where
  go : (t : Bool) → eqb k g ≡ t → g ≡ k
  go true f = sym (eqb-true k g f)
  go false f = let bad : not false ≡ false = subst (λ x. not x ≡ false) f e in cc

dii_step : (carousel : ℕ) (ls : List Layout) (top k : ℕ) → top ≤ k → k < length ls → length ls ≤ 16384 → IsSent carousel ls k → (d : DiiFields) → IsDiiOf carousel ls k d
    → (gs : List ℕ) (ts : List (Turn Heard)) → AreOf carousel ls top gs ts → AreOf carousel ls k (gens_after gs k (newer gs k)) (turn_after ts (ADii d))
dii_step carousel ls top k le lt few sent d e gs ts of =
    by_admission (AreOf carousel ls k (gens_after gs k (newer gs k))) ts d
    (λ f. subst (λ b. AreOf carousel ls k (gens_after gs k b) (with_turning ts d (is_near (turnings ts) d))) (sym f ∙ is) (turning_of carousel ls k d e (omega (arith, lt, few)) gs ts (below_top carousel ls top k le gs ts of)))
    (λ f j. subst (λ b. AreOf carousel ls k (gens_after gs k b) (with_joined (continued ts (ADii d)) d)) (sym f ∙ is) (joins_in gs ts of (sym is ∙ f) j))
    (λ f j. subst (λ b. AreOf carousel ls k (gens_after gs k b) (continued ts (ADii d))) (sym f ∙ is) (continued_of carousel ls top k le (ADii d) e gs ts (not_block gs) of))
  where
    is : turns ts d ≡ newer gs k
    is = turns_is carousel ls top k le lt few sent d e gs ts of

    not_block : (gs : List ℕ) → IsNearTo gs k (ADii d)
    not_block [] = tt
    not_block (g ∷ gs) = tt

    joins_in : (gs : List ℕ) (ts : List (Turn Heard)) → AreOf carousel ls top gs ts → newer gs k ≡ false → joins ts d ≡ true → AreOf carousel ls k gs (with_joined (continued ts (ADii d)) d)
    joins_in [] [] of f j = cc
    joins_in [] (t ∷ ts) of f j = absurd of
    joins_in (g ∷ gs) [] of f j = absurd of
    joins_in (g ∷ gs) (t ∷ ts) of f j =
        joined_of carousel ls k d e g gs (record { turning = heard_by (ADii d) t.turning; joined = map (heard_by (ADii d)) t.joined }) ts (same_gen k g gs f)
        (continued_of carousel ls top k le (ADii d) e (g ∷ gs) (t ∷ ts) tt of)

-- ---- all candidates

pub step_of : (carousel : ℕ) (ls : List Layout) (top k : ℕ) → top ≤ k → k < length ls → length ls ≤ 16384 → IsSent carousel ls k → (h : Heard) → IsSaidIn carousel ls k h
    → (gs : List ℕ) (ts : List (Turn Heard)) → IsNearTo gs k h → AreOf carousel ls top gs ts → AreOf carousel ls k (gens_with gs k h) (turn_after ts h)
step_of carousel ls top k le lt few sent (ADii d) said gs ts near of = dii_step carousel ls top k le lt few sent d said gs ts of
step_of carousel ls top k le lt few sent (ABlock x) said gs ts near of = continued_of carousel ls top k le (ABlock x) said gs ts near of
step_of carousel ls top k le lt few sent (ADsi d) said gs ts near of = continued_of carousel ls top k le (ADsi d) said gs ts near of
step_of carousel ls top k le lt few sent (Skipped c) said gs ts near of = continued_of carousel ls top k le (Skipped c) said gs ts near of
step_of carousel ls top k le lt few sent (NoControl c) said gs ts near of = absurd said
step_of carousel ls top k le lt few sent (NoBlock c) said gs ts near of = absurd said

-- candidates with the generations of which they are: none goes back, none is 256 or more after the DII heard before it
abbrev pub AreHeardOf : ℕ → List Layout → ℕ → List ℕ → List (ℕ × Heard) → Type 0
AreHeardOf carousel ls top gs [] = Unit {0}
AreHeardOf carousel ls top gs (x ∷ xs) =
    (top ≤ x.0) × ((x.0 < length ls) × (IsSaidIn carousel ls x.0 x.1 × (IsNearTo gs x.0 x.1 × AreHeardOf carousel ls x.0 (gens_with gs x.0 x.1) xs)))

-- the turns of these generations, none of them later than one that is published
pub record HasGenerations (carousel : ℕ) (ls : List Layout) (gens : List ℕ) (ts : List (Turn Heard)) : Type 0 where
  pub top : ℕ
  pub published : top < length ls
  pub are : AreOf carousel ls top gens ts

pub all_of : (carousel : ℕ) (ls : List Layout) → length ls ≤ 16384 → ((k : ℕ) → k < length ls → IsSent carousel ls k) → (top : ℕ) → top < length ls
    → (gs : List ℕ) (ts : List (Turn Heard)) → AreOf carousel ls top gs ts → (xs : List (ℕ × Heard)) → AreHeardOf carousel ls top gs xs
    → HasGenerations carousel ls (gens_of gs xs) (fold turn_after ts (map (λ x. x.1) xs))
all_of carousel ls few sent top lt gs ts of [] heard = record { top = top; published = lt; are = of }
all_of carousel ls few sent top lt gs ts of (x ∷ xs) heard =
    all_of carousel ls few sent x.0 heard.1.0 (gens_with gs x.0 x.1) (turn_after ts x.1)
    (step_of carousel ls top x.0 heard.0 heard.1.0 few (sent x.0 heard.1.0) x.1 heard.1.1.0 gs ts heard.1.1.1.0 of) xs heard.1.1.1.1
