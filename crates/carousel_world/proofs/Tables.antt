-- What is held of each module of the generation that is held.
use Rattle.std.proofs.Common.{◌≡◌, ℕ, ◌<◌, ◌⊎◌, inl, inr, Bool, true, false, cond, ◌&&◌, ◌||◌, eqb, List, [], ◌∷◌, ◌++◌, map, length, Option, Some, None, is_some, refl, ap, sym, ◌∙◌, subst}
use Rattle.std.specs.List.{find, list_any, flat_map, filter}
use Rattle.std.specs.Option.{option_map}
use Rattle.std.proofs.lemmas.Bool.{cond-true, cond-false, eqb-true, eq-eqb}
use Rattle.carousel_profile.specs.declared.TheConstants.{BLOCK_SIZE}
use Rattle.path_tree.specs.Paths.{Bytes}
use Rattle.ddb_block.specs.Blocks as ddb
use Rattle.dsi_dii.specs.declared.ModuleLine.{ModuleLine}
use Rattle.biop_object.specs.Names.{Layout, module_in}
use Rattle.generation.specs.Lawful.{layout_at, version_in, EqualVersionsMeanEqualBytes, dii_in}
use Rattle.generation.specs.Groups.{group_of, is_in_group, group_in}
use Rattle.module_cache.specs.Joining.{outline, lists}
use Rattle.module_cache.specs.Turns.{admitted, newest, before, Turn}
use Rattle.module_cache.proofs.CallerLemmas.{find_map}
use Rattle.path_resolver.specs.Resolving.{Held, HeldModule}
use Rattle.tuner_core.specs.Heard.{Heard}
use Rattle.tuner_core.specs.LookBack.{bytes_if_fits, gateway_of}
use Rattle.tuner_core.specs.Said as said
use Rattle.module_cache.specs.Turns as back
use Rattle.module_cache.specs.Spans.{Span}
use Rattle.tuner_core.specs.Turns.{stretch, identification, held_module, label_in, turnings, table_in}
use Rattle.carousel_world.specs.Headline.{block_of_line, line_in, block_by, block_in}
use Rattle.carousel_world.proofs.Lists.{MaybeIs, first_maybe}
use Rattle.carousel_world.proofs.Modules.{line_of, of_group, in_layout, in_its_group}
use Rattle.carousel_world.proofs.Generations.{line_found, Each, IsAdmitted, AreChain, AreOf, newest_are, module_right, stretch_right, number_of}
use Rattle.carousel_world.proofs.Holding.{IsListedIn, IsUnlistedIn}

-- ---- what is held by these turns, the newest first

-- the modules of one DII of a turn that stands before these
abbrev pub modules_in : List (Turn Heard) → Span Heard → List HeldModule
modules_in ts s = map (held_module s (before s ts)) s.dii.modules

abbrev pub held_in : List Heard → List (Turn Heard) → Held
held_in hs ts = record { label = label_in (turnings ts); held = map (λ s. identification s.dii) (newest ts); gateway = gateway_of hs; table = table_in ts }

-- ---- lists

abbrev pub or_else : {A : Type 0} → Option A → Option A → Option A
or_else (Some x) o = Some x
or_else None o = o

pub find_append : {X : Type 0} (p : X → Bool) (xs ys : List X) → find p (xs ++ ys) ≡ or_else (find p xs) (find p ys)
find_append p [] ys = refl
find_append p (x ∷ xs) ys = go (p x) (find_append p xs ys) where
  go : (t : Bool) → find p (xs ++ ys) ≡ or_else (find p xs) (find p ys) → cond t (Some x) (find p (xs ++ ys)) ≡ or_else (cond t (Some x) (find p xs)) (find p ys)
  go true rest = refl
  go false rest = rest

find_none : {X : Type 0} (xs : List X) → find (λ x. false) xs ≡ None
find_none [] = refl
find_none (x ∷ xs) = find_none xs

-- ---- the line of a module in a DII

-- a module that isn't among these has no line
no_line : (versions : ℕ → ℕ) (ms : Layout) (m : ℕ) → module_in ms m ≡ None → find (λ l. eqb l.id m) (map (line_of versions) ms) ≡ None
no_line versions [] m e = refl
no_line versions (n ∷ ns) m e = go (eqb n.0 m) refl (no_line versions ns m) where
  go : (t : Bool) → eqb n.0 m ≡ t → (module_in ns m ≡ None → find (λ l. eqb l.id m) (map (line_of versions) ns) ≡ None) → find (λ l. eqb l.id m) (map (line_of versions) (n ∷ ns)) ≡ None
  go true f rest = let bad : Some n.1 ≡ None = rw f at e in cc
  go false f rest = rw f (rest (rw f at e))

-- a module of another group has no line
not_in_group : (j : ℕ) (ms : Layout) (m : ℕ) → eqb (group_of m) j ≡ false → module_in (filter (is_in_group j) ms) m ≡ None
not_in_group j ms m e = go (module_in (filter (is_in_group j) ms) m) refl where
  go : (o : Option Bytes) → module_in (filter (is_in_group j) ms) m ≡ o → o ≡ None
  go None f = refl
  go (Some b) f = let own : eqb (group_of m) j ≡ true = of_group j ms m b f in cc

-- the line that DII j has of a module of the layout
abbrev pub line_if : Bool → ModuleLine → Option ModuleLine
line_if b l = cond b (Some l) None

pub dii_line : (carousel : ℕ) (ls : List Layout) (g j m : ℕ) (bytes : Bytes) → module_in (layout_at ls g) m ≡ Some bytes
    → find (λ l. eqb l.id m) (dii_in carousel ls g j).modules ≡ line_if (eqb (group_of m) j) (line_of (version_in ls g) (m, bytes))
dii_line carousel ls g j m bytes listed = go (eqb (group_of m) j) refl where
  go : (t : Bool) → eqb (group_of m) j ≡ t → find (λ l. eqb l.id m) (map (line_of (version_in ls g)) (group_in (layout_at ls g) j)) ≡ line_if t (line_of (version_in ls g) (m, bytes))
  go true e = line_found (version_in ls g) (group_in (layout_at ls g) j) m bytes (in_its_group j (layout_at ls g) m bytes e listed)
  go false e = no_line (version_in ls g) (group_in (layout_at ls g) j) m (not_in_group j (layout_at ls g) m e)

-- a list of lines has an id exactly where one is found
pub any_found : (m : ℕ) (ls : List ModuleLine) → list_any (λ l. eqb l.id m) ls ≡ is_some (find (λ l. eqb l.id m) ls)
any_found m [] = refl
any_found m (l ∷ ls) = go (eqb l.id m) (any_found m ls) where
  go : (t : Bool) → list_any (λ l. eqb l.id m) ls ≡ is_some (find (λ l. eqb l.id m) ls) → (t || list_any (λ l. eqb l.id m) ls) ≡ is_some (cond t (Some l) (find (λ l. eqb l.id m) ls))
  go true rest = refl
  go false rest = rest

-- ---- a DII that was admitted

-- its number, and the DII itself
pub admitted_is : (carousel : ℕ) (ls : List Layout) (g top : ℕ) (kept : Bool) (s : Span Heard) → IsAdmitted carousel ls g top kept s → s.dii ≡ dii_in carousel ls g (identification s.dii)
admitted_is carousel ls g top kept s a = a.dii.is ∙ ap (dii_in carousel ls g) (sym (number_of carousel ls g s.dii a.dii))

pub span_line : (carousel : ℕ) (ls : List Layout) (g top : ℕ) (kept : Bool) (s : Span Heard) → IsAdmitted carousel ls g top kept s → (m : ℕ) (bytes : Bytes) → module_in (layout_at ls g) m ≡ Some bytes
    → find (λ l. eqb l.id m) s.dii.modules ≡ line_if (eqb (group_of m) (identification s.dii)) (line_of (version_in ls g) (m, bytes))
span_line carousel ls g top kept s a m bytes listed =
    ap (λ d. find (λ l. eqb l.id m) d.modules) (admitted_is carousel ls g top kept s a) ∙ dii_line carousel ls g (identification s.dii) m bytes listed

-- what is held of the module by this DII
abbrev entry_if : Bool → HeldModule → Option HeldModule
entry_if b h = cond b (Some h) None

map_if : (f : ModuleLine → HeldModule) (b : Bool) (l : ModuleLine) → option_map f (line_if b l) ≡ entry_if b (f l)
map_if f true l = refl
map_if f false l = refl

row_first : (carousel : ℕ) (ls : List Layout) (g top : ℕ) (kept : Bool) (s : Span Heard) → IsAdmitted carousel ls g top kept s → (ts : List (Turn Heard)) (m : ℕ) (bytes : Bytes) → module_in (layout_at ls g) m ≡ Some bytes
    → find (λ h. eqb h.line.id m) (modules_in ts s) ≡ entry_if (eqb (group_of m) (identification s.dii)) (held_module s (before s ts) (line_of (version_in ls g) (m, bytes)))
row_first carousel ls g top kept s a ts m bytes listed =
    find_map (held_module s (before s ts)) (λ h. eqb h.line.id m) s.dii.modules
    ∙ ap (option_map (held_module s (before s ts))) (span_line carousel ls g top kept s a m bytes listed)
    ∙ map_if (held_module s (before s ts)) (eqb (group_of m) (identification s.dii)) (line_of (version_in ls g) (m, bytes))

-- the same, of a DII of this identification
row_by_dii : (carousel : ℕ) (ls : List Layout) (g top : ℕ) (kept : Bool) (s : Span Heard) → IsAdmitted carousel ls g top kept s → (ts : List (Turn Heard)) (m : ℕ) (bytes : Bytes) → module_in (layout_at ls g) m ≡ Some bytes
    → find (λ h. eqb h.identification (group_of m) && eqb h.line.id m) (modules_in ts s) ≡ entry_if (eqb (group_of m) (identification s.dii)) (held_module s (before s ts) (line_of (version_in ls g) (m, bytes)))
row_by_dii carousel ls g top kept s a ts m bytes listed =
    find_map (held_module s (before s ts)) (λ h. eqb h.identification (group_of m) && eqb h.line.id m) s.dii.modules
    ∙ go (eqb (identification s.dii) (group_of m)) refl
  where
    go : (t : Bool) → eqb (identification s.dii) (group_of m) ≡ t
        → option_map (held_module s (before s ts)) (find (λ l. eqb (identification s.dii) (group_of m) && eqb l.id m) s.dii.modules)
        ≡ entry_if (eqb (group_of m) (identification s.dii)) (held_module s (before s ts) (line_of (version_in ls g) (m, bytes)))
    go true e =
        ap (λ t. option_map (held_module s (before s ts)) (find (λ l. t && eqb l.id m) s.dii.modules)) e
        ∙ sym (find_map (held_module s (before s ts)) (λ h. eqb h.line.id m) s.dii.modules)
        ∙ row_first carousel ls g top kept s a ts m bytes listed
    go false e =
        ap (λ t. option_map (held_module s (before s ts)) (find (λ l. t && eqb l.id m) s.dii.modules)) e
        ∙ ap (option_map (held_module s (before s ts))) (find_none s.dii.modules)
        ∙ sym (cond-false _ _ _ (round (identification s.dii) (group_of m) e))
      where
        round : (a b : ℕ) → eqb a b ≡ false → eqb b a ≡ false
        round a b e = both (eqb b a) refl where
          both : (t : Bool) → eqb b a ≡ t → t ≡ false
          both false f = refl
          both true f = sym (eq-eqb a b (sym (eqb-true b a f))) ∙ e

-- ---- the table

-- by the DII of the module's group, where it was admitted
pub record IsRow (rows : List HeldModule) (ss : List (Span Heard)) (m : ℕ) (bytes : Bytes) : Type 0 where
  pub entry : HeldModule
  pub first : find (λ h. eqb h.line.id m) rows ≡ Some entry
  pub by_dii : find (λ h. eqb h.identification (group_of m) && eqb h.line.id m) rows ≡ Some entry
  pub plain : entry.line.compressed ≡ false
  pub content : MaybeIs entry.bytes bytes

pub record IsNoRow (rows : List HeldModule) (ss : List (Span Heard)) (m : ℕ) : Type 0 where
  pub none : find (λ h. eqb h.line.id m) rows ≡ None
  pub none_by_dii : find (λ h. eqb h.identification (group_of m) && eqb h.line.id m) rows ≡ None
  pub absent : list_any (λ i. eqb i (group_of m)) (map (λ s. identification s.dii) ss) ≡ false

-- each admitted DII is of the generation, and what is held of its modules is right
pub record IsRight (carousel : ℕ) (ls : List Layout) (g top : ℕ) (kept : Bool) (ts : List (Turn Heard)) (s : Span Heard) : Type 0 where
  pub is : IsAdmitted carousel ls g top kept s
  pub gens : List ℕ
  pub chain_is : AreChain carousel ls (identification s.dii) top (g ∷ gens) (s ∷ before s ts)

module_of_span : (carousel : ℕ) (ls : List Layout) → EqualVersionsMeanEqualBytes ls → (g top : ℕ) → top < length ls → (kept : Bool) (ts : List (Turn Heard)) (s : Span Heard) → IsRight carousel ls g top kept ts s
    → (m : ℕ) (bytes : Bytes) → module_in (layout_at ls g) m ≡ Some bytes → MaybeIs (held_module s (before s ts) (line_of (version_in ls g) (m, bytes))).bytes bytes
module_of_span carousel ls law g top lt kept ts s r m bytes listed =
    subst (λ d. MaybeIs (back.module_among said.block_in (stretch s (before s ts) (line_of (version_in ls g) (m, bytes))) d (line_of (version_in ls g) (m, bytes))) bytes) (sym (admitted_is carousel ls g top kept s r.is))
    (module_right carousel ls law (identification s.dii) g top lt s r.gens (before s ts) r.chain_is (m, bytes) listed)

pub rows_right : (carousel : ℕ) (ls : List Layout) → EqualVersionsMeanEqualBytes ls → (g top : ℕ) → top < length ls → (kept : Bool) (ts : List (Turn Heard)) (m : ℕ) (bytes : Bytes) → module_in (layout_at ls g) m ≡ Some bytes
    → (ss : List (Span Heard)) → Each (IsRight carousel ls g top kept ts) ss → IsRow (flat_map (modules_in ts) ss) ss m bytes ⊎ IsNoRow (flat_map (modules_in ts) ss) ss m
rows_right carousel ls law g top lt kept ts m bytes listed [] each = inr (record { none = refl; none_by_dii = refl; absent = refl })
rows_right carousel ls law g top lt kept ts m bytes listed (s ∷ ss) each = go (eqb (group_of m) (identification s.dii)) refl (rows_right carousel ls law g top lt kept ts m bytes listed ss each.1) where
  first_is : find (λ h. eqb h.line.id m) (modules_in ts s) ≡ entry_if (eqb (group_of m) (identification s.dii)) (held_module s (before s ts) (line_of (version_in ls g) (m, bytes)))
  first_is = row_first carousel ls g top kept s each.0.is ts m bytes listed

  dii_is : find (λ h. eqb h.identification (group_of m) && eqb h.line.id m) (modules_in ts s) ≡ entry_if (eqb (group_of m) (identification s.dii)) (held_module s (before s ts) (line_of (version_in ls g) (m, bytes)))
  dii_is = row_by_dii carousel ls g top kept s each.0.is ts m bytes listed

  go : (t : Bool) → eqb (group_of m) (identification s.dii) ≡ t → IsRow (flat_map (modules_in ts) ss) ss m bytes ⊎ IsNoRow (flat_map (modules_in ts) ss) ss m
      → IsRow (flat_map (modules_in ts) (s ∷ ss)) (s ∷ ss) m bytes ⊎ IsNoRow (flat_map (modules_in ts) (s ∷ ss)) (s ∷ ss) m
  go true e rest = inl (record {
    entry = held_module s (before s ts) (line_of (version_in ls g) (m, bytes));
    first = find_append (λ h. eqb h.line.id m) (modules_in ts s) (flat_map (modules_in ts) ss) ∙ ap (λ o. or_else o (find (λ h. eqb h.line.id m) (flat_map (modules_in ts) ss))) (first_is ∙ cond-true _ _ _ e);
    by_dii =
        find_append (λ h. eqb h.identification (group_of m) && eqb h.line.id m) (modules_in ts s) (flat_map (modules_in ts) ss)
        ∙ ap (λ o. or_else o (find (λ h. eqb h.identification (group_of m) && eqb h.line.id m) (flat_map (modules_in ts) ss))) (dii_is ∙ cond-true _ _ _ e);
    plain = refl;
    content = module_of_span carousel ls law g top lt kept ts s each.0 m bytes listed;
  })
  go false e rest = later rest where
    none_here : find (λ h. eqb h.line.id m) (modules_in ts s) ≡ None
    none_here = first_is ∙ cond-false _ _ _ e

    none_by : find (λ h. eqb h.identification (group_of m) && eqb h.line.id m) (modules_in ts s) ≡ None
    none_by = dii_is ∙ cond-false _ _ _ e

    apart : eqb (identification s.dii) (group_of m) ≡ false
    apart = round (eqb (identification s.dii) (group_of m)) refl where
      round : (t : Bool) → eqb (identification s.dii) (group_of m) ≡ t → t ≡ false
      round false f = refl
      round true f = sym (eq-eqb (group_of m) (identification s.dii) (sym (eqb-true _ _ f))) ∙ e

    skip : (p : HeldModule → Bool) → find p (modules_in ts s) ≡ None → find p (flat_map (modules_in ts) (s ∷ ss)) ≡ find p (flat_map (modules_in ts) ss)
    skip p f = find_append p (modules_in ts s) (flat_map (modules_in ts) ss) ∙ ap (λ o. or_else o (find p (flat_map (modules_in ts) ss))) f

    later : IsRow (flat_map (modules_in ts) ss) ss m bytes ⊎ IsNoRow (flat_map (modules_in ts) ss) ss m
        → IsRow (flat_map (modules_in ts) (s ∷ ss)) (s ∷ ss) m bytes ⊎ IsNoRow (flat_map (modules_in ts) (s ∷ ss)) (s ∷ ss) m
    later (inl r) = inl (record {
      entry = r.entry;
      first = skip (λ h. eqb h.line.id m) none_here ∙ r.first;
      by_dii = skip (λ h. eqb h.identification (group_of m) && eqb h.line.id m) none_by ∙ r.by_dii;
      plain = r.plain;
      content = r.content;
    })
    later (inr r) = inr (record {
      none = skip (λ h. eqb h.line.id m) none_here ∙ r.none;
      none_by_dii = skip (λ h. eqb h.identification (group_of m) && eqb h.line.id m) none_by ∙ r.none_by_dii;
      absent = rw apart r.absent;
    })

-- each DII of the newest turn
each_right : (carousel : ℕ) (ls : List Layout) (g top : ℕ) (gs : List ℕ) (t : Turn Heard) (ts : List (Turn Heard)) → AreOf carousel ls top (g ∷ gs) (t ∷ ts)
    → (ss : List (Span Heard)) → Each (IsAdmitted carousel ls g top t.turning.kept) ss → Each (IsRight carousel ls g top t.turning.kept ts) ss
each_right carousel ls g top gs t ts of [] each = tt
each_right carousel ls g top gs t ts of (s ∷ ss) each = (
  record { is = each.0; gens = _; chain_is = newest_are carousel ls g top gs t ts of s each.0 },
  each_right carousel ls g top gs t ts of ss each.1,
)

pub turn_right : (carousel : ℕ) (ls : List Layout) (g top : ℕ) (gs : List ℕ) (t : Turn Heard) (ts : List (Turn Heard)) → AreOf carousel ls top (g ∷ gs) (t ∷ ts) → Each (IsRight carousel ls g top t.turning.kept ts) (admitted t)
turn_right carousel ls g top gs t ts of = each_right carousel ls g top gs t ts of (admitted t) of.0.each

-- what is held of a module of the generation, or that its DII isn't held
pub table_right : (carousel : ℕ) (ls : List Layout) → EqualVersionsMeanEqualBytes ls → (hs : List Heard) (g top : ℕ) (gs : List ℕ) (t : Turn Heard) (ts : List (Turn Heard)) → top < length ls → AreOf carousel ls top (g ∷ gs) (t ∷ ts)
    → (m : ℕ) (bytes : Bytes) → module_in (layout_at ls g) m ≡ Some bytes → IsListedIn (held_in hs (t ∷ ts)) m bytes ⊎ IsUnlistedIn (held_in hs (t ∷ ts)) m
table_right carousel ls law hs g top gs t ts lt of m bytes listed =
    go (rows_right carousel ls law g top lt t.turning.kept ts m bytes listed (admitted t) (turn_right carousel ls g top gs t ts of)) where
      go : IsRow (flat_map (modules_in ts) (admitted t)) (admitted t) m bytes ⊎ IsNoRow (flat_map (modules_in ts) (admitted t)) (admitted t) m
          → IsListedIn (held_in hs (t ∷ ts)) m bytes ⊎ IsUnlistedIn (held_in hs (t ∷ ts)) m
      go (inl r) = inl (record { entry = r.entry; first = r.first; by_dii = r.by_dii; plain = r.plain; content = r.content })
      go (inr r) = inr (record { none = r.none; none_by_dii = r.none_by_dii; absent = r.absent })

-- ---- blocks

-- a block that is there by one of these DIIs is the module's
block_of_span : (carousel : ℕ) (ls : List Layout) → EqualVersionsMeanEqualBytes ls → (g top : ℕ) → top < length ls → (kept : Bool) (ts : List (Turn Heard)) (s : Span Heard) → IsRight carousel ls g top kept ts s
    → (m b : ℕ) (bytes : Bytes) → module_in (layout_at ls g) m ≡ Some bytes → MaybeIs (block_of_line s (before s ts) (line_in s m) b) (ddb.block_of bytes BLOCK_SIZE b)
block_of_span carousel ls law g top lt kept ts s r m b bytes listed =
    subst (λ o. MaybeIs (block_of_line s (before s ts) o b) (ddb.block_of bytes BLOCK_SIZE b)) (sym (span_line carousel ls g top kept s r.is m bytes listed)) (go (eqb (group_of m) (identification s.dii))) where
      go : (t : Bool) → MaybeIs (block_of_line s (before s ts) (line_if t (line_of (version_in ls g) (m, bytes))) b) (ddb.block_of bytes BLOCK_SIZE b)
      go false = inr refl
      go true =
          first_maybe (bytes_if_fits s.dii (line_of (version_in ls g) (m, bytes)) b) (ddb.block_of bytes BLOCK_SIZE b) (stretch s (before s ts) (line_of (version_in ls g) (m, bytes)))
          (stretch_right carousel ls law (identification s.dii) g top lt s r.gens (before s ts) r.chain_is s.dii (m, bytes) listed b)

-- a block is there of a module alone that the generation has
line_listed : (versions : ℕ → ℕ) (ms : Layout) (m : ℕ) (l : ModuleLine) → find (λ k. eqb k.id m) (map (line_of versions) ms) ≡ Some l → (bytes : Bytes) × (module_in ms m ≡ Some bytes)
line_listed versions [] m l e = cc
line_listed versions (n ∷ ns) m l e = go (eqb n.0 m) refl (line_listed versions ns m l) where
  go : (t : Bool) → eqb n.0 m ≡ t → (find (λ k. eqb k.id m) (map (line_of versions) ns) ≡ Some l → (bytes : Bytes) × (module_in ns m ≡ Some bytes)) → (bytes : Bytes) × (module_in (n ∷ ns) m ≡ Some bytes)
  go true f rest = (n.1, rw f refl)
  go false f rest = let x = rest (rw f at e) in (x.0, rw f x.1)

line_of_module : (carousel : ℕ) (ls : List Layout) (g top : ℕ) (kept : Bool) (s : Span Heard) → IsAdmitted carousel ls g top kept s → (m : ℕ) (l : ModuleLine) → line_in s m ≡ Some l
    → (bytes : Bytes) × (module_in (layout_at ls g) m ≡ Some bytes)
line_of_module carousel ls g top kept s a m l e =
    let i = identification s.dii in
    let own : find (λ k. eqb k.id m) (dii_in carousel ls g i).modules ≡ Some l = ap (λ d. find (λ k. eqb k.id m) d.modules) (sym (admitted_is carousel ls g top kept s a)) ∙ e in
    let x = line_listed (version_in ls g) (group_in (layout_at ls g) i) m l own in
    (x.0, in_layout i (layout_at ls g) m x.0 x.1)

pub there_listed : (carousel : ℕ) (ls : List Layout) (g top : ℕ) (kept : Bool) (ts : List (Turn Heard)) (p : Span Heard → Bool) (ss : List (Span Heard)) → Each (IsRight carousel ls g top kept ts) ss
    → (m b : ℕ) (block : Bytes) → block_by ts m b (find p ss) ≡ Some block → (bytes : Bytes) × (module_in (layout_at ls g) m ≡ Some bytes)
there_listed carousel ls g top kept ts p [] each m b block e = cc
there_listed carousel ls g top kept ts p (s ∷ ss) each m b block e = go (p s) (there_listed carousel ls g top kept ts p ss each.1 m b block) e where
  from_line : (o : Option ModuleLine) → line_in s m ≡ o → block_of_line s (before s ts) o b ≡ Some block → (bytes : Bytes) × (module_in (layout_at ls g) m ≡ Some bytes)
  from_line None f e = cc
  from_line (Some l) f e = line_of_module carousel ls g top kept s each.0.is m l f

  go : (t : Bool) → (block_by ts m b (find p ss) ≡ Some block → (bytes : Bytes) × (module_in (layout_at ls g) m ≡ Some bytes)) → block_by ts m b (cond t (Some s) (find p ss)) ≡ Some block
      → (bytes : Bytes) × (module_in (layout_at ls g) m ≡ Some bytes)
  go true rest e = from_line (line_in s m) refl e
  go false rest e = rest e

-- by whichever of them
pub found_right : (carousel : ℕ) (ls : List Layout) → EqualVersionsMeanEqualBytes ls → (g top : ℕ) → top < length ls → (kept : Bool) (ts : List (Turn Heard)) (p : Span Heard → Bool) (ss : List (Span Heard)) → Each (IsRight carousel ls g top kept ts) ss
    → (m b : ℕ) (bytes : Bytes) → module_in (layout_at ls g) m ≡ Some bytes → MaybeIs (block_by ts m b (find p ss)) (ddb.block_of bytes BLOCK_SIZE b)
found_right carousel ls law g top lt kept ts p [] each m b bytes listed = inr refl
found_right carousel ls law g top lt kept ts p (s ∷ ss) each m b bytes listed = go (p s) (found_right carousel ls law g top lt kept ts p ss each.1 m b bytes listed) where
  go : (t : Bool) → MaybeIs (block_by ts m b (find p ss)) (ddb.block_of bytes BLOCK_SIZE b) → MaybeIs (block_by ts m b (cond t (Some s) (find p ss))) (ddb.block_of bytes BLOCK_SIZE b)
  go true rest = block_of_span carousel ls law g top lt kept ts s each.0 m b bytes listed
  go false rest = rest

pub block_right : (carousel : ℕ) (ls : List Layout) → EqualVersionsMeanEqualBytes ls → (g top : ℕ) (gs : List ℕ) (t : Turn Heard) (ts : List (Turn Heard)) → top < length ls → AreOf carousel ls top (g ∷ gs) (t ∷ ts)
    → (m b : ℕ) (bytes : Bytes) → module_in (layout_at ls g) m ≡ Some bytes → MaybeIs (block_in (t ∷ ts) m b) (ddb.block_of bytes BLOCK_SIZE b)
block_right carousel ls law g top gs t ts lt of m b bytes listed =
    found_right carousel ls law g top lt t.turning.kept ts (λ s. lists (outline s.dii) m) (admitted t) (turn_right carousel ls g top gs t ts of) m b bytes listed
