-- Which candidates change nothing of what a receiver holds: those that it answers so, and of sections of blocks each that makes no
-- module whole.
use Rattle.std.proofs.Common.{ℕ, suc, ◌≡◌, ◌≢◌, ◌+◌, ◌≤◌, ◌⊎◌, inl, inr, Bool, true, false, cond, not, ◌==◌, ◌||◌, nat_lt, List, [], ◌∷◌, ◌++◌, length, map, Option, Some, None, Result, Ok, Err, refl, sym, ap, ap₂, subst, ◌∙◌, append_assoc, append-nil, arith}
use Rattle.std.specs.Prelude.{◌%◌, is_some, slice_index, slice_set}
use Rattle.std.specs.Arc.{arc_value}
use Rattle.std.specs.List.{filter, flat_map}
use Rattle.std.specs.Option.{option_map}
use Rattle.std.proofs.lemmas.Bool.{eqb-true}
use Rattle.block_assembler.specs.Blocks.{join_all}
use Rattle.ddb_block.specs.Blocks as ddb
use Rattle.dsi_dii.specs.declared.ModuleLine.{ModuleLine}
use Rattle.section_crc.specs.Crc.{crc_of}
use Rattle.oc_bytes.specs.Numbers.{section_length}
use Rattle.oc_bytes.specs.declared.lengths.TheConstants.{MOST_LENGTH}
use Rattle.dsmcc_section.specs.Sections as sections
use Rattle.dsmcc_section.specs.declared.Table.TheVariants.{Blocks as ABlocks}
use Rattle.dsmcc_section.specs.declared.Skip.TheVariants as skips
use Rattle.module_cache.specs.Contents.{Content, Packed, Blocks, Whole, bytes_of, content_after, content_of, is_new, taken_at, whole_or, stored_after}
use Rattle.module_cache.specs.Held.{TunedState, line_after, lines_after, tuned_after}
use Rattle.module_cache.specs.Joining.{has_line, offered_held}
use Rattle.module_cache.specs.declared.stored.Line.{Line}
use Rattle.path_tree.specs.Paths.{Bytes}
use Rattle.path_resolver.specs.Resolving.{Held as HeldState, HeldModule, Target}
use Rattle.path_resolver.specs.Shots.{Snapshot, view_held}
use Rattle.path_resolver.specs.declared.shot.Held.{Held}
use Rattle.tuner_core.specs.Answers.{LooksBack, fed_after, fed_heard}
use Rattle.tuner_core.specs.Heard.{Heard, Skipped, NoControl, NoBlock, ADsi, ADii, ABlock, as_heard, heard_block, heard_section}
use Rattle.tuner_core.specs.Stands.{StandsFor, TunerState, after_heard, fresh, modules_of, snapshot_of, step, with_next_mark}
use Rattle.tuner_core.specs.Turns.{held_after}
use Rattle.tuner_core.specs.declared.told.Fed.TheVariants.{Changed}
use Rattle.watch_desk.specs.Parts.{HeldStays, is_of_blocks, is_whole, whole_after, whole_modules}

-- ---- a state that stands for candidates

record State (candidates : List Bytes) : Type 0 where
  state : TunerState
  stands : StandsFor state candidates

begins : StandsFor fresh []
begins = record { mark = refl; gateway = refl; cache = refl; label = refl; epoch = refl }

state_from : LooksBack → (t : TunerState) (heard candidates : List Bytes) → StandsFor t heard → State (heard ++ candidates)
state_from laws t heard [] s = record { state = t; stands = subst (StandsFor t) (sym (append-nil heard)) s }
state_from laws t heard (c ∷ cs) s =
    let r = state_from laws (step t c).0 (heard ++ c ∷ []) cs (laws.stands t heard c s) in
    record { state = r.state; stands = subst (StandsFor r.state) (append_assoc heard (c ∷ []) cs) r.stands }

state_for : LooksBack → (candidates : List Bytes) → State candidates
state_for laws candidates = state_from laws fresh [] candidates begins

-- ---- where nothing changes

abbrev held_by : TunerState → HeldState
held_by t = (snapshot_of 0 0 t).held

abbrev held_in : Snapshot → HeldState
held_in s = s.held

pub still_held : LooksBack → (candidates : List Bytes) (c : Bytes) → fed_after candidates c ≢ Changed → HeldStays candidates c
still_held laws candidates c other =
    let s = state_for laws candidates in
    let same = laws.nothing s.state c (λ e. other (sym (laws.fed s.state candidates c s.stands) ∙ e)) in
    sym (ap held_in (laws.shot 0 0 (step s.state c).0 (candidates ++ c ∷ []) (laws.stands s.state candidates c s.stands)))
    ∙ ap held_by same
    ∙ ap held_in (laws.shot 0 0 s.state candidates s.stands)

-- ---- modules that stay, or become whole

abbrev Grows : HeldModule → HeldModule → Type 0
Grows m n = (n ≡ m) ⊎ ((is_whole m ≡ false) × (is_whole n ≡ true))

abbrev AllGrow : List HeldModule → List HeldModule → Type 0
AllGrow [] [] = Unit {0}
AllGrow (m ∷ ms) (n ∷ ns) = Grows m n × AllGrow ms ns
AllGrow _ _ = ⊥

all_stay : (ms : List HeldModule) → AllGrow ms ms
all_stay [] = tt
all_stay (m ∷ ms) = (inl refl, all_stay ms)

grow_both : (ms ns xs ys : List HeldModule) → AllGrow ms ns → AllGrow xs ys → AllGrow (ms ++ xs) (ns ++ ys)
grow_both [] [] xs ys g h = h
grow_both (m ∷ ms) (n ∷ ns) xs ys g h = (g.0, grow_both ms ns xs ys g.1 h)
grow_both [] (n ∷ ns) xs ys g h = absurd g
grow_both (m ∷ ms) [] xs ys g h = absurd g

abbrev wholes : List HeldModule → ℕ
wholes ms = length (filter is_whole ms)

-- as the code counts them
one_more : {A X Y : Type 0} (f : A → Bytes) (o : Option A) (x : X) (xs : List X) (y : Y) (ys : List Y) → length xs ≡ length ys
    → length (cond (is_some (option_map f o)) (x ∷ xs) xs) ≡ length (cond (is_some o) (y ∷ ys) ys)
one_more f (Some a) x xs y ys e = ap suc e
one_more f None x xs y ys e = e

pub whole_alike : (hs : List Held) → length (filter is_whole (map view_held hs)) ≡ length (filter (λ h. is_some h.«module») hs)
whole_alike [] = refl
whole_alike (h ∷ hs) = one_more (λ m. arc_value m) h.«module» (view_held h) (filter is_whole (map view_held hs)) h (filter (λ x. is_some x.«module») hs) (whole_alike hs)

-- how many there are with one more in front
abbrev counted : Bool → ℕ → ℕ
counted t n = cond t (suc n) n

one_counted : (m : HeldModule) (ms : List HeldModule) → wholes (m ∷ ms) ≡ counted (is_whole m) (wholes ms)
one_counted m ms = go (is_whole m) where
  go : (t : Bool) → length (cond t (m ∷ filter is_whole ms) (filter is_whole ms)) ≡ counted t (wholes ms)
  go true = refl
  go false = refl

counted_grows : (t : Bool) (a b : ℕ) → a ≤ b → counted t a ≤ counted t b
counted_grows true a b h = omega (arith, h)
counted_grows false a b h = h

counted_less : (t u : Bool) (a b : ℕ) → t ≡ false → u ≡ true → a ≤ b → suc (counted t a) ≤ counted u b
counted_less true u a b e f h = cc
counted_less false true a b e f h = omega (arith, h)
counted_less false false a b e f h = cc

counted_same : (t : Bool) (a b : ℕ) → counted t a ≡ counted t b → a ≡ b
counted_same true a b e = omega (arith, e)
counted_same false a b e = e

more_whole : (ms ns : List HeldModule) → AllGrow ms ns → wholes ms ≤ wholes ns
more_whole [] [] g = omega arith
more_whole [] (n ∷ ns) g = absurd g
more_whole (m ∷ ms) [] g = absurd g
more_whole (m ∷ ms) (n ∷ ns) g = go g.0 (more_whole ms ns g.1) where
  go : Grows m n → wholes ms ≤ wholes ns → wholes (m ∷ ms) ≤ wholes (n ∷ ns)
  go (inl same) h =
      let later = counted_grows (is_whole m) (wholes ms) (wholes ns) h in
      let now : wholes (n ∷ ns) ≡ counted (is_whole m) (wholes ns) = one_counted n ns ∙ ap (λ (k : HeldModule). counted (is_whole k) (wholes ns)) same in
      omega (arith, later, now, one_counted m ms)
  go (inr d) h =
      let later = counted_less (is_whole m) (is_whole n) (wholes ms) (wholes ns) d.0 d.1 h in
      omega (arith, later, one_counted m ms, one_counted n ns)

-- where no more are whole, they are the same
all_same : (ms ns : List HeldModule) → AllGrow ms ns → wholes ns ≡ wholes ms → ns ≡ ms
all_same [] [] g e = refl
all_same [] (n ∷ ns) g e = absurd g
all_same (m ∷ ms) [] g e = absurd g
all_same (m ∷ ms) (n ∷ ns) g e = go g.0 (all_same ms ns g.1) where
  go : Grows m n → (wholes ns ≡ wholes ms → ns ≡ ms) → n ∷ ns ≡ m ∷ ms
  go (inl same) later =
      let now : wholes (n ∷ ns) ≡ counted (is_whole m) (wholes ns) = one_counted n ns ∙ ap (λ (k : HeldModule). counted (is_whole k) (wholes ns)) same in
      ap₂ (λ (k : HeldModule) (ks : List HeldModule). k ∷ ks) same (later (counted_same (is_whole m) (wholes ns) (wholes ms) (sym now ∙ e ∙ one_counted m ms)))
  go (inr d) later =
      let more = counted_less (is_whole m) (is_whole n) (wholes ms) (wholes ns) d.0 d.1 (more_whole ms ns g.1) in
      absurd (omega (arith, more, e, one_counted m ms, one_counted n ns))

-- ---- one block

abbrev IsLater : Option Bytes → Option Bytes → Type 0
IsLater o p = (p ≡ o) ⊎ ((is_some o ≡ false) × (is_some p ≡ true))

once_joined : (blocks : List (Option Bytes)) (o : Option Bytes) → IsLater None (bytes_of (whole_or blocks o))
once_joined blocks (Some bytes) = inr (refl, refl)
once_joined blocks None = inl refl

content_later : (size block_size : ℕ) (c : Content) (n : ℕ) (bytes : Bytes) → IsLater (bytes_of c) (bytes_of (content_after size block_size c n bytes))
content_later size block_size Packed n bytes = go (is_new (taken_at size block_size Packed n bytes)) where
  go : (t : Bool) → IsLater None (bytes_of (cond t Packed Packed))
  go true = inl refl
  go false = inl refl
content_later size block_size (Whole all) n bytes = go (is_new (taken_at size block_size (Whole all) n bytes)) where
  go : (t : Bool) → IsLater (Some all) (bytes_of (cond t (Whole all) (Whole all)))
  go true = inl refl
  go false = inl refl
content_later size block_size (Blocks blocks) n bytes = go (is_new (taken_at size block_size (Blocks blocks) n bytes)) where
  next : List (Option Bytes)
  next = slice_set blocks n (Some bytes)

  go : (t : Bool) → IsLater None (bytes_of (cond t (content_of next) (Blocks blocks)))
  go true = once_joined next (join_all next)
  go false = inl refl

abbrev module_with : ℕ → ModuleLine → Option Bytes → HeldModule
module_with i l bytes = record { identification = i; line = l; bytes = bytes }

abbrev module_in : ℕ → Line → HeldModule
module_in i x = module_with i x.line (bytes_of x.stored.content)

line_grows : (i : ℕ) (b : ddb.Block) (x : Line) → Grows (module_in i x) (module_in i (line_after b x))
line_grows i b x = go (x.line.version == b.version) where
  after : Line
  after = record { line = x.line; stored = stored_after x.stored b.number b.bytes }

  by : IsLater (bytes_of x.stored.content) (bytes_of (content_after x.stored.size x.stored.block_size x.stored.content b.number b.bytes)) → Grows (module_in i x) (module_in i after)
  by (inl e) = inl (ap (module_with i x.line) e)
  by (inr d) = inr d

  go : (t : Bool) → Grows (module_in i x) (module_in i (cond t after x))
  go true = by (content_later x.stored.size x.stored.block_size x.stored.content b.number b.bytes)
  go false = inl refl

lines_grow : (i : ℕ) (b : ddb.Block) (xs : List Line) → AllGrow (map (module_in i) xs) (map (module_in i) (lines_after b xs))
lines_grow i b [] = tt
lines_grow i b (x ∷ xs) = go (x.line.id == b.module_id) (lines_grow i b xs) where
  go : (t : Bool) → AllGrow (map (module_in i) xs) (map (module_in i) (lines_after b xs)) → AllGrow (map (module_in i) (x ∷ xs)) (map (module_in i) (cond t (line_after b x ∷ xs) (x ∷ lines_after b xs)))
  go true more = (line_grows i b x, all_stay (map (module_in i) xs))
  go false more = (inl refl, more)

tuned_grows : (b : ddb.Block) (t : TunedState) → AllGrow (modules_of t) (modules_of (tuned_after t b))
tuned_grows b t = go (t.download == b.download) where
  go : (k : Bool) → AllGrow (modules_of t) (modules_of (cond k (record t { lines = lines_after b t.lines }) t))
  go true = lines_grow t.identification b t.lines
  go false = all_stay (modules_of t)

held_grow : (b : ddb.Block) (ts : List TunedState) → AllGrow (flat_map modules_of ts) (flat_map modules_of (offered_held ts b))
held_grow b [] = tt
held_grow b (t ∷ ts) = go (has_line b t) (held_grow b ts) where
  rest : List HeldModule
  rest = flat_map modules_of ts

  go : (k : Bool) → AllGrow rest (flat_map modules_of (offered_held ts b)) → AllGrow (modules_of t ++ rest) (flat_map modules_of (cond k (tuned_after t b ∷ ts) (t ∷ offered_held ts b)))
  go true more = grow_both (modules_of t) (modules_of (tuned_after t b)) rest rest (tuned_grows b t) (all_stay rest)
  go false more = grow_both (modules_of t) (modules_of t) rest (flat_map modules_of (offered_held ts b)) (all_stay (modules_of t)) more

abbrev numbers_of : List TunedState → List ℕ
numbers_of ts = map (λ t. t.identification) ts

number_stays : (b : ddb.Block) (t : TunedState) → (tuned_after t b).identification ≡ t.identification
number_stays b t = go (t.download == b.download) where
  go : (k : Bool) → (cond k (record t { lines = lines_after b t.lines }) t).identification ≡ t.identification
  go true = refl
  go false = refl

numbers_stay : (b : ddb.Block) (ts : List TunedState) → numbers_of (offered_held ts b) ≡ numbers_of ts
numbers_stay b [] = refl
numbers_stay b (t ∷ ts) = go (has_line b t) (numbers_stay b ts) where
  go : (k : Bool) → numbers_of (offered_held ts b) ≡ numbers_of ts → numbers_of (cond k (tuned_after t b ∷ ts) (t ∷ offered_held ts b)) ≡ numbers_of (t ∷ ts)
  go true more = ap (λ (i : ℕ). i ∷ numbers_of ts) (number_stays b t)
  go false more = ap (λ (is : List ℕ). t.identification ∷ is) more

same_held : (label : Option ℕ) (gateway : Option Target) (held more : List ℕ) (table next : List HeldModule) → more ≡ held → next ≡ table
    → ◌≡◌ {A = HeldState} (record { label = label; held = more; gateway = gateway; table = next }) (record { label = label; held = held; gateway = gateway; table = table })
same_held label gateway held more table next e f = cc

block_stays : LooksBack → (candidates : List Bytes) (c : Bytes) (b : ddb.Block) → as_heard c ≡ ABlock b → whole_after (candidates ++ c ∷ []) ≡ whole_after candidates → HeldStays candidates c
block_stays laws candidates c b says count =
    let s = state_for laws candidates in
    let t : TunerState = s.state in
    let before : held_by t ≡ held_after (map as_heard candidates) = ap held_in (laws.shot 0 0 t candidates s.stands) in
    let after : held_by (step t c).0 ≡ held_after (map as_heard (candidates ++ c ∷ [])) = ap held_in (laws.shot 0 0 (step t c).0 (candidates ++ c ∷ []) (laws.stands t candidates c s.stands)) in
    let stepped : held_by (step t c).0 ≡ held_by (with_next_mark (after_heard t (ABlock b)).0) = ap (λ (h : Heard). held_by (with_next_mark (after_heard t h).0)) says in
    let counts : wholes (flat_map modules_of (offered_held t.cache.held b)) ≡ wholes (flat_map modules_of t.cache.held) = ap whole_modules (sym stepped ∙ after) ∙ count ∙ ap whole_modules (sym before) in
    let same : held_by (with_next_mark (after_heard t (ABlock b)).0) ≡ held_by t =
    same_held (held_by t).label (held_by t).gateway (numbers_of t.cache.held) (numbers_of (offered_held t.cache.held b)) (flat_map modules_of t.cache.held) (flat_map modules_of (offered_held t.cache.held b))
    (numbers_stay b t.cache.held) (all_same (flat_map modules_of t.cache.held) (flat_map modules_of (offered_held t.cache.held b)) (held_grow b t.cache.held) counts) in
    sym after ∙ stepped ∙ same ∙ before

-- ---- by the table of a section

abbrev IsNoControl : Heard → Type 0
IsNoControl (ADsi d) = ⊥
IsNoControl (ADii d) = ⊥
IsNoControl _ = Unit {0}

block_is_none : (r : Result ddb.Block ℕ) → IsNoControl (heard_block r)
block_is_none (Ok b) = tt
block_is_none (Err place) = tt

no_control : (c : Bytes) → is_of_blocks c ≡ true → IsNoControl (as_heard c)
no_control [] e = cc
no_control (id ∷ rest) e =
    subst (λ (k : ℕ). IsNoControl (as_heard (k ∷ rest))) (sym (eqb-true id 0x3C e))
    (go (nat_lt (length c) 12) (nat_lt MOST_LENGTH (section_length c) || not (length c == section_length c + 3)) (nat_lt (slice_index c 1) 128) (slice_index c 5 % 2 == 0) (not (crc_of c == 0))) where
      c : Bytes
      c = 0x3C ∷ rest

      go : (short length syntax current crc : Bool)
          → IsNoControl (heard_section (cond short (Err skips.Short) (cond length (Err skips.Length) (cond syntax (Err skips.NoSyntax) (cond current (Err skips.NotCurrent) (cond crc (Err skips.BadCrc) (Ok (sections.fields_of ABlocks c))))))))
      go true length syntax current crc = tt
      go false true syntax current crc = tt
      go false false true current crc = tt
      go false false false true crc = tt
      go false false false false true = tt
      go false false false false false = block_is_none (ddb.read (sections.fields_of ABlocks c).payload)

pub part_stays : LooksBack → (candidates : List Bytes) (c : Bytes) → is_of_blocks c ≡ true → whole_after (candidates ++ c ∷ []) ≡ whole_after candidates → HeldStays candidates c
part_stays laws candidates c of_blocks count = go (as_heard c) refl where
  nothing : (h : Heard) → as_heard c ≡ h → (fed_heard (map as_heard candidates) h ≡ Changed → ⊥) → HeldStays candidates c
  nothing h e other = still_held laws candidates c (λ f. other (sym (ap (fed_heard (map as_heard candidates)) e) ∙ f))

  go : (h : Heard) → as_heard c ≡ h → HeldStays candidates c
  go (Skipped skip) e = nothing (Skipped skip) e (λ f. cc)
  go (NoControl place) e = nothing (NoControl place) e (λ f. cc)
  go (NoBlock place) e = nothing (NoBlock place) e (λ f. cc)
  go (ADsi d) e = absurd (subst IsNoControl e (no_control c of_blocks))
  go (ADii d) e = absurd (subst IsNoControl e (no_control c of_blocks))
  go (ABlock b) e = block_stays laws candidates c b e count
