-- Blocks that are offered to an assembler, against the first fitting blocks of the sections.
use Rattle.std.proofs.Common.{nat_lt, ◌≡◌, ◌≢◌, ℕ, zero, suc, ◌+◌, ◌<◌, Bool, true, false, ◌&&◌, ◌==◌, cond, List, [], ◌∷◌, ◌++◌, length, get_or, set, map, replicate, Option, Some, None, ◌⊎◌, inl, inr, refl, arith, ◌∙◌, sym, ap}
use Rattle.std.specs.Option.{is_some, option_or, option_and_then}
use Rattle.std.specs.List.{filter_map, range_with_len, cons_option}
use Rattle.std.proofs.lemmas.Bool.{cond_both, lt-ltb, eq-eqb, ne_eqb, cases_eq}
use Rattle.std.proofs.lemmas.List.{ext_get_or, get_or-set_same, get_or-set_other, length-set}
use Rattle.std.proofs.lemmas.List.FromFn.{get_or-map-range_with_len, length-map-range_with_len}
use Rattle.std.proofs.lemmas.List.Elements.{filter_map-append}
use Rattle.receiver_commands.specs.declared.assemble.TheConstants.{ASSEMBLED_BLOCK}
use Rattle.ddb_block.specs.Blocks as ddb
use Rattle.block_assembler.specs.Blocks.{AssemblerState, empty_of, offer_of, after_offer, fits, first_of, is_new}
use Rattle.module_cache.specs.Turns as back
use Rattle.shell_streams.specs.Cuts.{Bytes}
use Rattle.receiver_commands.specs.Input.{Asked, block_heard, asked_line, asked_dii, blocks_among}
use Rattle.receiver_commands.specs.Inner.Gathering.{HasBlocks}
use Rattle.receiver_commands.specs.declared.assemble.TheConstants.{ASSEMBLED_BLOCK}

abbrev no_block : ℕ → Option Bytes
no_block b = None

map_none : (a n : ℕ) → map no_block (range_with_len a n) ≡ replicate n None
map_none a zero = refl
map_none a (suc n) = ap (λ os. None ∷ os) (map_none (a + 1) n)

-- no section, no block
pub blocks_begin : (m : Asked) (a : AssemblerState) → a ≡ empty_of m.size ASSEMBLED_BLOCK → HasBlocks m a []
blocks_begin m a e = rw e (record { size = refl; block_size = refl; blocks = sym (map_none 0 (ddb.block_count_of m.size ASSEMBLED_BLOCK)) })

or_first : (xs : List Bytes) (o : Option Bytes) → first_of (xs ++ cons_option o []) ≡ option_or (first_of xs) o
or_first [] (Some x) = refl
or_first [] None = refl
or_first (x ∷ xs) o = refl

-- the block that fits in place b, of a section, and the first of them of sections
abbrev fitting_in : Asked → ℕ → Option ddb.Block → Option Bytes
fitting_in m b o = option_and_then (λ (x : ddb.Block). cond (back.fits (asked_dii m) (asked_line m) b x) (Some x.bytes) None) o

abbrev fitting : Asked → ℕ → Bytes → Option Bytes
fitting m b section = fitting_in m b (block_heard section)

abbrev block_among : Asked → List Bytes → ℕ → Option Bytes
block_among m sections = back.block_among block_heard sections (asked_dii m) (asked_line m)

-- a block of the module
abbrev pub is_of : Asked → ddb.Block → Bool
is_of m x = (x.download == m.download) && (x.module_id == m.id) && (x.version == m.version)

by_tests : (of_it here within long : Bool) → (of_it && here && within && long) ≡ (of_it && (here && (within && long)))
by_tests false here within long = refl
by_tests true false within long = refl
by_tests true true within long = refl

-- is there in its place where it fits
fitting_of : (m : Asked) (b : ℕ) (x : ddb.Block) → is_of m x ≡ true
    → fitting_in m b (Some x) ≡ cond ((x.number == b) && fits m.size ASSEMBLED_BLOCK b x.bytes) (Some x.bytes) None
fitting_of m b x e = let rest : Bool = (x.number == b) && fits m.size ASSEMBLED_BLOCK b x.bytes in
    ap (λ t. cond t (Some x.bytes) None) (by_tests (is_of m x) (x.number == b) (nat_lt b (ddb.block_count_of m.size ASSEMBLED_BLOCK)) (length x.bytes == ddb.block_span_of m.size ASSEMBLED_BLOCK b) ∙ ap (λ t. t && rest) e)

fitting_other : (m : Asked) (b : ℕ) (x : ddb.Block) → is_of m x ≡ false → fitting_in m b (Some x) ≡ None
fitting_other m b x e = let rest : Bool = (x.number == b) && fits m.size ASSEMBLED_BLOCK b x.bytes in
    ap (λ t. cond t (Some x.bytes) None) (by_tests (is_of m x) (x.number == b) (nat_lt b (ddb.block_count_of m.size ASSEMBLED_BLOCK)) (length x.bytes == ddb.block_span_of m.size ASSEMBLED_BLOCK b) ∙ ap (λ t. t && rest) e)

-- one section more
pub first_more : (m : Asked) (sections : List Bytes) (section : Bytes) (b : ℕ) → block_among m (sections ++ section ∷ []) b ≡ option_or (block_among m sections b) (fitting m b section)
first_more m sections section b =
    ap first_of (filter_map-append (fitting m b) sections (section ∷ [])) ∙ or_first (filter_map (fitting m b) sections) (fitting m b section)

or_none : (o : Option Bytes) → o ≡ option_or o None
or_none (Some x) = refl
or_none None = refl

or_some : (o p : Option Bytes) → is_some o ≡ true → o ≡ option_or o p
or_some (Some x) p h = refl
or_some None p h = cc

or_there : (o p : Option Bytes) → is_some o ≡ false → p ≡ option_or o p
or_there (Some x) p h = cc
or_there None p h = refl

-- a block that fits in place b, out of the one that is offered for place k
abbrev offered_for : AssemblerState → ℕ → Bytes → ℕ → Option Bytes
offered_for a k bytes b = cond ((k == b) && fits a.size a.block_size b bytes) (Some bytes) None

at_other : (a : AssemblerState) (k : ℕ) (bytes : Bytes) (b : ℕ) → b ≢ k → get_or (after_offer a k bytes).blocks b None ≡ get_or a.blocks b None
at_other a k bytes b h = cond_both (is_new (offer_of a k bytes)) (record a { blocks = set a.blocks k (Some bytes) }) a (λ s. get_or s.blocks b None ≡ get_or a.blocks b None)
    (λ e. get_or-set_other a.blocks k b (Some bytes) None h) (λ e. refl)

at_same : (a : AssemblerState) (bytes : Bytes) (b : ℕ) → b < length a.blocks → b < ddb.block_count_of a.size a.block_size → (t s : Bool)
    → (length bytes == ddb.block_span_of a.size a.block_size b) ≡ t → is_some (get_or a.blocks b None) ≡ s
    → get_or (after_offer a b bytes).blocks b None ≡ option_or (get_or a.blocks b None) (cond (fits a.size a.block_size b bytes) (Some bytes) None)
at_same a bytes b h k false s e f = rw (lt-ltb b (ddb.block_count_of a.size a.block_size) k, e) (or_none (get_or a.blocks b None))
at_same a bytes b h k true true e f = rw (lt-ltb b (ddb.block_count_of a.size a.block_size) k, e, f) (or_some (get_or a.blocks b None) (Some bytes) f)
at_same a bytes b h k true false e f = rw (lt-ltb b (ddb.block_count_of a.size a.block_size) k, e, f) (get_or-set_same a.blocks b (Some bytes) None h ∙ or_there (get_or a.blocks b None) (Some bytes) f)

at_place : (a : AssemblerState) (k : ℕ) (bytes : Bytes) (b : ℕ) → b < length a.blocks → b < ddb.block_count_of a.size a.block_size
    → get_or (after_offer a k bytes).blocks b None ≡ option_or (get_or a.blocks b None) (offered_for a k bytes b)
at_place a k bytes b h l = cases (cases_eq b k)
  where
    cases : (b ≡ k) ⊎ (b ≡ k → ⊥) → get_or (after_offer a k bytes).blocks b None ≡ option_or (get_or a.blocks b None) (offered_for a k bytes b)
    cases (inl e) = rw (← e) (rw (eq-eqb b b refl) (at_same a bytes b h l _ _ refl refl))
    cases (inr n) = at_other a k bytes b n ∙ rw (ne_eqb k b (λ h. n (sym h))) (or_none (get_or a.blocks b None))

same_number : (a : AssemblerState) (k : ℕ) (bytes : Bytes) → length (after_offer a k bytes).blocks ≡ length a.blocks
same_number a k bytes = cond_both (is_new (offer_of a k bytes)) (record a { blocks = set a.blocks k (Some bytes) }) a (λ s. length s.blocks ≡ length a.blocks)
    (λ e. length-set a.blocks k (Some bytes)) (λ e. refl)

same_sizes : (a : AssemblerState) (k : ℕ) (bytes : Bytes) → ((after_offer a k bytes).size ≡ a.size) × ((after_offer a k bytes).block_size ≡ a.block_size)
same_sizes a k bytes = cond_both (is_new (offer_of a k bytes)) (record a { blocks = set a.blocks k (Some bytes) }) a (λ s. (s.size ≡ a.size) × (s.block_size ≡ a.block_size))
    (λ e. (refl, refl)) (λ e. (refl, refl))

-- blocks that are, place by place, those of the sections
blocks_by_place : (m : Asked) (sections : List Bytes) (blocks : List (Option Bytes)) → length blocks ≡ ddb.block_count_of m.size ASSEMBLED_BLOCK
    → ((b : ℕ) → b < ddb.block_count_of m.size ASSEMBLED_BLOCK → get_or blocks b None ≡ block_among m sections b) → blocks ≡ blocks_among m sections
blocks_by_place m sections blocks l f = ext_get_or None blocks (blocks_among m sections) (l ∙ sym (length-map-range_with_len (block_among m sections) 0 (ddb.block_count_of m.size ASSEMBLED_BLOCK)))
    (λ b h. let k : b < ddb.block_count_of m.size ASSEMBLED_BLOCK = omega arith in
    f b k ∙ sym (get_or-map-range_with_len (block_among m sections) 0 (ddb.block_count_of m.size ASSEMBLED_BLOCK) b b None k (omega arith)))

-- as many as the module has
pub number_of_blocks : (m : Asked) (a : AssemblerState) (sections : List Bytes) → HasBlocks m a sections → length a.blocks ≡ ddb.block_count_of m.size ASSEMBLED_BLOCK
number_of_blocks m a sections h = ap length h.blocks ∙ length-map-range_with_len (block_among m sections) 0 (ddb.block_count_of m.size ASSEMBLED_BLOCK)

block_at : (m : Asked) (a : AssemblerState) (sections : List Bytes) (b : ℕ) → HasBlocks m a sections → b < ddb.block_count_of m.size ASSEMBLED_BLOCK → get_or a.blocks b None ≡ block_among m sections b
block_at m a sections b h k = ap (λ os. get_or os b None) h.blocks ∙ get_or-map-range_with_len (block_among m sections) 0 (ddb.block_count_of m.size ASSEMBLED_BLOCK) b b None k (omega arith)

-- a section that carries no block that fits
blocks_same : (m : Asked) (a : AssemblerState) (sections : List Bytes) (section : Bytes) → ((b : ℕ) → fitting m b section ≡ None) → HasBlocks m a sections → HasBlocks m a (sections ++ section ∷ [])
blocks_same m a sections section none h = record {
  size = h.size;
  block_size = h.block_size;
  blocks = blocks_by_place m (sections ++ section ∷ []) a.blocks (number_of_blocks m a sections h)
      (λ b k. block_at m a sections b h k ∙ or_none (block_among m sections b) ∙ ap (λ o. option_or (block_among m sections b) o) (sym (none b))
      ∙ sym (first_more m sections section b));
}

-- no block at all
pub blocks_unheard : (m : Asked) (a : AssemblerState) (sections : List Bytes) (section : Bytes) → block_heard section ≡ None → HasBlocks m a sections → HasBlocks m a (sections ++ section ∷ [])
blocks_unheard m a sections section e h = blocks_same m a sections section (λ b. ap (fitting_in m b) e) h

-- one of another module
pub blocks_other : (m : Asked) (a : AssemblerState) (sections : List Bytes) (section : Bytes) (x : ddb.Block) → block_heard section ≡ Some x → is_of m x ≡ false → HasBlocks m a sections
    → HasBlocks m a (sections ++ section ∷ [])
blocks_other m a sections section x e t h = blocks_same m a sections section (λ b. ap (fitting_in m b) e ∙ fitting_other m b x t) h

-- one whose block is offered
pub blocks_offered : (m : Asked) (a : AssemblerState) (sections : List Bytes) (section : Bytes) (x : ddb.Block) → block_heard section ≡ Some x → is_of m x ≡ true → HasBlocks m a sections
    → HasBlocks m (after_offer a x.number x.bytes) (sections ++ section ∷ [])
blocks_offered m a sections section x e t h = record {
  size = (same_sizes a x.number x.bytes).0 ∙ h.size;
  block_size = (same_sizes a x.number x.bytes).1 ∙ h.block_size;
  blocks = blocks_by_place m (sections ++ section ∷ []) (after_offer a x.number x.bytes).blocks (same_number a x.number x.bytes ∙ number_of_blocks m a sections h)
      (λ b k. placed b k ∙ sym (first_more m sections section b));
}
  where
    placed : (b : ℕ) → b < ddb.block_count_of m.size ASSEMBLED_BLOCK → get_or (after_offer a x.number x.bytes).blocks b None ≡ option_or (block_among m sections b) (fitting m b section)
    placed b k =
        let within : b < length a.blocks = omega (arith, number_of_blocks m a sections h) in
        let below : b < ddb.block_count_of a.size a.block_size = rw (h.size, h.block_size) k in
        at_place a x.number x.bytes b within below
        ∙ rw (block_at m a sections b h k, h.size, h.block_size)
        (ap (λ o. option_or (block_among m sections b) o) (sym (ap (fitting_in m b) e ∙ fitting_of m b x t)))
