-- The sections of a lawful broadcast are as a packer asks.
use Rattle.std.proofs.Common.{◌≡◌, ℕ, ◌+◌, ◌*◌, ◌%◌, ◌<◌, ◌≤◌, Bool, true, false, eqb, List, [], ◌∷◌, map, length, take, drop, get_or, Some, refl, sym, ◌∙◌, subst, arith, lit<, lit≤}
use Rattle.std.specs.List.{All, flat_map}
use Rattle.std.specs.Option.{unwrap_or}
use Rattle.std.proofs.lemmas.Bool.{eqb-true}
use Rattle.std.proofs.lemmas.List.{get_or_append_left, get_or-append-add, get_or-map, length-append, length-map, length-take}
use Rattle.std.proofs.lemmas.List.Elements.{All-cons, All-head, All-map, All-nil, All-tail}
use Rattle.carousel_profile.specs.declared.TheConstants.{BLOCK_SIZE}
use Rattle.path_tree.specs.Paths.{Bytes}
use Rattle.biop_object.specs.declared.reading.TheConstants.{GATEWAY}
use Rattle.biop_object.specs.Names.{Layout, module_in}
use Rattle.ddb_block.specs.Blocks as ddb
use Rattle.dsi_dii.specs.Controls.{DiiFields, dii_spelling, dsi_spelling}
use Rattle.dsi_dii.specs.declared.ModuleLine.{ModuleLine}
use Rattle.dsi_dii.specs.Spellings.{DiiSpellingsHaveSize, DsiSpellingsHaveSize}
use Rattle.dsmcc_section.specs.Sections as sections
use Rattle.cycle_planner.specs.declared.Item.{Item}
use Rattle.cycle_planner.specs.declared.Item.TheVariants.{Dsi, Dii, Block}
use Rattle.generation.specs.Groups.{group_in, dii_transaction}
use Rattle.generation.specs.Layouts.{gateway_location, control_section, block_section}
use Rattle.generation.specs.Lawful.{IsItem, IsLayout, Lawful, dii_in, layout_at, section_in, version_in}
use Rattle.generation.proofs.CallerLemmas.{at_layout, few_of_group}
use Rattle.section_stream.specs.Packing.{IsSectionLike}
use Rattle.carousel_world.specs.Broadcasts.{Group, Sending, sendings_of}
use Rattle.carousel_world.proofs.CallerLemmas.{framed_is_like}
use Rattle.folder_playout.specs.Laws.{PlayoutsCanBePacked}

-- what the crates below say of spellings
pub record Sizes : Type 0 where
  pub framed : (s : sections.Fields) → sections.Fits s → sections.IsFramed (sections.spelling s)
  pub block : (b : ddb.Block) → length (ddb.spelling b) ≡ length b.bytes + 18
  pub dii : DiiSpellingsHaveSize
  pub dsi : DsiSpellingsHaveSize

-- what is found under an id is a module
listed_id : (layout : Layout) (m : ℕ) (b : Bytes) → All (λ x. x.0 ≤ 2224) layout → module_in layout m ≡ Some b → m ≤ 2224
listed_id [] m b all e = cc
listed_id (n ∷ ns) m b all e = by (eqb n.0 m) refl (listed_id ns m b (All-tail (λ x. x.0 ≤ 2224) n ns all)) where
  by : (t : Bool) → eqb n.0 m ≡ t → (module_in ns m ≡ Some b → m ≤ 2224) → m ≤ 2224
  by true t rest = subst (λ y. y ≤ 2224) (eqb-true n.0 m t) (All-head (λ x. x.0 ≤ 2224) n ns all)
  by false t rest = rest (rw t at e)

-- ---- each item's section

control_fits : (extension : ℕ) (payload : Bytes) → extension < 65536 → length payload ≤ 4084 → sections.Fits (control_section extension payload)
control_fits extension payload lt le = record {
  extension = lt;
  version = lit< tt;
  number = lit< tt;
  last = lit< tt;
  body = omega (arith, le);
}

dsi_fits : (carousel : ℕ) → Sizes → sections.Fits (control_section 0 (dsi_spelling 0x80000000 GATEWAY (gateway_location carousel)))
dsi_fits carousel sizes =
    control_fits 0 (dsi_spelling 0x80000000 GATEWAY (gateway_location carousel)) (lit< tt)
    (omega (arith, sizes.dsi 0x80000000 GATEWAY (gateway_location carousel) (record { form = refl; four = refl; key = refl; listed = (lit≤ tt, lit≤ tt) })))

dii_fits : (extension : ℕ) (d : DiiFields) → Sizes → extension < 65536 → length d.modules ≤ 139 → sections.Fits (control_section extension (dii_spelling d))
dii_fits extension d sizes lt few = control_fits extension (dii_spelling d) lt (omega (arith, sizes.dii d))

short_length : (xs : Bytes) → length (take BLOCK_SIZE xs) ≤ BLOCK_SIZE
short_length xs = omega (arith, length-take BLOCK_SIZE xs)

block_fits : (carousel m version b : ℕ) (bytes : Bytes) → Sizes → m < 65536 → sections.Fits (block_section carousel m version b bytes)
block_fits carousel m version b bytes sizes lt =
    let block : ddb.Block = record { download = carousel; module_id = m; version = version; number = b; bytes = ddb.block_of bytes BLOCK_SIZE b } in
    record {
      extension = lt;
      version = omega arith;
      number = omega arith;
      last = omega arith;
      body = omega (arith, sizes.block block, short_length (drop (b * BLOCK_SIZE) bytes));
    }

small : (n : ℕ) → n % 65536 < 65536
small n = omega arith

id_small : (m : ℕ) → m ≤ 2224 → m < 65536
id_small m le = omega (arith, le)

dii_few : (carousel : ℕ) (ls : List Layout) (g j : ℕ) → IsLayout (layout_at ls g) → 1 ≤ j → length (dii_in carousel ls g j).modules ≤ 139
dii_few carousel ls g j is some =
    let few = few_of_group (layout_at ls g) j (record { rising = is.rising; from_one = is.from_one }) some in
    omega (arith, few, length-map {B = ModuleLine} (group_in (layout_at ls g) j) (λ m. record { id = m.0; size = length m.1; version = version_in ls g m.0; compressed = false }))

layout_is : (carousel : ℕ) (ls : List Layout) (ts : _) (g : ℕ) → Lawful carousel ls ts → g < length ls → IsLayout (layout_at ls g)
layout_is carousel ls ts g lawful lt = at_layout IsLayout ls g lawful.maps lt

item_framed : (carousel : ℕ) (ls : List Layout) (ts : _) (g : ℕ) → Sizes → Lawful carousel ls ts → (item : Item) → IsItem ls g item → sections.IsFramed (section_in carousel ls g item)
item_framed carousel ls ts g sizes lawful Dsi item = sizes.framed (control_section 0 (dsi_spelling 0x80000000 GATEWAY (gateway_location carousel))) (dsi_fits carousel sizes)
item_framed carousel ls ts g sizes lawful (Dii j) item =
    sizes.framed (control_section (dii_transaction g j % 65536) (dii_spelling (dii_in carousel ls g j)))
    (dii_fits (dii_transaction g j % 65536) (dii_in carousel ls g j) sizes (small (dii_transaction g j)) (dii_few carousel ls g j (layout_is carousel ls ts g lawful item.0) item.2))
item_framed carousel ls ts g sizes lawful (Block m b) item =
    sizes.framed (block_section carousel m (version_in ls g m) b (unwrap_or (module_in (layout_at ls g) m) []))
    (block_fits carousel m (version_in ls g m) b (unwrap_or (module_in (layout_at ls g) m) []) sizes
    (id_small m (listed_id (layout_at ls g) m item.1.0 (layout_is carousel ls ts g lawful item.0).ids item.1.1)))

-- ---- all groups

abbrev pub Sent : List Layout → Sending → Type 0
Sent ls s = IsItem ls s.0 s.1

groups_like : (carousel : ℕ) (ls : List Layout) (gs : List Group) → ((g : ℕ) (item : Item) → IsItem ls g item → IsSectionLike (section_in carousel ls g item)) → All (Sent ls) (flat_map sendings_of gs)
    → All (All IsSectionLike) (map (λ g. map (section_in carousel ls g.generation) g.items) gs)
groups_like carousel ls [] each items = All-nil (All IsSectionLike)
groups_like carousel ls (g ∷ gs) each items =
    All-cons (All IsSectionLike) (map (section_in carousel ls g.generation) g.items) (map (λ (h : Group). map (section_in carousel ls h.generation) h.items) gs)
    (All-map IsSectionLike (section_in carousel ls g.generation) g.items
    (λ i d lt.
    let size : length (sendings_of g) ≡ length g.items = length-map g.items (λ item. (g.generation, item)) in
    let is : get_or (flat_map sendings_of (g ∷ gs)) i (g.generation, d) ≡ (g.generation, get_or g.items i d) =
    get_or_append_left (sendings_of g) (flat_map sendings_of gs) (g.generation, d) i (omega (arith, size, lt)) ∙ get_or-map (λ (item : Item). (g.generation, item)) g.items i d (g.generation, d) lt in
    let one : IsItem ls (get_or (flat_map sendings_of (g ∷ gs)) i (g.generation, d)).0 (get_or (flat_map sendings_of (g ∷ gs)) i (g.generation, d)).1 =
    items i (g.generation, d) (omega (arith, size, lt, length-append (sendings_of g) (flat_map sendings_of gs))) in
    each g.generation (get_or g.items i d) (subst (Sent ls) is one)))
    (groups_like carousel ls gs each
    (λ i d lt. subst (Sent ls) (get_or-append-add (sendings_of g) (flat_map sendings_of gs) i d)
    (items (length (sendings_of g) + i) d (omega (arith, lt, length-append (sendings_of g) (flat_map sendings_of gs))))))

pub all_like : Sizes → PlayoutsCanBePacked
all_like sizes carousel weights s is =
    let b = is.broadcast in
    let lawful : Lawful b.carousel b.layouts b.trees = subst (λ c. Lawful c b.layouts b.trees) (sym is.id) is.lawful in
    subst (All (All IsSectionLike)) is.sections
    (groups_like b.carousel b.layouts b.groups
    (λ g item its. framed_is_like (section_in b.carousel b.layouts g item) (item_framed b.carousel b.layouts b.trees g sizes lawful item its))
    is.in_order.items)
