-- Lemmas for those who use this crate.
use Rattle.std.proofs.Common.{◌≡◌, ℕ, List, [], ◌∷◌, ◌++◌, map, refl, ap, sym, ◌∙◌, append-nil}
use Rattle.std.specs.List.{All}
use Rattle.std.proofs.lemmas.List.Elements.{All-head, All-tail}
use Rattle.path_tree.specs.Trees.{Tree}
use Rattle.biop_object.specs.Names.{Layout}
use Rattle.cycle_planner.specs.declared.Item.{Item}
use Rattle.generation.specs.Lawful.{section_in}
use Rattle.carousel_world.specs.Broadcasts.{Sending, sections}
use Rattle.carousel_world.specs.Events.{Step, Commit, Draw, Open}
use Rattle.carousel_world.specs.Promises.{world_after}
use Rattle.carousel_world.specs.Publishing.{layouts_for, items_sent, publication}
use Rattle.carousel_world.specs.Settling.{IsOpening, whole_draw, with_settling}
use Rattle.carousel_world.specs.World.{WorldState, initial_world, happens, after_all}
-- A draw that is sent in pieces: `SentSo` says what the pieces so far left of a downlink, from `none_sent_so` on, and `piece_sent` adds one, which
-- `piece_of` cuts from the draw's items, and `draw_sent` the last. The sections of a generation are as a downlink asks by `framed_is_like`. `stands_after_draw` says that a downlink
-- which stood for some draws, and sent one more, stands for these and it. `generation_with` writes out a generation of a tree of one small file.
pub use Rattle.carousel_world.proofs.Carrying.{SentSo, none_sent_so, piece_sent, draw_sent}
pub use Rattle.carousel_world.proofs.Happening.{piece_of, framed_is_like}
pub use Rattle.carousel_world.proofs.Sending.{stands_after_draw}
pub use Rattle.carousel_world.proofs.Laid.{generation_with}

map_map : {X Y Z : Type 0} (f : Y → Z) (h : X → Y) (xs : List X) → map f (map h xs) ≡ map (λ x. f (h x)) xs
map_map f h [] = refl
map_map f h (x ∷ xs) = ap (λ ys. f (h x) ∷ ys) (map_map f h xs)

-- the sections of one generation's items, sent in one group
pub sections_are : (carousel : ℕ) (ls : List Layout) (g : ℕ) (items : List Item)
    → map (λ (s : Sending). section_in carousel ls s.0 s.1) (map (λ (item : Item). (g, item)) items ++ []) ≡ map (section_in carousel ls g) items
sections_are carousel ls g items =
    ap (map (λ (s : Sending). section_in carousel ls s.0 s.1)) (append-nil (map (λ (item : Item). (g, item)) items))
    ∙ map_map (λ (s : Sending). section_in carousel ls s.0 s.1) (λ (item : Item). (g, item)) items

-- what is sent of a published tree
pub published_sections : (carousel : ℕ) (weights : List ℕ) (cycles : ℕ) (t : Tree) → sections (publication carousel weights cycles t) ≡ map (section_in carousel (layouts_for carousel t) 1) (items_sent carousel weights cycles t)
published_sections carousel weights cycles t = sections_are carousel (layouts_for carousel t) 1 (items_sent carousel weights cycles t)

-- ---- opens and settling

-- opens change no world
pub opens_leave : (w : WorldState) (es : List Step) → All IsOpening es → after_all w es ≡ w
opens_leave w [] all = refl
opens_leave w (Commit editor edits ∷ es) all = absurd (All-head IsOpening (Commit editor edits) es all)
opens_leave w (Draw asked fates ∷ es) all = absurd (All-head IsOpening (Draw asked fates) es all)
opens_leave w (Open reader path ∷ es) all = opens_leave w es (All-tail IsOpening (Open reader path) es all)

pub after_all-append : (w : WorldState) (xs ys : List Step) → after_all w (xs ++ ys) ≡ after_all (after_all w xs) ys
after_all-append w [] ys = refl
after_all-append w (x ∷ xs) ys = after_all-append (happens w x) xs ys

-- two whole draws leave the same world where opens stand between and after them
pub settled_among_opens : (carousel : ℕ) (weights : List ℕ) (before between after : List Step) → All IsOpening between → All IsOpening after
    → world_after carousel weights (before ++ whole_draw ∷ (between ++ whole_draw ∷ after)) ≡ world_after carousel weights (with_settling before)
settled_among_opens carousel weights before between after opens others =
    let w = world_after carousel weights before in
    let one = happens w whole_draw in
    after_all-append (initial_world carousel weights) before (whole_draw ∷ (between ++ whole_draw ∷ after))
    ∙ after_all-append one between (whole_draw ∷ after)
    ∙ ap (λ v. after_all (happens v whole_draw) after) (opens_leave one between opens)
    ∙ opens_leave (happens one whole_draw) after others
    ∙ sym (after_all-append (initial_world carousel weights) before (whole_draw ∷ whole_draw ∷ []))
