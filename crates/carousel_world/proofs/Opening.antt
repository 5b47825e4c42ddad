-- Whole cycles, undamaged, open every path.
use Rattle.std.proofs.Common.{◌≡◌, ℕ, suc, ◌+◌, ◌<◌, List, [], ◌∷◌, ◌++◌, map, length, get_or, Some, refl, sym, ap, ◌∙◌, append_assoc, subst, arith, lit<}
use Rattle.std.proofs.lemmas.Option.{same_Some}
use Rattle.std.proofs.lemmas.List.Elements.{All-map, Contains-append_right}
use Rattle.std.proofs.lemmas.List.{map-append}
use Rattle.std.specs.List.{All, flat_map}
use Rattle.path_tree.specs.Paths.{Bytes}
use Rattle.path_tree.specs.Trees.{node_at}
use Rattle.biop_object.specs.Names.{Layout}
use Rattle.cycle_planner.specs.Cycle.{diis_of, blocks_of, cycle_of}
use Rattle.cycle_planner.specs.Weights.{AreWeights}
use Rattle.cycle_planner.specs.declared.Item.{Item}
use Rattle.cycle_planner.specs.declared.Item.TheVariants.{Dsi, Dii, Block}
use Rattle.dsmcc_section.specs.Sections as sections
use Rattle.generation.specs.Layouts.{lines_in}
use Rattle.generation.specs.Kept.{LayoutsAreLawful}
use Rattle.generation.specs.Lawful.{layout_at, section_in}
use Rattle.section_stream.specs.Cuts.{candidates}
use Rattle.section_stream.specs.Groups.{PacketsGiveTheGroups}
use Rattle.section_stream.specs.Packing.{IsSectionLike, idle}
use Rattle.section_stream.proofs.CallerLemmas.{group_cut}
use Rattle.tuner_core.specs.LookBack.{answer_after}
use Rattle.carousel_world.specs.Broadcasts as broadcasts
use Rattle.carousel_world.specs.Headline.{IsNodeAnswer}
use Rattle.carousel_world.specs.Premises.{IsWhole}
use Rattle.carousel_world.specs.Publishing.{repeat_list, layouts_for, publication, packets_sent, EveryPublicationMeets, EachCycleOpens, PublicationsCanBePacked}
use Rattle.carousel_world.proofs.Modules.{IsSent}
use Rattle.carousel_world.proofs.Saying.{Spelled, item_framed}
use Rattle.carousel_world.proofs.Premising.{like_section}
use Rattle.carousel_world.proofs.Cycles.{IsRound, sent_items, first_round, later_rounds, begins_with_round}
use Rattle.carousel_world.proofs.Rounds.{contains_map}
use Rattle.carousel_world.proofs.CallerLemmas.{published_sections}
use Rattle.carousel_world.proofs.Single.{IsSecond, second_of}

abbrev sections_of : ℕ → List ℕ → List Layout → ℕ → ℕ → List Bytes
sections_of carousel weights ls g cycles = map (section_in carousel ls g) (repeat_list cycles (cycle_of weights (lines_in (layout_at ls g))))

-- the sections of a whole round are whole
pub round_is_whole : (carousel : ℕ) (ls : List Layout) (g : ℕ) (earlier : List Bytes) (items : List Item) → length ls ≡ g + 1 → IsRound ls g items
    → IsWhole carousel ls g (earlier ++ map (section_in carousel ls g) items)
round_is_whole carousel ls g earlier items last is =
    let section = section_in carousel ls g in
    record {
      generation = omega (arith, last);
      gateway = Contains-append_right earlier (map section items) (section Dsi) (contains_map section items Dsi is.gateway);
      rounds = λ j has.
          let dii = is.diis j has in
          let begun = map section dii.before in
          let behind = map section dii.after in
          let round : map section items ≡ begun ++ section (Dii j) ∷ behind = ap (map section) dii.place ∙ map-append section dii.before (Dii j ∷ dii.after) in
          record {
            before = earlier ++ begun;
            after = behind;
            place = ap (λ ss. earlier ++ ss) round ∙ sym (append_assoc earlier begun (section (Dii j) ∷ behind));
            blocks = λ m b own item. contains_map section dii.after (Block m b) (dii.blocks m b item);
          };
      no_later = λ h j above inside own has. absurd (omega (arith, last, above, inside));
    }

-- a cycle begins with a whole round
pub whole_cycles : (carousel : ℕ) (weights : List ℕ) (ls : List Layout) (g cycles : ℕ) → AreWeights weights → IsSent carousel ls g → length ls ≡ g + 1
    → IsWhole carousel ls g (sections_of carousel weights ls g (suc cycles))
whole_cycles carousel weights ls g cycles are sent last =
    let lines = lines_in (layout_at ls g) in
    let later = later_rounds weights lines ++ repeat_list cycles (cycle_of weights lines) in
    subst (λ (items : List Item). IsWhole carousel ls g (map (section_in carousel ls g) items)) (sym (first_round weights (layout_at ls g) cycles are sent.some))
    (round_is_whole carousel ls g [] (Dsi ∷ ((diis_of lines ++ flat_map blocks_of lines) ++ later)) last (begins_with_round carousel ls g later sent))

all_like : (carousel : ℕ) (weights : List ℕ) (ls : List Layout) (g cycles : ℕ) → ((s : sections.Fields) → sections.Fits s → sections.IsFramed (sections.spelling s)) → Spelled → IsSent carousel ls g → g < length ls
    → All IsSectionLike (sections_of carousel weights ls g cycles)
all_like carousel weights ls g cycles framed spelled sent lt =
    let items = repeat_list cycles (cycle_of weights (lines_in (layout_at ls g))) in
    All-map IsSectionLike (section_in carousel ls g) items
    (λ k d below. like_section (section_in carousel ls g (get_or items k d))
    (item_framed carousel ls g framed spelled sent (get_or items k d) (sent_items carousel ls g weights cycles sent lt k d below)))

pub published_like : LayoutsAreLawful → Spelled → ((s : sections.Fields) → sections.Fits s → sections.IsFramed (sections.spelling s)) → PublicationsCanBePacked
published_like lawful spelled framed carousel weights cycles t lt is =
    let ls = layouts_for carousel t in
    let of : IsSecond carousel ls t = second_of lawful carousel t lt is in
    subst (All IsSectionLike) (sym (published_sections carousel weights cycles t)) (all_like carousel weights ls 1 cycles framed spelled of.sent (omega (arith, of.two)))

pub never_back : broadcasts.NeverBack (λ i. Some i)
never_back i j a b lt e h =
    let same : i ≡ a = same_Some i a e in
    let other : j ≡ b = same_Some j b h in
    omega arith

pub each_cycle : EveryPublicationMeets → PacketsGiveTheGroups → LayoutsAreLawful → Spelled → ((s : sections.Fields) → sections.Fits s → sections.IsFramed (sections.spelling s)) → EachCycleOpens
each_cycle meets give lawful spelled framed pid carousel weights cycles t p small lt are is =
    let ls = layouts_for carousel t in
    let of : IsSecond carousel ls t = second_of lawful carousel t lt is in
    let sent = broadcasts.sections (publication carousel weights (suc cycles) t) in
    let same : sent ≡ sections_of carousel weights ls 1 (suc cycles) = published_sections carousel weights (suc cycles) t in
    let like : All IsSectionLike sent = published_like lawful spelled framed carousel weights (suc cycles) t lt is in
    let heard : candidates pid (packets_sent pid carousel weights (suc cycles) t) ≡ sent = group_cut give (idle pid 0) sent small (lit< tt) like in
    let whole : IsWhole carousel ls 1 sent = subst (IsWhole carousel ls 1) (sym same) (whole_cycles carousel weights ls 1 cycles are of.sent of.two) in
    subst (λ cs. IsNodeAnswer (answer_after cs p) (node_at t p)) (sym heard)
    ((meets.sections sent carousel weights (suc cycles) t (λ i. Some i) never_back lt is (λ i bytes e accepted. (i, refl, e))).opens p whole)
