-- A receiver that has heard no block waits for the first module.
use Rattle.std.proofs.Common.{◌≡◌, ℕ, zero, suc, ◌<◌, ◌≤◌, Bool, true, false, cond, ◌&&◌, eqb, List, [], ◌∷◌, ◌++◌, map, length, Some, None, refl, ap, sym, ◌∙◌, subst, arith, inl}
use Rattle.std.proofs.lemmas.Bool.{and_from, or_left, or_right}
use Rattle.std.specs.Prelude.{slice_get}
use Rattle.std.specs.List.{find, list_all, flat_map, range_with_len}
use Rattle.carousel_profile.specs.declared.TheConstants.{BLOCK_SIZE}
use Rattle.path_tree.specs.Paths.{Bytes, PathNames}
use Rattle.path_tree.specs.Trees.{Tree, Node, File, Folder, NoSuch, node_at}
use Rattle.biop_object.specs.Names.{Layout, module_in, thing_in}
use Rattle.cycle_planner.specs.declared.Item.{Item}
use Rattle.cycle_planner.specs.declared.Item.TheVariants.{Dsi, Dii}
use Rattle.cycle_planner.specs.Cycle.{Line, groups_from, diis_from, diis_of, blocks_of}
use Rattle.cycle_planner.proofs.CallerLemmas.{are_ones}
use Rattle.ddb_block.specs.Blocks as ddb
use Rattle.dsi_dii.specs.Controls.{DiiFields}
use Rattle.generation.specs.Kept.{LayoutsAreLawful}
use Rattle.generation.specs.Layouts.{gateway_location, lines_in}
use Rattle.generation.specs.Groups.{group_in}
use Rattle.generation.specs.Lawful.{Carries, IsNode, IsPublishable, layout_at, version_in, dii_in, section_in}
use Rattle.path_resolver.specs.declared.answer.Answer.TheVariants as answers
use Rattle.tuner_core.specs.Heard.{ADsi, as_heard, Heard}
use Rattle.module_cache.specs.Joining.{outline, lists}
use Rattle.module_cache.specs.Turns.{with_turning}
use Rattle.module_cache.specs.Spans.{Span}
use Rattle.tuner_core.specs.Turns.{turns, turns_of, answer_after}
use Rattle.carousel_world.specs.Headline.{is_dsi, is_dii, has_carousel, is_line_whole, IsAnswer, whole_by, is_whole_in, is_whole, first_missing}
use Rattle.carousel_world.specs.Premises.{AcceptedAreSent}
use Rattle.carousel_world.specs.Publishing.{layouts_for, layout_for, publication, EveryPublicationMeets}
use Rattle.carousel_world.specs.Broadcasts.{sections}
use Rattle.carousel_world.specs.Instances.{control_alone}
use Rattle.carousel_world.specs.Runs.{ones}
use Rattle.carousel_world.proofs.CallerLemmas.{published_sections}
use Rattle.carousel_world.proofs.Cycles.{first_round, later_rounds}
use Rattle.carousel_world.proofs.Below.{root_there}
use Rattle.carousel_world.proofs.Modules.{IsSent, line_of, in_layout}
use Rattle.carousel_world.proofs.Saying.{Spelled, dsi_of, hears_item}
use Rattle.carousel_world.proofs.Opening.{never_back}
use Rattle.carousel_world.proofs.Single.{IsSecond, second_of}

-- ---- no block of a module with bytes is there

-- the DII turned, and nothing was heard after it
abbrev pub alone : DiiFields → Span Heard
alone d = record { dii = d; kept = false; since = [] }

none_there : (f : ℕ → Bool) (n : ℕ) → 0 < n → f 0 ≡ false → list_all f (range_with_len 0 n) ≡ false
none_there f zero some none = absurd (omega (arith, some))
none_there f (suc n) some none = rw none refl

some_blocks : (n : ℕ) → 0 < n → 0 < ddb.block_count_of n BLOCK_SIZE
some_blocks n some = omega arith

none_of : (c b : Bool) → b ≡ false → (c && b) ≡ false
none_of true b e = e
none_of false b e = refl

line_awaited : (d : DiiFields) (version : ℕ → ℕ) (id : ℕ) (ms : Layout) → d.block_size ≡ BLOCK_SIZE → ((b : Bytes) → module_in ms id ≡ Some b → 0 < length b)
    → is_line_whole (alone d) [] (find (λ l. eqb l.id id) (map (line_of version) ms)) ≡ false
line_awaited d version id [] size some = refl
line_awaited d version id (m ∷ ms) size some = by (eqb m.0 id) refl (λ more. line_awaited d version id ms size more) where
  by : (t : Bool) → eqb m.0 id ≡ t → (((b : Bytes) → module_in ms id ≡ Some b → 0 < length b) → is_line_whole (alone d) [] (find (λ l. eqb l.id id) (map (line_of version) ms)) ≡ false)
      → is_line_whole (alone d) [] (find (λ l. eqb l.id id) (map (line_of version) (m ∷ ms))) ≡ false
  by true t rest =
      let first : module_in (m ∷ ms) id ≡ Some m.1 = rw t refl in
      let blocks : 0 < ddb.block_count_of (length m.1) d.block_size = subst (λ k. 0 < ddb.block_count_of (length m.1) k) (sym size) (some_blocks (length m.1) (some m.1 first)) in
      rw t (none_there (λ b. false) (ddb.block_count_of (length m.1) d.block_size) blocks refl)
  by false t rest = rw t (rest (λ b e. some b (let later : module_in (m ∷ ms) id ≡ Some b = rw t e in later)))

-- ---- the gateway's module has bytes

nothing_is_nothing : (node : Node) → IsNode None node → node ≡ NoSuch
nothing_is_nothing (File b) is = absurd is
nothing_is_nothing (Folder names) is = absurd is
nothing_is_nothing NoSuch is = refl

first_has_bytes : (carousel : ℕ) (layout : Layout) (t : Tree) → Carries carousel layout t → (b : Bytes) → module_in layout 1 ≡ Some b → 0 < length b
first_has_bytes carousel layout t carries (x ∷ xs) e = omega arith
first_has_bytes carousel layout t carries [] e =
    let empty : thing_in (module_in layout 1) (gateway_location carousel).key ≡ None = ap (λ o. thing_in o (gateway_location carousel).key) e in
    absurd (root_there t (nothing_is_nothing (node_at t []) (subst (λ o. IsNode o (node_at t [])) empty (carries.paths []))))

-- ---- the control sections alone

first_awaited : (carousel : ℕ) (ls : List Layout) (t : Tree) → Spelled → IsSecond carousel ls t → is_whole (section_in carousel ls 1 Dsi ∷ section_in carousel ls 1 (Dii 1) ∷ []) 1 ≡ false
first_awaited carousel ls t spelled is =
    ap (λ h. is_whole_in (turns_of (h ∷ as_heard (section_in carousel ls 1 (Dii 1)) ∷ [])) 1) (hears_item carousel ls 1 spelled is.sent Dsi is.listed)
    ∙ ap (λ h. is_whole_in (turns_of (ADsi (dsi_of carousel) ∷ h ∷ [])) 1) (hears_item carousel ls 1 spelled is.sent (Dii 1) (is.listed, inl refl, omega arith, omega arith))
    ∙ go (turns [] (dii_in carousel ls 1 1)) where
      go : (t : Bool) → is_whole_in (cond t (with_turning [] (dii_in carousel ls 1 1) false) []) 1 ≡ false
      go true = listed (lists (outline (dii_in carousel ls 1 1)) 1) where
        listed : (b : Bool) → whole_by [] 1 (cond b (Some (alone (dii_in carousel ls 1 1))) None) ≡ false
        listed true = line_awaited (dii_in carousel ls 1 1) (version_in ls 1) 1 (group_in (layout_at ls 1) 1) refl (λ b e. first_has_bytes carousel (layout_at ls 1) t is.carries b (in_layout 1 (layout_at ls 1) 1 b e))
        listed false = refl
      go false = refl

first_is_one : (carousel : ℕ) (layout : Layout) (cs : List Bytes) → is_whole cs 1 ≡ false → (p : PathNames) → first_missing carousel layout cs p ≡ Some 1
first_is_one carousel layout cs missing [] = rw missing refl
first_is_one carousel layout cs missing (n ∷ ns) = rw missing refl

control_tells : (carousel : ℕ) (ls : List Layout) (g : ℕ) → Spelled → IsSent carousel ls g → g < length ls
    → has_carousel (section_in carousel ls g Dsi ∷ section_in carousel ls g (Dii 1) ∷ []) ≡ true
control_tells carousel ls g spelled sent lt = and_from _ _
    (or_left _ _ (ap is_dsi (hears_item carousel ls g spelled sent Dsi lt)))
    (or_right _ _ (or_left _ _ (ap is_dii (hears_item carousel ls g spelled sent (Dii 1) (lt, inl refl, omega arith, omega arith)))))

-- the DIIs of a round begin with that of group 1
first_dii : (lines : List Line) → diis_of lines ≡ Dii 1 ∷ diis_from lines 2
unfolding groups_from
first_dii lines = refl

-- they are the first two sections of a cycle
cycle_sections : (carousel : ℕ) (t : Tree) → 1 ≤ length (layout_for carousel t) → (later : List Item) × (sections (publication carousel ones 1 t) ≡ map (section_in carousel (layouts_for carousel t) 1) (Dsi ∷ Dii 1 ∷ later))
cycle_sections carousel t some =
    let lines = lines_in (layout_for carousel t) in
    let section = section_in carousel (layouts_for carousel t) 1 in
    let later = later_rounds ones lines ++ [] in (
      (diis_from lines 2 ++ flat_map blocks_of lines) ++ later,
      published_sections carousel ones 1 t
          ∙ ap (map section) (first_round ones (layout_for carousel t) 0 are_ones some)
          ∙ ap (λ diis. map section (Dsi ∷ ((diis ++ flat_map blocks_of lines) ++ later))) (first_dii lines),
    )

control_sent : (carousel : ℕ) (t : Tree) → 1 ≤ length (layout_for carousel t) → AcceptedAreSent (publication carousel ones 1 t) (control_alone carousel t) (λ i k. Some i ≡ Some k)
control_sent carousel t some zero bytes e accepted = (0, refl, ap (λ (ss : List Bytes). slice_get ss 0) (cycle_sections carousel t some).1 ∙ e)
control_sent carousel t some (suc zero) bytes e accepted = (1, refl, ap (λ (ss : List Bytes). slice_get ss 1) (cycle_sections carousel t some).1 ∙ e)
control_sent carousel t some (suc (suc i)) bytes e accepted = cc

pub waits : Spelled → LayoutsAreLawful → EveryPublicationMeets → (carousel : ℕ) (t : Tree) (p : PathNames) → carousel < 4294967296 → IsPublishable t
    → answer_after (control_alone carousel t) p ≡ answers.NotYet 1
waits spelled lawful meets carousel t p lt is =
    let ls = layouts_for carousel t in
    let of : IsSecond carousel ls t = second_of lawful carousel t lt is in
    let m = meets.sections (control_alone carousel t) carousel ones 1 t (λ i. Some i) never_back lt is (control_sent carousel t of.sent.some) in
    subst (λ o. IsAnswer o (node_at t p) (answer_after (control_alone carousel t) p))
    (first_is_one carousel (layout_at ls 1) (control_alone carousel t) (first_awaited carousel ls t spelled of) p)
    (m.known p (control_tells carousel ls 1 spelled of.sent of.listed))
