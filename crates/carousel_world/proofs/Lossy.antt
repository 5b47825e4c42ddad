-- The run with losses and damage meets the premises.
use Rattle.std.proofs.Common.{◌≡◌, ℕ, zero, suc, ◌<◌, true, false, List, [], ◌∷◌, map, take, Some, Ok, refl, ap, sym, ◌∙◌, subst, slice_index_or, IsTrue, arith, lit<, lit≤}
use Rattle.std.specs.List.{Contains}
use Rattle.std.specs.Option.{unwrap_or}
use Rattle.std.proofs.lemmas.Option.{same_Some}
use Rattle.std.proofs.lemmas.List.Elements.{All-nil, All-cons}
use Rattle.path_tree.specs.Paths.{Bytes}
use Rattle.path_tree.specs.Trees.{Tree}
use Rattle.ts_packet.specs.declared.Fate.{Fate}
use Rattle.ts_packet.specs.declared.Fate.TheVariants.{Keep, Lose, Flip}
use Rattle.biop_object.specs.Names.{Layout, module_in}
use Rattle.cycle_planner.specs.Cycle.{groups_from}
use Rattle.cycle_planner.specs.declared.Item.{Item}
use Rattle.cycle_planner.specs.declared.Item.TheVariants.{Dsi, Dii, Block}
use Rattle.ddb_block.specs.Message.{message_at}
use Rattle.ddb_block.specs.Blocks.{block_at}
use Rattle.oc_bytes.specs.Cursor.{each_at, sized_at}
use Rattle.oc_bytes.specs.Grammar.{read}
use Rattle.dsi_dii.specs.Controls.{dii_at, dsi_at}
use Rattle.biop_object.specs.ObjectReading.{object_at}
use Rattle.generation.specs.Kept.{LayoutsAreLawful}
use Rattle.generation.specs.Layouts.{GenerationState}
use Rattle.generation_catalogue.specs.History.{trees_of}
use Rattle.generation_catalogue.specs.declared.entry.Entry.{Entry}
use Rattle.generation_catalogue.specs.declared.entry.Entry.TheVariants as entries
use Rattle.path_resolver.specs.declared.answer.Answer.TheVariants as answers
use Rattle.generation.specs.Lawful.{ArePublishable, IsPublishable, layout_at, section_in}
use Rattle.tuner_core.specs.Heard.{is_accepted}
use Rattle.carousel_world.specs.Broadcasts.{Broadcast, IsAscribed}
use Rattle.carousel_world.specs.Premises.{AcceptedAreSent, BlocksAreNear, IsHeardOf, IsWhole}
use Rattle.carousel_world.specs.Instances.{tree_of, cycles_with}
use Rattle.carousel_world.specs.World.{WorldState, Drawing, candidates_in, received_in, initial_world, happens, reply_to, replies_to, after_all}
use Rattle.carousel_world.specs.Events.{Step, Commit, Draw, Open}
use Rattle.carousel_world.specs.declared.event.Reply.{Reply}
use Rattle.carousel_world.specs.declared.event.Reply.TheVariants as replies
use Rattle.carousel_world.specs.Promises.{broadcast_of, group_of, from_of, IsUndamaged}
use Rattle.carousel_world.specs.Runs.{ones, the_path, puts, lossy_run, RunIsPremised}
use Rattle.carousel_world.proofs.Instances.{first_content, second_content, first_publishable, second_publishable}
use Rattle.carousel_world.proofs.Premised.{cycles_given, heard_by, its_blocks, one_round}
use Rattle.carousel_world.proofs.Laid.{generation_with, laid, changed_laid}
use Rattle.module_packer.specs.Kept.{kept_modules, least_with}

-- ---- the worlds on the way, written out

abbrev pub first_commit : Entry
first_commit = entries.Commit 1 (puts first_content) (Ok 1)

abbrev pub second_commit : Entry
second_commit = entries.Commit 2 (puts second_content) (Ok 2)

-- a draw of a whole cycle
abbrev pub whole_draw : ℕ → Entry
whole_draw generation = entries.Draw 1048576 generation 0 3

abbrev pub cycle_drawn : GenerationState → List Fate → Drawing
cycle_drawn g fates = record { generation = g; items = Dsi ∷ Dii 1 ∷ Block 1 0 ∷ []; fates = fates }

abbrev pub first_drawing : Drawing
first_drawing = cycle_drawn (generation_with 1 first_content 1) (Flip 800 ∷ Keep ∷ Lose ∷ [])

abbrev pub second_drawing : Drawing
second_drawing = cycle_drawn (generation_with 2 second_content 2) (Keep ∷ Flip 800 ∷ Keep ∷ [])

abbrev pub last_drawing : Drawing
last_drawing = cycle_drawn (generation_with 2 second_content 2) []

abbrev pub world_of : List Entry → List Drawing → WorldState
world_of es ds = record { catalogue = record { carousel = 1; weights = ones; entries = es }; drawings = ds }

abbrev pub committed_once : WorldState
committed_once = world_of (first_commit ∷ []) []

abbrev pub drawn_once : WorldState
drawn_once = world_of (first_commit ∷ whole_draw 1 ∷ []) (first_drawing ∷ [])

abbrev pub committed_twice : WorldState
committed_twice = world_of (first_commit ∷ whole_draw 1 ∷ second_commit ∷ []) (first_drawing ∷ [])

abbrev pub drawn_twice : WorldState
drawn_twice = world_of (first_commit ∷ whole_draw 1 ∷ second_commit ∷ whole_draw 2 ∷ []) (first_drawing ∷ second_drawing ∷ [])

abbrev pub after_run : WorldState
after_run = world_of (first_commit ∷ whole_draw 1 ∷ second_commit ∷ whole_draw 2 ∷ whole_draw 2 ∷ []) (first_drawing ∷ second_drawing ∷ last_drawing ∷ [])

-- ---- what is sent: three whole cycles

abbrev pub trees : List Tree
trees = tree_of first_content ∷ tree_of second_content ∷ []

abbrev pub generations : List ℕ
generations = 1 ∷ 2 ∷ 2 ∷ []

abbrev pub sent : Broadcast
sent = cycles_given (laid first_content second_content) trees generations (Dsi ∷ Dii 1 ∷ Block 1 0 ∷ [])

are_cycles : cycles_with (laid first_content second_content) trees generations ≡ sent
unfolding groups_from
are_cycles = refl

abbrev pub sent_with : List Layout → Broadcast
sent_with ls = record { carousel = 1; trees = [] ∷ trees; layouts = ls; groups = map group_of after_run.drawings }

as_drawn : sent ≡ sent_with (laid first_content second_content)
as_drawn = refl

as_ruled : sent_with (laid first_content second_content) ≡ broadcast_of after_run
as_ruled = ap sent_with (sym changed_laid)

same : sent ≡ broadcast_of after_run
same = as_drawn ∙ as_ruled

abbrev pub section : ℕ → Item → Bytes
section g item = section_in 1 sent.layouts g item

abbrev pub all : List Bytes
all = candidates_in after_run

-- ---- each accepted candidate was sent

-- of this broadcast, as the run's packets came
abbrev pub FromIn : Broadcast → ℕ → ℕ → Type 0
FromIn b = IsAscribed b 256 (received_in after_run) (from_of after_run)

abbrev pub From : ℕ → ℕ → Type 0
From = FromIn sent

first_fails : is_accepted (slice_index_or all 0 []) ≡ false
first_fails = refl

of_first_dii : From 1 1
of_first_dii = record { cut = record { packet = 0; offset = 120; bytes = section 1 (Dii 1) }; is = refl; packet = 0; came = refl; begins = refl }

of_dsi : From 2 3
of_dsi = record { cut = record { packet = 2; offset = 5; bytes = section 2 Dsi }; is = refl; packet = 3; came = refl; begins = refl }

of_dii : From 3 4
of_dii = record { cut = record { packet = 2; offset = 120; bytes = section 2 (Dii 1) }; is = refl; packet = 3; came = refl; begins = refl }

of_last_dsi : From 5 6
of_last_dsi = record { cut = record { packet = 5; offset = 5; bytes = section 2 Dsi }; is = refl; packet = 6; came = refl; begins = refl }

of_last_dii : From 6 7
of_last_dii = record { cut = record { packet = 5; offset = 120; bytes = section 2 (Dii 1) }; is = refl; packet = 6; came = refl; begins = refl }

of_block : From 7 8
of_block = record { cut = record { packet = 6; offset = 12; bytes = section 2 (Block 1 0) }; is = refl; packet = 7; came = refl; begins = refl }

fails : is_accepted (slice_index_or all 4 []) ≡ false
fails = refl

refused : (i : ℕ) (bytes : Bytes) → is_accepted (slice_index_or all i []) ≡ false → slice_index_or all i [] ≡ bytes → IsTrue (is_accepted bytes) → ⊥
refused i bytes none is accepted = let bad : false ≡ true = subst IsTrue none (subst (λ y. IsTrue (is_accepted y)) (sym is) accepted) in cc

accepted_are_sent : AcceptedAreSent sent all From
accepted_are_sent zero bytes e accepted = absurd (refused 0 bytes first_fails (same_Some (slice_index_or all 0 []) bytes e) accepted)
accepted_are_sent (suc zero) bytes e accepted = (1, of_first_dii, e)
accepted_are_sent (suc (suc zero)) bytes e accepted = (3, of_dsi, e)
accepted_are_sent (suc (suc (suc zero))) bytes e accepted = (4, of_dii, e)
accepted_are_sent (suc (suc (suc (suc zero)))) bytes e accepted = absurd (refused 4 bytes fails (same_Some (slice_index_or all 4 []) bytes e) accepted)
accepted_are_sent (suc (suc (suc (suc (suc zero))))) bytes e accepted = (6, of_last_dsi, e)
accepted_are_sent (suc (suc (suc (suc (suc (suc zero)))))) bytes e accepted = (7, of_last_dii, e)
accepted_are_sent (suc (suc (suc (suc (suc (suc (suc zero))))))) bytes e accepted = (8, of_block, e)
accepted_are_sent (suc (suc (suc (suc (suc (suc (suc (suc i)))))))) bytes e accepted = cc

-- ---- a whole cycle

abbrev module_bytes : Bytes
module_bytes = unwrap_or (module_in (layout_at sent.layouts 2) 1) []

the_block : (b : ℕ) → b < 1 → Contains (section 2 (Block 1 0) ∷ []) (section 2 (Block 1 b))
the_block zero lt = (0, lit< tt, refl)
the_block (suc b) lt = absurd (omega (arith, lt))

whole : IsWhole 1 sent.layouts 2 all
whole = record {
  generation = lit< tt;
  gateway = (2, lit< tt, refl);
  rounds = one_round 1 sent.layouts 2 all module_bytes refl (record {
    before = take 6 all;
    after = section 2 (Block 1 0) ∷ [];
    place = refl;
    blocks = λ m b own item. its_blocks sent.layouts 2 module_bytes (section 2 (Block 1 0) ∷ []) 1 1 refl refl the_block m b item;
  });
  no_later = λ h j above below own has. let few : h < 3 = below in absurd (omega (arith, above, few));
}

both : ArePublishable 1 (tree_of first_content ∷ tree_of second_content ∷ [])
both = record {
  carousel_id = lit< tt;
  few = lit≤ tt;
  each = All-cons IsPublishable (tree_of first_content) (tree_of second_content ∷ []) first_publishable
      (All-cons IsPublishable (tree_of second_content) [] second_publishable (All-nil IsPublishable));
}

-- ---- the premises

undamaged : LayoutsAreLawful → IsUndamaged after_run
undamaged lawful =
    let heard : IsHeardOf sent all From = heard_by lawful (laid first_content second_content) trees generations sent all From changed_laid both refl are_cycles refl refl accepted_are_sent in
    record {
      accepted = subst (λ b. AcceptedAreSent b all (FromIn b)) same accepted_are_sent;
      near = subst (λ b. BlocksAreNear b all (FromIn b)) same heard.near;
    }

whole_after : IsWhole 1 (broadcast_of after_run).layouts 2 all
whole_after = subst (λ (b : Broadcast). IsWhole 1 b.layouts 2 all) same whole

-- ---- each event in turn

-- the events lead from a world to another, and reply this
record Leads (w : WorldState) (events : List Step) (v : WorldState) (rs : List Reply) : Type 0 where
  after : after_all w events ≡ v
  replies : replies_to w events ≡ rs

one_more : (w v u : WorldState) (e : Step) (es : List Step) (r : Reply) (rs : List Reply) → happens w e ≡ v → reply_to w e ≡ r → Leads v es u rs → Leads w (e ∷ es) u (r ∷ rs)
one_more w v u e es r rs next reply later = record {
  after = ap (λ x. after_all x es) next ∙ later.after;
  replies = ap (λ x. x ∷ replies_to (happens w e) es) reply ∙ (ap (λ x. r ∷ replies_to x es) next ∙ ap (λ xs. r ∷ xs) later.replies);
}

abbrev commits_first : Step
commits_first = Commit 1 (puts first_content)

abbrev commits_second : Step
commits_second = Commit 2 (puts second_content)

abbrev draws_first : Step
draws_first = Draw 1048576 (Flip 800 ∷ Keep ∷ Lose ∷ [])

abbrev draws_second : Step
draws_second = Draw 1048576 (Keep ∷ Flip 800 ∷ Keep ∷ [])

abbrev draws_last : Step
draws_last = Draw 1048576 []

first_committed : happens (initial_world 1 ones) commits_first ≡ committed_once
unfolding kept_modules least_with groups_from
first_committed = refl

first_drawn : happens committed_once draws_first ≡ drawn_once
unfolding kept_modules least_with groups_from
first_drawn = refl

second_committed : happens drawn_once commits_second ≡ committed_twice
unfolding kept_modules least_with groups_from
second_committed = refl

second_drawn : happens committed_twice draws_second ≡ drawn_twice
unfolding kept_modules least_with groups_from
second_drawn = refl

last_drawn : happens drawn_twice draws_last ≡ after_run
unfolding kept_modules least_with groups_from
last_drawn = refl

first_number : reply_to (initial_world 1 ones) commits_first ≡ replies.Committed 1
unfolding kept_modules least_with groups_from
first_number = refl

first_items : reply_to committed_once draws_first ≡ replies.Drawn 1 0 3
unfolding kept_modules least_with groups_from
first_items = refl

second_number : reply_to drawn_once commits_second ≡ replies.Committed 2
unfolding kept_modules least_with groups_from
second_number = refl

second_items : reply_to committed_twice draws_second ≡ replies.Drawn 2 0 3
unfolding kept_modules least_with groups_from
second_items = refl

last_items : reply_to drawn_twice draws_last ≡ replies.Drawn 2 0 3
unfolding kept_modules least_with groups_from
last_items = refl

first_opened : reply_to drawn_once (Open 1 the_path) ≡ replies.Opened (Some 1) answers.NoCarousel
unfolding read message_at block_at each_at dii_at dsi_at object_at sized_at
first_opened = refl

second_opened : reply_to drawn_twice (Open 1 the_path) ≡ replies.Opened (Some 2) (answers.NotYet 1)
unfolding read message_at block_at each_at dii_at dsi_at object_at sized_at
second_opened = refl

last_opened : reply_to after_run (Open 2 the_path) ≡ replies.Opened (Some 2) (answers.File second_content)
unfolding read message_at block_at each_at dii_at dsi_at object_at sized_at
last_opened = refl

run : Leads (initial_world 1 ones) lossy_run after_run
    (replies.Committed 1 ∷ replies.Drawn 1 0 3 ∷ replies.Opened (Some 1) answers.NoCarousel ∷ replies.Committed 2 ∷ replies.Drawn 2 0 3
    ∷ replies.Opened (Some 2) (answers.NotYet 1) ∷ replies.Drawn 2 0 3 ∷ replies.Opened (Some 2) (answers.File second_content) ∷ [])
run =
    one_more (initial_world 1 ones) committed_once after_run commits_first _ (replies.Committed 1) _ first_committed first_number
    (one_more committed_once drawn_once after_run draws_first _ (replies.Drawn 1 0 3) _ first_drawn first_items
    (one_more drawn_once drawn_once after_run (Open 1 the_path) _ (replies.Opened (Some 1) answers.NoCarousel) _ refl first_opened
    (one_more drawn_once committed_twice after_run commits_second _ (replies.Committed 2) _ second_committed second_number
    (one_more committed_twice drawn_twice after_run draws_second _ (replies.Drawn 2 0 3) _ second_drawn second_items
    (one_more drawn_twice drawn_twice after_run (Open 1 the_path) _ (replies.Opened (Some 2) (answers.NotYet 1)) _ refl second_opened
    (one_more drawn_twice after_run after_run draws_last _ (replies.Drawn 2 0 3) _ last_drawn last_items
    (one_more after_run after_run after_run (Open 2 the_path) [] (replies.Opened (Some 2) (answers.File second_content)) [] refl last_opened (record { after = refl; replies = refl }))))))))

pub run_is_premised : LayoutsAreLawful → RunIsPremised
run_is_premised lawful = record {
  published = subst (λ (w : WorldState). ArePublishable 1 (trees_of w.catalogue)) (sym run.after) both;
  undamaged = subst IsUndamaged (sym run.after) (undamaged lawful);
  whole = subst (λ (w : WorldState). IsWhole 1 (broadcast_of w).layouts 2 (candidates_in w)) (sym run.after) whole_after;
  replies = run.replies;
}
