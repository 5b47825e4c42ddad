-- A reception in which a block is carried over a turn meets the premises.
use Rattle.std.proofs.Common.{◌≡◌, ℕ, zero, suc, ◌<◌, true, false, List, [], ◌∷◌, take, Some, refl, ap, sym, ◌∙◌, subst, slice_get, slice_index_or, IsTrue, arith, lit<, lit≤}
use Rattle.std.proofs.lemmas.Option.{same_Some}
use Rattle.std.specs.List.{Contains}
use Rattle.std.specs.Option.{unwrap_or}
use Rattle.std.proofs.lemmas.List.Elements.{All-nil, All-cons}
use Rattle.path_tree.specs.Paths.{Bytes}
use Rattle.path_tree.specs.Trees.{Tree}
use Rattle.biop_object.specs.Names.{module_in}
use Rattle.cycle_planner.specs.Cycle.{groups_from}
use Rattle.cycle_planner.specs.declared.Item.{Item}
use Rattle.cycle_planner.specs.declared.Item.TheVariants.{Dsi, Dii, Block}
use Rattle.ddb_block.specs.Message.{message_at}
use Rattle.ddb_block.specs.Blocks.{block_at}
use Rattle.oc_bytes.specs.Cursor.{each_at, sized_at}
use Rattle.oc_bytes.specs.Grammar.{read}
use Rattle.dsi_dii.specs.Controls.{dii_at, dsi_at}
use Rattle.biop_object.specs.ObjectReading.{object_at}
use Rattle.generation.specs.Kept.{LayoutsAreLawful}
use Rattle.generation.specs.Lawful.{ArePublishable, IsPublishable, layout_at, section_in}
use Rattle.path_resolver.specs.declared.answer.Answer.TheVariants as answers
use Rattle.section_stream.specs.Cuts.{candidates}
use Rattle.tuner_core.specs.Heard.{is_accepted}
use Rattle.carousel_world.specs.Broadcasts.{Broadcast, IsAscribed}
use Rattle.carousel_world.specs.Premises.{AcceptedAreSent, IsWhole}
use Rattle.carousel_world.specs.Instances.{tree_of, seven, cycles_with, Reception, carried_of, same_file, IsPremised, Tells, CarryingIsPremised}
use Rattle.carousel_world.proofs.Instances.{seven_publishable}
use Rattle.carousel_world.proofs.Premised.{cycles_given, never_back_by, heard_by, its_blocks, one_round}
use Rattle.carousel_world.proofs.Laid.{laid, same_laid}

abbrev pub trees : List Tree
trees = tree_of seven ∷ tree_of seven ∷ []

abbrev pub generations : List ℕ
generations = 1 ∷ 2 ∷ 2 ∷ 2 ∷ []

-- what is sent, with the layouts and the items of a cycle written out
abbrev pub given : Broadcast
given = cycles_given (laid seven seven) trees generations (Dsi ∷ Dii 1 ∷ Block 1 0 ∷ Block 1 1 ∷ [])

are_cycles : cycles_with (laid seven seven) trees generations ≡ given
unfolding groups_from
are_cycles = refl

same : given ≡ same_file
same = sym are_cycles ∙ ap (λ ls. cycles_with ls trees generations) (sym same_laid)

abbrev pub received : Reception
received = carried_of given

abbrev pub section : ℕ → Item → Bytes
section g item = section_in 1 given.layouts g item

abbrev pub all : List Bytes
all = candidates 256 received.packets

-- ---- each accepted candidate was sent

abbrev pub From : ℕ → ℕ → Type 0
From i k = IsAscribed given 256 received.packets (slice_get received.numbers) i k

of_dsi : From 0 0
of_dsi = record { cut = record { packet = 0; offset = 5; bytes = section 1 Dsi }; is = refl; packet = 0; came = refl; begins = refl }

of_dii : From 1 1
of_dii = record { cut = record { packet = 0; offset = 120; bytes = section 1 (Dii 1) }; is = refl; packet = 0; came = refl; begins = refl }

of_first_block : From 2 6
of_first_block = record { cut = record { packet = 2; offset = 12; bytes = section 2 (Block 1 0) }; is = refl; packet = 25; came = refl; begins = refl }

fails : is_accepted (slice_index_or all 3 []) ≡ false
fails = refl

of_second_dsi : From 4 8
of_second_dsi = record { cut = record { packet = 25; offset = 5; bytes = section 2 Dsi }; is = refl; packet = 48; came = refl; begins = refl }

of_second_dii : From 5 9
of_second_dii = record { cut = record { packet = 25; offset = 120; bytes = section 2 (Dii 1) }; is = refl; packet = 48; came = refl; begins = refl }

of_second_block : From 6 11
of_second_block = record { cut = record { packet = 27; offset = 61; bytes = section 2 (Block 1 1) }; is = refl; packet = 71; came = refl; begins = refl }

of_last_block : From 7 14
of_last_block = record { cut = record { packet = 28; offset = 12; bytes = section 2 (Block 1 0) }; is = refl; packet = 73; came = refl; begins = refl }

of_end : From 8 15
of_end = record { cut = record { packet = 50; offset = 61; bytes = section 2 (Block 1 1) }; is = refl; packet = 95; came = refl; begins = refl }

accepted_are_sent : AcceptedAreSent given all From
accepted_are_sent zero bytes e accepted = (0, of_dsi, e)
accepted_are_sent (suc zero) bytes e accepted = (1, of_dii, e)
accepted_are_sent (suc (suc zero)) bytes e accepted = (6, of_first_block, e)
accepted_are_sent (suc (suc (suc zero))) bytes e accepted =
    let is : slice_index_or all 3 [] ≡ bytes = same_Some (slice_index_or all 3 []) bytes e in
    let bad : false ≡ true = subst IsTrue fails (subst (λ y. IsTrue (is_accepted y)) (sym is) accepted) in cc
accepted_are_sent (suc (suc (suc (suc zero)))) bytes e accepted = (8, of_second_dsi, e)
accepted_are_sent (suc (suc (suc (suc (suc zero))))) bytes e accepted = (9, of_second_dii, e)
accepted_are_sent (suc (suc (suc (suc (suc (suc zero)))))) bytes e accepted = (11, of_second_block, e)
accepted_are_sent (suc (suc (suc (suc (suc (suc (suc zero))))))) bytes e accepted = (14, of_last_block, e)
accepted_are_sent (suc (suc (suc (suc (suc (suc (suc (suc zero)))))))) bytes e accepted = (15, of_end, e)
accepted_are_sent (suc (suc (suc (suc (suc (suc (suc (suc (suc i))))))))) bytes e accepted = cc

-- ---- a whole cycle

abbrev module_bytes : Bytes
module_bytes = unwrap_or (module_in (layout_at given.layouts 2) 1) []

abbrev pub later : List Bytes
later = section 2 (Block 1 1) ∷ section 2 (Block 1 0) ∷ section 2 (Block 1 1) ∷ []

each_block : (b : ℕ) → b < 2 → Contains later (section 2 (Block 1 b))
each_block zero lt = (1, lit< tt, refl)
each_block (suc zero) lt = (0, lit< tt, refl)
each_block (suc (suc b)) lt = absurd (omega (arith, lt))

whole : IsWhole 1 given.layouts 2 all
whole = record {
  generation = lit< tt;
  gateway = (0, lit< tt, refl);
  rounds = one_round 1 given.layouts 2 all module_bytes refl (record {
    before = take 5 all;
    after = later;
    place = refl;
    blocks = λ m b own item. its_blocks given.layouts 2 module_bytes later 1 2 refl refl each_block m b item;
  });
  no_later = λ h j above below own has. let few : h < 3 = below in absurd (omega (arith, above, few));
}

both : ArePublishable 1 (tree_of seven ∷ tree_of seven ∷ [])
both = record {
  carousel_id = lit< tt;
  few = lit≤ tt;
  each = All-cons IsPublishable (tree_of seven) (tree_of seven ∷ []) seven_publishable
      (All-cons IsPublishable (tree_of seven) [] seven_publishable (All-nil IsPublishable));
}

premised : LayoutsAreLawful → IsPremised received 2
premised lawful = record {
  never_back = never_back_by received.numbers refl;
  heard = heard_by lawful (laid seven seven) trees generations given all From same_laid both refl are_cycles refl refl accepted_are_sent;
  whole = whole;
}

-- ---- what is answered

before : Tells received 25 (Some 1) (answers.NotYet 1)
unfolding read message_at block_at each_at dii_at dsi_at object_at sized_at
before = record { label_is = refl; answer_is = refl }

turned : Tells received 27 (Some 2) (answers.NotYet 1)
unfolding read message_at block_at each_at dii_at dsi_at object_at sized_at
turned = record { label_is = refl; answer_is = refl }

carried : Tells received 28 (Some 2) (answers.File seven)
unfolding read message_at block_at each_at dii_at dsi_at object_at sized_at
carried = record { label_is = refl; answer_is = refl }

pub carrying : LayoutsAreLawful → CarryingIsPremised
carrying lawful = record {
  premised = subst (λ b. IsPremised (carried_of b) 2) same (premised lawful);
  before = subst (λ b. Tells (carried_of b) 25 (Some 1) (answers.NotYet 1)) same before;
  turned = subst (λ b. Tells (carried_of b) 27 (Some 2) (answers.NotYet 1)) same turned;
  carried = subst (λ b. Tells (carried_of b) 28 (Some 2) (answers.File seven)) same carried;
}
