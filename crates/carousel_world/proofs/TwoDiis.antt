-- The reception of two generations of two DIIs each meets the premises.
use Rattle.std.proofs.Common.{◌≡◌, ℕ, zero, suc, ◌<◌, true, false, List, [], ◌∷◌, map, take, Some, refl, sym, subst, slice_get, slice_index_or, IsTrue, arith, lit<, lit≤}
use Rattle.std.proofs.lemmas.Option.{same_Some}
use Rattle.oc_bytes.specs.Cursor.{each_at, sized_at}
use Rattle.oc_bytes.specs.Grammar.{read}
use Rattle.path_tree.specs.Paths.{Bytes}
use Rattle.ddb_block.specs.Message.{message_at}
use Rattle.ddb_block.specs.Blocks.{block_at}
use Rattle.dsi_dii.specs.Controls.{dii_at, dsi_at}
use Rattle.biop_object.specs.ObjectReading.{object_at}
use Rattle.cycle_planner.specs.declared.Item.{Item}
use Rattle.cycle_planner.specs.declared.Item.TheVariants.{Dsi, Dii, Block}
use Rattle.generation.specs.Kept.{LayoutsAreLawful}
use Rattle.generation.specs.Lawful.{section_in}
use Rattle.path_resolver.specs.declared.answer.Answer.TheVariants as answers
use Rattle.section_stream.specs.Cuts.{candidates}
use Rattle.tuner_core.specs.Heard.{as_heard, is_accepted}
use Rattle.tuner_core.specs.Turns.{turns_of}
use Rattle.carousel_world.specs.Broadcasts.{IsAscribed, sendings}
use Rattle.carousel_world.specs.Headline.{waiting_in}
use Rattle.carousel_world.specs.Instances.{IsPremised, Tells, file_alone, two_diis, two_diis_received, JoiningIsPremised}
use Rattle.carousel_world.specs.Premises.{AcceptedAreSent, HasRound, IsWhole}
use Rattle.carousel_world.proofs.Premised.{never_back_by, pairs_by, near_within}
use Rattle.carousel_world.proofs.TwoGroups.{generations_lawful, all_own, blocks_after, each_round, of_two}

-- ---- each accepted candidate was sent

abbrev pub section : ℕ → Item → Bytes
section g item = section_in 1 two_diis.layouts g item

abbrev pub all : List Bytes
all = candidates 256 two_diis_received.packets

abbrev pub From : ℕ → ℕ → Type 0
From i k = IsAscribed two_diis 256 two_diis_received.packets (slice_get two_diis_received.numbers) i k

of_dsi : From 0 0
of_dsi = record { cut = record { packet = 0; offset = 5; bytes = section 1 Dsi }; is = refl; packet = 0; came = refl; begins = refl }

of_first : From 1 1
of_first = record { cut = record { packet = 1; offset = 5; bytes = section 1 (Dii 1) }; is = refl; packet = 1; came = refl; begins = refl }

of_second : From 2 2
of_second = record { cut = record { packet = 2; offset = 5; bytes = section 1 (Dii 2) }; is = refl; packet = 2; came = refl; begins = refl }

fails : is_accepted (slice_index_or all 3 []) ≡ false
fails = refl

of_file : From 4 4
of_file = record { cut = record { packet = 4; offset = 5; bytes = section 1 (Block 140 0) }; is = refl; packet = 4; came = refl; begins = refl }

of_next : From 5 5
of_next = record { cut = record { packet = 5; offset = 5; bytes = section 2 (Dii 1) }; is = refl; packet = 5; came = refl; begins = refl }

of_gateway : From 6 6
of_gateway = record { cut = record { packet = 6; offset = 5; bytes = section 2 (Block 1 0) }; is = refl; packet = 6; came = refl; begins = refl }

of_joining : From 7 7
of_joining = record { cut = record { packet = 7; offset = 5; bytes = section 2 (Dii 2) }; is = refl; packet = 7; came = refl; begins = refl }

of_last : From 8 8
of_last = record { cut = record { packet = 8; offset = 5; bytes = section 2 (Block 140 0) }; is = refl; packet = 8; came = refl; begins = refl }

accepted_are_sent : AcceptedAreSent two_diis all From
accepted_are_sent zero bytes e accepted = (0, of_dsi, e)
accepted_are_sent (suc zero) bytes e accepted = (1, of_first, e)
accepted_are_sent (suc (suc zero)) bytes e accepted = (2, of_second, e)
accepted_are_sent (suc (suc (suc zero))) bytes e accepted =
    let is : slice_index_or all 3 [] ≡ bytes = same_Some (slice_index_or all 3 []) bytes e in
    let bad : false ≡ true = subst IsTrue fails (subst (λ y. IsTrue (is_accepted y)) (sym is) accepted) in cc
accepted_are_sent (suc (suc (suc (suc zero)))) bytes e accepted = (4, of_file, e)
accepted_are_sent (suc (suc (suc (suc (suc zero))))) bytes e accepted = (5, of_next, e)
accepted_are_sent (suc (suc (suc (suc (suc (suc zero)))))) bytes e accepted = (6, of_gateway, e)
accepted_are_sent (suc (suc (suc (suc (suc (suc (suc zero))))))) bytes e accepted = (7, of_joining, e)
accepted_are_sent (suc (suc (suc (suc (suc (suc (suc (suc zero)))))))) bytes e accepted = (8, of_last, e)
accepted_are_sent (suc (suc (suc (suc (suc (suc (suc (suc (suc i))))))))) bytes e accepted = cc

-- ---- a whole cycle

abbrev after_first : List Bytes
after_first = section 2 (Block 1 0) ∷ section 2 (Dii 2) ∷ section 2 (Block 140 0) ∷ []

abbrev after_second : List Bytes
after_second = section 2 (Block 140 0) ∷ []

first_round : HasRound 1 two_diis.layouts 2 1 all
first_round = record {
  before = take 5 all;
  after = after_first;
  place = refl;
  blocks = blocks_after 2 1 1 after_first (lit< tt)
      (λ is. (0, lit< tt, refl))
      (λ is. absurd (of_two (sym is)));
}

second_round : HasRound 1 two_diis.layouts 2 2 all
second_round = record {
  before = take 7 all;
  after = after_second;
  place = refl;
  blocks = blocks_after 2 1 2 after_second (lit< tt)
      (λ is. absurd (of_two is))
      (λ is. (0, lit< tt, refl));
}

whole : IsWhole 1 two_diis.layouts 2 all
whole = record {
  generation = lit< tt;
  gateway = (0, lit< tt, refl);
  rounds = each_round 2 1 all (lit< tt) first_round second_round;
  no_later = λ h j above below own has. let few : h < 3 = below in absurd (omega (arith, above, few));
}

premised : LayoutsAreLawful → IsPremised two_diis_received 2
premised lawful = record {
  never_back = never_back_by two_diis_received.numbers refl;
  heard = record {
    first = lit< tt;
    lawful = generations_lawful lawful 2 (lit≤ tt);
    in_order = record {
      items = all_own 2 (sendings two_diis) refl;
      order = pairs_by (sendings two_diis) refl;
    };
    accepted = accepted_are_sent;
    near = near_within 0 two_diis all From refl;
  };
  whole = whole;
}

-- ---- what is answered

before : Tells two_diis_received 5 (Some 1) (answers.NotYet 1)
unfolding read message_at block_at each_at dii_at dsi_at object_at sized_at
before = record { label_is = refl; answer_is = refl }

awaited : Tells two_diis_received 7 (Some 2) (answers.NotYet 140)
unfolding read message_at block_at each_at dii_at dsi_at object_at sized_at
awaited = record { label_is = refl; answer_is = refl }

waiting : waiting_in (turns_of (map as_heard (candidates 256 (take 7 two_diis_received.packets)))) 140 0 ≡ Some file_alone
unfolding read message_at block_at each_at dii_at dsi_at object_at sized_at
waiting = refl

kept : Tells two_diis_received 8 (Some 2) (answers.File (1 ∷ 2 ∷ 3 ∷ []))
unfolding read message_at block_at each_at dii_at dsi_at object_at sized_at
kept = record { label_is = refl; answer_is = refl }

after : Tells two_diis_received 9 (Some 2) (answers.File (1 ∷ 2 ∷ 3 ∷ []))
unfolding read message_at block_at each_at dii_at dsi_at object_at sized_at
after = record { label_is = refl; answer_is = refl }

pub joining : LayoutsAreLawful → JoiningIsPremised
joining lawful = record { premised = premised lawful; before = before; awaited = awaited; waiting = waiting; kept = kept; after = after }
