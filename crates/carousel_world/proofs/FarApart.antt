-- The reception of two generations that are 255 commits apart meets the premises.
use Rattle.std.proofs.Common.{◌≡◌, ℕ, zero, suc, ◌<◌, ◌≤◌, true, false, List, [], ◌∷◌, ◌++◌, length, map, take, drop, Some, refl, ap, sym, ◌∙◌, subst, slice_get, slice_index_or, slice_set, IsTrue, arith, lit<, lit≤}
use Rattle.std.specs.List.{Contains, range_with_len}
use Rattle.std.proofs.lemmas.Option.{same_Some, slice_get_within}
use Rattle.oc_bytes.specs.Cursor.{each_at, sized_at}
use Rattle.oc_bytes.specs.Grammar.{read}
use Rattle.path_tree.specs.Paths.{Bytes}
use Rattle.ddb_block.specs.Message.{message_at}
use Rattle.ddb_block.specs.Blocks.{block_at}
use Rattle.dsi_dii.specs.Controls.{dii_at, dsi_at}
use Rattle.biop_object.specs.ObjectReading.{object_at}
use Rattle.cycle_planner.specs.declared.Item.{Item}
use Rattle.cycle_planner.specs.declared.Item.TheVariants.{Dsi, Dii, Block}
use Rattle.generation.specs.Kept.{LayoutsAreLawful}
use Rattle.generation.specs.Lawful.{section_in}
use Rattle.path_resolver.specs.declared.answer.Answer.{Answer}
use Rattle.path_resolver.specs.declared.answer.Answer.TheVariants as answers
use Rattle.section_stream.specs.Cuts.{candidates, cuts}
use Rattle.section_stream.specs.Groups.{packets_of_groups, starts}
use Rattle.section_stream.specs.Packing.{idle}
use Rattle.tuner_core.specs.Heard.{is_accepted}
use Rattle.tuner_core.specs.LookBack.{answer_after}
use Rattle.carousel_world.specs.Broadcasts.{IsAscribed, section_groups, sections, sendings}
use Rattle.carousel_world.specs.Instances.{IsPremised, Tells, file_alone, far_apart, far_received, FarIsPremised}
use Rattle.carousel_world.specs.Headline.{block_there}
use Rattle.carousel_world.specs.Premises.{AcceptedAreSent, HasRound, IsWhole}
use Rattle.carousel_world.specs.Receptions.{label_after}
use Rattle.carousel_world.proofs.Premised.{never_back_by, pairs_by, near_within}
use Rattle.carousel_world.proofs.TwoGroups.{generations_lawful, all_own, blocks_after, each_round, of_two, like_first, is_like, groups_by, groups_like}

-- ---- what is sent, and what is received of it

-- the sections, by those of a first generation
abbrev pub given : List (List Bytes)
given = groups_by like_first far_apart.groups

are_given : section_groups far_apart ≡ given
are_given = groups_like 256 far_apart.groups refl

abbrev packet_in : List (List Bytes) → ℕ → Bytes
packet_in groups n = slice_index_or (packets_of_groups (idle 256 0) groups) n []

abbrev pub packets_from : List (List Bytes) → List Bytes
packets_from groups = map (packet_in groups) (range_with_len 0 7)
    ++ slice_set (packet_in groups 7) 100 7 ∷ map (packet_in groups) (8 ∷ 9 ∷ [])

abbrev pub packets : List Bytes
packets = packets_from given

same : far_received.packets ≡ packets
same = ap packets_from are_given

abbrev pub heard : List Bytes
heard = candidates 256 far_received.packets

abbrev pub all : List Bytes
all = candidates 256 packets

same_all : heard ≡ all
same_all = ap (candidates 256) same

-- ---- each accepted candidate was sent

abbrev pub section : ℕ → Item → Bytes
section g item = section_in 1 far_apart.layouts g item

first : (item : Item) → section 1 item ≡ like_first 1 item
first item = is_like 256 0 (lit< tt) item

last : (item : Item) → section 256 item ≡ like_first 256 item
last item = is_like 256 255 (lit< tt) item

abbrev pub From : ℕ → ℕ → Type 0
From i k = IsAscribed far_apart 256 far_received.packets (slice_get far_received.numbers) i k

-- candidate i begins in packet i, and is from section i, which is this item's
record IsOwn (i g : ℕ) (item : Item) : Type 0 where
  pub cut : slice_get (cuts 256 packets) i
      ≡ Some (record { packet = i; offset = 5; bytes = like_first g item })
  pub candidate : slice_get all i ≡ Some (like_first g item)
  pub came : slice_get far_received.numbers i ≡ Some i
  pub begins : slice_get (starts given) i ≡ Some (i, 5)
  pub sent : slice_get (sections far_apart) i ≡ Some (section g item)
  pub like : section g item ≡ like_first g item

its_cut : (i g : ℕ) (item : Item) → IsOwn i g item → From i i
its_cut i g item own = record {
  cut = record { packet = i; offset = 5; bytes = like_first g item };
  is = ap (λ ps. slice_get (cuts 256 ps) i) same ∙ own.cut;
  packet = i;
  came = own.came;
  begins = ap (λ gs. slice_get (starts gs) i) are_given ∙ own.begins;
}

abbrev IsSent : ℕ → Bytes → Type 0
IsSent i bytes = (k : ℕ) × From i k × (slice_get (sections far_apart) k ≡ Some bytes)

is_sent : (i g : ℕ) (item : Item) → IsOwn i g item
    → (bytes : Bytes) → slice_get heard i ≡ Some bytes → IsSent i bytes
is_sent i g item own bytes e =
    let here : Some (like_first g item) ≡ Some bytes =
    sym own.candidate ∙ sym (ap (λ cs. slice_get cs i) same_all) ∙ e in
    (i, its_cut i g item own, own.sent ∙ ap (λ (x : Bytes). Some x) own.like ∙ here)

fails : is_accepted (slice_index_or all 7 []) ≡ false
fails = refl

refused : (bytes : Bytes) → slice_get heard 7 ≡ Some bytes → IsTrue (is_accepted bytes) → ⊥
refused bytes e accepted =
    let here : slice_get all 7 ≡ Some bytes = sym (ap (λ cs. slice_get cs 7) same_all) ∙ e in
    let is : slice_index_or all 7 [] ≡ bytes =
    same_Some (slice_index_or all 7 []) bytes here in
    let bad : false ≡ true =
    subst IsTrue fails (subst (λ y. IsTrue (is_accepted y)) (sym is) accepted) in cc

of_dsi : IsOwn 0 1 Dsi
of_dsi = record {
  cut = refl;
  candidate = refl;
  came = refl;
  begins = refl;
  sent = refl;
  like = first Dsi;
}

of_first : IsOwn 1 1 (Dii 1)
of_first = record {
  cut = refl;
  candidate = refl;
  came = refl;
  begins = refl;
  sent = refl;
  like = first (Dii 1);
}

of_second : IsOwn 2 1 (Dii 2)
of_second = record {
  cut = refl;
  candidate = refl;
  came = refl;
  begins = refl;
  sent = refl;
  like = first (Dii 2);
}

of_file : IsOwn 3 256 (Block 140 0)
of_file = record {
  cut = refl;
  candidate = refl;
  came = refl;
  begins = refl;
  sent = refl;
  like = last (Block 140 0);
}

of_next_dsi : IsOwn 4 256 Dsi
of_next_dsi = record {
  cut = refl;
  candidate = refl;
  came = refl;
  begins = refl;
  sent = refl;
  like = last Dsi;
}

of_next : IsOwn 5 256 (Dii 1)
of_next = record {
  cut = refl;
  candidate = refl;
  came = refl;
  begins = refl;
  sent = refl;
  like = last (Dii 1);
}

of_joining : IsOwn 6 256 (Dii 2)
of_joining = record {
  cut = refl;
  candidate = refl;
  came = refl;
  begins = refl;
  sent = refl;
  like = last (Dii 2);
}

of_gateway : IsOwn 8 256 (Block 1 0)
of_gateway = record {
  cut = refl;
  candidate = refl;
  came = refl;
  begins = refl;
  sent = refl;
  like = last (Block 1 0);
}

of_last : IsOwn 9 256 (Block 140 0)
of_last = record {
  cut = refl;
  candidate = refl;
  came = refl;
  begins = refl;
  sent = refl;
  like = last (Block 140 0);
}

abbrev Sent : ℕ → Type 0
Sent i = (bytes : Bytes) → slice_get heard i ≡ Some bytes → IsTrue (is_accepted bytes)
    → IsSent i bytes

ten : length all ≡ 10
ten = refl

no_more : (i : ℕ) (bytes : Bytes) → 10 ≤ i → slice_get heard i ≡ Some bytes → ⊥
no_more i bytes le e =
    let inside : i < length all =
    slice_get_within all i bytes (sym (ap (λ cs. slice_get cs i) same_all) ∙ e) in
    omega (arith, le, inside, ten)

accepted_are_sent : AcceptedAreSent far_apart heard From
accepted_are_sent zero bytes e accepted = is_sent 0 1 Dsi of_dsi bytes e
accepted_are_sent (suc zero) bytes e accepted = is_sent 1 1 (Dii 1) of_first bytes e
accepted_are_sent (suc (suc zero)) bytes e accepted = is_sent 2 1 (Dii 2) of_second bytes e
accepted_are_sent (suc (suc (suc zero))) bytes e accepted =
    is_sent 3 256 (Block 140 0) of_file bytes e
accepted_are_sent (suc (suc (suc (suc i)))) bytes e accepted = later i bytes e accepted where
  last : (i : ℕ) → Sent (suc (suc (suc (suc (suc (suc (suc i)))))))
  last zero bytes e accepted = absurd (refused bytes e accepted)
  last (suc zero) bytes e accepted = is_sent 8 256 (Block 1 0) of_gateway bytes e
  last (suc (suc zero)) bytes e accepted = is_sent 9 256 (Block 140 0) of_last bytes e
  last (suc (suc (suc i))) bytes e accepted =
      absurd (no_more (suc (suc (suc (suc (suc (suc (suc (suc (suc (suc i)))))))))) bytes
      (omega arith) e)

  later : (i : ℕ) → Sent (suc (suc (suc (suc i))))
  later zero bytes e accepted = is_sent 4 256 Dsi of_next_dsi bytes e
  later (suc zero) bytes e accepted = is_sent 5 256 (Dii 1) of_next bytes e
  later (suc (suc zero)) bytes e accepted = is_sent 6 256 (Dii 2) of_joining bytes e
  later (suc (suc (suc i))) bytes e accepted = last i bytes e accepted

-- ---- a whole cycle

its_block : (after : List Bytes) (item : Item) → Contains after (like_first 256 item)
    → Contains after (section 256 item)
its_block after item has = subst (Contains after) (sym (last item)) has

first_round : HasRound 1 far_apart.layouts 256 1 all
first_round = record {
  before = take 5 all;
  after = drop 6 all;
  place = subst (λ x. all ≡ take 5 all ++ x ∷ drop 6 all) (sym (last (Dii 1))) refl;
  blocks = blocks_after 256 255 1 (drop 6 all) (lit< tt)
      (λ is. its_block (drop 6 all) (Block 1 0) (2, lit< tt, refl))
      (λ is. absurd (of_two (sym is)));
}

second_round : HasRound 1 far_apart.layouts 256 2 all
second_round = record {
  before = take 6 all;
  after = drop 7 all;
  place = subst (λ x. all ≡ take 6 all ++ x ∷ drop 7 all) (sym (last (Dii 2))) refl;
  blocks = blocks_after 256 255 2 (drop 7 all) (lit< tt)
      (λ is. absurd (of_two is))
      (λ is. its_block (drop 7 all) (Block 140 0) (2, lit< tt, refl));
}

whole : IsWhole 1 far_apart.layouts 256 all
whole = record {
  generation = lit< tt;
  gateway = its_block all Dsi (4, lit< tt, refl);
  rounds = each_round 256 255 all (lit< tt) first_round second_round;
  no_later = λ h j above below own has.
      let few : h < 257 = below in absurd (omega (arith, above, few));
}

premised : LayoutsAreLawful → IsPremised far_received 256
premised lawful = record {
  never_back = never_back_by far_received.numbers refl;
  heard = record {
    first = lit< tt;
    lawful = generations_lawful lawful 256 (lit≤ tt);
    in_order = record {
      items = all_own 256 (sendings far_apart) refl;
      order = pairs_by (sendings far_apart) refl;
    };
    accepted = accepted_are_sent;
    near = near_within 1 far_apart heard From refl;
  };
  whole = subst (IsWhole 1 far_apart.layouts 256) (sym same_all) whole;
}

-- ---- what is answered

-- after the first n of these packets
record Says (n label : ℕ) (answer : Answer) : Type 0 where
  pub label_is : label_after (candidates 256 (take n packets)) ≡ Some label
  pub answer_is : answer_after (candidates 256 (take n packets)) ((97 ∷ []) ∷ []) ≡ answer

tells : (n label : ℕ) (answer : Answer) → Says n label answer
    → Tells far_received n (Some label) answer
tells n label answer s = record {
  label_is = ap (λ ps. label_after (candidates 256 (take n ps))) same ∙ s.label_is;
  answer_is =
      ap (λ ps. answer_after (candidates 256 (take n ps)) ((97 ∷ []) ∷ [])) same ∙ s.answer_is;
}

before : Says 4 1 (answers.NotYet 1)
unfolding read message_at block_at each_at dii_at dsi_at object_at sized_at
before = record { label_is = refl; answer_is = refl }

turned : Says 6 256 (answers.NotYet 1)
unfolding read message_at block_at each_at dii_at dsi_at object_at sized_at
turned = record { label_is = refl; answer_is = refl }

damaged : Says 8 256 (answers.NotYet 1)
unfolding read message_at block_at each_at dii_at dsi_at object_at sized_at
damaged = record { label_is = refl; answer_is = refl }

after : Says 9 256 (answers.File (1 ∷ 2 ∷ 3 ∷ []))
unfolding read message_at block_at each_at dii_at dsi_at object_at sized_at
after = record { label_is = refl; answer_is = refl }

taken : block_there (candidates 256 (take 4 packets)) 140 0 ≡ Some file_alone
unfolding read message_at block_at each_at dii_at dsi_at object_at sized_at
taken = refl

kept : block_there (candidates 256 (take 7 packets)) 140 0 ≡ Some file_alone
unfolding read message_at block_at each_at dii_at dsi_at object_at sized_at
kept = refl

pub far : LayoutsAreLawful → FarIsPremised
far lawful = record {
  premised = premised lawful;
  before = tells 4 1 (answers.NotYet 1) before;
  taken = ap (λ ps. block_there (candidates 256 (take 4 ps)) 140 0) same ∙ taken;
  turned = tells 6 256 (answers.NotYet 1) turned;
  kept = ap (λ ps. block_there (candidates 256 (take 7 ps)) 140 0) same ∙ kept;
  damaged = tells 8 256 (answers.NotYet 1) damaged;
  after = tells 9 256 (answers.File (1 ∷ 2 ∷ 3 ∷ [])) after;
}
