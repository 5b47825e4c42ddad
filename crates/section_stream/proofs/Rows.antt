-- Groups at literal values.
use Rattle.std.proofs.Common.{◌≡◌, [], ◌∷◌, length, map, replicate, refl}
use Rattle.section_stream.specs.Cuts.{Bytes, candidates}
use Rattle.section_stream.specs.Packing.{idle, sent_of}
use Rattle.section_stream.specs.Groups.{layout_of, packets_of_groups, starts}
use Rattle.section_stream.proofs.Holding.{packed, shape}

-- 12 bytes that meet the condition
abbrev pub small : Bytes
small = 0 ∷ 0 ∷ 9 ∷ replicate 9 0

-- a counter that isn't below 16 makes a packet without a payload: nothing is cut
counters_are_below_16 : candidates 0 (packets_of_groups (idle 0 16) ((small ∷ []) ∷ [])) ≡ []
counters_are_below_16 = refl

abbrev pub three : Bytes
three = 0 ∷ 0 ∷ 109 ∷ replicate 109 0

places : starts ((three ∷ three ∷ three ∷ []) ∷ (small ∷ []) ∷ []) ≡ (0, 5) ∷ (0, 117) ∷ (1, 46) ∷ (2, 5) ∷ []
places = refl

steps_of_three : packed [] [] (three ∷ three ∷ three ∷ []) ≡ map shape (layout_of (three ∷ three ∷ three ∷ []))
unfolding sent_of
steps_of_three = refl

-- two sections of 4,096 bytes take 45 packets
many : length (layout_of (replicate 2 (replicate 4096 0))) ≡ 45
many = refl
