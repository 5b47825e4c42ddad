-- Lines and scripts whose meaning is known, computed by the definitions.
use Rattle.session_script.proofs.Imports.{◌≡◌, List, [], ◌∷◌, Ok, Err, refl, codes, join_with_byte, Bytes, PathNames, Opening, Running, Closing, Unknown, Order, BadNumber, BadPath, BadHex, BadFate, Missing, Extra, Before, During, After, Put, Fill, Remove, MakeFolder, RemoveFolder, Commit, Draw, Open, Settle, Passed, Does, Ends, line_by, meaning_of}
use Rattle.hex.proofs.OnLiterals.{hex_on_literals}
use Rattle.ts_packet.specs.declared.Fate.TheVariants.{Keep, Lose, Flip}

x : PathNames
x = codes "x" ∷ []

written : List Bytes → Bytes
written lines = join_with_byte 10 lines

puts_nothing : line_by Opening (codes "put 1 /e -") ≡ Ok (Does (Put 1 (codes "e" ∷ []) []))
puts_nothing = refl

puts_bytes : line_by Running (codes "put 64 /a/b 6f6E65") ≡ Ok (Does (Put 64 (codes "a" ∷ codes "b" ∷ []) (codes "one")))
unfolding hex_on_literals
puts_bytes = refl

odd_digits : line_by Opening (codes "put 1 /e 6f6") ≡ Err BadHex
unfolding hex_on_literals
odd_digits = refl

fills : line_by Opening (codes "fill 1 / 16777217 255") ≡ Ok (Does (Fill 1 [] 16777217 255))
fills = refl

fills_too_much : line_by Opening (codes "fill 1 / 16777218 255") ≡ Err BadNumber
fills_too_much = refl

makes_a_folder : line_by Running (codes "mkdir 3 /x") ≡ Ok (Does (MakeFolder 3 x))
unfolding x
makes_a_folder = refl

removes_a_folder : line_by Opening (codes "rmdir 64 /x") ≡ Ok (Does (RemoveFolder 64 x))
unfolding x
removes_a_folder = refl

a_folder_with_bytes : line_by Opening (codes "mkdir 3 /x -") ≡ Err Extra
a_folder_with_bytes = refl

a_folder_of_nobody : line_by Opening (codes "rmdir /x") ≡ Err BadNumber
a_folder_of_nobody = refl

no_folder_at_the_end : line_by Closing (codes "mkdir 3 /x") ≡ Err Order
no_folder_at_the_end = refl

draws : line_by Opening (codes "draw 1048576 k1 d2 f1503") ≡ Ok (Does (Draw 1048576 (Keep ∷ Lose ∷ Lose ∷ Flip 1503 ∷ [])))
draws = refl

flips_past_the_end : line_by Opening (codes "draw 1 f1504") ≡ Err BadFate
flips_past_the_end = refl

two_spaces : line_by Opening (codes "open 1  /") ≡ Err BadPath
two_spaces = refl

a_space_more : line_by Opening (codes "commit 1 ") ≡ Err Extra
a_space_more = refl

a_word_less : line_by Opening (codes "open 1") ≡ Err Missing
a_word_less = refl

a_space_alone : line_by Opening (codes " ") ≡ Err Unknown
a_space_alone = refl

passed_over : line_by Closing (codes "#x") ≡ Ok Passed
passed_over = refl

order_first : line_by Closing (codes "put") ≡ Err Order
order_first = refl

finale_last : line_by Closing (codes "finale 2 /x") ≡ Ok (Ends (Open 2 x))
unfolding x
finale_last = refl

-- a script in which a second editor comes late
two_editors : meaning_of (written (codes "put 1 /x 31" ∷ codes "commit 1" ∷ codes "open 1 /x" ∷ codes "start" ∷ [] ∷ codes "remove 2 /x" ∷ codes "commit 1" ∷ codes "settle" ∷ codes "finale 1 /x" ∷ [] ∷ []))
    ≡ Ok (record {
      editors = 1 ∷ 2 ∷ [];
      readers = 1 ∷ [];
      lines = record { number = 1; stage = Before; act = Put 1 x (49 ∷ []) } ∷ record { number = 2; stage = Before; act = Commit 1 }
          ∷ record { number = 3; stage = Before; act = Open 1 x } ∷ record { number = 6; stage = During; act = Remove 2 x }
          ∷ record { number = 7; stage = During; act = Commit 1 } ∷ record { number = 8; stage = After; act = Settle } ∷ record { number = 9; stage = After; act = Open 1 x } ∷ [];
    })
unfolding hex_on_literals x written
two_editors = refl

third_line : meaning_of (written (codes "draw 1" ∷ codes "# open" ∷ codes "open 1 relative" ∷ codes "x" ∷ [])) ≡ Err (3, BadPath)
unfolding written
third_line = refl

second_start : meaning_of (written (codes "start" ∷ [] ∷ codes "start x" ∷ [])) ≡ Err (3, Order)
unfolding written
second_start = refl
