-- Examples, by computation.
use Rattle.std.proofs.Common.{◌≡◌, true, false, [], ◌∷◌, refl}
use Rattle.path_resolver.specs.Comparing.{same_answer}
use Rattle.path_resolver.specs.declared.answer.Answer.TheVariants as answers
use Rattle.watch_desk.specs.Laws.{PremisesMet, a_and_b, root_and_b}
use Rattle.watch_desk.specs.Notices.{notice}
use Rattle.watch_desk.specs.Inner.Showing.{changes, told_to_all}
use Rattle.watch_desk.specs.Wanting.{is_wanted}

-- the prefix itself is wanted, and so is what lies below it; a name that only begins alike isn't
wanted : is_wanted ((97 ∷ []) ∷ []) ((97 ∷ []) ∷ []) ≡ true
wanted = refl

below : is_wanted ((97 ∷ []) ∷ []) ((97 ∷ []) ∷ (98 ∷ []) ∷ []) ≡ true
below = refl

longer : is_wanted ((97 ∷ []) ∷ []) ((97 ∷ 98 ∷ []) ∷ []) ≡ false
longer = refl

above : is_wanted ((97 ∷ []) ∷ (98 ∷ []) ∷ []) ((97 ∷ []) ∷ []) ≡ false
above = refl

-- bytes, names and numbers are compared
other_bytes : same_answer (answers.File (1 ∷ 2 ∷ [])) (answers.File (1 ∷ 3 ∷ [])) ≡ false
other_bytes = refl

other_order : same_answer (answers.Folder ((97 ∷ []) ∷ (98 ∷ []) ∷ [])) (answers.Folder ((98 ∷ []) ∷ (97 ∷ []) ∷ [])) ≡ false
other_order = refl

other_place : same_answer (answers.Bad 1 7) (answers.Bad 1 8) ≡ false
other_place = refl

other_variant : same_answer (answers.NotYet 1) (answers.Dangling 1) ≡ false
other_variant = refl

-- before the first shot nothing is kept, and each path has no carousel
first : changes [] (answers.NoCarousel ∷ answers.NotYet 1 ∷ []) ≡ false ∷ true ∷ []
first = refl

second : told_to_all 0 root_and_b a_and_b (changes (answers.NotYet 1 ∷ answers.NotYet 1 ∷ []) (answers.NotYet 1 ∷ answers.NotYet 2 ∷ [])) ≡ notice 0 1 ∷ notice 1 1 ∷ []
second = refl

pub premises_met : PremisesMet
premises_met = record {
  told = refl;
  due = record { prefix = (98 ∷ []) ∷ []; path = (98 ∷ []) ∷ []; watches = refl; stands = refl; wanted = refl; changed = λ e. cc };
  same = refl;
  other_number = refl;
  nothing = λ e. cc;
}
