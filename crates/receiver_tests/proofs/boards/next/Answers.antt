use Rattle.std.proofs.Common.{◌≡◌, List, [], ◌∷◌, ◌++◌, Option, Some, None, IfSome, append-nil, subst, ◌∙◌}
use Rattle.std.specs.Option.{option_to_list}
use Rattle.shot_board.specs.Shots.{Each}
use Rattle.receiver_tests.proofs.boards.next.Goals as goal

module _ {A : Type 0} (P : A → Type 0) where
  -- what holds of each holds of the last, and of each before it
  each_push : (xs : List A) (x : A) → Each P (xs ++ x ∷ []) → Each P xs × P x
  each_push [] x h = (tt, h.0)
  each_push (y ∷ xs) x h = let rest = each_push xs x h.1 in ((h.0, rest.0), rest.1)

  -- the last, where there is one, and those that are left
  each_pop : (o : Option A) (all rest : List A) → all ≡ rest ++ option_to_list o → Each P all → IfSome o P × Each P rest
  each_pop None all rest is h = (tt, subst (Each P) (is ∙ append-nil rest) h)
  each_pop (Some x) all rest is h = let both = each_push rest x (subst (Each P) is h) in (both.1, both.0)

pub returns : goal.returns
returns c = let h = each_pop _ c.pop.result _ c.pop.new.self.items c.pop.ensures.items c.requires in record { viewer = h.0; rest = h.1 }
