-- What a clause says of a front.
use Rattle.std.specs.Prelude.{List}
use Rattle.logbook.specs.Pages.{Book}
use Rattle.shot_board.specs.declared.front.Front.{Front}

module _ {S : Type 0} where
  -- the list that the front has
  abbrev pub shots_in : Front S → List S
  shots_in f = f.seen.log

  -- the board whose list it is a beginning of
  abbrev pub front_board : Front S → Book
  front_board f = f.seen.book
