use Rattle.std.proofs.Common.{◌≡◌, ◌≤◌, length}
use Rattle.left_right.specs.Sides.{view}
use Rattle.std.specs.Vec.{vec_capacity}
use Rattle.shot_board.specs.Shots.{Each}
use Rattle.shot_board.specs.Inner.Seating.{IsSeated}
use Rattle.shot_board.proofs.opening.seat_all.Given as goal

abbrev pub invariant-loop-seated : goal.invariant-loop-seated
invariant-loop-seated g l =
    (l.writer.desk.shown ≡ l.initial.writer.desk.shown) × (l.writer.log ≡ l.initial.writer.log) × (l.writer.behind ≡ l.initial.writer.behind) × (view l.writer.desk.place ≡ view l.initial.writer.desk.place)
    × (length l.viewers.items ≡ l._seated) × (l.readers ≤ vec_capacity l.viewers) × Each (IsSeated l.shown.front l.shown.most) l.viewers.items
