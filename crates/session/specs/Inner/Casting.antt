-- All seats of a session, after some of its events above `start`.
use Rattle.std.specs.Prelude.{◌≡◌, List, [], All}
use Rattle.path_resolver.specs.declared.shot.Shot.{Shot}
use Rattle.shot_board.specs.declared.shower.Shower.{Shower}
use Rattle.shot_board.specs.declared.shown.Shown.{Shown}
use Rattle.shot_board.specs.Showers.{shower_board, most_by, shown_by}
use Rattle.left_right.specs.declared.Absorb.{Ghosts}
use Rattle.station.specs.declared.station.Station.{Station}
use Rattle.carousel_world.specs.Events.{Step}
use Rattle.session.specs.declared.cast.Cast.{Cast}
use Rattle.session.specs.declared.whole.Start.{Start}
use Rattle.session.specs.Shown.{HasShown}
use Rattle.session.specs.Inner.Plans.{IsPlanOf}
use Rattle.session.specs.Inner.Acting.{EditorsStand, FeederStands, ReadersStand, Setting, IsViewerOf, draws_of}

-- the setting's board, which has room for a shot after each draw
pub record IsBoardOf {X : Type 0} {takes : Ghosts (Shown Shot) (Shown Shot) X} (setting : Setting) (shower : Shower Shot X takes) : Type 0 where
  pub board : shower_board shower ≡ setting.board
  pub most : most_by shower ≡ draws_of setting

-- all seats and the board, after these of the setting's events above `start`
pub record CastStands {X : _} {F : _} {g : _} {Y : Type 0} {takes : Ghosts (Shown Shot) (Shown Shot) Y}
    (setting : Setting) (s : Station X F g) (done : List Step) (shower : Shower Shot Y takes) (cast : Cast) : Type 0 where
  pub editors : EditorsStand setting s done cast.editors.items
  pub feeder : FeederStands setting s done (shown_by shower) cast.feeder
  pub readers : ReadersStand setting done (shown_by shower) cast.readers.items
  pub board : IsBoardOf setting shower

-- A start of the setting's session: the plan of its script, one shot that is shown, and nothing carried
pub record IsBegun (setting : Setting) (shots : List Shot) (start : Start) : Type 0 where
  pub planned : IsPlanOf setting.parts start.plan
  pub shown : HasShown [] start.downlink shots
  pub viewers_are : All (IsViewerOf setting shots) start.viewers.items
