-- The turns as the code keeps them, as a state.
use Rattle.tuner_core.specs.Stands.{TurnState}
use Rattle.tuner_core.specs.declared.turns.Turns.{Turns}

abbrev pub view_turns : Turns → TurnState
view_turns t = record { cache = t.cache; label = t.label; epoch = t.epoch }
