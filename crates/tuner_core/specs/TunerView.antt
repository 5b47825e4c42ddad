-- What the code keeps, as a state.
use Rattle.tuner_core.specs.Stands.{TunerState}
use Rattle.tuner_core.specs.declared.tuner.Tuner.TheInside.{Inside}

abbrev pub view_tuner : Inside → TunerState
view_tuner t = record { mark = t.mark; gateway = t.gateway; cache = t.turns.cache; label = t.turns.label; epoch = t.turns.epoch }
