-- What a receiver holds, looking back over all that it has heard.
pub use Rattle.tuner_core.specs.Said.{is_sound, if_sound, sound_in, root_in, gateway_of, block_in, fits, bytes_if_fits, block_among}
pub use Rattle.tuner_core.specs.Turns.{held_after, snapshot_after, answer_after}
