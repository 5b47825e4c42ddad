-- The limits of a receiver are those of its cache.
pub use Rattle.module_cache.specs.Joining.{no_id_twice, is_small, is_within}
