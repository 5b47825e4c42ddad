-- Lists without the elements that are the same as one further in front.
pub use Rattle.path_listing.specs.Firsts.{first_only}
