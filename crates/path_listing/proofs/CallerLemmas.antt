-- What callers need of the walk: where it ends at a path, and how it goes on below a folder; and of lists of first elements, with more
-- elements.
pub use Rattle.path_listing.proofs.Parts.{walk_deep, walk_none, walk_folder, folder_is, below_met, below_new, met, unmet}
pub use Rattle.path_listing.proofs.Firsts.{rest_of, first_only-append, rest_of-one}
