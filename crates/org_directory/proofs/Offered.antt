-- What crates above cite of these proofs.
pub use Rattle.org_directory.proofs.Chains.{Objects, number, number-new, numbers-below}
pub use Rattle.org_directory.proofs.Keeping.{line-fits, line_fits}
pub use Rattle.org_directory.proofs.Keys.{key_is_itself, same_key}
pub use Rattle.org_directory.proofs.Places.{below-place, found-below, members-at, object-there, object_of-at, onward-at, onward-below, onward-few, place_of-key_at}
