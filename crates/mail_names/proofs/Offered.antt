-- What crates above cite of these proofs.
pub use Rattle.mail_names.proofs.Digits.{digit_in_range, not_some, one_more, own, so_far, whole}
pub use Rattle.mail_names.proofs.Numbers.{one_item_name}
