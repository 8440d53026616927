pub mod ReadItems
pub mod TableKeys
pub mod KeptTexts
pub mod BookForms
pub mod DeedForms
pub mod BookReading
pub mod Offered
