pub mod LinesOf
pub mod Made
