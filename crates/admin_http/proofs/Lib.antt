pub mod Taking
pub mod Piecing
pub mod Heading
pub mod Doing
pub mod Ending
pub mod Settling
