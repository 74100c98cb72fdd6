-- What one row does, in reading order.
pub mod Rest
pub mod Judged
pub mod Writes
pub mod Laws
pub mod Used
pub mod Fits
pub mod Opens
pub mod Row
