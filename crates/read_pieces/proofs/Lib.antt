pub mod At
pub mod Reach
