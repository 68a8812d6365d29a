pub mod Panels
pub mod Size
