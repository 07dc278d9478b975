pub mod Below
pub mod Solutions
pub mod Lines
pub mod LineRules
pub mod LineLaws
pub mod Track
pub mod LinePlanes
