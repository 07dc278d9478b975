pub mod Neighbours
pub mod NeighboursLaws
pub mod Listed
pub mod ListedLaws
