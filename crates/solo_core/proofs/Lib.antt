pub mod Common
pub mod BitLemmas
pub mod WayLemmas
pub mod PartLemmas
pub mod TurnLemmas
pub mod RepeatLemmas
pub mod HouseLemmas
mod ListLemmas
pub mod SinglesLemmas
mod PeelLemmas
mod NarrowLemmas
mod SettledLemmas
mod OpenLemmas
mod OpenListLemmas
mod OpenBoardLemmas
mod SpotLemmas
mod NoteLemmas
mod OpenVisitLemmas
mod MateLemmas
mod CrossingLemmas
pub mod LawSets
