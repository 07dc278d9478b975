pub mod Common
mod WordLemmas
