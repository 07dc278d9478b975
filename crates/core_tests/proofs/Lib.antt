pub mod NeighboursLemmas
