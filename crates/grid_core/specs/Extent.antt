-- How many columns and rows a grid has.
use Rattle.std.specs.Prelude.{ℕ, ◌≤◌}

pub record Extent : Type 0 where
  pub w : ℕ
  pub h : ℕ

-- the most cells that a side has
abbrev pub max_side : ℕ
max_side = 120

-- each side is from 1 to the most
pub record IsExtent (e : Extent) : Type 0 where
  pub w_low : 1 ≤ e.w
  pub w_high : e.w ≤ max_side
  pub h_low : 1 ≤ e.h
  pub h_high : e.h ≤ max_side
