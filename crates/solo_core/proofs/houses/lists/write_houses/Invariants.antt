use Rattle.solo_core.proofs.Common.{length, slice_index, solo_n, ℕ, ◌%◌, ◌*◌, ◌+◌, ◌/◌, ◌<◌, ◌≡◌}
use Rattle.solo_core.specs.Work.{HasHouses}
use Rattle.solo_core.proofs.houses.lists.write_houses.Given as goal

abbrev pub invariant-loop-cell : goal.invariant-loop-cell
invariant-loop-cell l = record {
  few : length l.first_block ≡ 31;
  first : (j : ℕ) → j < l.cell → slice_index l.first_block j ≡ j / l.puzzle.r * solo_n l.puzzle + j % l.puzzle.r;
}

abbrev pub invariant-loop-place : goal.invariant-loop-place
invariant-loop-place l = record {
  long : length l.all ≡ length l.fn.all;
  rows : (j : ℕ) → j < l.place → slice_index l.all j ≡ j;
}

abbrev pub invariant-loop-h : goal.invariant-loop-h
invariant-loop-h l = record {
  long : length l.all ≡ length l.fn.all;
  houses : HasHouses l.puzzle (l.h * l.n) l.all;
}

abbrev pub invariant-loop-k : goal.invariant-loop-k
invariant-loop-k l = record {
  long : length l.all ≡ length l.fn.all;
  houses : HasHouses l.puzzle (l.h * l.n + l.k) l.all;
}
