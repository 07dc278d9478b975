use Rattle.maker_core.specs.LightMaking.{light_puzzle_of, lights_of, with_numbers}
use Rattle.maker_core.proofs.light_up.maker.is_alone.Goals as goal

pub is_unique-requires : goal.is_unique-requires
unfolding light_puzzle_of with_numbers lights_of
is_unique-requires c = rw (c.in_ok-rules.ensures.copied, c.in_ok-puzzle.ensures) c.requires.lit.bulbs.each_cell
