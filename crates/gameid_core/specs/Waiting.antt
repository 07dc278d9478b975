-- Bytes that wait to go into a text.
use Rattle.std.specs.Prelude.{ℕ}

-- how many may wait
abbrev pub piece_room : ℕ
piece_room = 64
