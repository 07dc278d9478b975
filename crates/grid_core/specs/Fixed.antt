-- What a list whose length stays ends as, where its items were lent.
use Rattle.std.specs.Prelude.{ℕ, List}
use Rattle.std.specs.Global.{Vec}
use Rattle.std.specs.Vec.{with_item, with_items}
use Rattle.std.specs.Borrow.{Lends, Fml, RattleType, MutBor, Array}
use Rattle.grid_core.specs.contracts.fixed.Fixed.{the_row}

module _ (T : RattleType) (f : MutBor (Vec T.Denot)) where
  -- once the borrow r ends, the items are those that r shows last, as many as there were
  abbrev pub lends_slice : MutBor (List T.Denot) → Fml
  lends_slice r = Lends (the_row T) (Array T 0) f r (with_items f.now)

  -- once the borrow r ends, the item at the index is the last value behind r
  abbrev pub lends_item : ℕ → MutBor T.Denot → Fml
  lends_item i r = Lends (the_row T) T f r (with_item f.now i)
