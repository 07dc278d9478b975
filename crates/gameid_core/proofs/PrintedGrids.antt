-- Printed grids are read back: cell by cell, row by row.
use Rattle.gameid_core.specs.Common.{AgreeUpTo, Bool, Extent, FitUpTo, Follows, IsAsShown, IsLight, IsLightCell, IsPrinted, IsReadOf, Light, LightCell, List, None, Option, Some, White, [], add-one, ap, append_assoc, ap₂, arith, codes, common_steps, decimal_digit, drop, each_below, ext_get_or, false, get_or, get_or_default, get_or_past, if◌then◌else◌, length, mod-mul-add, refl, set, slice_get, slice_get-get_or, slice_index, suc, suc-mul, sym, take, true, zero, ℕ, ◌*◌, ◌++◌, ◌+◌, ◌-◌, ◌<◌, ◌==◌, ◌∙◌, ◌∷◌, ◌≡◌, ◌≢◌, ◌≤◌, ◌⊎◌}
use Rattle.std.proofs.Common.{◌↔◌}
use Rattle.gameid_core.specs.LightText.{light_symbol}
use Rattle.gameid_core.proofs.LineLaws.{all_at}

-- What is printed of a cell is read back: one byte for each cell, or a number.

-- the number of a place is below `values`
pub number_fits : (hides : ℕ → Type 0) (values : ℕ) (size : Extent) (g : List ℕ) (place : ℕ) → IsAsShown hides values size g
    → place < size.w * size.h → slice_index g place < values
number_fits hides values size g place s lt = grind (arith, common_steps)

-- a cell that is one of two symbols
pub symbol_read : (symbol other v : ℕ) {text : List ℕ} (after : List ℕ) {result : Option (ℕ × ℕ)}
    → v < 2 → (symbol == symbol) ≡ true → (other == symbol) ≡ false
    → ((byte : ℕ) (rest : List ℕ) → text ≡ byte ∷ rest → result ≡ Some ((if byte == symbol then 1 else 0), 1))
    → text ≡ (if v == 1 then symbol ∷ [] else (other ∷ [])) ++ after
    → result ≡ Some (v, length (if v == 1 then symbol ∷ [] else (other ∷ [])))
symbol_read symbol other zero after small same different read is = read other after is ∙ ap (λ (b : Bool). Some ((if b then 1 else 0), 1)) different
symbol_read symbol other (suc zero) after small same different read is = read symbol after is ∙ ap (λ (b : Bool). Some ((if b then 1 else 0), 1)) same
symbol_read symbol other (suc (suc v)) after small same different read is = absurd (omega arith)

-- a black cell is one byte
pub black_read : {cell : LightCell} {o : Option LightCell} {v : ℕ} (text after : List ℕ)
    {result : Option (ℕ × ℕ)} → o ≡ Some cell → cell ≢ White → IsLightCell cell → v ≡ 0
    → (1 ≤ length text → result ≡ Some (0, 1)) → text ≡ light_symbol o v ++ after → result ≡ Some (v, length (light_symbol o v))
black_read text after at black small none read is = grind (arith, common_steps, decimal_digit)

-- a white cell
pub white_read : {o : Option LightCell} (v : ℕ) (text after : List ℕ) (result : Option (ℕ × ℕ)) → o ≡ Some White → v < 2
    → ((byte : ℕ) (rest : List ℕ) → text ≡ byte ∷ rest → result ≡ Some ((if byte == 79 then 1 else 0), 1))
    → text ≡ light_symbol o v ++ after → result ≡ Some (v, length (light_symbol o v))
white_read v text after result at small read is = rw at (symbol_read 79 46 v after small refl refl read (rw at at is))

-- a cell without a tree
pub tent_read : (tree v : ℕ) (text after : List ℕ) (result : Option (ℕ × ℕ)) → (tree ≡ 1 → ⊥) → v < 2
    → ((byte : ℕ) (rest : List ℕ) → text ≡ byte ∷ rest → result ≡ Some ((if byte == 94 then 1 else 0), 1))
    → text ≡ (if tree == 1 then codes "T" else (if v == 1 then codes "^" else codes ".")) ++ after
    → result ≡ Some (v, length (if tree == 1 then codes "T" else (if v == 1 then codes "^" else codes ".")))
tent_read tree v text after result none small read is = grind (arith, symbol_read 94 46 v after small refl refl read)

-- the cell at a place of the grid, and that its number is small
pub light_known : {p : Light} {place : ℕ} {cell : LightCell} {cells : List LightCell} → IsLight p → place < p.size.w * p.size.h → cells ≡ p.cells
    → get_or cells place White ≡ cell → (slice_get p.cells place ≡ Some cell) × IsLightCell cell
light_known {p} {place} h lt same is = grind (arith, slice_get-get_or, all_at)

pub same_some : {a b : LightCell} {o : Option LightCell} → o ≡ Some a → o ≡ Some b → a ≡ b
same_some is also = cc

-- A row is read cell by cell: what is left of it is what is printed of the cells from there on, its line end and what
-- follows.

-- the texts of the n numbers from k on
unfoldable pub each_from : (ℕ → List ℕ) → ℕ → ℕ → List ℕ
each_from text k zero = []
each_from text k (suc n) = text k ++ each_from text (suc k) n

both_parts : (f : ℕ → List ℕ) (k n : ℕ) → each_below f (k + n) ≡ each_below f k ++ each_from f k n
unfolding each_below each_from
both_parts f k zero = grind (arith, common_steps)
both_parts f k (suc n) = grind (arith, common_steps, both_parts f (suc k) n)

pub from_zero : (f : ℕ → List ℕ) (n : ℕ) → each_below f n ≡ each_from f 0 n
unfolding each_below
from_zero f n = let e : n ≡ 0 + n = omega arith in ap (each_below f) e ∙ both_parts f 0 n

-- what is left of n texts from the k-th on, and a tail
abbrev pub LeftOf : (ℕ → List ℕ) → ℕ → List ℕ → ℕ → List ℕ → Type 0
LeftOf f n tail k rest = (m : ℕ) → k + m ≡ n → rest ≡ each_from f k m ++ tail

pub all_rows_left : (f : ℕ → List ℕ) (n : ℕ) (tail text : List ℕ) → text ≡ each_below f n ++ tail → LeftOf f n tail 0 text
all_rows_left f n tail text is m e = grind (arith, common_steps, from_zero)

-- the next of them, and what is left after it
pub record NextRow (f : ℕ → List ℕ) (n : ℕ) (tail : List ℕ) (k : ℕ) (rest : List ℕ) : Type 0 where
  pub after : List ℕ
  pub split : rest ≡ f k ++ after
  pub left : LeftOf f n tail (k + 1) after

pub row_first : (f : ℕ → List ℕ) (n : ℕ) (tail rest : List ℕ) (k : ℕ) → k < n → LeftOf f n tail k rest → NextRow f n tail k rest
unfolding each_from
row_first f n tail rest k lt left =
    let m = n - k - 1 in
    record {
      after = each_from f (suc k) m ++ tail;
      split = left (suc m) (omega arith) ∙ append_assoc (f k) (each_from f (suc k) m) tail;
      left = λ j e. let here : suc k ≡ k + 1 = omega arith in let rest_of : m ≡ j = omega arith in
          ap₂ (λ (a b : ℕ). each_from f a b ++ tail) here rest_of;
    }

-- what is left of a row of w cells, from the x-th on
abbrev pub Left : (ℕ → List ℕ) → ℕ → List ℕ → ℕ → List ℕ → Type 0
Left f w more x rest = LeftOf f w (codes "\n" ++ more) x rest

pub all_left : (f : ℕ → List ℕ) (w : ℕ) (more text : List ℕ) → text ≡ (each_below f w ++ codes "\n") ++ more → Left f w more 0 text
all_left f w more text is m e = grind (arith, common_steps, from_zero)

-- what is left after a cell
pub record AfterCell (f : ℕ → List ℕ) (w : ℕ) (more : List ℕ) (x : ℕ) (rest : List ℕ) : Type 0 where
  pub after : List ℕ
  pub split : rest ≡ f x ++ after
  pub left : Left f w more (x + 1) after
  pub follows : ((x + 1 ≡ w) × (after ≡ codes "\n" ++ more)) ⊎ ((x + 1 < w) × ((t : List ℕ) × (after ≡ f (x + 1) ++ t)))

end_or_cell : (f : ℕ → List ℕ) {w : ℕ} (more : List ℕ) (x m : ℕ) {after : List ℕ} → x + 1 + m ≡ w → after ≡ each_from f (x + 1) m ++ (codes "\n" ++ more)
    → ((x + 1 ≡ w) × (after ≡ codes "\n" ++ more)) ⊎ ((x + 1 < w) × ((t : List ℕ) × (after ≡ f (x + 1) ++ t)))
unfolding each_from
end_or_cell f more x m e is = grind (arith, common_steps, append_assoc)

pub after_cell : (f : ℕ → List ℕ) (w : ℕ) (more rest : List ℕ) (x : ℕ) → x < w → Left f w more x rest → AfterCell f w more x rest
after_cell f w more rest x lt left =
    let r = row_first f w (codes "\n" ++ more) rest x lt left in
    let m = w - x - 1 in
    record { after = r.after; split = r.split; left = r.left; follows = end_or_cell f more x m (omega arith) (r.left m (omega arith)) }

pub none_left : (f : ℕ → List ℕ) (w : ℕ) (more rest : List ℕ) (x : ℕ) → x ≡ w → Left f w more x rest → rest ≡ 10 ∷ more
unfolding each_from
none_left f w more rest x e left = left 0 (omega arith)

-- what follows a cell, as the reader of cells wants it
pub cell_follows : (cell : ℕ → List ℕ) (size : Extent) (y w x : ℕ) (more rest : List ℕ) → w ≡ size.w
    → (a : AfterCell (λ k. cell (y * w + k)) w more x rest) → Follows cell size (y * w + x) a.after
cell_follows cell size y w x more rest wide a = grind (arith, mod-mul-add y w (x + 1))

pub fit_more : (hides : ℕ → Type 0) {values : ℕ} (g new : List ℕ) {n k v : ℕ} → n < length g
    → new ≡ set g n v → k ≡ n + 1 → FitUpTo hides values g n → v < values
    → (hides n → v ≡ 0) → FitUpTo hides values new k
fit_more hides g new within written next fit small zero_there place lt = grind (arith, common_steps)

pub agree_more : (g new h : List ℕ) {n k v : ℕ} → n < length g → new ≡ set g n v → k ≡ n + 1 → AgreeUpTo g h n → v ≡ slice_index h n → AgreeUpTo new h k
agree_more g new h within written next agree is place lt = grind (arith, common_steps)

-- what the reader of cells gives for the next cell
pub record KnownCell (f : ℕ → List ℕ) (w : ℕ) (more rest : List ℕ) (x v : ℕ) (result : Option (ℕ × ℕ)) : Type 0 where
  pub cell : AfterCell f w more x rest
  pub read : result ≡ Some (v, length (f x))

pub known_cell : (cell : ℕ → List ℕ) (size : Extent) (y : ℕ) {w x v : ℕ} (more : List ℕ) {rest : List ℕ} {result : Option (ℕ × ℕ)} → w ≡ size.w → x < w
    → Left (λ k. cell (y * w + k)) w more x rest
    → ((after : List ℕ) → Follows cell size (y * w + x) after → rest ≡ cell (y * w + x) ++ after → result ≡ Some (v, length (cell (y * w + x))))
    → KnownCell (λ k. cell (y * w + k)) w more rest x v result
known_cell cell size y {w} {x} more {rest} wide lt left reads =
    let a = after_cell (λ k. cell (y * w + k)) w more rest x lt left in
    record { cell = a; read = reads a.after (cell_follows cell size y w x more rest wide a) a.split }

-- the cell was read: what is left after it, and the number
pub cell_read : {f : ℕ → List ℕ} {w x v : ℕ} (value count : ℕ) {m : ℕ} {more rest : List ℕ} {result : Option (ℕ × ℕ)} → KnownCell f w more rest x v result
    → result ≡ Some (value, count) → m ≡ length rest → Left f w more (x + 1) (take (m - count) (drop count rest)) × (value ≡ v)
cell_read value count known is all = grind (arith, common_steps)

-- the cell is always read
pub cell_not_missed : {f : ℕ → List ℕ} {w x v : ℕ} {more rest : List ℕ} {result : Option (ℕ × ℕ)} → KnownCell f w more rest x v result → result ≡ None → ⊥
cell_not_missed known none = grind (arith, common_steps)

pub next_row : (y w : ℕ) → (y + 1) * w ≡ y * w + w
next_row y w = grind (arith, common_steps, add-one, suc-mul)

pub in_grid : (size : Extent) (y w x cells : ℕ) → w ≡ size.w → x < w → y < size.h → cells ≡ size.w * size.h → y * w + x < cells
in_grid size y w x cells wide lt below all = grind arith

-- A grid is read row by row: it agrees so far with every grid whose printed form the text begins with, so in the end it
-- is the only one.

-- numbers that fit are a grid
pub is_shown : {hides : ℕ → Type 0} {values : ℕ} {size : Extent} {g : List ℕ} (y : ℕ) → size.h ≤ y → y ≤ size.h → length g ≡ size.w * size.h
    → FitUpTo hides values g (y * size.w) → IsAsShown hides values size g
is_shown y over under cells fit = grind (arith, get_or_default, get_or_past)

-- grids that agree are the same
pub same_grid : (hides : ℕ → Type 0) (values : ℕ) (size : Extent) (g h : List ℕ) (y : ℕ) → size.h ≤ y → y ≤ size.h → length g ≡ size.w * size.h
    → IsAsShown hides values size h → AgreeUpTo g h (y * size.w) → g ≡ h
same_grid hides values size g h y over under cells shown agree = grind (arith, ext_get_or 0 g h (cells ∙ sym shown.grid.each_cell))

-- the text, with a line end after it, begins with each printed form that it is
pub begins_with_form : (text ended printed : List ℕ) → ended ≡ text ++ codes "\n" → IsPrinted text printed → (more : List ℕ) × (ended ≡ printed ++ more)
begins_with_form text ended printed is form = grind (arith, common_steps)

pub either_form : {front ended bytes printed text : List ℕ} (n : ℕ) → front ≡ text ++ codes "\n"
    → ended ≡ text ++ codes "\n" → n ≡ length text → bytes ≡ printed
    → ((take n front ≡ bytes) ⊎ (ended ≡ bytes)) ↔ IsPrinted text printed
either_form n is same all form = (λ one. grind (arith, common_steps), λ one. grind (arith, common_steps))

-- What was read of the text with a line end after it is what the text is the printed form of.
module _ {hides : ℕ → Type 0} {values : ℕ} {size : Extent} (printed : List ℕ → List ℕ) (text : List ℕ) {ended : List ℕ} {field : Option (List ℕ)}
    (is : ended ≡ text ++ codes "\n") (reads : (g : List ℕ) (more : List ℕ) → IsAsShown hides values size g → ended ≡ printed g ++ more → field ≡ Some g) where
  pub none_read : field ≡ None → IsReadOf hides values size (λ g. IsPrinted text (printed g)) None
  none_read none g shown form = let more = begins_with_form text ended (printed g) is form in absurd (cc (reads g more.0 shown more.1, none))

  only_read : {found : List ℕ} → field ≡ Some found → (g : List ℕ) → IsAsShown hides values size g → IsPrinted text (printed g) → found ≡ g
  only_read some g shown form = let more = begins_with_form text ended (printed g) is form in cc (reads g more.0 shown more.1, some)

  pub one_read : {found : List ℕ} → field ≡ Some found → IsAsShown hides values size found → IsPrinted text (printed found)
      → IsReadOf hides values size (λ g. IsPrinted text (printed g)) (Some found)
  one_read some shown form = (shown, form, only_read some)

  pub other_read : {found : List ℕ} → field ≡ Some found → (IsPrinted text (printed found) → ⊥) → IsReadOf hides values size (λ g. IsPrinted text (printed g)) None
  other_read some other g shown form = grind (arith, common_steps, only_read)
