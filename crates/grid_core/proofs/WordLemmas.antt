-- Words: what their operations say of their bits, and words of a list turned over.
use Rattle.grid_core.proofs.Common.{Bool, IsLeast, List, add-one, any_below, ap, arith, bit_and, bit_at, bit_at-lt, bit_at-pow_other, bit_at-pow_same, bit_at-suc, bit_at-zero, bit_at_above, bit_at_cat_low, bit_at_lowest, bit_at_ones, bit_at_ones_above, bit_at_xor, bit_of, bit_or, bit_xor, cases_Bool, cases_eq, cases_lt, common_steps, count_below, differ, div-add-mod', eq-eqb, eqb, eqb-false, false, false_from_ne_true, get_or, get_or-map, get_or-set_other, get_or-set_same, has_bit, inl, inr, le-ltb, length, length-map, lt-ltb, ltb, map, map-set, mod-lt, ne_eqb, not, one_shl, pow_pos, refl, same_from_bits_below, set, shr_and_one, slice_index, suc, sym, true, true≢false, zero, ℕ, ◌%◌, ◌&&◌, ◌*◌, ◌+◌, ◌-◌, ◌/◌, ◌<◌, ◌^◌, ◌||◌, ◌∙◌, ◌≡◌}
use Rattle.std.specs.Int.RustNames.{count_ones}
use Rattle.grid_core.proofs.BoardLemmas.{any_below-none, any_below-some, bits_both, bits_either, count_below-lt, count_ones-bits}

-- What the operations of words say of their bits.
pub both-bits : (a b p : ℕ) → has_bit (bit_and a b) p ≡ (has_bit a p && has_bit b p)
both-bits a b p = bits_both a b p

pub either-bits : (a b p : ℕ) → has_bit (bit_or a b) p ≡ (has_bit a p || has_bit b p)
either-bits a b p = bits_either a b p

pub differ-bits : (a b p : ℕ) → has_bit (bit_xor a b) p ≡ differ (has_bit a p) (has_bit b p)
unfolding differ
differ-bits a b p = let x = bit_at-lt a p in let y = bit_at-lt b p in let e = bit_at_xor a b p in grind (arith, common_steps)

pub but-bits : (a b p : ℕ) → has_bit (bit_and a (bit_xor a b)) p ≡ (has_bit a p && not (has_bit b p))
unfolding differ
but-bits a b p = grind (arith, common_steps, cases_Bool, both-bits, differ-bits)

pub zero-bits : (p : ℕ) → has_bit 0 p ≡ false
zero-bits p = ap (λ n. eqb n 1) (bit_at-zero p)

pub power-bits : (k p : ℕ) → has_bit (2 ^ k) p ≡ eqb p k
power-bits k p = grind (arith, common_steps, bit_at-pow_other, bit_at-pow_same, cases_eq, eq-eqb, ne_eqb)

pub one-bits : (w place p : ℕ) → place < w → has_bit (1 * 2 ^ place % 2 ^ w) p ≡ eqb p place
one-bits w place p lt = rw (one_shl place w lt) (power-bits place p)

pub all-bits : (w count p : ℕ) → count < w → has_bit (1 * 2 ^ count % 2 ^ w - 1) p ≡ ltb p count
all-bits w count p lt = rw (one_shl count w lt) (grind (arith, common_steps, cases_lt p count, bit_at_ones, bit_at_ones_above, lt-ltb, le-ltb))

pub full-bits : (w p : ℕ) → has_bit (2 ^ w - 1) p ≡ ltb p w
full-bits w p = grind (arith, common_steps, cases_lt p w, bit_at_ones, bit_at_ones_above, lt-ltb, le-ltb)

pub shifted-bit : (a p : ℕ) → eqb (bit_and (a / 2 ^ p) 1) 1 ≡ has_bit a p
shifted-bit a p = ap (λ n. eqb n 1) (shr_and_one a p)

next-bit : (a p : ℕ) → has_bit a (suc p) ≡ has_bit (a / 2) p
next-bit a p = ap (λ n. eqb n 1) (bit_at-suc a p)

pub back-bits : (a p : ℕ) → has_bit (a / 2) p ≡ has_bit a (p + 1)
back-bits a p = rw add-one (sym (next-bit a p))

-- one place on, without what does not fit
pub on-bits : (w a p : ℕ) → has_bit (a * 2 % 2 ^ w) p ≡ (ltb p w && (ltb 0 p && has_bit a (p - 1)))
on-bits w a p = elim (cases_lt p w) [
  | inl lt ↦ rw (lt-ltb p w lt) (low lt ∙ by p)
  | inr high ↦ rw (le-ltb p w high) (ap (λ n. eqb n 1) (bit_at_above (a * 2 % 2 ^ w) w p (mod-lt (a * 2) (pow_pos w)) high))
]
  where
    low : p < w → has_bit (a * 2 % 2 ^ w) p ≡ has_bit (a * 2) p
    low lt = sym (ap (λ n. has_bit n p) (sym (div-add-mod' (a * 2) (2 ^ w))) ∙ ap (λ n. eqb n 1) (bit_at_cat_low (a * 2 / 2 ^ w) w (a * 2 % 2 ^ w) p lt))

    by : (q : ℕ) → has_bit (a * 2) q ≡ (ltb 0 q && has_bit a (q - 1))
    by zero = grind (arith, common_steps, bit_at_lowest (a * 2))
    by (suc q) =
        let half : a * 2 / 2 ≡ a = omega arith in
        let same : suc q - 1 ≡ q = omega arith in
        rw (lt-ltb 0 (suc q) (omega arith), same) (next-bit (a * 2) q ∙ rw half refl)

-- of a number and the one before it the bits below the lowest differ, and that bit
dropped-bits : (least a p : ℕ) → has_bit a least ≡ true
    → ((q : ℕ) → q < least → has_bit a q ≡ false)
    → (has_bit a p && has_bit (a - 1) p) ≡ (has_bit a p && not (eqb p least))
dropped-bits zero a zero on before = grind (arith, common_steps, bit_at_lowest a, bit_at_lowest (a - 1))
dropped-bits zero a (suc p) on before = grind (arith, bit_at_lowest, next-bit, cases_Bool)
dropped-bits (suc least) a zero on before = rw (before 0 (omega arith)) refl
dropped-bits (suc least) a (suc p) on before =
    let even : a % 2 ≡ 0 = grind (arith, common_steps, bit_at_lowest a, before 0) in
    let half : (a - 1) / 2 ≡ a / 2 - 1 = omega arith in
    let e : eqb (suc p) (suc least) ≡ eqb p least = grind (arith, common_steps, cases_eq p least, eq-eqb, ne_eqb) in
    rw (next-bit (a - 1) p, next-bit a p, half, e)
    (dropped-bits least (a / 2) p (sym (next-bit a least) ∙ on) (λ q lt. sym (next-bit a q) ∙ before (suc q) (omega arith)))

pub lowest-dropped : (w a least p : ℕ) → IsLeast (has_bit a) w least → has_bit (bit_and a (a - 1)) p ≡ (has_bit a p && not (eqb p least))
lowest-dropped w a least p is = both-bits a (a - 1) p ∙ dropped-bits least a p is.has is.before

-- a word with no bit set is 0
no-bits : (w a : ℕ) → a < 2 ^ w → any_below (has_bit a) w ≡ false → a ≡ 0
no-bits w a fits none =
    same_from_bits_below w a 0 fits (pow_pos w)
    (λ p lt. off (bit_at a p) (bit_at-lt a p) (any_below-none (has_bit a) w none p lt)
    ∙ sym (bit_at-zero p))
  where
    off : (x : ℕ) → x < 2 → eqb x 1 ≡ false → x ≡ 0
    off x lt e = let ne = eqb-false x 1 e in omega arith

none-below : (w : ℕ) → any_below (has_bit 0) w ≡ false
none-below w = false_from_ne_true (any_below (has_bit 0) w) (λ on. let z = any_below-some (has_bit 0) w on in true≢false (sym z.2 ∙ zero-bits z.0))

-- the test of a word for a bit
pub some-bit_is : (w bits : ℕ) → bits < 2 ^ w → not (eqb bits 0) ≡ any_below (has_bit bits) w
some-bit_is w bits fits = grind (arith, common_steps, cases_Bool, none-below, cases_eq, eq-eqb, ne_eqb, no-bits)

-- a word with a bit is not 0
pub some-bit : (w bits : ℕ) → any_below (has_bit bits) w ≡ true → 0 < bits
some-bit w bits some = grind (arith, common_steps, cases_eq bits 0, none-below)

pub counted-bits : (w a : ℕ) → a < 2 ^ w → count_ones a ≡ count_below (has_bit a) w
counted-bits = count_ones-bits

pub ruleset word_laws =
    (zero-bits, on-bits, back-bits, both-bits, either-bits, differ-bits, but-bits, one-bits, all-bits, full-bits, shifted-bit, some-bit_is, some-bit, counted-bits)

-- Words of a list turned over.

-- a word of the list with some bits turned over
word_turned : (words : List ℕ) (i v word : ℕ) (which : ℕ → Bool) → v < 2 → 2 * i + v < length words
    → ((p : ℕ) → has_bit word p ≡ differ (has_bit (slice_index words (2 * i + v)) p) (which p))
    → (j u p : ℕ) → u < 2 → bit_of (set words (2 * i + v) word) j u p ≡ differ (bit_of words j u p) (eqb u v && (eqb j i && which p))
unfolding bit_of differ
word_turned words i v word which lv lt is j u p lu =
    grind (arith, common_steps, cases_eq j i, cases_eq u v, eq-eqb, ne_eqb, get_or-set_same, get_or-set_other, is p)

-- the same of words of any kind
pub turned_at : {W : Type 0} (bits : W → ℕ) (words : List W) (i v : ℕ) (old new : W)
    (which : ℕ → Bool) → v < 2 → 2 * i + v < length words → old ≡ get_or words (2 * i + v) old
    → ((p : ℕ) → has_bit (bits new) p ≡ differ (has_bit (bits old) p) (which p))
    → (j u p : ℕ) → u < 2 → bit_of (map bits (set words (2 * i + v) new)) j u p ≡ differ (bit_of (map bits words) j u p) (eqb u v && (eqb j i && which p))
turned_at bits words i v old new which lv lt read is j u p lu = grind (arith, get_or-map, map-set, word_turned, length-map)

-- one more crossing line
pub crossed : (before after first line v crossing : Bool) (all rest left : Bool)
    → before ≡ differ first (v && (line && (all && not rest))) → after ≡ differ before (v && (crossing && line)) → left ≡ (rest && not crossing)
    → (crossing ≡ true → rest ≡ true) → (rest ≡ true → all ≡ true)
    → after ≡ differ first (v && (line && (all && not left)))
unfolding differ
crossed before after first line v crossing all rest left is next e here inside = grind (arith, common_steps, cases_Bool)

pub fewer_left : (rest left : ℕ → Bool) (room crossing : ℕ) → crossing < room → rest crossing ≡ true → ((p : ℕ) → left p ≡ (rest p && not (eqb p crossing)))
    → count_below left room < count_below rest room
fewer_left rest left room crossing lt on is =
    count_below-lt left rest room crossing (λ p _ h. grind (arith, common_steps, is p)) lt (grind (arith, common_steps, is crossing, eq-eqb)) on

pub turned_none : (b : Bool) (q r s : Bool) → b ≡ differ b (q && (r && (s && not s)))
unfolding differ
turned_none b q r s = grind (arith, common_steps, cases_Bool)

pub turned_all : (b : Bool) (q r all rest : Bool) → rest ≡ false → differ b (q && (r && (all && not rest))) ≡ differ b (q && (r && all))
turned_all b q r all rest off = grind (arith, common_steps, cases_Bool)
