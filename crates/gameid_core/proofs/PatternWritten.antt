-- The written text of a puzzle of Pattern: it is short, and it spells the puzzle.
use Rattle.gameid_core.specs.Common.{AllByRecursion, AreClues, Extent, HasOneText, IsExtent, IsNumeral, IsPattern, IsPlain, List, Pattern, [], ap, arith, common_steps, decimal, digits_value-decimal, inl, join_with_byte, length, length-append, map, max_id, max_side, refl, size_text, subst, sym, used, value, ℕ, ◌*◌, ◌++◌, ◌+◌, ◌<◌, ◌^◌, ◌∙◌, ◌∷◌, ◌≡◌, ◌≤◌}
use Rattle.gameid_core.specs.PatternText.{IsWrittenPattern, SpellsPattern, clue_text, clues_text, pattern_text}
use Rattle.gameid_core.proofs.Reading.{decimal_plain, length_decimal, numeral, one_text, own, plain_decimal}

-- ---- how long

length_clue : (clue : List ℕ) → AllByRecursion (λ n. 0 < n) clue → used clue < 2 ^ 64 → 0 < length clue → length (clue_text clue) + 1 ≤ used clue
length_clue [] h small some = grind (arith, common_steps, length_decimal, length-append)
length_clue (x ∷ xs) h small some = grind (arith, common_steps, length_clue xs, length_decimal, length-append)

clues_short : (size : Extent) (line : ℕ) (clues : List (List ℕ)) → IsExtent size
    → AreClues size line clues
    → length (join_with_byte 47 (map clue_text clues)) ≤ (max_side + 1) * length clues
clues_short size line [] e h = omega arith
clues_short size line (c ∷ []) e h = grind (arith, common_steps, length_clue)
clues_short size line (c ∷ d ∷ clues) e h =
    grind (arith, common_steps, clues_short size (line + 1) (d ∷ clues) e h.1, length_clue)

pub pattern_short : (p : Pattern) → IsPattern p → length (pattern_text p) ≤ max_id
pattern_short p h = grind (arith, common_steps, length_decimal, clues_short)

-- ---- what it spells

pub texts_same : (clues : List (List ℕ)) → map (join_with_byte 46) (map (map decimal) clues) ≡ map clue_text clues
texts_same [] = refl
texts_same (c ∷ clues) = grind (arith, common_steps, texts_same clues)

numerals : (clue : List ℕ) → used clue < 2 ^ 64
    → AllByRecursion IsNumeral (map decimal clue) × AllByRecursion IsPlain (map decimal clue) × (map value (map decimal clue) ≡ clue)
numerals [] small = (tt, tt, refl)
numerals (n ∷ clue) small = grind (arith, numerals clue, digits_value-decimal own n, numeral n, decimal_plain n)

all_numerals : {size : Extent} (line : ℕ) (clues : List (List ℕ)) → IsExtent size → AreClues size line clues
    → AllByRecursion (AllByRecursion IsNumeral) (map (map decimal) clues) × AllByRecursion (AllByRecursion IsPlain) (map (map decimal) clues)
    × (map (map value) (map (map decimal) clues) ≡ clues)
all_numerals line [] e h = (tt, tt, refl)
all_numerals line (c ∷ clues) e h = grind (arith, numerals, all_numerals (line + 1) clues e h.1)

-- the written text has the form of a written text, and so it spells the puzzle
pub pattern_is_written : (p : Pattern) → IsPattern p → IsWrittenPattern (pattern_text p) p
pattern_is_written p h =
    let n = all_numerals 0 p.clues h.size h.clues in
    record {
      spells = record {
        short = pattern_short p h;
        puzzle = h;
        front = size_text p.size.w p.size.h;
        numerals = map (map decimal) p.clues;
        parts = ap (λ (ts : List (List ℕ)). size_text p.size.w p.size.h ++ 58 ∷ join_with_byte 47 ts) (sym (texts_same p.clues));
        size = inl refl;
        digits = n.0;
        clues = n.2;
      };
      both = refl;
      plain = n.1;
    }

clue_plain : (clue : List (List ℕ)) → AllByRecursion IsNumeral clue → AllByRecursion IsPlain clue
    → used (map value clue) < 2 ^ 64 → map decimal (map value clue) ≡ clue
clue_plain [] d h small = refl
clue_plain (num ∷ clue) d h small =
    grind (arith, common_steps, plain_decimal, clue_plain clue d.1 h.1 (omega (arith, small)))

clues_plain : {size : Extent} (line : ℕ) (clues : List (List (List ℕ))) → IsExtent size
    → AreClues size line (map (map value) clues) → AllByRecursion (AllByRecursion IsNumeral) clues
    → AllByRecursion (AllByRecursion IsPlain) clues
    → map (map decimal) (map (map value) clues) ≡ clues
clues_plain line [] e h d plain = refl
clues_plain line (clue ∷ clues) e h d plain =
    grind (arith, clue_plain, clues_plain (line + 1) clues e h.1 d.1 plain.1)

pub pattern_form : (text : List ℕ) (p : Pattern) → IsWrittenPattern text p → text ≡ pattern_text p
pattern_form text p w =
    let s = w.spells in
    let are : AreClues p.size 0 (map (map value) s.numerals) = subst (λ (cs : List (List ℕ)). AreClues p.size 0 cs) (sym s.clues) s.puzzle.clues in
    let same : map (map decimal) p.clues ≡ s.numerals = ap (map (map decimal)) (sym s.clues) ∙ clues_plain 0 s.numerals s.puzzle.size are s.digits w.plain in
    s.parts ∙ ap (λ (f : List ℕ). f ++ 58 ∷ clues_text s.numerals) w.both
    ∙ ap (λ (ns : List (List (List ℕ))). size_text p.size.w p.size.h ++ 58 ∷ clues_text ns)
    (sym same)
    ∙ ap (λ (ts : List (List ℕ)). size_text p.size.w p.size.h ++ 58 ∷ join_with_byte 47 ts)
    (texts_same p.clues)

pub pattern_one_text : HasOneText IsPattern IsWrittenPattern pattern_text
pattern_one_text = record { some = pattern_is_written; one = one_text _ _ pattern_form }

pub pattern_spelled : (p : Pattern) → IsPattern p → SpellsPattern (pattern_text p) p
pattern_spelled p h = (pattern_is_written p h).spells

pub ruleset laws = (common_steps, pattern_is_written, pattern_spelled, pattern_short)
