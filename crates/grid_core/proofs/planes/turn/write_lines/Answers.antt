use Rattle.grid_core.proofs.Common.{List, arith, cases_eq, cases_lt, get_or-set_other, get_or-set_same, has_bit, inl, inr, le-ltb, length, length-map, length-set, lt-ltb, ltb, map, map-set, set, slice_index, ℕ, ◌&&◌, ◌*◌, ◌+◌, ◌<◌, ◌∙◌, ◌≡◌}
use Rattle.grid_core.proofs.planes.turn.write_lines.Goals as goal
use Rattle.grid_core.proofs.planes.turn.write_lines.Goals.{Joined-k-lines, then-k-lines, else-k-lines}

-- one more word is written
more : {W : Type 0} (bits : W → ℕ) (words : List W) (n end : ℕ) (word here : W) → n < length words
    → ((k place : ℕ) → k < n → has_bit (slice_index (map bits words) k) place ≡ (ltb k end && has_bit (bits word) place))
    → ((place : ℕ) → has_bit (bits here) place ≡ (ltb n end && has_bit (bits word) place))
    → (k place : ℕ) → k < n + 1 → has_bit (slice_index (map bits (set words n here)) k) place ≡ (ltb k end && has_bit (bits word) place)
more bits words n end word here lt written is k place less = rw (map-set bits words n here) (elim (cases_eq k n) [
  | inl e ↦ rw (e, get_or-set_same (map bits words) n (bits here) 0 (omega (arith, lt, length-map words bits))) (is place)
  | inr ne ↦ rw (get_or-set_other (map bits words) n k (bits here) 0 ne) (written k place (omega arith))
])

here : (g : _) (c : Joined-k-lines g) (place : ℕ)
    → has_bit (g.W.Word.bits c.if-k-lines.here) place ≡ (ltb c.loop-k.k (2 * c.args.lines) && has_bit (g.W.Word.bits c.args.word) place)
here g c place = grind (arith, then-k-lines, lt-ltb, else-k-lines, le-ltb, c.none-none.ensures)

pub loop-k-preserved : goal.loop-k-preserved
loop-k-preserved g c =
    let in_words : c.loop-k.k < length c.loop-k.words.items = omega (arith, c.loop-k-test.true, c.max-k-end.ensures, c.requires.few, c.requires.had_few, c.loop-k.invariant.long) in
    record {
      written = more g.W.Word.bits c.loop-k.words.items c.loop-k.k (2 * c.args.lines) c.args.word _ in_words
          c.loop-k.invariant.written
          (here g (goal.at.loop-k-preserved g c).Joined-k-lines);
      others = λ k le. rw (map-set g.W.Word.bits c.loop-k.words.items c.loop-k.k c.if-k-lines.here)
          (get_or-set_other (map g.W.Word.bits c.loop-k.words.items) c.loop-k.k k _ 0 (λ e. omega (arith, le, e))
          ∙ c.loop-k.invariant.others k (omega (arith, le)));
      long = length-set _ _ _ ∙ c.loop-k.invariant.long;
    }

pub returns-clause-written : goal.returns-clause-written
returns-clause-written g c = grind (arith, cases_lt, le-ltb, c.loop-k.invariant, c.loop-k-test.false, c.max-k-end.ensures, c.requires.others)
