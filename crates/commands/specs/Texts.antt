-- A text that is read, of a line or of a whole input. But for the limit, no contract of a run uses these words.
use Rattle.std.specs.Prelude.{◌≡◌, ◌<◌, ◌≤◌, ℕ, Bool, true, false, Option, Some, None, length, Vec}
use Rattle.commands.specs.Answers.{Text}
use Rattle.commands.specs.declared.ends.text.ReadText.{ReadText}

-- the most bytes of the text of a grid
abbrev pub text_limit : ℕ
text_limit = 16384

-- the text is all that was read, and there is none where that was too much
abbrev pub IsText : {Z : Type 0} → Option (Vec ℕ Z) → Text → Type 0
IsText None seen = text_limit < length seen
IsText (Some v) seen = (v.items ≡ seen) × (length seen ≤ text_limit)

-- the same of the bytes that are kept while it is read, up to a limit
abbrev pub IsKeptBy : ℕ → Bool → Text → Text → Type 0
IsKeptBy limit true bytes seen = limit < length seen
IsKeptBy limit false bytes seen = (bytes ≡ seen) × (length seen ≤ limit)

abbrev pub IsKeptText : ℕ → ReadText → Text → Type 0
IsKeptText limit text seen = IsKeptBy limit text.is_over text.bytes.items seen

-- from the one moment to the other the source gave a text of which this is so
pub record Given {I : Type 0} (gives : I → Text → I → Type 0) (from to : I) (holds : Text → Type 0)
    : Type 0 where
  pub seen : Text
  pub gave : gives from seen to
  pub is : holds seen
