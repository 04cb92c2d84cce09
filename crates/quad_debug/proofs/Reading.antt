-- The commands of a script, and its first bad line, line by line.
use Rattle.std.proofs.Common.{◌≡◌, ℕ, ◌+◌, List, [], ◌∷◌, ◌++◌, map, Option, Some, None, true, false, refl, ap, ◌∙◌}
use Rattle.std.specs.List.{flat_map, position_from}
use Rattle.uasm_read.specs.Texts.{Bytes, lines_of}
use Rattle.quad_debug.specs.Script.{line_of, commands_in, is_bad, commands_of, bad_line}

-- the number of the first bad line, counted from n
unfoldable pub bad_from : ℕ → Bytes → Option ℕ
bad_from n text = position_from is_bad n (map line_of (lines_of text))

pub bad_from-one : (text : Bytes) → bad_from 1 text ≡ bad_line text
unfolding bad_from bad_line
bad_from-one text = refl

module _ (text line : Bytes) (lines : List Bytes) (is : lines_of text ≡ line ∷ lines) where
  commands-first : commands_of text ≡ commands_in (line_of line) ++ flat_map commands_in (map line_of lines)
  unfolding commands_of
  commands-first = ap (λ (ls : List Bytes). flat_map commands_in (map line_of ls)) is

  bad-first : (n : ℕ) → bad_from n text ≡ position_from is_bad n (line_of line ∷ map line_of lines)
  unfolding bad_from
  bad-first n = ap (λ (ls : List Bytes). position_from is_bad n (map line_of ls)) is

-- a line, and the text behind it
module _ (text line rest : Bytes) (is : lines_of text ≡ line ∷ lines_of rest) where
  pub commands-more : commands_of text ≡ commands_in (line_of line) ++ commands_of rest
  unfolding commands_of
  commands-more = commands-first text line (lines_of rest) is

  pub bad-more : (n : ℕ) → is_bad (line_of line) ≡ false → bad_from n text ≡ bad_from (n + 1) rest
  unfolding bad_from
  bad-more n good = bad-first text line (lines_of rest) is n ∙ rw good refl

-- the last line
module _ (text line : Bytes) (is : lines_of text ≡ line ∷ []) where
  pub commands-last : commands_of text ≡ commands_in (line_of line) ++ []
  commands-last = commands-first text line [] is

  pub bad-last : (n : ℕ) → is_bad (line_of line) ≡ false → bad_from n text ≡ None
  bad-last n good = bad-first text line [] is n ∙ rw good refl

-- a bad line is the first one
pub bad-here : (text line : Bytes) (lines : List Bytes) → lines_of text ≡ line ∷ lines → (n : ℕ) → is_bad (line_of line) ≡ true → bad_from n text ≡ Some n
bad-here text line lines is n bad = bad-first text line lines is n ∙ rw bad refl
