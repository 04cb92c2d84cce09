-- What a run stands for, and what a token carries.
use Rattle.std.specs.Prelude.{Bool, true, if◌then◌else◌, Option, Some, None}
use Rattle.hum_syntax.specs.declared.keyword.Keyword.{Keyword}
use Rattle.hum_syntax.specs.declared.token.TokenKind.{TokenKind}
use Rattle.hum_syntax.specs.declared.token.TokenKind.TheVariants as k
use Rattle.hum_syntax.specs.Forms.{Bytes, is_number, number_of, is_in_range, keyword_of, is_wildcard, is_undefined, is_name, is_run, is_text}

-- what a run stands for that is no number
abbrev pub word_kind : Bytes → Option Keyword → TokenKind
word_kind run (Some word) = k.Keyword word
word_kind run None = if is_wildcard run then k.Wildcard else (if is_undefined run then k.Undefined else k.Name run)

-- what a run stands for
abbrev pub kind_of_run : Bytes → TokenKind
kind_of_run run = if is_number run then k.Number (number_of run) else word_kind run (keyword_of run)

-- a number is in range, and a name, a symbol and a text have their forms
abbrev pub is_carried : TokenKind → Bool
is_carried (k.Number z) = is_in_range z
is_carried (k.Name run) = is_name run
is_carried (k.Symbol run) = is_run run
is_carried (k.Text cs) = is_text cs
is_carried _ = true
