-- The texts that are refused.
use Rattle.std.specs.Prelude.{◌≡◌, ℕ, ◌<◌, length, Option}
use Rattle.hum_syntax.specs.Forms.{Bytes}
use Rattle.hum_syntax.specs.Places.{line_column}
use Rattle.hum_front.specs.Accepted.{text_limit, IsLexRefusal, IsParseRefusal, IsScopeRefusal}
use Rattle.hum_front.specs.declared.places.LineColumn.{LineColumn}
use Rattle.hum_command.specs.Texts.{IsText, Unreadable}
use Rattle.hum_command.specs.declared.refusal.TextRefusal.{TextRefusal}
use Rattle.hum_command.specs.declared.refusal.TextRefusal.TheVariants.{TooLong, At}
use Rattle.hum_command.specs.declared.refusal.TextCause.TheVariants.{Tokens, Tree, Name}
use Rattle.hum_command.specs.declared.answer.Answer.{Answer}
use Rattle.hum_command.specs.declared.answer.Answer.TheVariants as answer

-- the line and the column of a byte of the text
abbrev pub IsPlace : Bytes → ℕ → LineColumn → Type 0
IsPlace text at place = (place.line, place.column) ≡ line_column text at

-- Why a text is refused, with the line and the column of what is refused in it.
abbrev pub RefusesText : Bytes → TextRefusal → Type 0
RefusesText text TooLong = text_limit < length text
RefusesText text (At place (Tokens cause)) = (at : ℕ) × IsPlace text at place × IsLexRefusal text (record { at = at; cause = cause })
RefusesText text (At place Tree) = (at : ℕ) × IsPlace text at place × IsParseRefusal text at
RefusesText text (At place (Name cause name)) =
    (at : ℕ) × IsPlace text at place × IsScopeRefusal text (record { at = at; cause = cause }) name.items

-- ---- what the parts of `run` answer

-- why a text has no run
abbrev pub TextFails : Bytes → Answer → Type 0
TextFails text answer.NoMemory = Unit {0}
TextFails text (answer.TextRefused why) = RefusesText text why
TextFails text answer = ⊥

-- why a file has no run
abbrev pub StartFails : ℕ → ℕ → Option (Option Bytes) → Answer → Type 0
StartFails before now file answer.Unread = Unreadable before now file
StartFails before now file answer.NoMemory = Unit {0}
StartFails before now file (answer.TextRefused why) = (text : Bytes) × IsText file text × RefusesText text why
StartFails before now file answer = ⊥
