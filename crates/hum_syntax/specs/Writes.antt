-- How tokens are written.
use Rattle.std.specs.Prelude.{List, [], ◌∷◌, ◌++◌, codes, fold}
use Rattle.std.specs.Fmt.{signed_decimal}
use Rattle.hum_syntax.specs.declared.token.TokenKind.{TokenKind}
use Rattle.hum_syntax.specs.declared.token.TokenKind.TheVariants as k
use Rattle.hum_syntax.specs.Forms.{Bytes, word_of, text_bytes}

-- a token's bytes
abbrev pub bytes_of : TokenKind → Bytes
bytes_of (k.Number z) = signed_decimal z
bytes_of (k.Keyword word) = word_of word
bytes_of k.Wildcard = codes "_"
bytes_of k.Undefined = codes "?"
bytes_of (k.Name name) = name
bytes_of (k.Symbol run) = codes "#" ++ run
bytes_of (k.Text cs) = codes "\"" ++ text_bytes cs ++ codes "\""
bytes_of k.CallParen = codes "("
bytes_of k.ParenLeft = codes "("
bytes_of k.ParenRight = codes ")"
bytes_of k.SquareLeft = codes "["
bytes_of k.SquareRight = codes "]"
bytes_of k.Comma = codes ","
bytes_of k.Dot = codes "."
bytes_of k.Equals = codes "="
bytes_of k.Colon = codes ":"
bytes_of k.Dollar = codes "$"
bytes_of k.Backslash = codes "\\"

-- what goes behind a text before its next token
abbrev pub blank_behind : Bytes → Bytes
blank_behind [] = []
blank_behind (b ∷ text) = codes " "

-- a text with one more token: a blank stands between them, but at the start and before a calling parenthesis
abbrev pub with_token : Bytes → TokenKind → Bytes
with_token text k.CallParen = text ++ bytes_of k.CallParen
with_token text kind = text ++ blank_behind text ++ bytes_of kind

-- a text with further tokens
abbrev pub written : Bytes → List TokenKind → Bytes
written = fold with_token

-- the text of tokens
abbrev pub text_of : List TokenKind → Bytes
text_of = written []
