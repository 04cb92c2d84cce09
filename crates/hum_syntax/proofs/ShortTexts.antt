-- The text of tokens is short for what they weigh.
use Rattle.std.proofs.Common.{◌≡◌, ℕ, ◌+◌, ◌*◌, ◌<◌, ◌≤◌, Bool, true, false, List, [], ◌∷◌, ◌++◌, length, arith, length-append}
use Rattle.std.specs.Prelude.{if◌then◌else◌, ◌==◌, codes}
use Rattle.std.specs.Char.{encode_utf8}
use Rattle.hum_syntax.specs.declared.keyword.Keyword.{Keyword}
use Rattle.hum_syntax.specs.declared.keyword.Keyword.TheVariants as w
use Rattle.hum_syntax.specs.declared.token.TokenKind.{TokenKind}
use Rattle.hum_syntax.specs.declared.token.TokenKind.TheVariants as k
use Rattle.hum_syntax.specs.Forms.{Bytes, point_bytes, text_bytes, word_of}
use Rattle.hum_syntax.specs.Kinds.{is_carried}
use Rattle.hum_syntax.specs.Tokens.{weight_of, weight_of_kinds, is_callee}
use Rattle.hum_syntax.specs.Spells.{Kinds}
use Rattle.hum_syntax.specs.Writes.{bytes_of, blank_behind, with_token, written}
use Rattle.std.proofs.lemmas.Bool.{and_parts}
use Rattle.std.proofs.lemmas.Str.{length-encode, len_utf8_bounds}
use Rattle.hum_syntax.proofs.Decimals.{decimal_run}
use Rattle.hum_syntax.proofs.LexedTexts.{is_lexed, name_run, writable, parts_at}

-- a code point takes four bytes at most
encode-short : (c : ℕ) → length (encode_utf8 c) ≤ 4
encode-short c = let same = length-encode c in (let bounds = len_utf8_bounds c in omega arith)

at_most : (b : Bool) (us vs : Bytes) → length us ≤ 4 → length vs ≤ 4 → length (if b then us else vs) ≤ 4
at_most true us vs h h' = h
at_most false us vs h h' = h'

point-short : (c : ℕ) → length (point_bytes c) ≤ 4
point-short c =
    at_most (c == 10) (codes "\\n") _ (omega arith)
    (at_most (c == 9) (codes "\\t") _ (omega arith)
    (at_most (c == 34) (codes "\\\"") _ (omega arith) (at_most (c == 92) (codes "\\\\") (encode_utf8 c) (omega arith) (encode-short c))))

text-short : (cs : List ℕ) → length (text_bytes cs) ≤ 4 * length cs
text-short [] = omega arith
text-short (c ∷ cs) = omega (arith, length-append (point_bytes c) (text_bytes cs), point-short c, text-short cs)

word-short : (word : Keyword) → length (word_of word) ≤ 128
word-short w.KwLet = omega arith
word-short word = omega arith

pub some_weight : (kind : TokenKind) → 0 < weight_of kind
some_weight (k.Symbol run) = omega arith
some_weight (k.Text cs) = omega arith
some_weight _ = omega arith

bytes-short : (kind : TokenKind) → is_lexed kind ≡ true → length (bytes_of kind) ≤ 128 * weight_of kind
bytes-short (k.Number z) h = (decimal_run z (and_parts (is_carried (k.Number z)) true h).0).short
bytes-short (k.Keyword word) h = word-short word
bytes-short (k.Name t) h = (name_run t (and_parts (is_carried (k.Name t)) true h).0).short
bytes-short (k.Symbol t) h = omega arith
bytes-short (k.Text cs) h = omega (arith, length-append (text_bytes cs) (34 ∷ []), text-short cs)
bytes-short _ h = omega arith

blank-short : (t : Bytes) → length (blank_behind t) ≤ 1
blank-short [] = omega arith
blank-short (b ∷ t) = omega arith

spaced-short : (t us : Bytes) → length (t ++ blank_behind t ++ us) ≤ length t + 1 + length us
spaced-short t us = omega (arith, length-append (t ++ blank_behind t) us, length-append t (blank_behind t), blank-short t)

token-short : (t : Bytes) (kind : TokenKind) → length (with_token t kind) ≤ length t + 1 + length (bytes_of kind)
token-short t k.CallParen = omega (arith, length-append t (bytes_of k.CallParen))
token-short t kind = spaced-short t (bytes_of kind)

pub written-short : (called : Bool) (t : Bytes) (ks : Kinds) → writable called ks ≡ true → length (written t ks) ≤ length t + 129 * weight_of_kinds ks
written-short called t [] h = omega arith
written-short called t (kind ∷ ks) h =
    let is = parts_at called kind ks h in
    omega (arith, token-short t kind, bytes-short kind is.1, some_weight kind, written-short (is_callee kind) (with_token t kind) ks is.2)
