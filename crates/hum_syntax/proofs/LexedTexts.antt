-- The text of tokens has these tokens, where each calling parenthesis comes behind a name, `)` or `]`.
use Rattle.std.proofs.Common.{◌≡◌, ℕ, ◌+◌, ◌<◌, ◌≤◌, Bool, true, false, List, [], ◌∷◌, ◌++◌, length, Option, Some, None, refl, sym, ap, ◌∙◌, subst, arith, append_assoc}
use Rattle.std.specs.Prelude.{not, nat_lt, nat_le, ◌&&◌, ◌||◌, is_none}
use Rattle.std.specs.List.{list_all}
use Rattle.std.proofs.lemmas.Bool.{and_parts, not-true, cond-true, cond-false, true≢false, ltb-true, leb-true}
use Rattle.std.proofs.lemmas.List.{append-nil}
use Rattle.hum_syntax.specs.declared.keyword.Keyword.{Keyword}
use Rattle.hum_syntax.specs.declared.keyword.Keyword.TheVariants as w
use Rattle.hum_syntax.specs.declared.token.TokenKind.{TokenKind}
use Rattle.hum_syntax.specs.declared.token.TokenKind.TheVariants as k
use Rattle.hum_syntax.specs.Forms.{Bytes, is_run_byte, is_run, is_number, number_of, is_name, is_text, keyword_of, is_wildcard, is_undefined, word_of}
use Rattle.hum_syntax.specs.Kinds.{is_carried, kind_of_run, word_kind}
use Rattle.hum_syntax.specs.Tokens.{Placed, placed, kinds_of, is_callee}
use Rattle.hum_syntax.specs.Lexes.{ends_or, is_large, is_reserved, Stands, run, symbol, text, mark, Spot, spot, blank, token, Leads, here, step, start, Lexes}
use Rattle.hum_syntax.specs.Spells.{Kinds}
use Rattle.hum_syntax.specs.Writes.{bytes_of, with_token, written, text_of}
use Rattle.hum_syntax.proofs.Decimals.{decimal_run}

-- ---- one token

-- a token that a text can have
abbrev pub is_lexed : TokenKind → Bool
is_lexed kind = is_carried kind && not (is_reserved kind)

abbrev pub is_call : TokenKind → Bool
is_call k.CallParen = true
is_call _ = false

-- no run goes on with the rest
abbrev Stops : Bytes → Type 0
Stops rest = ends_or (λ b. not (is_run_byte b)) rest ≡ true

-- a run that stands for a kind
pub record IsRunOf (us : Bytes) (kind : TokenKind) : Type 0 where
  pub some : 0 < length us
  pub each : list_all is_run_byte us ≡ true
  pub short : length us ≤ 128
  pub value : kind_of_run us ≡ kind
  pub small : is_large kind ≡ false
  pub open_to_all : is_reserved kind ≡ false

run_stands : (called : Bool) (us rest : Bytes) (kind : TokenKind) → IsRunOf us kind → Stops rest → Stands called us rest kind
run_stands called us rest kind is stops =
    subst (Stands called us rest) is.value
    (run (record { some = is.some; each = is.each; maximal = stops }) is.short
    (ap is_large is.value ∙ is.small) (ap is_reserved is.value ∙ is.open_to_all))

pub run_parts : (us : Bytes) → is_run us ≡ true → (0 < length us) × (list_all is_run_byte us ≡ true) × (length us ≤ 128)
run_parts us h =
    let front = and_parts (nat_lt 0 (length us) && nat_le (length us) 128) (list_all is_run_byte us) h in
    let ends = and_parts (nat_lt 0 (length us)) (nat_le (length us) 128) front.0 in
    (ltb-true 0 (length us) ends.0, front.1, leb-true (length us) 128 ends.1)

no_keyword : (found : Option Keyword) → is_none found ≡ true → found ≡ None
no_keyword None h = refl
no_keyword (Some word) h = absurd (true≢false (sym h))

pub name_run : (t : Bytes) → is_name t ≡ true → IsRunOf t (k.Name t)
name_run t h =
    let p = and_parts (is_run t && not (is_number t) && is_none (keyword_of t) && not (is_wildcard t)) (not (is_undefined t)) h in
    let q = and_parts (is_run t && not (is_number t) && is_none (keyword_of t)) (not (is_wildcard t)) p.0 in
    let r = and_parts (is_run t && not (is_number t)) (is_none (keyword_of t)) q.0 in
    let s = and_parts (is_run t) (not (is_number t)) r.0 in
    let is = run_parts t s.0 in
    record {
      some = is.0;
      each = is.1;
      short = is.2;
      value =
          cond-false (is_number t) (k.Number (number_of t)) (word_kind t (keyword_of t)) (not-true (is_number t) s.1)
          ∙ ap (word_kind t) (no_keyword (keyword_of t) r.1)
          ∙ cond-false (is_wildcard t) _ _ (not-true (is_wildcard t) q.1)
          ∙ cond-false (is_undefined t) _ _ (not-true (is_undefined t) p.1);
      small = refl;
      open_to_all = refl;
    }

number_run : (z : _) → is_carried (k.Number z) ≡ true → IsRunOf (bytes_of (k.Number z)) (k.Number z)
number_run z h =
    let is = decimal_run z h in
    let us = bytes_of (k.Number z) in
    record {
      some = is.some;
      each = is.each;
      short = is.short;
      value = cond-true (is_number us) (k.Number (number_of us)) (word_kind us (keyword_of us)) is.number ∙ ap k.Number is.value;
      small = ap not h;
      open_to_all = refl;
    }

keyword_run : (word : Keyword) → is_reserved (k.Keyword word) ≡ false → IsRunOf (word_of word) (k.Keyword word)
keyword_run w.KwAfter free = absurd (true≢false free)
keyword_run w.KwIn free = absurd (true≢false free)
keyword_run word free = record { some = omega arith; each = refl; short = omega arith; value = refl; small = refl; open_to_all = free }

wildcard_run : IsRunOf (bytes_of k.Wildcard) k.Wildcard
wildcard_run = record { some = omega arith; each = refl; short = omega arith; value = refl; small = refl; open_to_all = refl }

undefined_run : IsRunOf (bytes_of k.Undefined) k.Undefined
undefined_run = record { some = omega arith; each = refl; short = omega arith; value = refl; small = refl; open_to_all = refl }

stands : (kind : TokenKind) (rest : Bytes) → is_lexed kind ≡ true → is_call kind ≡ false → Stops rest → Stands false (bytes_of kind) rest kind
stands (k.Number z) rest h plain stops =
    run_stands false (bytes_of (k.Number z)) rest (k.Number z) (number_run z (and_parts (is_carried (k.Number z)) true h).0) stops
stands (k.Keyword word) rest h plain stops =
    run_stands false (word_of word) rest (k.Keyword word) (keyword_run word (not-true (is_reserved (k.Keyword word)) h)) stops
stands k.Wildcard rest h plain stops = run_stands false (bytes_of k.Wildcard) rest k.Wildcard wildcard_run stops
stands k.Undefined rest h plain stops = run_stands false (bytes_of k.Undefined) rest k.Undefined undefined_run stops
stands (k.Name t) rest h plain stops = run_stands false t rest (k.Name t) (name_run t (and_parts (is_name t) true h).0) stops
stands (k.Symbol t) rest h plain stops =
    let is = run_parts t (and_parts (is_run t) true h).0 in
    symbol (record { some = is.0; each = is.1; maximal = stops }) is.2
stands (k.Text cs) rest h plain stops = text (and_parts (is_text cs) true h).0
stands k.CallParen rest h plain stops = absurd (true≢false plain)
stands k.ParenLeft rest h plain stops = mark refl
stands k.ParenRight rest h plain stops = mark refl
stands k.SquareLeft rest h plain stops = mark refl
stands k.SquareRight rest h plain stops = mark refl
stands k.Comma rest h plain stops = mark refl
stands k.Dot rest h plain stops = mark refl
stands k.Equals rest h plain stops = mark refl
stands k.Colon rest h plain stops = mark refl
stands k.Dollar rest h plain stops = mark refl
stands k.Backslash rest h plain stops = mark refl

-- ---- many tokens

-- tokens that a text can have, behind one that may be called or not
abbrev pub writable : Bool → Kinds → Bool
writable called [] = true
writable called (kind ∷ ks) = (called || not (is_call kind)) && is_lexed kind && writable (is_callee kind) ks

-- what their text is behind another's
abbrev behind : Kinds → Bytes
behind [] = []
behind (k.CallParen ∷ ks) = bytes_of k.CallParen ++ behind ks
behind (kind ∷ ks) = 32 ∷ bytes_of kind ++ behind ks

behind_stops : (ks : Kinds) → Stops (behind ks)
behind_stops [] = refl
behind_stops (k.CallParen ∷ ks) = refl
behind_stops (kind ∷ ks) = refl

written-behind : (ks : Kinds) (b : ℕ) (t : Bytes) → written (b ∷ t) ks ≡ b ∷ t ++ behind ks
written-behind [] b t = ap (λ u. b ∷ u) (sym (append-nil t))
written-behind (k.CallParen ∷ ks) b t =
    written-behind ks b (t ++ bytes_of k.CallParen) ∙ ap (λ u. b ∷ u) (append_assoc t (bytes_of k.CallParen) (behind ks))
written-behind (kind ∷ ks) b t =
    written-behind ks b ((t ++ 32 ∷ []) ++ bytes_of kind)
    ∙ ap (λ u. b ∷ u) (append_assoc (t ++ 32 ∷ []) (bytes_of kind) (behind ks) ∙ append_assoc t (32 ∷ []) (bytes_of kind ++ behind ks))

-- from here on the text has these tokens
record Reads (s : Spot) (ks : Kinds) : Type 0 where
  ts : List Placed
  e : Spot
  leads : Leads s ts e
  ends : e.rest ≡ []
  kinds : kinds_of ts ≡ ks

token_reads : (called : Bool) (at : ℕ) (kind : TokenKind) (us rest : Bytes) (ks : Kinds) → Stands called us rest kind
    → Reads (spot (is_callee kind) (at + length us) rest) ks → Reads (spot called at (us ++ rest)) (kind ∷ ks)
token_reads called at kind us rest ks stand more = record {
  ts = placed kind at (at + length us) ∷ more.ts;
  e = more.e;
  leads = step (token refl stand) more.leads;
  ends = more.ends;
  kinds = ap (λ us. kind ∷ us) more.kinds;
}

blank_reads : (called : Bool) (at : ℕ) (rest : Bytes) (ks : Kinds) → Reads (spot false (at + 1) rest) ks → Reads (spot called at (32 ∷ rest)) ks
blank_reads called at rest ks more =
    record { ts = more.ts; e = more.e; leads = step (blank refl refl) more.leads; ends = more.ends; kinds = more.kinds }

-- the parts of the test at one token
pub parts_at : (called : Bool) (kind : TokenKind) (ks : Kinds) → writable called (kind ∷ ks) ≡ true
    → ((called || not (is_call kind)) ≡ true) × (is_lexed kind ≡ true) × (writable (is_callee kind) ks ≡ true)
parts_at called kind ks h =
    let outer = and_parts ((called || not (is_call kind)) && is_lexed kind) (writable (is_callee kind) ks) h in
    let inner = and_parts (called || not (is_call kind)) (is_lexed kind) outer.0 in
    (inner.0, inner.1, outer.1)

spaced_reads : (called : Bool) (at : ℕ) (kind : TokenKind) (ks : Kinds) → is_call kind ≡ false → is_lexed kind ≡ true
    → Reads (spot (is_callee kind) (at + 1 + length (bytes_of kind)) (behind ks)) ks
    → Reads (spot called at (32 ∷ bytes_of kind ++ behind ks)) (kind ∷ ks)
spaced_reads called at kind ks plain lexed more =
    blank_reads called at (bytes_of kind ++ behind ks) (kind ∷ ks)
    (token_reads false (at + 1) kind (bytes_of kind) (behind ks) ks (stands kind (behind ks) lexed plain (behind_stops ks)) more)

reads_behind : (ks : Kinds) (called : Bool) (at : ℕ) → writable called ks ≡ true → Reads (spot called at (behind ks)) ks
reads_behind [] called at h = record { ts = []; e = spot called at []; leads = here; ends = refl; kinds = refl }
reads_behind (k.CallParen ∷ ks) true at h =
    token_reads true at k.CallParen (40 ∷ []) (behind ks) ks (mark refl) (reads_behind ks false (at + 1) (parts_at true k.CallParen ks h).2)
reads_behind (k.CallParen ∷ ks) false at h = absurd (true≢false (sym (parts_at false k.CallParen ks h).0))
reads_behind (kind ∷ ks) called at h =
    let is = parts_at called kind ks h in
    spaced_reads called at kind ks refl is.1 (reads_behind ks (is_callee kind) (at + 1 + length (bytes_of kind)) is.2)

-- no token is written as nothing
some_bytes : (kind : TokenKind) → is_lexed kind ≡ true → is_call kind ≡ false → 0 < length (bytes_of kind)
some_bytes (k.Number z) h plain = (number_run z (and_parts (is_carried (k.Number z)) true h).0).some
some_bytes (k.Keyword word) h plain = (keyword_run word (not-true (is_reserved (k.Keyword word)) h)).some
some_bytes (k.Name t) h plain = (name_run t (and_parts (is_name t) true h).0).some
some_bytes k.CallParen h plain = absurd (true≢false plain)
some_bytes kind h plain = omega arith

first_written : (us : Bytes) (ks : Kinds) → 0 < length us → written us ks ≡ us ++ behind ks
first_written [] ks some = absurd (omega arith)
first_written (b ∷ us) ks some = written-behind ks b us

first_reads : (kind : TokenKind) (ks : Kinds) → is_call kind ≡ false → with_token [] kind ≡ bytes_of kind → writable false (kind ∷ ks) ≡ true
    → Reads (start (text_of (kind ∷ ks))) (kind ∷ ks)
first_reads kind ks plain first h =
    let is = parts_at false kind ks h in
    let same : text_of (kind ∷ ks) ≡ bytes_of kind ++ behind ks =
    ap (λ u. written u ks) first ∙ first_written (bytes_of kind) ks (some_bytes kind is.1 plain) in
    subst (λ t. Reads (start t) (kind ∷ ks)) (sym same)
    (token_reads false 0 kind (bytes_of kind) (behind ks) ks (stands kind (behind ks) is.1 plain (behind_stops ks))
    (reads_behind ks (is_callee kind) (0 + length (bytes_of kind)) is.2))

reads_text : (ks : Kinds) → writable false ks ≡ true → Reads (start (text_of ks)) ks
reads_text [] h = record { ts = []; e = start []; leads = here; ends = refl; kinds = refl }
reads_text (k.CallParen ∷ ks) h = absurd (true≢false (sym (parts_at false k.CallParen ks h).0))
reads_text (kind ∷ ks) h = first_reads kind ks refl refl h

pub text_lexed : (ks : Kinds) → writable false ks ≡ true → (ts : List Placed) × Lexes (text_of ks) ts × (kinds_of ts ≡ ks)
text_lexed ks h = let is = reads_text ks h in (is.ts, (is.e, is.leads, is.ends), is.kinds)
