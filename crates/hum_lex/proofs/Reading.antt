-- What the lexer finds at the front.
use Rattle.std.proofs.Common.{◌≡◌, ℕ, suc, ◌+◌, ◌<◌, ◌≤◌, Bool, true, false, cond, [], ◌∷◌, ◌++◌, length, take, drop, slice_index, Option, Some, None, refl, sym, ap, ◌∙◌, subst, arith, inl, inr, length-append, append_assoc, length-take-le, take-append-drop}
use Rattle.std.specs.Prelude.{not, ◌&&◌, ◌==◌, nat_le, nat_lt, is_none, Ok, Err}
use Rattle.std.specs.List.{list_all, prefix_len}
use Rattle.std.proofs.lemmas.Bool.{cond-true, cond-false, and_from, cases_Bool, le-leb, lt-ltb, both_ways, ne_eqb, or_from, not-false}
use Rattle.std.proofs.lemmas.List.Sums.{prefix_len-le-length}
use Rattle.std.proofs.Math.Seq.{take-append_seam, drop-append_seam}
use Rattle.hum_syntax.specs.declared.keyword.Keyword.{Keyword}
use Rattle.hum_syntax.specs.declared.TokenKind.{TokenKind}
use Rattle.hum_syntax.specs.declared.TokenKind.TheVariants as k
use Rattle.hum_syntax.specs.Forms.{Bytes, is_blank, is_delimiter, is_run_byte, is_run, is_number, number_of, is_in_range, keyword_of, is_wildcard, is_undefined, is_name, is_text, text_bytes}
use Rattle.hum_syntax.specs.Kinds.{kind_of_run, word_kind, is_carried}
use Rattle.hum_syntax.specs.Lexes.{ends_or, is_line_feed, IsWholeRun, is_large, is_reserved, mark_of, Stands, run, symbol, text, mark, IsComment, spot, Step, blank, comment}
use Rattle.hum_lex.specs.declared.error.LexCause.{LexCause}
use Rattle.hum_lex.specs.declared.error.LexCause.TheVariants as cause
use Rattle.hum_lex.specs.Faults.{IsStray, Fault, stray, hash_delimiter, hash_stray, open_text, bad_text, long_run, long_symbol, large, reserved, is_inside}
use Rattle.hum_lex.specs.Fronts.{allowed_kind, closing, IsGap, IsToken, IsFault, IsBadAt}
use Rattle.hum_lex.proofs.Runs.{list_all-prefix, ends_or-prefix}
use Rattle.hum_lex.proofs.Texts.{IsClosed, closed, not_closed}

-- ---- blanks and comments

pub gap_blank : (called : Bool) (b : ℕ) (rest : Bytes) → is_blank b ≡ true → IsGap called (b ∷ rest) 1
gap_blank called b rest is = record { some = omega arith; within = omega arith; leads = λ at. blank refl is }

abbrev pub line_len : Bytes → ℕ
line_len rest = prefix_len (λ b. not (is_line_feed b)) rest

once : (rest : Bytes) → ends_or (λ b. not (not (is_line_feed b))) rest ≡ true → ends_or is_line_feed rest ≡ true
once [] whole = refl
once (b ∷ rest) whole = elim (cases_Bool (is_line_feed b)) [ inl is ↦ is | inr other ↦ absurd (both_ways (not (not (is_line_feed b))) (ap (λ t. not (not t)) other) whole) ]

pub gap_comment : (called : Bool) (rest : Bytes) → ends_or is_blank rest ≡ true → IsGap called (35 ∷ rest) (1 + line_len rest)
gap_comment called rest apart =
    let n = line_len rest in
    let line = take n rest in
    let split : rest ≡ line ++ drop n rest = sym (take-append-drop n rest) in
    let le : n ≤ length rest = prefix_len-le-length (λ b. not (is_line_feed b)) rest in
    let long : length (35 ∷ line) ≡ 1 + n = (let l = length-take-le n rest le in let e : suc (length line) ≡ 1 + n = omega arith in e) in
    let is : IsComment line (drop n rest) = record {
      apart = subst (λ xs. ends_or is_blank xs ≡ true) split apart;
      one_line = list_all-prefix (λ b. not (is_line_feed b)) rest;
      whole = once (drop n rest) (ends_or-prefix (λ b. not (is_line_feed b)) rest);
    } in
    let behind : drop n rest ≡ drop (1 + n) (35 ∷ rest) = ap (λ m. drop m (35 ∷ rest)) (let e : suc n ≡ 1 + n = omega arith in e) in
    record {
      some = omega arith;
      within = (let e : 1 + n ≤ suc (length rest) = omega arith in e);
      leads = λ at.
          let h : Step (spot called at (35 ∷ rest)) [] (spot false (at + length (35 ∷ line)) (drop n rest)) = comment (ap (λ xs. 35 ∷ xs) split) is in
          subst (λ xs. Step (spot called at (35 ∷ rest)) [] (spot false (at + (1 + n)) xs)) behind (subst (λ m. Step (spot called at (35 ∷ rest)) [] (spot false (at + m) (drop n rest))) long h);
    }

-- ---- bytes that begin nothing

pub fault_stray : (called : Bool) (b : ℕ) (rest : Bytes) → IsStray b → IsFault called (b ∷ rest) 0 cause.BadByte
fault_stray called b rest is = record { within = omega arith; fault = λ weighed. stray refl is }

pub fault_delimiter : (called : Bool) (b : ℕ) (rest : Bytes) → is_delimiter b ≡ true → IsFault called (35 ∷ b ∷ rest) 0 cause.BadByte
fault_delimiter called b rest is = record { within = omega arith; fault = λ weighed. hash_delimiter refl is }

pub fault_hash : (called : Bool) (b : ℕ) (rest : Bytes) → is_blank b ≡ false → is_delimiter b ≡ false → is_run_byte b ≡ false → IsFault called (35 ∷ b ∷ rest) 1 cause.BadByte
fault_hash called b rest x y z = record { within = omega arith; fault = λ weighed. hash_stray refl (record { no_blank = x; no_delimiter = y; no_run_byte = z }) }

-- ---- runs

abbrev pub run_len : Bytes → ℕ
run_len bs = prefix_len is_run_byte bs

pub run_some : (b : ℕ) (rest : Bytes) → is_run_byte b ≡ true → 0 < run_len (b ∷ rest)
run_some b rest is = let e = cond-true (is_run_byte b) (1 + run_len rest) 0 is in omega arith

module _ (bs : Bytes) (some : 0 < run_len bs) where
  within : run_len bs ≤ length bs
  within = prefix_len-le-length is_run_byte bs

  long_is : length (take (run_len bs) bs) ≡ run_len bs
  long_is = length-take-le (run_len bs) bs within

  split_is : bs ≡ take (run_len bs) bs ++ drop (run_len bs) bs
  split_is = sym (take-append-drop (run_len bs) bs)

  pub whole_run : IsWholeRun (take (run_len bs) bs) (drop (run_len bs) bs)
  whole_run = record { some = omega (arith, long_is); each = list_all-prefix is_run_byte bs; maximal = ends_or-prefix is_run_byte bs }

  pub is_run_prefix : run_len bs ≤ 128 → is_run (take (run_len bs) bs) ≡ true
  is_run_prefix short =
      and_from (nat_lt 0 (length (take (run_len bs) bs)) && nat_le (length (take (run_len bs) bs)) 128) (list_all is_run_byte (take (run_len bs) bs))
      (and_from (nat_lt 0 (length (take (run_len bs) bs))) (nat_le (length (take (run_len bs) bs)) 128) (lt-ltb 0 _ (omega (arith, long_is))) (le-leb (length (take (run_len bs) bs)) 128 (omega (arith, long_is))))
      (list_all-prefix is_run_byte bs)

  pub fault_long : (called : Bool) → 128 < run_len bs → IsFault called bs 0 cause.RunTooLong
  fault_long called over = record { within = omega (arith, within); fault = λ weighed. long_run split_is whole_run (omega (arith, long_is)) }

  pub fault_large : (called : Bool) → run_len bs ≤ 128 → is_large (kind_of_run (take (run_len bs) bs)) ≡ true → IsFault called bs 0 cause.NumberRange
  fault_large called short is = record { within = omega (arith, within); fault = λ weighed. large split_is whole_run (omega (arith, long_is)) is }

  pub fault_reserved : (called : Bool) → run_len bs ≤ 128 → is_reserved (kind_of_run (take (run_len bs) bs)) ≡ true → IsFault called bs 0 cause.NotInProfile
  fault_reserved called short is = record { within = omega (arith, within); fault = λ weighed. reserved split_is whole_run (omega (arith, long_is)) is }

  pub token_run : (called : Bool) → run_len bs ≤ 128 → is_large (kind_of_run (take (run_len bs) bs)) ≡ false → is_reserved (kind_of_run (take (run_len bs) bs)) ≡ false
      → is_carried (kind_of_run (take (run_len bs) bs)) ≡ true → IsToken called bs (run_len bs) (kind_of_run (take (run_len bs) bs))
  token_run called short a r carried = record { some = some; within = within; carried = carried; stands = run whole_run (omega (arith, long_is)) a r }

  pub fault_long_symbol : (called : Bool) → 128 < run_len bs → IsFault called (35 ∷ bs) 1 cause.RunTooLong
  fault_long_symbol called over = record { within = (let w = within in let e : 1 < suc (length bs) = omega arith in e); fault = λ weighed. long_symbol (ap (λ xs. 35 ∷ xs) split_is) whole_run (omega (arith, long_is)) }

  pub token_symbol : (called : Bool) → run_len bs ≤ 128 → IsToken called (35 ∷ bs) (1 + run_len bs) (k.Symbol (take (run_len bs) bs))
  token_symbol called short =
      let n : suc (run_len bs) ≡ 1 + run_len bs = omega arith in
      subst (λ m. IsToken called (35 ∷ bs) m (k.Symbol (take (run_len bs) bs))) n
      (record { some = omega arith; within = (let w = within in let e : suc (run_len bs) ≤ suc (length bs) = omega arith in e); carried = is_run_prefix short; stands = symbol whole_run (omega (arith, long_is)) })

-- ---- texts

pub fault_open : (called : Bool) (rest : Bytes) → closing false rest ≡ None → IsFault called (34 ∷ rest) 0 cause.BadText
fault_open called rest none = record { within = omega arith; fault = λ weighed. open_text refl (not_closed rest none) }

inside_is : (rest : Bytes) (n : ℕ) (is : IsClosed false rest n) → take n rest ≡ is.us
inside_is rest n is = ap (take n) is.split ∙ ap (λ m. take m (is.us ++ 34 ∷ is.rest)) is.long ∙ take-append_seam is.us (34 ∷ is.rest)

pub fault_text : (called : Bool) (rest : Bytes) (n at : ℕ) → closing false rest ≡ Some n → IsBadAt (take n rest) at → IsFault called (34 ∷ rest) (at + 1) cause.BadText
fault_text called rest n at closes bad =
    let is = closed false rest n closes in
    let us_is : is.us ≡ text_bytes bad.cs ++ bad.us = sym (inside_is rest n is) ∙ bad.split in
    let split : rest ≡ (text_bytes bad.cs ++ bad.us) ++ 34 ∷ is.rest = is.split ∙ ap (λ xs. xs ++ 34 ∷ is.rest) us_is in
    let place : 1 + length (text_bytes bad.cs) ≡ at + 1 = (let p = bad.place in omega arith) in
    let total = ap length split in
    let some = bad.some in let p = bad.place in
    record {
      within = omega (arith, length-append (text_bytes bad.cs ++ bad.us) (34 ∷ is.rest), length-append (text_bytes bad.cs) bad.us);
      fault = λ weighed. subst (λ m. Fault called weighed (34 ∷ rest) m cause.BadText) place
          (bad_text bad.cs bad.us is.rest (ap (λ xs. 34 ∷ xs) split) bad.points (subst (λ xs. is_inside false xs ≡ true) us_is is.inside) bad.some bad.no_point);
    }

pub token_text : (called : Bool) (rest cs : Bytes) (n : ℕ) → closing false rest ≡ Some n → take n rest ≡ text_bytes cs → is_text cs ≡ true → IsToken called (34 ∷ rest) (n + 2) (k.Text cs)
token_text called rest cs n closes written points =
    let is = closed false rest n closes in
    let us_is : is.us ≡ text_bytes cs = sym (inside_is rest n is) ∙ written in
    let us = 34 ∷ text_bytes cs ++ 34 ∷ [] in
    let split : 34 ∷ rest ≡ us ++ is.rest =
    ap (λ xs. 34 ∷ xs) (is.split ∙ ap (λ xs. xs ++ 34 ∷ is.rest) us_is ∙ sym (append_assoc (text_bytes cs) (34 ∷ []) is.rest)) in
    let long : length us ≡ n + 2 = (let l = is.long in let m = ap length us_is in omega (arith, length-append (text_bytes cs) (34 ∷ []))) in
    let front : take (n + 2) (34 ∷ rest) ≡ us = ap (take (n + 2)) split ∙ ap (λ m. take m (us ++ is.rest)) (sym long) ∙ take-append_seam us is.rest in
    let behind : drop (n + 2) (34 ∷ rest) ≡ is.rest = ap (drop (n + 2)) split ∙ ap (λ m. drop m (us ++ is.rest)) (sym long) ∙ drop-append_seam us is.rest in
    let total = ap length split in
    record {
      some = omega arith;
      within = omega (arith, length-append us is.rest);
      carried = points;
      stands = subst (λ xs. Stands called xs (drop (n + 2) (34 ∷ rest)) (k.Text cs)) (sym front) (subst (λ xs. Stands called us xs (k.Text cs)) (sym behind) (text points));
    }

-- ---- marks

pub token_mark : (called : Bool) (b : ℕ) (rest : Bytes) (kind : TokenKind) → mark_of called b ≡ Some kind → is_carried kind ≡ true → IsToken called (b ∷ rest) 1 kind
token_mark called b rest kind is carried = record { some = omega arith; within = omega arith; carried = carried; stands = mark is }

mark_some : (called : Bool) (b n : ℕ) (kind : TokenKind) → mark_of called b ≡ None → mark_of called n ≡ Some kind → (b == n) ≡ false
mark_some called b n kind none some = ne_eqb b n (λ e. let at = ap (mark_of called) e in absurd cc)

-- a byte that begins nothing
pub stray_byte : (called : Bool) (b : ℕ) → is_blank b ≡ false → is_run_byte b ≡ false → (b ≡ 35 → ⊥) → (b ≡ 34 → ⊥) → mark_of called b ≡ None → IsStray b
stray_byte called b no_blank no_run not_35 not_34 none =
    let no = λ (n : ℕ) (kind : TokenKind) (some : mark_of called n ≡ Some kind). mark_some called b n kind none some in
    record {
      no_blank = no_blank;
      no_run_byte = no_run;
      no_delimiter =
          or_from _ _ (no 40 (cond called k.CallParen k.ParenLeft) refl) (or_from _ _ (no 41 k.ParenRight refl) (or_from _ _ (no 91 k.SquareLeft refl)
          (or_from _ _ (no 93 k.SquareRight refl) (or_from _ _ (no 44 k.Comma refl) (or_from _ _ (no 46 k.Dot refl) (or_from _ _ (no 61 k.Equals refl)
          (or_from _ _ (no 58 k.Colon refl) (or_from _ _ (ne_eqb b 34 not_34) (or_from _ _ (no 36 k.Dollar refl) (or_from _ _ (no 92 k.Backslash refl)
          (or_from _ _ (ne_eqb b 35 not_35) refl)))))))))));
    }

-- ---- what a run stands for

module _ (us : Bytes) (is : is_run us ≡ true) where
  named : is_number us ≡ false → keyword_of us ≡ None → is_wildcard us ≡ false → is_undefined us ≡ false → is_name us ≡ true
  named number word wild undefined =
      and_from (is_run us && not (is_number us) && is_none (keyword_of us) && not (is_wildcard us)) (not (is_undefined us))
      (and_from (is_run us && not (is_number us) && is_none (keyword_of us)) (not (is_wildcard us))
      (and_from (is_run us && not (is_number us)) (is_none (keyword_of us)) (and_from (is_run us) (not (is_number us)) is (ap not number)) (ap is_none word)) (ap not wild)) (ap not undefined)

  word_carried : is_number us ≡ false → (o : Option Keyword) → keyword_of us ≡ o → is_carried (word_kind us o) ≡ true
  word_carried number (Some word) e = refl
  word_carried number None e = elim (cases_Bool (is_wildcard us)) [
    | inl wild ↦ ap is_carried (cond-true (is_wildcard us) k.Wildcard (cond (is_undefined us) k.Undefined (k.Name us)) wild)
    | inr tame ↦ elim (cases_Bool (is_undefined us)) [
      | inl undefined ↦ ap is_carried (cond-false (is_wildcard us) k.Wildcard (cond (is_undefined us) k.Undefined (k.Name us)) tame ∙ cond-true (is_undefined us) k.Undefined (k.Name us) undefined)
      | inr name ↦ ap is_carried (cond-false (is_wildcard us) k.Wildcard (cond (is_undefined us) k.Undefined (k.Name us)) tame ∙ cond-false (is_undefined us) k.Undefined (k.Name us) name) ∙ named number e tame name
    ]
  ]

  pub run_carried : is_large (kind_of_run us) ≡ false → is_carried (kind_of_run us) ≡ true
  run_carried small = elim (cases_Bool (is_number us)) [
    | inl number ↦
        let e : kind_of_run us ≡ k.Number (number_of us) = cond-true (is_number us) (k.Number (number_of us)) (word_kind us (keyword_of us)) number in
        ap is_carried e ∙ not-false (is_in_range (number_of us)) (sym (ap is_large e) ∙ small)
    | inr word ↦
        ap is_carried (cond-false (is_number us) (k.Number (number_of us)) (word_kind us (keyword_of us)) word) ∙ word_carried word (keyword_of us) refl
  ]

-- ---- by the first byte

module _ (called : Bool) (bytes : Bytes) (some : 0 < length bytes) where
  pub at_blank : is_blank (slice_index bytes 0) ≡ true → IsGap called bytes 1
  at_blank = go bytes some
    where
      go : (bs : Bytes) → 0 < length bs → is_blank (slice_index bs 0) ≡ true → IsGap called bs 1
      go [] some is = absurd (omega arith)
      go (b ∷ rest) some is = gap_blank called b rest is

  pub at_mark : (kind : TokenKind) → mark_of called (slice_index bytes 0) ≡ Some kind → is_carried kind ≡ true → IsToken called bytes 1 kind
  at_mark kind = go bytes some
    where
      go : (bs : Bytes) → 0 < length bs → mark_of called (slice_index bs 0) ≡ Some kind → is_carried kind ≡ true → IsToken called bs 1 kind
      go [] some is carried = absurd (omega arith)
      go (b ∷ rest) some is carried = token_mark called b rest kind is carried

  pub at_stray : IsStray (slice_index bytes 0) → IsFault called bytes 0 cause.BadByte
  at_stray = go bytes some
    where
      go : (bs : Bytes) → 0 < length bs → IsStray (slice_index bs 0) → IsFault called bs 0 cause.BadByte
      go [] some is = absurd (omega arith)
      go (b ∷ rest) some is = fault_stray called b rest is

  -- behind a `#`
  pub hash_blank : is_blank (slice_index bytes 0) ≡ true → (n : ℕ) → n ≡ line_len bytes → IsGap called (35 ∷ bytes) (1 + n)
  hash_blank is n e = subst (λ m. IsGap called (35 ∷ bytes) (1 + m)) (sym e) (gap_comment called bytes (go bytes some is))
    where
      go : (bs : Bytes) → 0 < length bs → is_blank (slice_index bs 0) ≡ true → ends_or is_blank bs ≡ true
      go [] some is = refl
      go (b ∷ rest) some is = is

  pub hash_at_delimiter : is_delimiter (slice_index bytes 0) ≡ true → IsFault called (35 ∷ bytes) 0 cause.BadByte
  hash_at_delimiter = go bytes some
    where
      go : (bs : Bytes) → 0 < length bs → is_delimiter (slice_index bs 0) ≡ true → IsFault called (35 ∷ bs) 0 cause.BadByte
      go [] some is = absurd (omega arith)
      go (b ∷ rest) some is = fault_delimiter called b rest is

  pub hash_at_stray : is_blank (slice_index bytes 0) ≡ false → is_delimiter (slice_index bytes 0) ≡ false → is_run_byte (slice_index bytes 0) ≡ false → IsFault called (35 ∷ bytes) 1 cause.BadByte
  hash_at_stray = go bytes some
    where
      go : (bs : Bytes) → 0 < length bs → is_blank (slice_index bs 0) ≡ false → is_delimiter (slice_index bs 0) ≡ false → is_run_byte (slice_index bs 0) ≡ false → IsFault called (35 ∷ bs) 1 cause.BadByte
      go [] some x y z = absurd (omega arith)
      go (b ∷ rest) some x y z = fault_hash called b rest x y z

pub hash_end : (called : Bool) (rest : Bytes) → length rest < 1 → IsGap called (35 ∷ rest) 1
hash_end called [] e = gap_comment called [] refl
hash_end called (b ∷ rest) e = absurd (omega arith)

-- ---- by the run at the front

first_run : (bs : Bytes) → 0 < length bs → is_run_byte (slice_index bs 0) ≡ true → 0 < run_len bs
first_run [] some is = absurd (omega arith)
first_run (b ∷ rest) some is = run_some b rest is

module _ (bs : Bytes) (n : ℕ) (some : 0 < length bs) (first : is_run_byte (slice_index bs 0) ≡ true) (n_is : n ≡ run_len bs) where
  pub at_long : (called : Bool) → 128 < n → IsFault called bs 0 cause.RunTooLong
  at_long called over = fault_long bs (first_run bs some first) called (omega arith)

  pub at_run_form : n ≤ 128 → is_run (take n bs) ≡ true
  at_run_form short = subst (λ m. is_run (take m bs) ≡ true) (sym n_is) (is_run_prefix bs (first_run bs some first) (omega arith))

  pub at_token : (called : Bool) → n ≤ 128 → is_large (kind_of_run (take n bs)) ≡ false → is_reserved (kind_of_run (take n bs)) ≡ false → IsToken called bs n (kind_of_run (take n bs))
  at_token called short a r =
      let form = at_run_form short in
      go n n_is short a r (run_carried (take n bs) form a)
    where
      go : (m : ℕ) → m ≡ run_len bs → m ≤ 128 → is_large (kind_of_run (take m bs)) ≡ false → is_reserved (kind_of_run (take m bs)) ≡ false → is_carried (kind_of_run (take m bs)) ≡ true → IsToken called bs m (kind_of_run (take m bs))
      go m e short a r carried =
          subst (λ m. IsToken called bs m (kind_of_run (take m bs))) (sym e)
          (token_run bs (first_run bs some first) called (omega arith) (subst (λ m. is_large (kind_of_run (take m bs)) ≡ false) e a)
          (subst (λ m. is_reserved (kind_of_run (take m bs)) ≡ false) e r) (subst (λ m. is_carried (kind_of_run (take m bs)) ≡ true) e carried))

  pub at_large : (called : Bool) → n ≤ 128 → is_large (kind_of_run (take n bs)) ≡ true → IsFault called bs 0 cause.NumberRange
  at_large called short is = fault_large bs (first_run bs some first) called (omega arith) (subst (λ m. is_large (kind_of_run (take m bs)) ≡ true) n_is is)

  pub at_reserved : (called : Bool) → n ≤ 128 → is_reserved (kind_of_run (take n bs)) ≡ true → IsFault called bs 0 cause.NotInProfile
  at_reserved called short is = fault_reserved bs (first_run bs some first) called (omega arith) (subst (λ m. is_reserved (kind_of_run (take m bs)) ≡ true) n_is is)

  pub at_long_symbol : (called : Bool) → 128 < n → IsFault called (35 ∷ bs) 1 cause.RunTooLong
  at_long_symbol called over = fault_long_symbol bs (first_run bs some first) called (omega arith)

  pub at_symbol : (called : Bool) → n ≤ 128 → IsToken called (35 ∷ bs) (1 + n) (k.Symbol (take n bs))
  at_symbol called short = subst (λ m. IsToken called (35 ∷ bs) (1 + m) (k.Symbol (take m bs))) (sym n_is) (token_symbol bs (first_run bs some first) called (omega arith))

-- what the run stands for, or why it may not stand there
pub at_allowed : (bs : Bytes) (n : ℕ) → 0 < length bs → is_run_byte (slice_index bs 0) ≡ true → n ≡ run_len bs → n ≤ 128 → (kind : TokenKind)
    → Ok kind ≡ allowed_kind (kind_of_run (take n bs)) → (called : Bool) → IsToken called bs n kind
at_allowed bs n some first n_is short kind e called =
    go (kind_of_run (take n bs)) refl
  where
    go : (other : TokenKind) → kind_of_run (take n bs) ≡ other → IsToken called bs n kind
    go other is = elim (cases_Bool (is_large other)) [
      | inl out ↦ (let no : Ok kind ≡ Err cause.NumberRange = e ∙ ap allowed_kind is ∙ cond-true (is_large other) _ _ out in absurd cc)
      | inr fits ↦ elim (cases_Bool (is_reserved other)) [
        | inl kept ↦ (let no : Ok kind ≡ Err cause.NotInProfile = e ∙ ap allowed_kind is ∙ cond-false (is_large other) _ _ fits ∙ cond-true (is_reserved other) _ _ kept in absurd cc)
        | inr free ↦
            let same : Ok kind ≡ Ok other = e ∙ ap allowed_kind is ∙ cond-false (is_large other) _ _ fits ∙ cond-false (is_reserved other) _ _ free in
            let kinds : kind_of_run (take n bs) ≡ kind = (let k_is : kind ≡ other = cc in is ∙ sym k_is) in
            subst (IsToken called bs n) kinds (at_token bs n some first n_is called short (ap is_large is ∙ fits) (ap is_reserved is ∙ free))
      ]
    ]

pub at_refused : (bs : Bytes) (n : ℕ) → 0 < length bs → is_run_byte (slice_index bs 0) ≡ true → n ≡ run_len bs → n ≤ 128 → (why : LexCause)
    → Err why ≡ allowed_kind (kind_of_run (take n bs)) → (called : Bool) → IsFault called bs 0 why
at_refused bs n some first n_is short why e called =
    go (kind_of_run (take n bs)) refl
  where
    go : (other : TokenKind) → kind_of_run (take n bs) ≡ other → IsFault called bs 0 why
    go other is = elim (cases_Bool (is_large other)) [
      | inl out ↦
          let same : Err why ≡ Err cause.NumberRange = e ∙ ap allowed_kind is ∙ cond-true (is_large other) _ _ out in
          let whys : cause.NumberRange ≡ why = cc in
          subst (IsFault called bs 0) whys (at_large bs n some first n_is called short (ap is_large is ∙ out))
      | inr fits ↦ elim (cases_Bool (is_reserved other)) [
        | inl kept ↦
            let same : Err why ≡ Err cause.NotInProfile = e ∙ ap allowed_kind is ∙ cond-false (is_large other) _ _ fits ∙ cond-true (is_reserved other) _ _ kept in
            let whys : cause.NotInProfile ≡ why = cc in
            subst (IsFault called bs 0) whys (at_reserved bs n some first n_is called short (ap is_reserved is ∙ kept))
        | inr free ↦ (let no : Err why ≡ Ok other = e ∙ ap allowed_kind is ∙ cond-false (is_large other) _ _ fits ∙ cond-false (is_reserved other) _ _ free in absurd cc)
      ]
    ]

pub bad_within : (bytes : Bytes) (at : ℕ) → IsBadAt bytes at → at < length bytes
bad_within bytes at is = let n = ap length is.split in let p = is.place in let s = is.some in omega (arith, length-append (text_bytes is.cs) is.us)

-- a mark carries nothing
carried_at : (kind : TokenKind) (b n : ℕ) (x : TokenKind) (y : Option TokenKind) → is_carried x ≡ true → (y ≡ Some kind → is_carried kind ≡ true) → cond (b == n) (Some x) y ≡ Some kind → is_carried kind ≡ true
carried_at kind b n x y carried more is = elim (cases_Bool (b == n)) [
  | inl at ↦
      let same : Some x ≡ Some kind = sym (cond-true (b == n) (Some x) y at) ∙ is in
      let kinds : x ≡ kind = cc in
      subst (λ z. is_carried z ≡ true) kinds carried
  | inr other ↦ more (sym (cond-false (b == n) (Some x) y other) ∙ is)
]

paren_carried : (called : Bool) → is_carried (cond called k.CallParen k.ParenLeft) ≡ true
paren_carried true = refl
paren_carried false = refl

pub mark_carried : (called : Bool) (b : ℕ) (kind : TokenKind) → mark_of called b ≡ Some kind → is_carried kind ≡ true
mark_carried called b kind =
    carried_at kind b 40 (cond called k.CallParen k.ParenLeft) _ (paren_carried called) (carried_at kind b 41 k.ParenRight _ refl (carried_at kind b 91 k.SquareLeft _ refl
    (carried_at kind b 93 k.SquareRight _ refl (carried_at kind b 44 k.Comma _ refl (carried_at kind b 46 k.Dot _ refl (carried_at kind b 61 k.Equals _ refl
    (carried_at kind b 58 k.Colon _ refl (carried_at kind b 36 k.Dollar _ refl (carried_at kind b 92 k.Backslash None refl (λ e. absurd cc))))))))))
