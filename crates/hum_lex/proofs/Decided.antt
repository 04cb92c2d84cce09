-- Each text has tokens or is refused.
use Rattle.std.proofs.Common.{◌≡◌, ℕ, zero, suc, ◌+◌, ◌<◌, ◌≤◌, Bool, true, false, List, [], ◌∷◌, ◌++◌, length, take, drop, slice_index, Option, Some, None, refl, sym, subst, arith, inl, inr, ◌⊎◌, length-drop}
use Rattle.std.proofs.lemmas.Bool.{cases_Bool, cases_eq, cases_lt}
use Rattle.bstr.specs.Utf8.{decoded}
use Rattle.hum_syntax.specs.declared.TokenKind.{TokenKind}
use Rattle.hum_syntax.specs.declared.TokenKind.TheVariants as k
use Rattle.hum_syntax.specs.Forms.{Bytes, is_blank, is_delimiter, is_run_byte}
use Rattle.hum_syntax.specs.Kinds.{kind_of_run}
use Rattle.hum_syntax.specs.Tokens.{Placed, weight_of, weight_limit}
use Rattle.hum_syntax.specs.Lexes.{is_large, is_reserved, mark_of, IsTokens}
use Rattle.hum_lex.specs.declared.error.LexCause.{LexCause}
use Rattle.hum_lex.specs.declared.error.LexCause.TheVariants as cause
use Rattle.hum_lex.specs.declared.front.Front.{Front}
use Rattle.hum_lex.specs.declared.front.Front.TheVariants as front
use Rattle.hum_lex.specs.declared.text.Inside.{Inside}
use Rattle.hum_lex.specs.declared.text.Inside.TheVariants as inside
use Rattle.hum_lex.specs.Faults.{BeginsNoPoint, IsRefusedAt}
use Rattle.hum_lex.specs.Fronts.{closing, escaped, is_plain, IsPointAt, ReadsText, Reads}
use Rattle.hum_lex.specs.Laws.{OneOfBoth}
use Rattle.hum_lex.proofs.Points.{plain_at, none_plain, none_decoded, escape_end, escape_none, escape_some, point_len}
use Rattle.hum_lex.proofs.Insides.{IsInsideAt, inside_start, inside_more, inside_within, inside_end, inside_bad}
use Rattle.hum_lex.proofs.Reading.{line_len, run_len, at_blank, at_mark, at_stray, stray_byte, mark_carried, hash_end, hash_blank, hash_at_delimiter, hash_at_stray, at_long, at_large, at_reserved, at_token, at_long_symbol, at_symbol, fault_open, fault_text, token_text}
use Rattle.hum_lex.proofs.Wholes.{IsReached, reached_start, reached_gap, reached_token, reached_end, refused_fault, refused_heavy}

-- ---- between two quotes

abbrev PointAt : List ℕ → Type 0
PointAt bs = BeginsNoPoint bs ⊎ ((c : ℕ) × (len : ℕ) × IsPointAt bs c len)

escape_at : (rest : List ℕ) → PointAt (92 ∷ rest)
escape_at [] = inl (escape_end [] (omega arith))
escape_at (b ∷ rest) = go (escaped b) refl
  where
    go : (o : Option ℕ) → escaped b ≡ o → PointAt (92 ∷ b ∷ rest)
    go None e = inl (escape_none (b ∷ rest) (omega arith) e)
    go (Some c) e = inr (c, 2, escape_some (b ∷ rest) c (omega arith) e)

plain_or_none : (bs : List ℕ) → (slice_index bs 0 ≡ 92 → ⊥) → PointAt bs
plain_or_none bs no_escape = go (decoded bs).char refl
  where
    go : (o : Option ℕ) → (decoded bs).char ≡ o → PointAt bs
    go None e = inl (none_decoded bs no_escape e)
    go (Some c) e = elim (cases_Bool (is_plain c)) [
      | inl plain ↦ inr (c, (decoded bs).size, plain_at bs c (decoded bs).size e refl plain)
      | inr other ↦ inl (none_plain bs c no_escape e other)
    ]

point_at : (bs : List ℕ) → 0 < length bs → PointAt bs
point_at [] some = absurd (omega arith)
point_at (b ∷ bs) some = elim (cases_eq b 92) [
  | inl e ↦ subst (λ x. PointAt (x ∷ bs)) (sym e) (escape_at bs)
  | inr other ↦ plain_or_none (b ∷ bs) other
]

abbrev InsideOf : Bytes → Type 0
InsideOf bytes = (i : Inside) × ReadsText bytes i

inside_from : (turns : ℕ) (bytes : Bytes) (at : ℕ) (cs : List ℕ) → IsInsideAt bytes at cs → at ≤ length bytes → length bytes ≤ at + turns → InsideOf bytes
inside_from zero bytes at cs is within turns = (inside.Text cs, (inside_end bytes at cs is (omega arith), is.points))
inside_from (suc turns) bytes at cs is within bound = elim (cases_lt at (length bytes)) [
  | inl more ↦ elim (point_at (drop at bytes) (omega (arith, length-drop at bytes))) [
    | inl none ↦ (inside.Bad at, inside_bad bytes at cs is more none)
    | inr found ↦
        let len = point_len (drop at bytes) found.0 found.1 found.2 in
        inside_from turns bytes (at + found.1) (cs ++ found.0 ∷ []) (inside_more bytes at cs found.0 found.1 is found.2)
        (inside_within bytes at found.0 found.1 within found.2) (omega arith)
  ]
  | inr end ↦ (inside.Text cs, (inside_end bytes at cs is end, is.points))
]

inside_of : (bytes : Bytes) → InsideOf bytes
inside_of bytes = inside_from (length bytes) bytes 0 [] (inside_start bytes) (omega arith) (omega arith)

-- ---- at the front

abbrev FrontOf : Bool → Bytes → Type 0
FrontOf called bytes = (f : Front) × Reads called bytes f

run_at : (called : Bool) (bs : Bytes) → 0 < length bs → is_run_byte (slice_index bs 0) ≡ true → FrontOf called bs
run_at called bs some first =
    let n = run_len bs in
    let kind = kind_of_run (take n bs) in
    elim (cases_lt 128 n) [
      | inl over ↦ (front.Fault 0 cause.RunTooLong, at_long bs n some first refl called over)
      | inr short ↦ elim (cases_Bool (is_large kind)) [
        | inl out ↦ (front.Fault 0 cause.NumberRange, at_large bs n some first refl called short out)
        | inr fits ↦ elim (cases_Bool (is_reserved kind)) [
          | inl kept ↦ (front.Fault 0 cause.NotInProfile, at_reserved bs n some first refl called short kept)
          | inr free ↦ (front.Token n kind, at_token bs n some first refl called short fits free)
        ]
      ]
    ]

hash_at : (called : Bool) (rest : Bytes) → FrontOf called (35 ∷ rest)
hash_at called [] = (front.Gap 1, hash_end called [] (omega arith))
hash_at called (b ∷ rest) =
    let bs = b ∷ rest in
    let some : 0 < length bs = omega arith in
    let n = run_len bs in
    elim (cases_Bool (is_blank b)) [
      | inl is ↦ (front.Gap (1 + line_len bs), hash_blank called bs some is (line_len bs) refl)
      | inr dark ↦ elim (cases_Bool (is_delimiter b)) [
        | inl is ↦ (front.Fault 0 cause.BadByte, hash_at_delimiter called bs some is)
        | inr no_delimiter ↦ elim (cases_Bool (is_run_byte b)) [
          | inl first ↦ elim (cases_lt 128 n) [
            | inl over ↦ (front.Fault 1 cause.RunTooLong, at_long_symbol bs n some first refl called over)
            | inr short ↦ (front.Token (1 + n) (k.Symbol (take n bs)), at_symbol bs n some first refl called short)
          ]
          | inr other ↦ (front.Fault 1 cause.BadByte, hash_at_stray called bs some dark no_delimiter other)
        ]
      ]
    ]

quote_at : (called : Bool) (rest : Bytes) → FrontOf called (34 ∷ rest)
quote_at called rest = go (closing false rest) refl
  where
    text_of : (n : ℕ) → closing false rest ≡ Some n → (i : Inside) → ReadsText (take n rest) i → FrontOf called (34 ∷ rest)
    text_of n e (inside.Text cs) is = (front.Token (n + 2) (k.Text cs), token_text called rest cs n e is.0 is.1)
    text_of n e (inside.Bad at) is = (front.Fault (at + 1) cause.BadText, fault_text called rest n at e is)

    go : (o : Option ℕ) → closing false rest ≡ o → FrontOf called (34 ∷ rest)
    go None e = (front.Fault 0 cause.BadText, fault_open called rest e)
    go (Some n) e = let i = inside_of (take n rest) in text_of n e i.0 i.1

mark_at : (called : Bool) (b : ℕ) (rest : Bytes) → is_blank b ≡ false → is_run_byte b ≡ false → (b ≡ 35 → ⊥) → (b ≡ 34 → ⊥) → FrontOf called (b ∷ rest)
mark_at called b rest dark no_run not_35 not_34 = go (mark_of called b) refl
  where
    some : 0 < length (b ∷ rest)
    some = omega arith

    go : (o : Option TokenKind) → mark_of called b ≡ o → FrontOf called (b ∷ rest)
    go None e = (front.Fault 0 cause.BadByte, at_stray called (b ∷ rest) some (stray_byte called b dark no_run not_35 not_34 e))
    go (Some kind) e = (front.Token 1 kind, at_mark called (b ∷ rest) some kind e (mark_carried called b kind e))

front_at : (called : Bool) (bytes : Bytes) → 0 < length bytes → FrontOf called bytes
front_at called [] some = absurd (omega arith)
front_at called (b ∷ rest) some = elim (cases_Bool (is_blank b)) [
  | inl is ↦ (front.Gap 1, at_blank called (b ∷ rest) some is)
  | inr dark ↦ elim (cases_Bool (is_run_byte b)) [
    | inl first ↦ run_at called (b ∷ rest) some first
    | inr no_run ↦ elim (cases_eq b 35) [
      | inl e ↦ subst (λ x. FrontOf called (x ∷ rest)) (sym e) (hash_at called rest)
      | inr not_35 ↦ elim (cases_eq b 34) [
        | inl e ↦ subst (λ x. FrontOf called (x ∷ rest)) (sym e) (quote_at called rest)
        | inr not_34 ↦ mark_at called b rest dark no_run not_35 not_34
      ]
    ]
  ]
]

-- ---- the whole text

module _ (bytes : Bytes) where
  abbrev OneOf : Type 0
  OneOf = ((ts : List Placed) × IsTokens bytes ts) ⊎ ((at : ℕ) × (why : LexCause) × IsRefusedAt bytes at why)

  -- by what stands at a place, where all goes on as it should behind each gap and each token
  by : (called : Bool) (at weighed : ℕ) (ts : List Placed) → IsReached bytes called at weighed ts → at < length bytes
      → ((next : Bool) (to weight : ℕ) (us : List Placed) → at < to → IsReached bytes next to weight us → OneOf)
      → (f : Front) → Reads called (drop at bytes) f → OneOf
  by called at weighed ts is more goes (front.Gap len) gap =
      let some = gap.some in goes false (at + len) weighed ts (omega arith) (reached_gap bytes called at weighed len ts is gap)
  by called at weighed ts is more goes (front.Token len kind) tok = elim (cases_lt weight_limit (weighed + weight_of kind)) [
    | inl over ↦ inr (at, cause.TooLarge, refused_heavy bytes called at weighed len kind ts is more tok over)
    | inr light ↦
        (let some = tok.some in
        goes _ (at + len) (weighed + weight_of kind) _ (omega arith) (reached_token bytes called at weighed len kind ts is tok light))
  ]
  by called at weighed ts is more goes (front.Fault len why) fault = inr (at + len, why, refused_fault bytes called at weighed len why ts is more fault)

  one_from : (turns : ℕ) (called : Bool) (at weighed : ℕ) (ts : List Placed) → IsReached bytes called at weighed ts → length bytes ≤ at + turns → OneOf
  one_from zero called at weighed ts is bound = inl (ts, reached_end bytes called at weighed ts is (omega arith))
  one_from (suc turns) called at weighed ts is bound = elim (cases_lt at (length bytes)) [
    | inl more ↦
        (let f = front_at called (drop at bytes) (omega (arith, length-drop at bytes)) in
        by called at weighed ts is more (λ next to weight us further reached. one_from turns next to weight us reached (omega arith)) f.0 f.1)
    | inr end ↦ inl (ts, reached_end bytes called at weighed ts is end)
  ]

pub one_of_both : OneOfBoth
one_of_both bytes = one_from bytes (length bytes) false 0 0 [] (reached_start bytes) (omega arith)
