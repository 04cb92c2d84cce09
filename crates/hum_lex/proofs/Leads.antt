-- The first bytes tell what stands at a place, so one step leads on from it.
use Rattle.std.proofs.Common.{◌≡◌, ℕ, ◌+◌, ◌<◌, ◌≤◌, Bool, true, false, cond, List, [], ◌∷◌, ◌++◌, length, drop, Option, Some, None, refl, sym, ap, ◌∙◌, subst, arith, inl, inr, append_assoc}
use Rattle.std.specs.Prelude.{not, if◌then◌else◌, ◌&&◌, ◌||◌, ◌==◌, nat_le}
use Rattle.std.specs.List.{list_all}
use Rattle.std.proofs.lemmas.Bool.{cond-true, cond-false, and_parts, or_cases, not-true, cases_eq, ne_eqb, eqb-true, leb-true, both_ways, false_from_ne_true}
use Rattle.hum_syntax.specs.declared.TokenKind.{TokenKind}
use Rattle.hum_syntax.specs.declared.TokenKind.TheVariants as k
use Rattle.hum_syntax.specs.Forms.{Bytes, is_blank, is_delimiter, is_run_byte, is_text, text_bytes}
use Rattle.hum_syntax.specs.Kinds.{kind_of_run}
use Rattle.hum_syntax.specs.Tokens.{Placed, placed, is_callee}
use Rattle.hum_syntax.specs.Lexes.{ends_or, is_line_feed, IsWholeRun, is_large, is_reserved, mark_of, Stands, run, symbol, text, mark, IsComment, Spot, spot, Step, blank, comment, token}
use Rattle.hum_lex.specs.Faults.{IsStray}
use Rattle.hum_lex.proofs.Runs.{same_front}
use Rattle.hum_lex.proofs.Texts.{text_same}

-- what stands at the front: 1 a blank, 2 a run, 3 a comment, 4 another `#`, 5 a text, 6 a mark, 7 no token
abbrev pub lead : Bytes → ℕ
lead [] = 0
lead (b ∷ bs) =
    if is_blank b then 1 else (if is_run_byte b then 2 else (if b == 35 then (if ends_or is_blank bs then 3 else 4)
    else (if b == 34 then 5 else (if is_delimiter b then 6 else 7))))

pub blank_low : (b : ℕ) → is_blank b ≡ true → b < 33
blank_low b is = elim (or_cases (b == 32 || b == 9 || b == 13) (b == 10) is) [
  | inl h ↦ elim (or_cases (b == 32 || b == 9) (b == 13) h) [
    | inl h ↦ elim (or_cases (b == 32) (b == 9) h) [ inl h ↦ (let e = eqb-true b 32 h in omega arith) | inr h ↦ (let e = eqb-true b 9 h in omega arith) ]
    | inr h ↦ (let e = eqb-true b 13 h in omega arith)
  ]
  | inr h ↦ (let e = eqb-true b 10 h in omega arith)
]

pub high_no_blank : (b : ℕ) → 33 ≤ b → is_blank b ≡ false
high_no_blank b high = false_from_ne_true (is_blank b) (λ is. let low = blank_low b is in omega arith)

pub record IsRunByte (b : ℕ) : Type 0 where
  pub high : 33 ≤ b
  pub no_delimiter : is_delimiter b ≡ false
  pub no_blank : is_blank b ≡ false

pub run_byte : (b : ℕ) → is_run_byte b ≡ true → IsRunByte b
run_byte b is =
    let p = and_parts (nat_le 33 b && nat_le b 126) (not (is_delimiter b)) is in
    let q = and_parts (nat_le 33 b) (nat_le b 126) p.0 in
    record { high = leb-true 33 b q.0; no_delimiter = not-true (is_delimiter b) p.1; no_blank = high_no_blank b (leb-true 33 b q.0) }

pub lead_blank : (b : ℕ) (bs : Bytes) → is_blank b ≡ true → lead (b ∷ bs) ≡ 1
lead_blank b bs is = cond-true (is_blank b) _ _ is

lead_run_byte : (b : ℕ) (bs : Bytes) → is_run_byte b ≡ true → lead (b ∷ bs) ≡ 2
lead_run_byte b bs is = cond-false (is_blank b) _ _ (run_byte b is).no_blank ∙ cond-true (is_run_byte b) _ _ is

-- a run begins with a byte of a run
pub run_first : (us rest : Bytes) → IsWholeRun us rest → (b : ℕ) × (more : Bytes) × (us ≡ b ∷ more) × (is_run_byte b ≡ true)
run_first [] rest is = absurd (let some = is.some in omega arith)
run_first (b ∷ us) rest is = (b, us, refl, (and_parts (is_run_byte b) (list_all is_run_byte us) is.each).0)

pub lead_run : (us rest : Bytes) → IsWholeRun us rest → lead (us ++ rest) ≡ 2
lead_run us rest is = let f = run_first us rest is in ap (λ xs. lead (xs ++ rest)) f.2 ∙ lead_run_byte f.0 (f.1 ++ rest) f.3

pub lead_symbol : (us rest : Bytes) → IsWholeRun us rest → lead (35 ∷ us ++ rest) ≡ 4
lead_symbol us rest is =
    let f = run_first us rest is in
    ap (λ xs. lead (35 ∷ xs ++ rest)) f.2 ∙ cond-false (is_blank f.0) 3 4 (run_byte f.0 f.3).no_blank

pub lead_comment : (line rest : Bytes) → IsComment line rest → lead (35 ∷ line ++ rest) ≡ 3
lead_comment line rest is = cond-true (ends_or is_blank (line ++ rest)) 3 4 is.apart

mark_at : (rest : Bytes) (kind : TokenKind) (b n : ℕ) (x y : Option TokenKind) → lead (n ∷ rest) ≡ 6 → (y ≡ Some kind → lead (b ∷ rest) ≡ 6)
    → cond (b == n) x y ≡ Some kind → lead (b ∷ rest) ≡ 6
mark_at rest kind b n x y at more is = elim (cases_eq b n) [
  | inl e ↦ subst (λ m. lead (m ∷ rest) ≡ 6) (sym e) at
  | inr other ↦ more (sym (cond-false (b == n) x y (ne_eqb b n other)) ∙ is)
]

pub lead_mark : (called : Bool) (b : ℕ) (rest : Bytes) (kind : TokenKind) → mark_of called b ≡ Some kind → lead (b ∷ rest) ≡ 6
lead_mark called b rest kind =
    mark_at rest kind b 40 _ _ refl (mark_at rest kind b 41 _ _ refl (mark_at rest kind b 91 _ _ refl (mark_at rest kind b 93 _ _ refl (mark_at rest kind b 44 _ _ refl
    (mark_at rest kind b 46 _ _ refl (mark_at rest kind b 61 _ _ refl (mark_at rest kind b 58 _ _ refl (mark_at rest kind b 36 _ _ refl
    (mark_at rest kind b 92 _ None refl (λ e. absurd cc))))))))))

delimiter_none : (b n : ℕ) → is_delimiter n ≡ true → is_delimiter b ≡ false → (b == n) ≡ false
delimiter_none b n at none = ne_eqb b n (λ e. both_ways (is_delimiter b) none (ap is_delimiter e ∙ at))

pub lead_stray : (b : ℕ) (rest : Bytes) → IsStray b → lead (b ∷ rest) ≡ 7
lead_stray b rest is =
    cond-false (is_blank b) _ _ is.no_blank ∙ cond-false (is_run_byte b) _ _ is.no_run_byte
    ∙ cond-false (b == 35) _ _ (delimiter_none b 35 refl is.no_delimiter) ∙ cond-false (b == 34) _ _ (delimiter_none b 34 refl is.no_delimiter)
    ∙ cond-false (is_delimiter b) _ _ is.no_delimiter

-- ---- tokens

abbrev pub lead_of : {called : Bool} {us rest : Bytes} {kind : TokenKind} → Stands called us rest kind → ℕ
lead_of (run w l a r) = 2
lead_of (symbol w l) = 4
lead_of (text t) = 5
lead_of (mark m) = 6

lead_text : (us rest : Bytes) → lead ((34 ∷ us ++ 34 ∷ []) ++ rest) ≡ 5
lead_text us rest = refl

pub lead_is : (called : Bool) (us rest : Bytes) (kind : TokenKind) (h : Stands called us rest kind) → lead (us ++ rest) ≡ lead_of h
lead_is called us rest _ (run w l a r) = lead_run _ _ w
lead_is called _ rest _ (symbol w l) = lead_symbol _ _ w
lead_is called _ rest _ (text t) = refl
lead_is called _ rest kind (mark {b = b} m) = lead_mark called b rest kind m

-- a token, where it stands, is told by the bytes
pub record IsSame (us rest : Bytes) (kind : TokenKind) (vs more : Bytes) (other : TokenKind) : Type 0 where
  pub front : us ≡ vs
  pub behind : rest ≡ more
  pub token : kind ≡ other

quoted : (us rest : Bytes) → (34 ∷ us ++ 34 ∷ []) ++ rest ≡ 34 ∷ us ++ 34 ∷ rest
quoted us rest = ap (λ xs. 34 ∷ xs) (append_assoc us (34 ∷ []) rest)

pub same_token : (called : Bool) (us rest : Bytes) (kind : TokenKind) (vs more : Bytes) (other : TokenKind) → Stands called us rest kind → Stands called vs more other
    → us ++ rest ≡ vs ++ more → IsSame us rest kind vs more other
same_token called us rest _ vs more _ (run w l a r) (run w' l' a' r') e =
    let both = same_front is_run_byte us rest vs more w.each w.maximal w'.each w'.maximal e in
    record { front = both.0; behind = both.1; token = ap kind_of_run both.0 }
same_token called _ rest _ _ more _ (symbol {us = us} w l) (symbol {us = vs} w' l') e =
    let both = same_front is_run_byte us rest vs more w.each w.maximal w'.each w'.maximal (ap (drop 1) e) in
    record { front = ap (λ xs. 35 ∷ xs) both.0; behind = both.1; token = ap (λ xs. k.Symbol xs) both.0 }
same_token called _ rest _ _ more _ (text {cs = cs} t) (text {cs = ds} t') e =
    let both = text_same cs ds rest more t t' (ap (drop 1) (sym (quoted (text_bytes cs) rest) ∙ e ∙ quoted (text_bytes ds) more)) in
    record { front = ap (λ xs. 34 ∷ text_bytes xs ++ 34 ∷ []) both.0; behind = both.1; token = ap (λ xs. k.Text xs) both.0 }
same_token called _ rest kind _ more other (mark {b = b} m) (mark {b = c} m') e =
    let first : b ≡ c = cc in
    let behind : rest ≡ more = cc in
    let some : Some kind ≡ Some other = sym m ∙ ap (mark_of called) first ∙ m' in
    record { front = ap (λ x. x ∷ []) first; behind = behind; token = cc }
same_token called us rest kind vs more other h h' e =
    let same : lead_of h ≡ lead_of h' = sym (lead_is called us rest kind h) ∙ ap lead e ∙ lead_is called vs more other h' in
    absurd (omega arith)

token_lead : {called : Bool} {us rest : Bytes} {kind : TokenKind} (h : Stands called us rest kind) → (lead_of h ≡ 1 → ⊥) × (lead_of h ≡ 3 → ⊥)
token_lead (run w l a r) = ((λ e. absurd (omega arith)), (λ e. absurd (omega arith)))
token_lead (symbol w l) = ((λ e. absurd (omega arith)), (λ e. absurd (omega arith)))
token_lead (text t) = ((λ e. absurd (omega arith)), (λ e. absurd (omega arith)))
token_lead (mark m) = ((λ e. absurd (omega arith)), (λ e. absurd (omega arith)))

-- ---- steps

abbrev pub step_lead : {s m : Spot} {us : List Placed} → Step s us m → ℕ
step_lead (blank e is) = 1
step_lead (comment e is) = 3
step_lead (token e h) = lead_of h

pub step_lead_is : (s m : Spot) (us : List Placed) (h : Step s us m) → lead s.rest ≡ step_lead h
step_lead_is s m us (blank {b = b} {rest = rest} e is) = ap lead e ∙ lead_blank b rest is
step_lead_is s m us (comment {line = line} {rest = rest} e is) = ap lead e ∙ lead_comment line rest is
step_lead_is s m us (token {us = xs} {rest = rest} {kind = kind} e h) = ap lead e ∙ lead_is s.called xs rest kind h

twice : (rest : Bytes) → ends_or is_line_feed rest ≡ true → ends_or (λ b. not (not (is_line_feed b))) rest ≡ true
twice [] whole = refl
twice (b ∷ rest) whole = ap (λ t. not (not t)) whole

go_on : (s m n : Spot) (us vs : List Placed) (h : Step s us m) (h' : Step s vs n) → step_lead h ≡ step_lead h' → (us ≡ vs) × (m ≡ n)
go_on s m n us vs (blank {b = b} {rest = rest} e is) (blank {b = c} {rest = more} e' is') at =
    let same : b ∷ rest ≡ c ∷ more = sym e ∙ e' in let behind : rest ≡ more = cc in (refl, ap (λ xs. spot false (s.at + 1) xs) behind)
go_on s m n us vs (comment {line = line} {rest = rest} e is) (comment {line = other} {rest = more} e' is') at =
    let both = same_front (λ b. not (is_line_feed b)) line rest other more is.one_line (twice rest is.whole) is'.one_line (twice more is'.whole) (ap (drop 1) (sym e ∙ e')) in
    (refl, (λ i. spot false (s.at + length (35 ∷ both.0 i)) (both.1 i)))
go_on s m n us vs (token {us = xs} {rest = rest} {kind = kind} e h) (token {us = ys} {rest = more} {kind = other} e' h') at =
    let same = same_token s.called xs rest kind ys more other h h' (sym e ∙ e') in
    ((λ i. placed (same.token i) s.at (s.at + length (same.front i)) ∷ []), (λ i. spot (is_callee (same.token i)) (s.at + length (same.front i)) (same.behind i)))
go_on s m n us vs (blank e is) (comment e' is') at = absurd (omega arith)
go_on s m n us vs (comment e is) (blank e' is') at = absurd (omega arith)
go_on s m n us vs (blank e is) (token e' h) at = absurd ((token_lead h).0 (sym at))
go_on s m n us vs (comment e is) (token e' h) at = absurd ((token_lead h).1 (sym at))
go_on s m n us vs (token e h) (blank e' is) at = absurd ((token_lead h).0 at)
go_on s m n us vs (token e h) (comment e' is) at = absurd ((token_lead h).1 at)

-- One step leads on from a place.
pub one_step : (s m n : Spot) (us vs : List Placed) → Step s us m → Step s vs n → (us ≡ vs) × (m ≡ n)
one_step s m n us vs h h' = go_on s m n us vs h h' (sym (step_lead_is s m us h) ∙ step_lead_is s n vs h')

-- the step over a run
pub record IsRunStep (bytes : Bytes) : Type 0 where
  pub us : Bytes
  pub rest : Bytes
  pub split : bytes ≡ us ++ rest
  pub whole : IsWholeRun us rest
  pub short : length us ≤ 128
  pub in_range : is_large (kind_of_run us) ≡ false
  pub in_profile : is_reserved (kind_of_run us) ≡ false

over_run : (s m : Spot) (us : List Placed) (h : Step s us m) → step_lead h ≡ 2 → IsRunStep s.rest
over_run s m us (token {us = xs} {rest = rest} e (run w l a r)) at = record { us = xs; rest = rest; split = e; whole = w; short = l; in_range = a; in_profile = r }
over_run s m us (token e (symbol w l)) at = absurd (omega arith)
over_run s m us (token e (text t)) at = absurd (omega arith)
over_run s m us (token e (mark t)) at = absurd (omega arith)
over_run s m us (blank e is) at = absurd (omega arith)
over_run s m us (comment e is) at = absurd (omega arith)

pub run_step : (s m : Spot) (us : List Placed) → Step s us m → lead s.rest ≡ 2 → IsRunStep s.rest
run_step s m us h at = over_run s m us h (sym (step_lead_is s m us h) ∙ at)

-- the step over a symbol
pub record IsSymbolStep (bytes : Bytes) : Type 0 where
  pub us : Bytes
  pub rest : Bytes
  pub split : bytes ≡ 35 ∷ us ++ rest
  pub whole : IsWholeRun us rest
  pub short : length us ≤ 128

over_symbol : (s m : Spot) (us : List Placed) (h : Step s us m) → step_lead h ≡ 4 → IsSymbolStep s.rest
over_symbol s m us (token {rest = rest} e (symbol {us = xs} w l)) at = record { us = xs; rest = rest; split = e; whole = w; short = l }
over_symbol s m us (token e (run w l a r)) at = absurd (omega arith)
over_symbol s m us (token e (text t)) at = absurd (omega arith)
over_symbol s m us (token e (mark t)) at = absurd (omega arith)
over_symbol s m us (blank e is) at = absurd (omega arith)
over_symbol s m us (comment e is) at = absurd (omega arith)

pub symbol_step : (s m : Spot) (us : List Placed) → Step s us m → lead s.rest ≡ 4 → IsSymbolStep s.rest
symbol_step s m us h at = over_symbol s m us h (sym (step_lead_is s m us h) ∙ at)

-- the step over a text
pub record IsTextStep (bytes : Bytes) : Type 0 where
  pub cs : List ℕ
  pub rest : Bytes
  pub split : bytes ≡ 34 ∷ text_bytes cs ++ 34 ∷ rest
  pub text : is_text cs ≡ true

over_text : (s m : Spot) (us : List Placed) (h : Step s us m) → step_lead h ≡ 5 → IsTextStep s.rest
over_text s m us (token {rest = rest} e (text {cs = cs} t)) at = record { cs = cs; rest = rest; split = e ∙ quoted (text_bytes cs) rest; text = t }
over_text s m us (token e (run w l a r)) at = absurd (omega arith)
over_text s m us (token e (symbol w l)) at = absurd (omega arith)
over_text s m us (token e (mark t)) at = absurd (omega arith)
over_text s m us (blank e is) at = absurd (omega arith)
over_text s m us (comment e is) at = absurd (omega arith)

pub text_step : (s m : Spot) (us : List Placed) → Step s us m → lead s.rest ≡ 5 → IsTextStep s.rest
text_step s m us h at = over_text s m us h (sym (step_lead_is s m us h) ∙ at)

-- each step is over something, and over no stray byte
over_none : (s m : Spot) (us : List Placed) (h : Step s us m) → (step_lead h ≡ 0 → ⊥) × (step_lead h ≡ 7 → ⊥)
over_none s m us (blank e is) = ((λ e. absurd (omega arith)), (λ e. absurd (omega arith)))
over_none s m us (comment e is) = ((λ e. absurd (omega arith)), (λ e. absurd (omega arith)))
over_none s m us (token e (run w l a r)) = ((λ e. absurd (omega arith)), (λ e. absurd (omega arith)))
over_none s m us (token e (symbol w l)) = ((λ e. absurd (omega arith)), (λ e. absurd (omega arith)))
over_none s m us (token e (text t)) = ((λ e. absurd (omega arith)), (λ e. absurd (omega arith)))
over_none s m us (token e (mark t)) = ((λ e. absurd (omega arith)), (λ e. absurd (omega arith)))

pub no_step : (s m : Spot) (us : List Placed) → Step s us m → lead s.rest ≡ 7 → ⊥
no_step s m us h at = (over_none s m us h).1 (sym (step_lead_is s m us h) ∙ at)

pub end_step : (s m : Spot) (us : List Placed) → Step s us m → s.rest ≡ [] → ⊥
end_step s m us h at = (over_none s m us h).0 (sym (step_lead_is s m us h) ∙ ap lead at)
