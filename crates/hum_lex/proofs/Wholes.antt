-- The tokens so far, and what becomes of them.
use Rattle.std.proofs.Common.{◌≡◌, ℕ, ◌+◌, ◌<◌, ◌≤◌, Bool, false, List, [], ◌∷◌, ◌++◌, length, take, drop, refl, sym, ap, ◌∙◌, subst, arith, append_assoc, length-drop, length-take-le, take-append-drop}
use Rattle.std.proofs.lemmas.List.{append-nil, drop-drop}
use Rattle.hum_syntax.specs.declared.TokenKind.{TokenKind}
use Rattle.hum_syntax.specs.Forms.{Bytes}
use Rattle.hum_syntax.specs.Tokens.{Placed, placed, is_callee, weight_of, weight, weight_limit}
use Rattle.hum_syntax.specs.Lexes.{Spot, spot, Step, token, Leads, here, step, start, IsTokens}
use Rattle.hum_lex.specs.declared.error.LexCause.{LexCause}
use Rattle.hum_lex.specs.declared.error.LexCause.TheVariants as cause
use Rattle.hum_lex.specs.declared.error.LexError.{LexError}
use Rattle.hum_lex.specs.declared.error.LexError.TheVariants as error
use Rattle.hum_lex.specs.declared.error.LexRefused.{LexRefused}
use Rattle.hum_lex.specs.Faults.{Fault, heavy, IsRefusedAt}
use Rattle.hum_lex.specs.Laws.{OneTokenList}
use Rattle.hum_lex.specs.Fronts.{IsGap, IsToken, IsFault, IsHeavy}
use Rattle.hum_lex.proofs.Leads.{one_step, end_step}
use Rattle.hum_lex.proofs.Faulty.{only_heavy}

pub weight-append : (us vs : List Placed) → weight (us ++ vs) ≡ weight us + weight vs
weight-append [] vs = (let e : weight vs ≡ 0 + weight vs = omega arith in e)
weight-append (u ∷ us) vs = let more = weight-append us vs in omega arith

-- one step further on
longer : (s m n : Spot) (us vs : List Placed) → Leads s us m → Step m vs n → Leads s (us ++ vs) n
longer s m n us vs here h = subst (λ xs. Leads s xs n) (append-nil vs) (step h here)
longer s m n _ vs (step {m = mid} {us = us} {vs = ws} h more) last = subst (λ xs. Leads s xs n) (sym (append_assoc us ws vs)) (step h (longer mid m n ws vs more last))

-- tokens that lead to a place begin all the tokens of the text
pub passes : (s m e : Spot) (us ts : List Placed) → Leads s us m → Leads s ts e → e.rest ≡ [] → (vs : List Placed) × (ts ≡ us ++ vs) × Leads m vs e
passes s m e us ts here all end = (ts, refl, all)
passes s m e us ts (step {m = mid} {us = us₁} h more) here end = absurd (end_step s mid us₁ h end)
passes s m e us ts (step {m = mid} {us = us₁} {vs = vs₁} h more) (step {m = mid'} {us = us₂} {vs = vs₂} h' more') end =
    let same = one_step s mid mid' us₁ us₂ h h' in
    let rest = passes mid m e vs₁ vs₂ more (subst (λ x. Leads x vs₂ e) (sym same.1) more') end in
    (rest.0, (λ i. sym same.0 i ++ rest.1 i) ∙ sym (append_assoc us₁ vs₁ rest.0), rest.2)

-- at a place with a fault no tokens of the text go on
none_go_on : (s e : Spot) (vs : List Placed) (weighed len : ℕ) (why : LexCause) → 0 < length s.rest → Fault s.called weighed s.rest len why → Leads s vs e → e.rest ≡ [] → weight_limit < weighed + weight vs
none_go_on s e vs weighed len why some fault here end = let n = ap length end in absurd (omega arith)
none_go_on s e vs weighed len why some fault (step {m = mid} {us = us₁} {vs = vs₁} h more) end =
    let over = (only_heavy s mid us₁ weighed len why fault h).2 in let sum = weight-append us₁ vs₁ in omega arith

module _ (bytes : Bytes) where
  pub record IsReached (called : Bool) (at weighed : ℕ) (ts : List Placed) : Type 0 where
    pub within : at ≤ length bytes
    pub leads : Leads (start bytes) ts (spot called at (drop at bytes))
    pub weighs : weighed ≡ weight ts
    pub light : weighed ≤ weight_limit

  pub reached_start : IsReached false 0 0 []
  reached_start = record { within = omega arith; leads = here; weighs = refl; light = omega arith }

  pub reached_gap : (called : Bool) (at weighed len : ℕ) (ts : List Placed) → IsReached called at weighed ts → IsGap called (drop at bytes) len → IsReached false (at + len) weighed ts
  reached_gap called at weighed len ts is gap = record {
    within = let n = gap.within in let m = is.within in omega (arith, length-drop at bytes);
    leads =
        subst (λ xs. Leads (start bytes) xs (spot false (at + len) (drop (at + len) bytes))) (append-nil ts)
        (longer (start bytes) (spot called at (drop at bytes)) _ ts [] is.leads (subst (λ xs. Step (spot called at (drop at bytes)) [] (spot false (at + len) xs)) (drop-drop len at bytes) (gap.leads at)));
    weighs = is.weighs;
    light = is.light;
  }

  token_step : (called : Bool) (at len : ℕ) (kind : TokenKind) → at ≤ length bytes → IsToken called (drop at bytes) len kind
      → Step (spot called at (drop at bytes)) (placed kind at (at + len) ∷ []) (spot (is_callee kind) (at + len) (drop (at + len) bytes))
  token_step called at len kind within is =
      let rest = drop at bytes in
      let n : length (take len rest) ≡ len = length-take-le len rest is.within in
      let h : Step (spot called at rest) (placed kind at (at + length (take len rest)) ∷ []) (spot (is_callee kind) (at + length (take len rest)) (drop len rest)) = token (sym (take-append-drop len rest)) is.stands in
      subst (λ xs. Step (spot called at rest) (placed kind at (at + len) ∷ []) (spot (is_callee kind) (at + len) xs)) (drop-drop len at bytes)
      (subst (λ k. Step (spot called at rest) (placed kind at (at + k) ∷ []) (spot (is_callee kind) (at + k) (drop len rest))) n h)

  pub reached_token : (called : Bool) (at weighed len : ℕ) (kind : TokenKind) (ts : List Placed) → IsReached called at weighed ts → IsToken called (drop at bytes) len kind
      → weighed + weight_of kind ≤ weight_limit → IsReached (is_callee kind) (at + len) (weighed + weight_of kind) (ts ++ placed kind at (at + len) ∷ [])
  reached_token called at weighed len kind ts is tok light = record {
    within = let n = tok.within in let m = is.within in omega (arith, length-drop at bytes);
    leads = longer (start bytes) (spot called at (drop at bytes)) _ ts (placed kind at (at + len) ∷ []) is.leads (token_step called at len kind is.within tok);
    weighs = let w = is.weighs in let sum = weight-append ts (placed kind at (at + len) ∷ []) in omega arith;
    light = light;
  }

  -- nothing is left
  pub reached_end : (called : Bool) (at weighed : ℕ) (ts : List Placed) → IsReached called at weighed ts → length bytes ≤ at → IsTokens bytes ts
  reached_end called at weighed ts is end = record {
    lexes = (spot called at (drop at bytes), is.leads, no_more (drop at bytes) (omega (arith, length-drop at bytes)));
    light = let w = is.weighs in let l = is.light in omega arith;
  }
    where
      no_more : (xs : Bytes) → length xs ≡ 0 → xs ≡ []
      no_more [] e = refl
      no_more (x ∷ xs) e = absurd (omega arith)

  refused : (called : Bool) (at weighed len : ℕ) (why : LexCause) (ts : List Placed) → IsReached called at weighed ts → at < length bytes
      → Fault called (weight ts) (drop at bytes) len why → IsRefusedAt bytes (at + len) why
  refused called at weighed len why ts is more fault =
      let s = spot called at (drop at bytes) in
      let some : 0 < length (drop at bytes) = omega (arith, length-drop at bytes) in
      record {
        before = ts;
        light = let w = is.weighs in let l = is.light in omega arith;
        spot = s;
        leads = is.leads;
        len = len;
        place = refl;
        fault = fault;
        no_tokens = λ all tokens.
            let e = tokens.lexes.0 in
            let on = passes (start bytes) s e ts all is.leads tokens.lexes.1 tokens.lexes.2 in
            let over = none_go_on s e on.0 (weight ts) len why some fault on.2 tokens.lexes.2 in
            let sum = ap weight on.1 ∙ weight-append ts on.0 in
            let light = tokens.light in
            omega arith;
      }

  pub refused_fault : (called : Bool) (at weighed len : ℕ) (why : LexCause) (ts : List Placed) → IsReached called at weighed ts → at < length bytes
      → IsFault called (drop at bytes) len why → IsRefusedAt bytes (at + len) why
  refused_fault called at weighed len why ts is more fault = refused called at weighed len why ts is more (fault.fault (weight ts))

  pub refused_heavy : (called : Bool) (at weighed len : ℕ) (kind : TokenKind) (ts : List Placed) → IsReached called at weighed ts → at < length bytes
      → IsToken called (drop at bytes) len kind → weight_limit < weighed + weight_of kind → IsRefusedAt bytes at cause.TooLarge
  refused_heavy called at weighed len kind ts is more tok over =
      subst (λ n. IsRefusedAt bytes n cause.TooLarge) (let e : at + 0 ≡ at = omega arith in e)
      (refused called at weighed 0 cause.TooLarge ts is more
      (heavy (sym (take-append-drop len (drop at bytes))) tok.stands (let w = is.weighs in let o : weight_limit < weight ts + weight_of kind = omega arith in o)))

  module _ (called : Bool) (at weighed len : ℕ) (kind : TokenKind) (ts : List Placed) (is : IsReached called at weighed ts) (more : at < length bytes) (tok : IsToken called (drop at bytes) len kind) where
    pub heavy_only : (e : LexError) → IsHeavy (weighed + weight_of kind) at e → (us : List Placed) → IsTokens bytes us → e ≡ error.NoMemory
    heavy_only error.NoMemory h us tokens = refl
    heavy_only (error.Refused told) h us tokens = absurd ((refused_heavy called at weighed len kind ts is more tok h.1).no_tokens us tokens)

    pub heavy_told : (e : LexError) → IsHeavy (weighed + weight_of kind) at e → (a : ℕ) (c : LexCause) → e ≡ error.Refused (record { at = a; cause = c }) → IsRefusedAt bytes a c
    heavy_told error.NoMemory h a c e = absurd cc
    heavy_told (error.Refused told) h a c e =
        let other : LexRefused = record { at = a; cause = c } in
        let one : told ≡ other = cc in
        let first : LexRefused = record { at = at; cause = cause.TooLarge } in
        let both : first ≡ other = sym h.0 ∙ one in
        subst (λ (r : LexRefused). IsRefusedAt bytes r.at r.cause) both (refused_heavy called at weighed len kind ts is more tok h.1)

-- A text has one list of tokens.
pub one_list : OneTokenList
one_list bytes us vs a b =
    let on = passes (start bytes) a.0 b.0 us vs a.1 b.1 b.2 in
    sym (on.1 ∙ ap (λ xs. us ++ xs) (nothing a.0 b.0 on.0 on.2 a.2) ∙ append-nil us)
  where
    nothing : (e d : Spot) (xs : List Placed) → Leads e xs d → e.rest ≡ [] → xs ≡ []
    nothing e d xs here end = refl
    nothing e d xs (step {m = mid} {us = us₁} h more) end = absurd (end_step e mid us₁ h end)

-- what a refusal tells
module _ (bytes : Bytes) (at : ℕ) (why : LexCause) (is : IsRefusedAt bytes at why) where
  pub refused_only : (e : LexError) (ts : List Placed) → IsTokens bytes ts → e ≡ error.NoMemory
  refused_only e ts tokens = absurd (is.no_tokens ts tokens)

  pub refused_told : (a : ℕ) (c : LexCause) → error.Refused (record { at = at; cause = why }) ≡ error.Refused (record { at = a; cause = c }) → IsRefusedAt bytes a c
  refused_told a c same =
      let told : LexRefused = record { at = at; cause = why } in
      let other : LexRefused = record { at = a; cause = c } in
      let both : told ≡ other = cc in
      subst (λ (r : LexRefused). IsRefusedAt bytes r.at r.cause) both is
