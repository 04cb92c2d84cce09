-- Each token of a text stands at its place, and carries what it may.
use Rattle.std.proofs.Common.{◌≡◌, refl, sym, ap, ◌∙◌, subst, arith, ℕ, zero, suc, ◌+◌, ◌≤◌, Bool, true, List, [], ◌∷◌, ◌++◌, length, Some, append_assoc, length-append}
use Rattle.std.specs.Prelude.{slice_get, ◌&&◌, nat_lt, nat_le}
use Rattle.std.specs.List.{list_all}
use Rattle.std.proofs.lemmas.Bool.{and_from, lt-ltb, le-leb}
use Rattle.hum_syntax.specs.Forms.{Bytes, is_run, is_run_byte}
use Rattle.hum_syntax.specs.declared.token.TokenKind.{TokenKind}
use Rattle.hum_syntax.specs.Kinds.{is_carried}
use Rattle.hum_syntax.specs.Tokens.{Placed, placed, kinds_of}
use Rattle.hum_syntax.specs.Lexes.{IsWholeRun, Stands, run, symbol, text, mark, Spot, Step, blank, comment, token, Leads, here, step, start}
use Rattle.hum_lex.specs.Laws.{TokensStand, TokensAreCarried}
use Rattle.hum_lex.proofs.Reading.{run_carried, mark_carried}

-- ---- places

-- a token's bytes stand so many bytes further on
record Found (s : Spot) (t : Placed) : Type 0 where
  front : Bytes
  run : Bytes
  rest : Bytes
  split : s.rest ≡ front ++ (run ++ rest)
  from : t.from ≡ s.at + length front
  to : t.to ≡ t.from + length run
  called : Bool
  stands : Stands called run rest t.kind

abbrev Finds : Spot → List Placed → Type 0
Finds s ts = (n : ℕ) (t : Placed) → slice_get ts n ≡ Some t → Found s t

-- with bytes in front
moved : (s m : Spot) (us : Bytes) (t : Placed) → s.rest ≡ us ++ m.rest → m.at ≡ s.at + length us → Found m t → Found s t
moved s m us t split at f = record {
  front = us ++ f.front;
  run = f.run;
  rest = f.rest;
  split = split ∙ ap (λ xs. us ++ xs) f.split ∙ sym (append_assoc us f.front (f.run ++ f.rest));
  from = let p = f.from in let l = length-append us f.front in omega (arith, p, at, l);
  to = f.to;
  called = f.called;
  stands = f.stands;
}

some_placed : (t u : Placed) → Some t ≡ Some u → t ≡ u
some_placed t u e = cc

at_step : (s m : Spot) (us vs : List Placed) → Step s us m → Finds m vs → Finds s (us ++ vs)
at_step s m us vs (blank {b} {rest} split is) more n t h = moved s m (b ∷ []) t split refl (more n t h)
at_step s m us vs (comment {line} {rest} split is) more n t h = moved s m (35 ∷ line) t split refl (more n t h)
at_step s m us vs (token {us = bytes} {rest = rest} {kind = kind} split stands) more zero t h =
    subst (Found s) (some_placed (placed kind s.at (s.at + length bytes)) t h) (record {
      front = [];
      run = bytes;
      rest = rest;
      split = split;
      from = omega arith;
      to = refl;
      called = s.called;
      stands = stands;
    })
at_step s m us vs (token {us = bytes} {rest = rest} {kind = kind} split stands) more (suc n) t h = moved s m bytes t split refl (more n t h)

finds : (s e : Spot) (ts : List Placed) → Leads s ts e → Finds s ts
finds s e ts here n t h = cc h
finds s e ts (step {m = m} {us = us} {vs = vs} st more) n t h = at_step s m us vs st (finds m e vs more) n t h

pub tokens_stand : TokensStand
tokens_stand bytes ts lexes n t h =
    let f = finds (start bytes) lexes.0 ts lexes.1 n t h in
    record {
      front = f.front;
      run = f.run;
      rest = f.rest;
      split = f.split;
      from = (let p : t.from ≡ 0 + length f.front = f.from in omega (arith, p));
      to = f.to;
      called = f.called;
      stands = f.stands;
    }

-- ---- what tokens carry

run_form : (us rest : Bytes) → IsWholeRun us rest → length us ≤ 128 → is_run us ≡ true
run_form us rest whole short =
    and_from (nat_lt 0 (length us) && nat_le (length us) 128) (list_all is_run_byte us)
    (and_from (nat_lt 0 (length us)) (nat_le (length us) 128) (lt-ltb 0 (length us) whole.some) (le-leb (length us) 128 short)) whole.each

stands_carried : {called : Bool} {us rest : Bytes} {kind : TokenKind} → Stands called us rest kind → is_carried kind ≡ true
stands_carried (run {us} {rest} whole short small free) = run_carried us (run_form us rest whole short) small
stands_carried (symbol {us} {rest} whole short) = run_form us rest whole short
stands_carried (text is) = is
stands_carried {called} (mark {b} {rest} {kind} m) = mark_carried called b kind m

carried : (s e : Spot) (ts : List Placed) → Leads s ts e → list_all is_carried (kinds_of ts) ≡ true
carried s e ts here = refl
carried s e ts (step (blank split is) more) = carried _ e _ more
carried s e ts (step (comment split is) more) = carried _ e _ more
carried s e ts (step {m = m} {vs = vs} (token {us = us} {rest = rest} {kind = kind} split stands) more) =
    and_from (is_carried kind) (list_all is_carried (kinds_of vs)) (stands_carried stands) (carried m e vs more)

pub tokens_are_carried : TokensAreCarried
tokens_are_carried bytes ts lexes = carried (start bytes) lexes.0 ts lexes.1
