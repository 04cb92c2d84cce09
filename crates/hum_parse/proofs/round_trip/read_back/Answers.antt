use Rattle.std.proofs.Common.{◌≡◌, ◌≤◌, Some, length, ap, sym, subst, inl, inr, arith}
use Rattle.hum_syntax.specs.Lexes.{Lexes}
use Rattle.hum_syntax.specs.Spells.{Spells, IsStmts, deepest, kinds}
use Rattle.hum_syntax.specs.Tokens.{all_placed, weight}
use Rattle.hum_parse.proofs.Reread.{few_tokens, reread, text_kinds, text_spells, text_tokens}
use Rattle.hum_parse.proofs.round_trip.read_back.Goals as goal

pub returns-in-Err-Refused-clause-same : goal.returns-in-Err-Refused-clause-same
returns-in-Err-Refused-clause-same c light shallow =
    let lexed =
    text_tokens c.in_ok-text.text.items c.as_slice.result.now c.args.tree.now.statements c.in_ok-text.ensures.text c.as_slice.ensures.value light in
    let no_tokens = c.in-Err-Refused.ensures.only c.in_ok-text.ensures.text.tokens lexed in absurd cc

pub returns-in-Err-Refused-clause-within : goal.returns-in-Err-Refused-clause-within
returns-in-Err-Refused-clause-within c spelled light spells =
    let lexed =
    text_tokens c.in_ok-text.text.items c.as_slice.result.now c.args.tree.now.statements c.in_ok-text.ensures.text c.as_slice.ensures.value light in
    let no_tokens = c.in-Err-Refused.ensures.only c.in_ok-text.ensures.text.tokens lexed in absurd cc

pub parse-requires : goal.parse-requires
parse-requires c =
    let same : length c.as_slice-2.result.now ≡ length c.in-Ok.tokens.items = ap length c.as_slice-2.ensures.value in
    let few : length c.in-Ok.tokens.items ≤ weight (all_placed c.in-Ok.tokens.items) = few_tokens c.in-Ok.tokens.items in
    let light : weight (all_placed c.in-Ok.tokens.items) ≤ 16000 = c.in-Ok.ensures.tokens.light in
    omega arith

-- what is read is what was printed
same : (c : goal.After-drop-text-in-Ok-parse) → c.in-Ok-parse.again ≡ c.args.tree.now
same c =
    let ts = c.in-Ok.tokens.items in
    let lexes : Lexes c.in_ok-text.text.items (all_placed ts) =
    subst (λ bytes. Lexes bytes (all_placed ts)) c.as_slice.ensures.value c.in-Ok.ensures.tokens.lexes in
    let spells : Spells (kinds ts) c.in-Ok-parse.again = subst (λ us. Spells (kinds us) c.in-Ok-parse.again) c.as_slice-2.ensures.value c.in-Ok-parse.ensures.found in
    reread c.in_ok-text.text.items c.args.tree.now c.in-Ok-parse.again c.in_ok-text.ensures.text ts lexes spells

pub returns-in-Ok-parse-clause-same : goal.returns-in-Ok-parse-clause-same
returns-in-Ok-parse-clause-same c light shallow = ap (λ z. Some z) (same c)

pub returns-in-Ok-parse-clause-within : goal.returns-in-Ok-parse-clause-within
returns-in-Ok-parse-clause-within c spelled light spells = ap (λ z. Some z) (same c)

pub returns-in-Ok-parse-clause-no_other : goal.returns-in-Ok-parse-clause-no_other
returns-in-Ok-parse-clause-no_other c = inr (ap (λ z. Some z) (same c))

pub returns-clause-same : goal.returns-clause-same
returns-clause-same c light shallow =
    let tree = c.args.tree.now in
    let ts = c.in-Ok.tokens.items in
    let text = c.in_ok-text.ensures.text in
    let lexed = text_tokens c.in_ok-text.text.items c.as_slice.result.now tree.statements text c.as_slice.ensures.value light in
    let spells : Spells (kinds c.as_slice-2.result.now) tree = subst (λ us. Spells (kinds us) tree) (sym c.as_slice-2.ensures.value)
    (text_spells c.in_ok-text.text.items tree text shallow ts (c.in-Ok.ensures.only text.tokens lexed)) in
    elim (c.in-Err-Refused-parse.ensures.only tree spells) [ inl e ↦ absurd cc | inr e ↦ absurd cc ]

pub returns-clause-within : goal.returns-clause-within
returns-clause-within c spelled light spells =
    let xs = c.args.tree.now.statements in
    let ts = c.in-Ok.tokens.items in
    let text = c.in_ok-text.ensures.text in
    let lexed = text_tokens c.in_ok-text.text.items c.as_slice.result.now xs text c.as_slice.ensures.value light in
    let is = text_kinds c.in_ok-text.text.items xs text ts (c.in-Ok.ensures.only text.tokens lexed) in
    let here : Spells (kinds ts) spelled = subst (λ ks. IsStmts deepest ks spelled.statements) (sym is) spells in
    let told : Spells (kinds c.as_slice-2.result.now) spelled = subst (λ us. Spells (kinds us) spelled) (sym c.as_slice-2.ensures.value) here in
    elim (c.in-Err-Refused-parse.ensures.only spelled told) [ inl e ↦ absurd cc | inr e ↦ absurd cc ]
