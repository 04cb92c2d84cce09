-- A text is refused at one place, and for one cause.
use Rattle.std.proofs.Common.{◌≡◌, ℕ, ◌+◌, ◌<◌, ◌≤◌, Bool, true, false, List, [], ◌∷◌, ◌++◌, length, drop, refl, sym, ap, ◌∙◌, subst, arith, inl, inr, ◌⊎◌, append_assoc}
use Rattle.std.proofs.lemmas.Bool.{and_parts, both_ways, true≢false}
use Rattle.std.proofs.lemmas.List.{append-nil}
use Rattle.hum_syntax.specs.declared.TokenKind.{TokenKind}
use Rattle.hum_syntax.specs.declared.TokenKind.TheVariants as k
use Rattle.hum_syntax.specs.Forms.{Bytes, is_delimiter, is_run_byte, is_text, point_bytes, text_bytes}
use Rattle.hum_syntax.specs.Kinds.{kind_of_run}
use Rattle.hum_syntax.specs.Tokens.{Placed, weight, weight_limit}
use Rattle.hum_syntax.specs.Lexes.{IsWholeRun, is_large, is_reserved, Spot, token, Leads, here, step, start}
use Rattle.hum_lex.specs.declared.error.LexCause.{LexCause}
use Rattle.hum_lex.specs.Faults.{BeginsNoPoint, Fault, stray, hash_delimiter, hash_stray, open_text, bad_text, long_run, long_symbol, large, reserved, heavy, IsRefusedAt}
use Rattle.hum_lex.specs.Laws.{OneRefusal, NeverBoth}
use Rattle.hum_lex.proofs.Points.{point_same}
use Rattle.hum_lex.proofs.Texts.{same_inside}
use Rattle.hum_lex.proofs.Leads.{lead, lead_of, lead_is, lead_run, lead_symbol, lead_stray, run_first, run_byte, one_step}
use Rattle.hum_lex.proofs.Faulty.{delimiter_no_blank, lead_hash, same_run, only_heavy}
use Rattle.hum_lex.proofs.Wholes.{weight-append}

-- ---- one fault at a place

abbrev fault_lead : {called : Bool} {weighed : ℕ} {bytes : Bytes} {len : ℕ} {why : LexCause} → Fault called weighed bytes len why → ℕ
fault_lead (stray e is) = 7
fault_lead (hash_delimiter e is) = 4
fault_lead (hash_stray e is) = 4
fault_lead (open_text e none) = 5
fault_lead (bad_text cs us rest e t inside some none) = 5
fault_lead (long_run e w long) = 2
fault_lead (long_symbol e w long) = 4
fault_lead (large e w short out) = 2
fault_lead (reserved e w short out) = 2
fault_lead (heavy e stands over) = lead_of stands

fault_lead_is : {called : Bool} {weighed : ℕ} {bytes : Bytes} {len : ℕ} {why : LexCause} (f : Fault called weighed bytes len why) → lead bytes ≡ fault_lead f
fault_lead_is (stray {b = b} {rest = rest} e is) = ap lead e ∙ lead_stray b rest is
fault_lead_is (hash_delimiter {b = b} {rest = rest} e is) = ap lead e ∙ lead_hash b rest (delimiter_no_blank b is)
fault_lead_is (hash_stray {b = b} {rest = rest} e is) = ap lead e ∙ lead_hash b rest is.no_blank
fault_lead_is (open_text e none) = ap lead e
fault_lead_is (bad_text cs us rest e t inside some none) = ap lead e
fault_lead_is (long_run {us = us} {rest = rest} e w long) = ap lead e ∙ lead_run us rest w
fault_lead_is (long_symbol {us = us} {rest = rest} e w long) = ap lead e ∙ lead_symbol us rest w
fault_lead_is (large {us = us} {rest = rest} e w short out) = ap lead e ∙ lead_run us rest w
fault_lead_is (reserved {us = us} {rest = rest} e w short out) = ap lead e ∙ lead_run us rest w
fault_lead_is {called} (heavy {us = us} {rest = rest} {kind = kind} e stands over) = ap lead e ∙ lead_is called us rest kind stands

-- what the byte behind a `#` is, it is in each fault
same_byte : (bytes rest more : Bytes) (b c : ℕ) → bytes ≡ 35 ∷ b ∷ rest → bytes ≡ 35 ∷ c ∷ more → b ≡ c
same_byte bytes rest more b c e e' = let same : 35 ∷ b ∷ rest ≡ 35 ∷ c ∷ more = sym e ∙ e' in cc

no_symbol : (bytes rest us more : Bytes) (b : ℕ) → bytes ≡ 35 ∷ b ∷ rest → is_run_byte b ≡ false → bytes ≡ 35 ∷ us ++ more → IsWholeRun us more → ⊥
no_symbol bytes rest us more b e other e' w =
    let first = run_first us more w in
    let same : b ≡ first.0 = same_byte bytes rest (first.1 ++ more) b first.0 e (e' ∙ ap (λ xs. 35 ∷ xs ++ more) first.2) in
    both_ways (is_run_byte b) other (ap is_run_byte same ∙ first.3)

delimiter_no_run : (b : ℕ) → is_delimiter b ≡ true → is_run_byte b ≡ false
delimiter_no_run b is = go (is_run_byte b) refl
  where
    go : (t : Bool) → is_run_byte b ≡ t → t ≡ false
    go true run = absurd (both_ways (is_delimiter b) (run_byte b run).no_delimiter is)
    go false run = refl

run_length : (bytes us rest vs more : Bytes) → bytes ≡ us ++ rest → IsWholeRun us rest → bytes ≡ vs ++ more → IsWholeRun vs more → us ≡ vs
run_length bytes us rest vs more e w e' w' = same_run us rest vs more w w' (sym e ∙ e')

large_reserved : (kind : TokenKind) → is_large kind ≡ true → is_reserved kind ≡ true → ⊥
large_reserved (k.Number z) l r = true≢false (sym r)
large_reserved (k.Keyword word) l r = true≢false (sym l)
large_reserved _ l r = true≢false (sym l)

one_kind : (bytes us rest vs more : Bytes) → bytes ≡ us ++ rest → IsWholeRun us rest → is_large (kind_of_run us) ≡ true → bytes ≡ vs ++ more → IsWholeRun vs more
    → is_reserved (kind_of_run vs) ≡ true → ⊥
one_kind bytes us rest vs more e w l e' w' r =
    let same = run_length bytes us rest vs more e w e' w' in large_reserved (kind_of_run us) l (ap (λ xs. is_reserved (kind_of_run xs)) same ∙ r)

long_short : (bytes us rest vs more : Bytes) → bytes ≡ us ++ rest → IsWholeRun us rest → 128 < length us → bytes ≡ vs ++ more → IsWholeRun vs more → length vs ≤ 128 → ⊥
long_short bytes us rest vs more e w long e' w' short = let n = ap length (run_length bytes us rest vs more e w e' w') in omega arith

-- the code points before the first byte that begins none are one list
same_points : (cs ds us vs : List ℕ) → is_text cs ≡ true → is_text ds ≡ true → text_bytes cs ++ us ≡ text_bytes ds ++ vs → BeginsNoPoint us → BeginsNoPoint vs → cs ≡ ds
same_points [] [] us vs text_c text_d e none none' = refl
same_points [] (d ∷ ds) us vs text_c text_d e none none' =
    let q = and_parts _ _ text_d in absurd (none d (text_bytes ds ++ vs) q.0 (e ∙ append_assoc (point_bytes d) (text_bytes ds) vs))
same_points (c ∷ cs) [] us vs text_c text_d e none none' =
    let p = and_parts _ _ text_c in absurd (none' c (text_bytes cs ++ us) p.0 (sym e ∙ append_assoc (point_bytes c) (text_bytes cs) us))
same_points (c ∷ cs) (d ∷ ds) us vs text_c text_d e none none' =
    let p = and_parts _ _ text_c in let q = and_parts _ _ text_d in
    let one = point_same c d (text_bytes cs ++ us) (text_bytes ds ++ vs) p.0 q.0
    (sym (append_assoc (point_bytes c) (text_bytes cs) us) ∙ e ∙ append_assoc (point_bytes d) (text_bytes ds) vs) in
    let more = same_points cs ds us vs p.1 q.1 one.1 none none' in
    (λ i. one.0 i ∷ more i)

same_fault : (s : Spot) (weighed len other : ℕ) (why cause' : LexCause) → Fault s.called weighed s.rest len why → Fault s.called weighed s.rest other cause'
    → (len ≡ other) × (why ≡ cause')
same_fault s weighed _ other _ cause' (heavy e stands over) f =
    let only = only_heavy s _ _ weighed other cause' f (token e stands) in (sym only.0, sym only.1)
same_fault s weighed len _ why _ f (heavy e stands over) = let only = only_heavy s _ _ weighed len why f (token e stands) in (only.0, only.1)
same_fault s weighed _ _ _ _ (stray e is) (stray e' is') = (refl, refl)
same_fault s weighed _ _ _ _ (hash_delimiter e is) (hash_delimiter e' is') = (refl, refl)
same_fault s weighed _ _ _ _ (hash_stray e is) (hash_stray e' is') = (refl, refl)
same_fault s weighed _ _ _ _ (long_symbol e w long) (long_symbol e' w' long') = (refl, refl)
same_fault s weighed _ _ _ _ (open_text e none) (open_text e' none') = (refl, refl)
same_fault s weighed _ _ _ _ (long_run e w long) (long_run e' w' long') = (refl, refl)
same_fault s weighed _ _ _ _ (large e w short out) (large e' w' short' out') = (refl, refl)
same_fault s weighed _ _ _ _ (reserved e w short out) (reserved e' w' short' out') = (refl, refl)
same_fault s weighed _ _ _ _ (bad_text cs us rest e t inside some none) (bad_text ds vs more e' t' inside' some' none') =
    let both = same_inside (text_bytes cs ++ us) (text_bytes ds ++ vs) rest more inside inside' (ap (drop 1) (sym e ∙ e')) in
    let same = same_points cs ds us vs t t' both.0 none none' in
    (ap (λ xs. 1 + length (text_bytes xs)) same, refl)
same_fault s weighed _ _ _ _ (open_text e none) (bad_text ds vs more e' t' inside' some' none') =
    absurd (none (text_bytes ds ++ vs) more inside' (ap (drop 1) (sym e ∙ e')))
same_fault s weighed _ _ _ _ (bad_text cs us rest e t inside some none) (open_text e' none') =
    absurd (none' (text_bytes cs ++ us) rest inside (ap (drop 1) (sym e' ∙ e)))
same_fault s weighed _ _ _ _ (hash_delimiter {b = b} {rest = rest} e is) (hash_stray {b = c} {rest = more} e' is') =
    absurd (both_ways (is_delimiter b) (ap is_delimiter (same_byte s.rest rest more b c e e') ∙ is'.no_delimiter) is)
same_fault s weighed _ _ _ _ (hash_stray {b = b} {rest = rest} e is) (hash_delimiter {b = c} {rest = more} e' is') =
    absurd (both_ways (is_delimiter c) (ap is_delimiter (same_byte s.rest more rest c b e' e) ∙ is.no_delimiter) is')
same_fault s weighed _ _ _ _ (hash_delimiter {b = b} {rest = rest} e is) (long_symbol {us = us} {rest = more} e' w long) =
    absurd (no_symbol s.rest rest us more b e (delimiter_no_run b is) e' w)
same_fault s weighed _ _ _ _ (long_symbol {us = us} {rest = more} e' w long) (hash_delimiter {b = b} {rest = rest} e is) =
    absurd (no_symbol s.rest rest us more b e (delimiter_no_run b is) e' w)
same_fault s weighed _ _ _ _ (hash_stray {b = b} {rest = rest} e is) (long_symbol {us = us} {rest = more} e' w long) =
    absurd (no_symbol s.rest rest us more b e is.no_run_byte e' w)
same_fault s weighed _ _ _ _ (long_symbol {us = us} {rest = more} e' w long) (hash_stray {b = b} {rest = rest} e is) =
    absurd (no_symbol s.rest rest us more b e is.no_run_byte e' w)
same_fault s weighed _ _ _ _ (long_run {us = us} {rest = rest} e w long) (large {us = vs} {rest = more} e' w' short out) =
    absurd (long_short s.rest us rest vs more e w long e' w' short)
same_fault s weighed _ _ _ _ (large {us = vs} {rest = more} e' w' short out) (long_run {us = us} {rest = rest} e w long) =
    absurd (long_short s.rest us rest vs more e w long e' w' short)
same_fault s weighed _ _ _ _ (long_run {us = us} {rest = rest} e w long) (reserved {us = vs} {rest = more} e' w' short out) =
    absurd (long_short s.rest us rest vs more e w long e' w' short)
same_fault s weighed _ _ _ _ (reserved {us = vs} {rest = more} e' w' short out) (long_run {us = us} {rest = rest} e w long) =
    absurd (long_short s.rest us rest vs more e w long e' w' short)
same_fault s weighed _ _ _ _ (large {us = us} {rest = rest} e w short l) (reserved {us = vs} {rest = more} e' w' short' r) =
    absurd (one_kind s.rest us rest vs more e w l e' w' r)
same_fault s weighed _ _ _ _ (reserved {us = vs} {rest = more} e' w' short' r) (large {us = us} {rest = rest} e w short l) =
    absurd (one_kind s.rest us rest vs more e w l e' w' r)
same_fault s weighed len other why cause' f g =
    let same : fault_lead f ≡ fault_lead g = sym (fault_lead_is f) ∙ fault_lead_is g in absurd (omega arith)

-- ---- one place

-- the tokens to one of two places begin those to the other
along : (s m n : Spot) (us vs : List Placed) → Leads s us m → Leads s vs n
    → ((ws : List Placed) × (vs ≡ us ++ ws) × Leads m ws n) ⊎ ((ws : List Placed) × (us ≡ vs ++ ws) × Leads n ws m)
along s m n us vs here b = inl (vs, refl, b)
along s m n us vs a here = inr (us, refl, a)
along s m n us vs (step {m = mid} {us = us₁} {vs = vs₁} h more) (step {m = other} {us = us₂} {vs = vs₂} h' more') =
    let same = one_step s mid other us₁ us₂ h h' in
    elim (along mid m n vs₁ vs₂ more (subst (λ x. Leads x vs₂ n) (sym same.1) more')) [
      | inl w ↦ inl (w.0, (λ i. sym same.0 i ++ w.1 i) ∙ sym (append_assoc us₁ vs₁ w.0), w.2)
      | inr w ↦ inr (w.0, (λ i. same.0 i ++ w.1 i) ∙ sym (append_assoc us₂ vs₂ w.0), w.2)
    ]

-- no light tokens lead on from a fault
stays : (s n : Spot) (ws : List Placed) (weighed len : ℕ) (why : LexCause) → Fault s.called weighed s.rest len why → Leads s ws n → weighed + weight ws ≤ weight_limit
    → (ws ≡ []) × (s ≡ n)
stays s n ws weighed len why fault here light = (refl, refl)
stays s n ws weighed len why fault (step {m = mid} {us = us₁} {vs = vs₁} h more) light =
    let over = (only_heavy s mid us₁ weighed len why fault h).2 in let sum = weight-append us₁ vs₁ in absurd (omega arith)

meet : (bytes : Bytes) (m n : ℕ) (c d : LexCause) (r : IsRefusedAt bytes m c) (q : IsRefusedAt bytes n d) (ws : List Placed) → q.before ≡ r.before ++ ws
    → Leads r.spot ws q.spot → (m ≡ n) × (c ≡ d)
meet bytes m n c d r q ws e leads =
    let sum = ap weight e ∙ weight-append r.before ws in
    let light = q.light in
    let stay = stays r.spot q.spot ws (weight r.before) r.len c r.fault leads (omega arith) in
    let before : q.before ≡ r.before = e ∙ ap (λ z. r.before ++ z) stay.0 ∙ append-nil r.before in
    let fault : Fault r.spot.called (weight r.before) r.spot.rest q.len d =
    subst (λ z. Fault r.spot.called (weight z) r.spot.rest q.len d) before
    (subst (λ (z : Spot). Fault z.called (weight q.before) z.rest q.len d) (sym stay.1) q.fault) in
    let same = same_fault r.spot (weight r.before) r.len q.len c d r.fault fault in
    (r.place ∙ (λ i. (stay.1 i).at + same.0 i) ∙ sym q.place, same.1)

pub one_refusal : OneRefusal
one_refusal bytes m n c d r q = elim (along (start bytes) r.spot q.spot r.before q.before r.leads q.leads) [
  | inl w ↦ meet bytes m n c d r q w.0 w.1 w.2
  | inr w ↦ (let same = meet bytes n m d c q r w.0 w.1 w.2 in (sym same.0, sym same.1))
]

pub never_both : NeverBoth
never_both bytes ts at why tokens refusal = refusal.no_tokens ts tokens
