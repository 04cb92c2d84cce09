-- Names stand in a text at their places.
use Rattle.std.proofs.Common.{◌≡◌, refl, sym, ap, ◌∙◌, subst, arith, ℕ, zero, suc, ◌+◌, ◌-◌, ◌≤◌, ◌==◌, Bool, true, false, List, [], ◌∷◌, ◌++◌, length, take, drop, Option, Some, None, ◌⊎◌, inl, inr, if◌then◌else◌, length-append}
use Rattle.std.specs.Prelude.{slice_get, filter}
use Rattle.std.specs.List.{prefix_len}
use Rattle.std.specs.Option.{option_map}
use Rattle.std.proofs.lemmas.Bool.{cases_Bool, cond-true, cond-false}
use Rattle.std.proofs.lemmas.List.{take_all, length-drop}
use Rattle.std.proofs.lemmas.Option.{same_Some, slice_get-map}
use Rattle.std.proofs.Math.Seq.{take-append_seam, drop-append_seam}
use Rattle.hum_syntax.specs.Forms.{Bytes, is_run_byte, is_number, number_of, keyword_of, is_wildcard, is_undefined}
use Rattle.hum_syntax.specs.declared.keyword.Keyword.{Keyword}
use Rattle.hum_syntax.specs.declared.token.TokenKind.{TokenKind}
use Rattle.hum_syntax.specs.declared.token.TokenKind.TheVariants as k
use Rattle.hum_syntax.specs.declared.tree.Stmt.{Stmt}
use Rattle.hum_syntax.specs.Kinds.{kind_of_run, word_kind}
use Rattle.hum_syntax.specs.Names.{name_of_kind, names_of}
use Rattle.hum_syntax.specs.Tokens.{Placed, kinds_of}
use Rattle.hum_syntax.specs.Lexes.{mark_of, IsWholeRun, Stands, run, symbol, text, mark, Lexes}
use Rattle.hum_syntax.specs.Places.{TokenAt, is_name_kind, name_tokens, name_place, NameAt}
use Rattle.hum_syntax.specs.Spells.{IsStmts, deepest}
use Rattle.hum_syntax.proofs.NamedTrees.{spelled_names}
use Rattle.hum_lex.specs.declared.bytes.Class.TheVariants as class
use Rattle.hum_lex.specs.Fronts.{is_in}
use Rattle.hum_lex.proofs.Places.{tokens_stand}
use Rattle.hum_lex.proofs.Runs.{prefix_len-whole}
use Rattle.hum_scope.specs.declared.refusal.ScopeRefused.{ScopeRefused}
use Rattle.hum_front.specs.Accepted.{IsScopeRefusal}
use Rattle.hum_front.specs.Laws.{NamesStand}
use Rattle.hum_front.proofs.Names.{named, run_of, name_of, names_filtered}

-- ---- a name's bytes

by_undefined : (us name : Bytes) (d : Bool) → (if d then k.Undefined else k.Name us) ≡ k.Name name → us ≡ name
by_undefined us name true h = cc h
by_undefined us name false h = ap run_of h

by_wildcard : (us name : Bytes) (d : Bool)
    → (if d then k.Wildcard else (if is_undefined us then k.Undefined else k.Name us)) ≡ k.Name name → us ≡ name
by_wildcard us name true h = cc h
by_wildcard us name false h = by_undefined us name (is_undefined us) h

by_word : (us name : Bytes) (o : Option Keyword) → word_kind us o ≡ k.Name name → us ≡ name
by_word us name (Some w) h = cc h
by_word us name None h = by_wildcard us name (is_wildcard us) h

by_number : (us name : Bytes) (d : Bool) → (if d then k.Number (number_of us) else word_kind us (keyword_of us)) ≡ k.Name name → us ≡ name
by_number us name true h = cc h
by_number us name false h = by_word us name (keyword_of us) h

run_name : (us name : Bytes) → kind_of_run us ≡ k.Name name → us ≡ name
run_name us name h = by_number us name (is_number us) h

-- a mark is no name
no_name_at : (kind : TokenKind) (d : Bool) (x : TokenKind) (y : Option TokenKind) → is_name_kind x ≡ false → (y ≡ Some kind
    → is_name_kind kind ≡ false)
    → (if d then Some x else y) ≡ Some kind → is_name_kind kind ≡ false
no_name_at kind true x y plain more is = let same : x ≡ kind = cc is in subst (λ z. is_name_kind z ≡ false) same plain
no_name_at kind false x y plain more is = more is

no_paren : (called : Bool) → is_name_kind (if called then k.CallParen else k.ParenLeft) ≡ false
no_paren true = refl
no_paren false = refl

mark_no_name : (called : Bool) (b : ℕ) (kind : TokenKind) → mark_of called b ≡ Some kind → is_name_kind kind ≡ false
mark_no_name called b kind =
    no_name_at kind (b == 40) (if called then k.CallParen else k.ParenLeft) _ (no_paren called) (no_name_at kind (b == 41) k.ParenRight _ refl (no_name_at kind (b == 91) k.SquareLeft _ refl
    (no_name_at kind (b == 93) k.SquareRight _ refl (no_name_at kind (b == 44) k.Comma _ refl (no_name_at kind (b == 46) k.Dot _ refl (no_name_at kind (b == 61) k.Equals _ refl
    (no_name_at kind (b == 58) k.Colon _ refl (no_name_at kind (b == 36) k.Dollar _ refl (no_name_at kind (b == 92) k.Backslash None refl (λ e. absurd cc))))))))))

token_name : {called : Bool} {us rest : Bytes} {kind : TokenKind} → Stands called us rest kind → (name : Bytes) → kind ≡ k.Name name
    → (us ≡ name) × IsWholeRun us rest
token_name (run {us} whole short small free) name h = (run_name us name h, whole)
token_name (symbol whole short) name h = cc h
token_name (text is) name h = cc h
token_name {called} (mark {b} {rest} {kind} m) name h =
    let plain : is_name_kind kind ≡ false = mark_no_name called b kind m in
    let name_is : is_name_kind kind ≡ true = ap is_name_kind h in
    absurd cc

-- ---- names among tokens

mapped : {A : Type 0} (f : A → ℕ) (o : Option A) (p : ℕ) → option_map f o ≡ Some p → (x : A) × (o ≡ Some x) × (f x ≡ p)
mapped f None p h = cc h
mapped f (Some x) p h = (x, refl, same_Some (f x) p h)

kept_first : (p : Placed → Bool) (u : Placed) (ts : List Placed) (n : ℕ) (t : Placed)
    → ((n : ℕ) (t : Placed) → slice_get (filter p ts) n ≡ Some t → (m : ℕ) × (slice_get ts m ≡ Some t) × (p t ≡ true))
    → p u ≡ true → slice_get (u ∷ filter p ts) n ≡ Some t → (m : ℕ) × (slice_get (u ∷ ts) m ≡ Some t) × (p t ≡ true)
kept_first p u ts zero t more passes h = (0, h, subst (λ z. p z ≡ true) (same_Some u t h) passes)
kept_first p u ts (suc n) t more passes h = let m = more n t h in (suc m.0, m.1, m.2)

-- what a test keeps of a list is in the list, and passes
kept : (p : Placed → Bool) (ts : List Placed) (n : ℕ) (t : Placed) → slice_get (filter p ts) n ≡ Some t
    → (m : ℕ) × (slice_get ts m ≡ Some t) × (p t ≡ true)
kept p [] n t h = cc h
kept p (u ∷ ts) n t h = elim (cases_Bool (p u)) [
  | inl passes ↦
      kept_first p u ts n t (kept p ts) passes (subst (λ xs. slice_get xs n ≡ Some t) (cond-true (p u) (u ∷ filter p ts) (filter p ts) passes) h)
  | inr fails ↦
      let m = kept p ts n t (subst (λ xs. slice_get xs n ≡ Some t) (cond-false (p u) (u ∷ filter p ts) (filter p ts) fails) h) in
      (suc m.0, m.1, m.2)
]

name_token : (bytes : Bytes) (t : Placed) → TokenAt bytes t → is_name_kind t.kind ≡ true
    → ((name : Bytes) × (t.kind ≡ k.Name name)) ⊎ ((is_name_kind t.kind ≡ false) × (name_of_kind t.kind ≡ []))
    → NameAt bytes t.from (name_of t)
name_token bytes t at is (inl w) =
    let name : w.0 ≡ name_of t = sym (ap run_of w.1) in
    let stands = token_name at.stands w.0 w.1 in
    let run : at.run ≡ name_of t = stands.0 ∙ name in
    record {
      front = at.front;
      rest = at.rest;
      split = at.split ∙ ap (λ us. at.front ++ (us ++ at.rest)) run;
      place = at.from;
      whole = subst (λ us. IsWholeRun us at.rest) run stands.1;
    }
name_token bytes t at is (inr w) = absurd cc

pub names_stand : NamesStand
names_stand bytes ts lexes n p h =
    let found = mapped (λ (t : Placed). t.from) (slice_get (name_tokens ts) n) p h in
    let t = found.0 in
    let among = kept (λ t. is_name_kind t.kind) ts n t found.1 in
    let stands = name_token bytes t (tokens_stand bytes ts lexes among.0 t among.1) among.2 (named t.kind) in (
      name_of t,
      subst (λ names. slice_get names n ≡ Some (name_of t)) (sym (names_filtered ts)) (slice_get-map name_of (name_tokens ts) n ∙ ap (option_map name_of) found.1),
      subst (λ at. NameAt bytes at (name_of t)) found.2 stands,
    )

-- ---- the name that is refused

-- the name of a number among the tokens is that of the tree
pub refused_name : (bytes : Bytes) (ts : List Placed) (file : List Stmt) (n p : ℕ) → Lexes bytes ts
    → IsStmts deepest (kinds_of ts) file → name_place ts n ≡ Some p
    → (name : Bytes) × (slice_get (names_of file) n ≡ Some name) × NameAt bytes p name
refused_name bytes ts file n p lexes spells place =
    let stands = names_stand bytes ts lexes n p place in
    (stands.0, subst (λ names. slice_get names n ≡ Some stands.0) (sym (spelled_names deepest (kinds_of ts) file spells)) stands.1, stands.2)

pub refused_stands : (bytes : Bytes) (why : ScopeRefused) (name : Bytes) → IsScopeRefusal bytes why name → NameAt bytes why.at name
refused_stands bytes why name u =
    let stands = refused_name bytes u.tokens u.tree.statements u.number why.at u.are.lexes u.spells u.place in
    subst (NameAt bytes why.at) (same_Some stands.0 name (sym stands.1 ∙ u.is)) stands.2

-- ---- the name at a byte

pub name_within : (bytes : Bytes) (at : ℕ) (name : Bytes) → NameAt bytes at name → at ≤ length bytes
name_within bytes at name is =
    let long = ap length is.split in
    let place = is.place in
    omega (arith, long, place, length-append is.front (name ++ is.rest))

-- the run from there on is the name
pub name_cut : (bytes : Bytes) (at n : ℕ) (name : Bytes) → n ≡ prefix_len (is_in class.Run) (take (length bytes - at) (drop at bytes))
    → NameAt bytes at name
    → take n (take (length bytes - at) (drop at bytes)) ≡ name
name_cut bytes at n name long is =
    let all : take (length bytes - at) (drop at bytes) ≡ drop at bytes =
    take_all (length bytes - at) (drop at bytes) (omega (arith, length-drop at bytes)) in
    let behind : drop at bytes ≡ name ++ is.rest =
    ap (λ k. drop k bytes) is.place ∙ ap (drop (length is.front)) is.split ∙ drop-append_seam is.front (name ++ is.rest) in
    let count : n ≡ length name =
    long ∙ ap (prefix_len is_run_byte) (all ∙ behind) ∙ prefix_len-whole is_run_byte name is.rest is.whole.each is.whole.maximal in
    ap (take n) (all ∙ behind) ∙ ap (λ k. take k (name ++ is.rest)) count ∙ take-append_seam name is.rest
