-- Names and their tokens.
use Rattle.std.proofs.Common.{◌≡◌, refl, sym, ap, ◌∙◌, subst, arith, ℕ, zero, suc, ◌+◌, ◌-◌, ◌<◌, ◌≤◌, true, false, cond, List, [], ◌∷◌, ◌++◌, length, map, take, drop, get_or, Option, Some, None, ◌⊎◌, inl, inr}
use Rattle.std.specs.Prelude.{Result, Ok, Err}
use Rattle.std.proofs.lemmas.List.{length-map, take_all}
use Rattle.hum_syntax.specs.Forms.{Bytes}
use Rattle.hum_syntax.specs.declared.token.TokenKind.{TokenKind}
use Rattle.hum_syntax.specs.declared.token.TokenKind.TheVariants as k
use Rattle.hum_syntax.specs.declared.tree.Stmt.{Stmt}
use Rattle.hum_syntax.specs.Names.{name_of_kind, names_of_kinds}
use Rattle.hum_syntax.specs.declared.token.Token.{Token}
use Rattle.hum_syntax.specs.Tokens.{Placed, placed_of, all_placed, kinds_of}
use Rattle.hum_syntax.specs.Spells.{IsStmts}
use Rattle.hum_meaning.specs.declared.cause.ScopeCause.{ScopeCause}
use Rattle.hum_meaning.specs.Scope.{Verdicts, verdicts, first_from, first_refused, Scoped}
use Rattle.hum_meaning.proofs.JudgedNames.{each-name-is-judged}
use Rattle.hum_syntax.proofs.NamedTrees.{spelled_names}
use Rattle.hum_scope.specs.Told.{Told}
use Rattle.hum_scope.proofs.Counts.{scoped-trees}
use Rattle.hum_scope.specs.declared.refusal.ScopeError.{ScopeError}
use Rattle.hum_scope.specs.declared.refusal.ScopeError.TheVariants.{Refused}
use Rattle.hum_scope.specs.declared.refusal.ScopeRefused.{ScopeRefused}
use Rattle.std.specs.Prelude.{slice_get}
use Rattle.std.specs.Option.{option_map}
use Rattle.hum_syntax.specs.Places.{is_name_kind, name_tokens, name_place}

-- a token is a name, or no name
pub named : (kind : TokenKind) → ((name : Bytes) × (kind ≡ k.Name name)) ⊎ ((is_name_kind kind ≡ false) × (name_of_kind kind ≡ []))
named (k.Name name) = inl (name, refl)
named (k.Number z) = inr (refl, refl)
named (k.Keyword w) = inr (refl, refl)
named k.Wildcard = inr (refl, refl)
named k.Undefined = inr (refl, refl)
named (k.Symbol s) = inr (refl, refl)
named (k.Text cs) = inr (refl, refl)
named k.CallParen = inr (refl, refl)
named k.ParenLeft = inr (refl, refl)
named k.ParenRight = inr (refl, refl)
named k.SquareLeft = inr (refl, refl)
named k.SquareRight = inr (refl, refl)
named k.Comma = inr (refl, refl)
named k.Dot = inr (refl, refl)
named k.Equals = inr (refl, refl)
named k.Colon = inr (refl, refl)
named k.Dollar = inr (refl, refl)
named k.Backslash = inr (refl, refl)

-- the bytes of a name
abbrev pub run_of : TokenKind → Bytes
run_of (k.Name name) = name
run_of _ = []

abbrev pub name_of : Placed → Bytes
name_of t = run_of t.kind

filtered_by : (t : Placed) (ts : List Placed) → names_of_kinds (kinds_of ts) ≡ map name_of (name_tokens ts)
    → ((name : Bytes) × (t.kind ≡ k.Name name)) ⊎ ((is_name_kind t.kind ≡ false) × (name_of_kind t.kind ≡ []))
    → names_of_kinds (kinds_of (t ∷ ts)) ≡ map name_of (name_tokens (t ∷ ts))
filtered_by t ts more (inl w) =
    let is : is_name_kind t.kind ≡ true = ap is_name_kind w.1 in
    let one : name_of_kind t.kind ≡ name_of t ∷ [] = subst (λ kind. name_of_kind kind ≡ run_of kind ∷ []) (sym w.1) refl in
    rw is (ap (λ names. names ++ names_of_kinds (kinds_of ts)) one ∙ ap (λ names. name_of t ∷ names) more)
filtered_by t ts more (inr w) = rw (w.0, w.1) more

-- the names among tokens are those of the tokens that are names
pub names_filtered : (ts : List Placed) → names_of_kinds (kinds_of ts) ≡ map name_of (name_tokens ts)
names_filtered [] = refl
names_filtered (t ∷ ts) = filtered_by t ts (names_filtered ts) (named t.kind)

there : {A : Type 0} (xs : List A) (n : ℕ) → n < length xs → (x : A) × (slice_get xs n ≡ Some x)
there [] n h = absurd (omega (arith, h))
there (x ∷ xs) zero h = (x, refl)
there (x ∷ xs) (suc n) h = there xs n (omega (arith, h))

-- so the name of each number that is below theirs has a place
name_there : (ts : List Placed) (n : ℕ) → n < length (names_of_kinds (kinds_of ts)) → (p : ℕ) × (name_place ts n ≡ Some p)
name_there ts n h =
    let same : length (names_of_kinds (kinds_of ts)) ≡ length (name_tokens ts) =
    ap length (names_filtered ts) ∙ length-map (name_tokens ts) name_of in
    let t = there (name_tokens ts) n (omega (arith, h, same)) in
    (t.0.from, ap (option_map (λ t. t.from)) t.1)

-- behind a name the names have one number less
pub name_behind : (ts : List Token) (n : ℕ) (t : Token) → 1 ≤ length ts → t ≡ get_or ts 0 t → is_name_kind t.kind ≡ true → 0 < n
    → name_place (all_placed (take (length ts - 1) (drop 1 ts))) (n - 1) ≡ name_place (all_placed ts) n
name_behind [] n t some first is later = absurd (omega (arith, some))
name_behind (u ∷ ts) zero t some first is later = absurd (omega (arith, later))
name_behind (u ∷ ts) (suc n) t some first is later =
    let name : is_name_kind u.kind ≡ true = subst (λ z. is_name_kind z.kind ≡ true) first is in
    let all : take (suc (length ts) - 1) ts ≡ ts = take_all (suc (length ts) - 1) ts (omega arith) in
    let at : suc n - 1 ≡ n = omega arith in
    ap (λ us. name_place (all_placed us) (suc n - 1)) all ∙ ap (name_place (all_placed ts)) at
    ∙ sym (ap (λ is. option_map (λ (t : Placed). t.from) (slice_get (cond is (placed_of u ∷ name_tokens (all_placed ts)) (name_tokens (all_placed ts))) (suc n))) name)

abbrev pub number_in : Option (ℕ × ScopeCause) → ℕ
number_in None = 0
number_in (Some first) = first.0

-- the first name that is refused is one of them
first_within : (m : ℕ) (vs : Verdicts) (n : ℕ) (cause : ScopeCause) → first_from m vs ≡ Some (n, cause) → n < m + length vs
first_within m [] n cause h = cc h
first_within m (None ∷ vs) n cause h = let less : n < suc m + length vs = first_within (suc m) vs n cause h in omega arith
first_within m (Some c ∷ vs) n cause h = let same : m ≡ n = ap number_in h in omega arith

pub refused_named : (ts : List Placed) (file : List Stmt) (levels n : ℕ) (cause : ScopeCause) → IsStmts levels (kinds_of ts) file
    → first_refused file ≡ Some (n, cause) → (p : ℕ) × (name_place ts n ≡ Some p)
refused_named ts file levels n cause spells first =
    let within = first_within 0 (verdicts file) n cause first in
    let same : length (verdicts file) ≡ length (names_of_kinds (kinds_of ts)) =
    each-name-is-judged file ∙ ap length (spelled_names levels (kinds_of ts) file spells) in
    name_there ts n (omega (arith, within, same))

-- ---- what is told of a tree

pub told_refused : (A : Type 0) (first : Option (ℕ × ScopeCause)) (why : ScopeRefused) → Told {A = A} first (Err (Refused why))
    → first ≡ Some (why.at, why.cause)
told_refused A None why h = absurd h
told_refused A (Some first) why h = ap Some h

told_none : (A : Type 0) (first : Option (ℕ × ScopeCause)) (a : A) → Told first (Ok a) → first ≡ None
told_none A None a h = refl
told_none A (Some first) a h = absurd h

pub told_scoped : (A : Type 0) (file : List Stmt) (a : A) → Told (first_refused file) (Ok a) → Scoped file
told_scoped A file a h = (scoped-trees file).1 (told_none A (first_refused file) a h)

pub refused_first : (A : Type 0) (first : Option (ℕ × ScopeCause)) (r : Result A ScopeError) (e : ScopeError) (why : ScopeRefused)
    → Told first r → r ≡ Err e → e ≡ Refused why
    → first ≡ Some (why.at, why.cause)
refused_first A first r e why told is err = told_refused A first why (subst (λ r. Told {A = A} first r) (is ∙ ap Err err) told)

pub scoped_first : (A : Type 0) (file : List Stmt) (r : Result A ScopeError) (a : A) → Told (first_refused file) r → r ≡ Ok a → Scoped file
scoped_first A file r a told is = told_scoped A file a (subst (λ r. Told {A = A} (first_refused file) r) is told)
