-- Each text is accepted with one tree, or refused in one way.
use Rattle.std.proofs.Common.{◌≡◌, refl, sym, ap, ◌∙◌, subst, arith, ℕ, ◌<◌, ◌≤◌, List, length, Option, Some, None, ◌⊎◌, inl, inr}
use Rattle.std.proofs.lemmas.Bool.{cases_lt}
use Rattle.hum_syntax.specs.declared.Tree.{Tree}
use Rattle.hum_syntax.specs.Forms.{Bytes}
use Rattle.hum_syntax.specs.Tokens.{Placed, kinds_of}
use Rattle.hum_syntax.specs.Lexes.{IsTokens}
use Rattle.hum_syntax.specs.Spells.{IsStmts, Spells, deepest}
use Rattle.hum_lex.specs.declared.error.LexRefused.{LexRefused}
use Rattle.hum_lex.specs.declared.error.LexCause.{LexCause}
use Rattle.hum_lex.specs.Faults.{IsRefusedAt}
use Rattle.hum_lex.proofs.Wholes.{one_list}
use Rattle.hum_lex.proofs.Decided as decided
use Rattle.hum_lex.proofs.Places.{tokens_are_carried}
use Rattle.hum_lex.proofs.Refusals as lexed
use Rattle.hum_parse.specs.Begins.{RefusedAt}
use Rattle.hum_parse.proofs.Answered.{one_tree}
use Rattle.hum_parse.proofs.Place.{one_place}
use Rattle.hum_parse.proofs.Decided as parsed
use Rattle.hum_meaning.specs.Scope.{Scoped, first_refused}
use Rattle.hum_scope.specs.declared.refusal.ScopeRefused.{ScopeRefused}
use Rattle.hum_scope.proofs.Counts.{scoped-trees}
use Rattle.hum_front.proofs.Names.{number_in, refused_named}
use Rattle.hum_front.proofs.NamePlaces.{refused_name}
use Rattle.hum_meaning.specs.declared.cause.ScopeCause.{ScopeCause}
use Rattle.hum_front.specs.declared.error.StartError.{StartError}
use Rattle.hum_front.specs.declared.error.StartError.TheVariants as e
use Rattle.hum_syntax.specs.Places.{token_place, name_place}
use Rattle.hum_front.specs.Accepted.{Accepted, IsLexRefusal, IsParseRefusal, IsScopeRefusal, IsRefusal, text_limit}
use Rattle.hum_front.specs.Laws.{OneTree, OneRefusal, NeverBoth, OneOfBoth}

same_tokens : (bytes : Bytes) (us vs : List Placed) → IsTokens bytes us → IsTokens bytes vs → us ≡ vs
same_tokens bytes us vs a b = one_list bytes us vs a.lexes b.lexes

same_tree : (bytes : Bytes) (us vs : List Placed) (a b : Tree) → IsTokens bytes us → IsTokens bytes vs → Spells (kinds_of us) a
    → Spells (kinds_of vs) b → a ≡ b
same_tree bytes us vs a b x y m n = one_tree (kinds_of vs) a b (subst (λ ts. Spells (kinds_of ts) a) (same_tokens bytes us vs x y) m) n

pub same_reading : OneTree
same_reading bytes a b x y = same_tree bytes x.tokens y.tokens a b x.are y.are x.spells y.spells

-- ---- refusals of two kinds

no_both : (n : ℕ) → n ≤ text_limit → text_limit < n → ⊥
no_both n a b = omega (arith, a, b)

unlexed_no_tokens : (bytes : Bytes) (why : LexRefused) (ts : List Placed) → IsLexRefusal bytes why → IsTokens bytes ts → ⊥
unlexed_no_tokens bytes why ts u are = u.refused.no_tokens ts are

unparsed_no_tree : (bytes : Bytes) (at : ℕ) (ts : List Placed) (tree : Tree) → IsParseRefusal bytes at → IsTokens bytes ts
    → Spells (kinds_of ts) tree → ⊥
unparsed_no_tree bytes at ts tree u are spells =
    u.refused.no_tree tree.statements (subst (λ us. Spells (kinds_of us) tree) (same_tokens bytes ts u.tokens are u.are) spells)

unscoped_not_scoped : (bytes : Bytes) (why : ScopeRefused) (name : Bytes) (tree : Tree) → IsScopeRefusal bytes why name
    → Accepted bytes tree → ⊥
unscoped_not_scoped bytes why name tree u a =
    let same = same_tree bytes u.tokens a.tokens u.tree tree u.are a.are u.spells a.spells in
    let none : first_refused u.tree.statements ≡ None =
    (scoped-trees u.tree.statements).0 (subst (λ t. Scoped t.statements) (sym same) a.scoped) in
    cc (none, u.refused)

pub never_both : NeverBoth
never_both bytes a e.NoMemory x h = h
never_both bytes a e.TooLong x h = no_both (length bytes) x.short h
never_both bytes a (e.Lex why) x h = unlexed_no_tokens bytes why x.tokens h x.are
never_both bytes a (e.Parse at) x h = unparsed_no_tree bytes at x.tokens a h x.are x.spells
never_both bytes a (e.Scope why) x h = unscoped_not_scoped bytes why h.0 a h.1 x

-- ---- refusals of one kind

lex_as : (a b : LexRefused) → a.at ≡ b.at → a.cause ≡ b.cause → a ≡ b
lex_as a b h k = λ i. record { at = h i; cause = k i }

scope_as : (a b : ScopeRefused) → a.at ≡ b.at → a.cause ≡ b.cause → a ≡ b
scope_as a b h k = λ i. record { at = h i; cause = k i }

one_unlexed : (bytes : Bytes) (a b : LexRefused) → IsLexRefusal bytes a → IsLexRefusal bytes b → a ≡ b
one_unlexed bytes a b x y =
    let same = lexed.one_refusal bytes a.at b.at a.cause b.cause x.refused y.refused in
    lex_as a b same.0 same.1

one_unparsed : (bytes : Bytes) (m n : ℕ) → IsParseRefusal bytes m → IsParseRefusal bytes n → m ≡ n
one_unparsed bytes m n x y =
    let tokens = same_tokens bytes x.tokens y.tokens x.are y.are in
    let token = one_place (kinds_of y.tokens) x.token y.token (subst (λ ts. RefusedAt (IsStmts deepest) (kinds_of ts) x.token) tokens x.refused) y.refused in
    x.place ∙ ap (λ ts. token_place bytes ts x.token) tokens ∙ ap (λ k. token_place bytes y.tokens k) token ∙ sym y.place

abbrev cause_in : ScopeCause → Option (ℕ × ScopeCause) → ScopeCause
cause_in c None = c
cause_in c (Some first) = first.1

abbrev place_in : Option ℕ → ℕ
place_in None = 0
place_in (Some p) = p

one_unscoped : (bytes : Bytes) (a b : ScopeRefused) (m n : Bytes) → IsScopeRefusal bytes a m → IsScopeRefusal bytes b n → a ≡ b
one_unscoped bytes a b m n x y =
    let tokens = same_tokens bytes x.tokens y.tokens x.are y.are in
    let tree = same_tree bytes x.tokens y.tokens x.tree y.tree x.are y.are x.spells y.spells in
    let first : Some (x.number, a.cause) ≡ Some (y.number, b.cause) =
    sym x.refused ∙ ap (λ (t : Tree). first_refused t.statements) tree ∙ y.refused in
    let number : x.number ≡ y.number = ap number_in first in
    let cause : a.cause ≡ b.cause = ap (cause_in a.cause) first in
    let place : Some a.at ≡ Some b.at =
    sym x.place ∙ ap (λ ts. name_place ts x.number) tokens ∙ ap (λ k. name_place y.tokens k) number ∙ y.place in
    scope_as a b (ap place_in place) cause

pub one_refusal : OneRefusal
one_refusal bytes e.NoMemory d x y = absurd x
one_refusal bytes c e.NoMemory x y = absurd y
one_refusal bytes e.TooLong e.TooLong x y = refl
one_refusal bytes e.TooLong (e.Lex b) x y = absurd (no_both (length bytes) y.short x)
one_refusal bytes e.TooLong (e.Parse n) x y = absurd (no_both (length bytes) y.short x)
one_refusal bytes e.TooLong (e.Scope b) x y = absurd (no_both (length bytes) y.1.short x)
one_refusal bytes (e.Lex a) e.TooLong x y = absurd (no_both (length bytes) x.short y)
one_refusal bytes (e.Lex a) (e.Lex b) x y = ap e.Lex (one_unlexed bytes a b x y)
one_refusal bytes (e.Lex a) (e.Parse n) x y = absurd (unlexed_no_tokens bytes a y.tokens x y.are)
one_refusal bytes (e.Lex a) (e.Scope b) x y = absurd (unlexed_no_tokens bytes a y.1.tokens x y.1.are)
one_refusal bytes (e.Parse m) e.TooLong x y = absurd (no_both (length bytes) x.short y)
one_refusal bytes (e.Parse m) (e.Lex b) x y = absurd (unlexed_no_tokens bytes b x.tokens y x.are)
one_refusal bytes (e.Parse m) (e.Parse n) x y = ap e.Parse (one_unparsed bytes m n x y)
one_refusal bytes (e.Parse m) (e.Scope b) x y = absurd (unparsed_no_tree bytes m y.1.tokens y.1.tree x y.1.are y.1.spells)
one_refusal bytes (e.Scope a) e.TooLong x y = absurd (no_both (length bytes) x.1.short y)
one_refusal bytes (e.Scope a) (e.Lex b) x y = absurd (unlexed_no_tokens bytes b x.1.tokens y x.1.are)
one_refusal bytes (e.Scope a) (e.Parse n) x y = absurd (unparsed_no_tree bytes n x.1.tokens x.1.tree y x.1.are x.1.spells)
one_refusal bytes (e.Scope a) (e.Scope b) x y = ap e.Scope (one_unscoped bytes a b x.0 y.0 x.1 y.1)

-- ---- each text

abbrev IsDecided : Bytes → Type 0
IsDecided bytes = ((tree : Tree) × Accepted bytes tree) ⊎ ((why : StartError) × IsRefusal bytes why)

module _ (bytes : Bytes) (short : length bytes ≤ text_limit) where
  by_names : (ts : List Placed) (are : IsTokens bytes ts) (tree : Tree) (spells : Spells (kinds_of ts) tree) (o : Option (ℕ × ScopeCause))
      → first_refused tree.statements ≡ o → IsDecided bytes
  by_names ts are tree spells None none =
      inl (tree, record { short = short; tokens = ts; are = are; spells = spells; scoped = (scoped-trees tree.statements).1 none })
  by_names ts are tree spells (Some first) refused =
      let place = refused_named ts tree.statements deepest first.0 first.1 spells refused in
      let name = refused_name bytes ts tree.statements first.0 place.0 are.lexes spells place.1 in
      inr (
        e.Scope (record { at = place.0; cause = first.1 }),
        (
          name.0,
          record {
            short = short;
            tokens = ts;
            are = are;
            tree = tree;
            spells = spells;
            number = first.0;
            refused = refused;
            is = name.1;
            place = place.1;
          },
        ),
      )

  by_tokens : (ts : List Placed) (are : IsTokens bytes ts)
      → ((tree : Tree) × Spells (kinds_of ts) tree) ⊎ ((token : ℕ) × RefusedAt (IsStmts deepest) (kinds_of ts) token) → IsDecided bytes
  by_tokens ts are (inl tree) = by_names ts are tree.0 tree.1 (first_refused tree.0.statements) refl
  by_tokens ts are (inr stop) = inr (
    e.Parse (token_place bytes ts stop.0),
    record {
      short = short;
      tokens = ts;
      are = are;
      token = stop.0;
      refused = stop.1;
      place = refl;
    },
  )

  by_bytes : ((ts : List Placed) × IsTokens bytes ts) ⊎ ((at : ℕ) × (why : LexCause) × IsRefusedAt bytes at why) → IsDecided bytes
  by_bytes (inl ts) = by_tokens ts.0 ts.1 (parsed.one_of_both (kinds_of ts.0) (tokens_are_carried bytes ts.0 ts.1.lexes))
  by_bytes (inr stop) = inr (e.Lex (record { at = stop.0; cause = stop.1 }), record { short = short; refused = stop.2 })

by_length : (bytes : Bytes) → (text_limit < length bytes) ⊎ (length bytes ≤ text_limit) → IsDecided bytes
by_length bytes (inl long) = inr (e.TooLong, long)
by_length bytes (inr short) = by_bytes bytes short (decided.one_of_both bytes)

pub one_of_both : OneOfBoth
one_of_both bytes = by_length bytes (cases_lt text_limit (length bytes))
