-- What each form of a part spells, with parentheses round it or not.
use Rattle.std.proofs.Common.{◌≡◌, ℕ, zero, suc, ◌+◌, ◌-◌, ◌≤◌, Bool, true, false, [], ◌∷◌, ◌++◌, refl, sym, ap, ◌∙◌, subst, arith, append_assoc}
use Rattle.std.specs.Prelude.{not}
use Rattle.std.proofs.lemmas.Bool.{true≢false}
use Rattle.std.proofs.lemmas.List.{append-nil}
use Rattle.hum_syntax.specs.declared.token.TokenKind.TheVariants as k
use Rattle.hum_syntax.specs.declared.form.Form.{Form}
use Rattle.hum_syntax.specs.declared.form.Form.TheVariants as form
use Rattle.hum_syntax.specs.declared.tree.Expr.{Expr}
use Rattle.hum_syntax.specs.declared.tree.Pat.{Pat}
use Rattle.hum_syntax.specs.declared.tree.Expr.TheVariants as e
use Rattle.hum_syntax.specs.Spells as grammar
use Rattle.hum_syntax.specs.Spells.{Kinds, IsExpr, IsItems, IsTerm, IsCalls, IsAtom, IsPat, IsPterm}
use Rattle.hum_syntax.specs.Prints.{Part, is_tuple, is_wide, is_called, parens, as_term, as_callee, as_last, call}

-- an atom and the calls behind it, with m levels left for a next one
pub record IsChain (n m : ℕ) (ks : Kinds) (a : Expr) : Type 0 where
  pub us : Kinds
  pub vs : Kinds
  pub f : Expr
  pub split : us ++ vs ≡ ks
  pub atom : IsAtom n us f
  pub goes : (ws : Kinds) (b : Expr) → IsCalls m a ws b → IsCalls (suc n) f (vs ++ ws) b

pub atom_chain : {n : ℕ} {ks : Kinds} {a : Expr} → IsAtom n ks a → IsChain n (suc n) ks a
atom_chain {ks = ks} {a = a} h = record { us = ks; vs = []; f = a; split = append-nil ks; atom = h; goes = λ ws b h. h }

chain_term : {n m : ℕ} {ks : Kinds} {a : Expr} → IsChain n m ks a → IsTerm n ks a
chain_term {n} {m} {ks} {a} c =
    let calls : IsCalls (suc n) c.f c.vs a = subst (λ vs. IsCalls (suc n) c.f vs a) (append-nil c.vs) (c.goes [] a grammar.calls_done) in
    subst (λ ks. IsTerm n ks a) c.split (grammar.chain c.atom calls)

chain_call : {n m : ℕ} {ks us : Kinds} {f x : Expr} → IsChain n (suc (suc m)) ks f → IsExpr m us x
    → IsChain n (suc m) (ks ++ k.CallParen ∷ us ++ k.ParenRight ∷ []) (e.Call f x)
chain_call {n} {m} {ks} {us} {f} {x} c h = record {
  us = c.us;
  vs = c.vs ++ (k.CallParen ∷ us ++ k.ParenRight ∷ []);
  f = c.f;
  split =
      sym (append_assoc c.us c.vs (k.CallParen ∷ us ++ k.ParenRight ∷ []))
      ∙ ap (λ z. z ++ (k.CallParen ∷ us ++ k.ParenRight ∷ [])) c.split
      ∙ sym (append_assoc ks (k.CallParen ∷ us) (k.ParenRight ∷ []));
  atom = c.atom;
  goes = λ ws b more.
      subst (λ vs. IsCalls (suc n) c.f vs b)
      (sym (append_assoc c.vs (k.CallParen ∷ us ++ k.ParenRight ∷ []) ws ∙ ap (λ z. c.vs ++ k.CallParen ∷ z)
      (append_assoc us (k.ParenRight ∷ []) ws)))
      (c.goes (k.CallParen ∷ us ++ k.ParenRight ∷ ws) b (grammar.calls_call h more));
}

-- ---- expressions

pub record IsCallee (p : Part) (a : Expr) : Type 0 where
  pub within : p.calls ≤ p.levels
  pub chain : (n m : ℕ) → p.levels ≤ n → m + p.calls ≡ suc n → IsChain n m p.tokens a

-- what a part of this form spells, where its levels are left
abbrev pub FitsAs : Form → Part → Expr → Type 0
FitsAs form.Tuple p a = (n : ℕ) → p.levels ≤ n → IsExpr n p.tokens a
FitsAs form.Abstraction p a = (n : ℕ) → p.levels ≤ n → IsItems n p.tokens (a ∷ [])
FitsAs form.Callee p a = IsCallee p a
FitsAs form.Term p a = (n : ℕ) → p.levels ≤ n → IsTerm n p.tokens a

abbrev pub Fits : Part → Expr → Type 0
Fits p a = FitsAs p.form p a

callee_term : (p : Part) (a : Expr) → IsCallee p a → (n : ℕ) → p.levels ≤ n → IsTerm n p.tokens a
callee_term p a h n below = let within = h.within in chain_term (h.chain n (suc n - p.calls) below (omega arith))

narrow_term : (f : Form) (p : Part) (a : Expr) → FitsAs f p a → is_wide f ≡ false → (n : ℕ) → p.levels ≤ n → IsTerm n p.tokens a
narrow_term form.Tuple p a h wide = absurd (true≢false wide)
narrow_term form.Abstraction p a h wide = absurd (true≢false wide)
narrow_term form.Callee p a h wide = callee_term p a h
narrow_term form.Term p a h wide = h

expr_as : (f : Form) (p : Part) (a : Expr) → FitsAs f p a → (n : ℕ) → p.levels ≤ n → IsExpr n p.tokens a
expr_as form.Tuple p a h n below = h n below
expr_as form.Abstraction p a h n below = grammar.expr_only (h n below)
expr_as form.Callee p a h n below = grammar.expr_only (grammar.item_last (callee_term p a h n below))
expr_as form.Term p a h n below = grammar.expr_only (grammar.item_last (h n below))

pub fits_expr : (p : Part) (a : Expr) → Fits p a → (n : ℕ) → p.levels ≤ n → IsExpr n p.tokens a
fits_expr p a h = expr_as p.form p a h

parens_callee : (p : Part) (a : Expr) → Fits p a → IsCallee (parens true p) a
parens_callee p a h = record { within = omega arith; chain = go }
  where
    go : (n m : ℕ) → suc p.levels ≤ n → m + 0 ≡ suc n → IsChain n m (k.ParenLeft ∷ p.tokens ++ k.ParenRight ∷ []) a
    go zero m below e = absurd (omega arith)
    go (suc n) m below e =
        let same : suc (suc n) ≡ m = omega arith in
        subst (λ m. IsChain (suc n) m (k.ParenLeft ∷ p.tokens ++ k.ParenRight ∷ []) a) same
        (atom_chain (grammar.paren (fits_expr p a h n (omega arith))))

pub fits_term : (p : Part) (a : Expr) → Fits p a → (n : ℕ) → (as_term p).levels ≤ n → IsTerm n (as_term p).tokens a
fits_term p a h = go (is_wide p.form) refl
  where
    go : (b : Bool) → is_wide p.form ≡ b → (n : ℕ) → (parens b p).levels ≤ n → IsTerm n (parens b p).tokens a
    go true wide = callee_term (parens true p) a (parens_callee p a h)
    go false wide = narrow_term p.form p a h wide

called_callee : (f : Form) (p : Part) (a : Expr) → FitsAs f p a → not (is_called f) ≡ false → IsCallee p a
called_callee form.Tuple p a h called = absurd (true≢false called)
called_callee form.Abstraction p a h called = absurd (true≢false called)
called_callee form.Callee p a h called = h
called_callee form.Term p a h called = absurd (true≢false called)

pub fits_callee : (p : Part) (a : Expr) → Fits p a → IsCallee (as_callee p) a
fits_callee p a h = go (not (is_called p.form)) refl
  where
    go : (b : Bool) → not (is_called p.form) ≡ b → IsCallee (parens b p) a
    go true called = parens_callee p a h
    go false called = called_callee p.form p a h called

items_as : (f : Form) (p : Part) (a : Expr) → FitsAs f p a → is_tuple f ≡ false → (n : ℕ) → p.levels ≤ n → IsItems n p.tokens (a ∷ [])
items_as form.Tuple p a h tuple n below = absurd (true≢false tuple)
items_as form.Abstraction p a h tuple n below = h n below
items_as form.Callee p a h tuple n below = grammar.item_last (callee_term p a h n below)
items_as form.Term p a h tuple n below = grammar.item_last (h n below)

pub fits_last : (p : Part) (a : Expr) → Fits p a → (n : ℕ) → (as_last p).levels ≤ n → IsItems n (as_last p).tokens (a ∷ [])
fits_last p a h = go (is_tuple p.form) refl
  where
    go : (b : Bool) → is_tuple p.form ≡ b → (n : ℕ) → (parens b p).levels ≤ n → IsItems n (parens b p).tokens (a ∷ [])
    go true tuple n below = grammar.item_last (callee_term (parens true p) a (parens_callee p a h) n below)
    go false tuple n below = items_as p.form p a h tuple n below

pub call_callee : (p q : Part) (f x : Expr) → IsCallee p f → Fits q x → IsCallee (call p q) (e.Call f x)
call_callee p q f x h h' = record { within = omega arith; chain = go }
  where
    go : (n m : ℕ) → (call p q).levels ≤ n → m + suc p.calls ≡ suc n → IsChain n m (call p q).tokens (e.Call f x)
    go n zero below e = absurd (omega arith)
    go n (suc m) below e = chain_call (h.chain n (suc (suc m)) (omega arith) (omega arith)) (fits_expr q x h' m (omega arith))

-- ---- patterns

abbrev pub PatFitsAs : Form → Part → Pat → Type 0
PatFitsAs form.Tuple p x = (n : ℕ) → p.levels ≤ n → IsPat n p.tokens x
PatFitsAs _ p x = (n : ℕ) → p.levels ≤ n → IsPterm n p.tokens x

abbrev pub PatFits : Part → Pat → Type 0
PatFits p x = PatFitsAs p.form p x

narrow_pterm : (f : Form) (p : Part) (x : Pat) → PatFitsAs f p x → is_wide f ≡ false → (n : ℕ) → p.levels ≤ n → IsPterm n p.tokens x
narrow_pterm form.Tuple p x h wide = absurd (true≢false wide)
narrow_pterm form.Abstraction p x h wide = h
narrow_pterm form.Callee p x h wide = h
narrow_pterm form.Term p x h wide = h

pat_as : (f : Form) (p : Part) (x : Pat) → PatFitsAs f p x → (n : ℕ) → p.levels ≤ n → IsPat n p.tokens x
pat_as form.Tuple p x h n below = h n below
pat_as form.Abstraction p x h n below = grammar.pat_only (grammar.pats_last (h n below))
pat_as form.Callee p x h n below = grammar.pat_only (grammar.pats_last (h n below))
pat_as form.Term p x h n below = grammar.pat_only (grammar.pats_last (h n below))

pub fits_pat : (p : Part) (x : Pat) → PatFits p x → (n : ℕ) → p.levels ≤ n → IsPat n p.tokens x
fits_pat p x h = pat_as p.form p x h

pub fits_pterm : (p : Part) (x : Pat) → PatFits p x → (n : ℕ) → (as_term p).levels ≤ n → IsPterm n (as_term p).tokens x
fits_pterm p x h = go (is_wide p.form) refl
  where
    go : (b : Bool) → is_wide p.form ≡ b → (n : ℕ) → (parens b p).levels ≤ n → IsPterm n (parens b p).tokens x
    go true wide zero below = absurd (omega arith)
    go true wide (suc n) below = grammar.p_paren (fits_pat p x h n (omega arith))
    go false wide n below = narrow_pterm p.form p x h wide n below
