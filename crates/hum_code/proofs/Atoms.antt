-- Words that stand for atoms are the same where the atoms are.
use Rattle.std.proofs.Common.{◌≡◌, refl, sym, ap, ◌∙◌, subst, true≢false, List, ℕ, Bool, true, false, ◌==◌, Option, Some, None, slice_get}
use Rattle.std.proofs.lemmas.Bool.Decides.{Decides-eqb}
use Rattle.cap_words.specs.Words.{W, Fix, same_word, undef, nil, truth, pair_t, func_t, block_t}
use Rattle.cap_words.specs.Seen.{Seen}
use Rattle.cap_words.proofs.Same.{word_is, word_same}
use Rattle.instr_table.specs.Types.{Grows, type_of, is_type}
use Rattle.hum_meaning.specs.Value.{Atom, Undefined, Nil, Truth, Number, Symbol, Actor, Plain}
use Rattle.hum_meaning.specs.Same.{same_atom}
use Rattle.hum_code.specs.WordLists.{Distinct}
use Rattle.hum_code.specs.Layout.{Layout}
use Rattle.hum_code.specs.Stands.{AtomStands, Stands, DataStand}
use Rattle.hum_code.proofs.Standing.{CoreValue}
use Rattle.hum_code.proofs.TypesOf.{type_for, atom_type, type_is}

-- whether two types are the same
abbrev same_type : Option W → Option W → Bool
same_type None None = true
same_type (Some a) (Some b) = same_word a b
same_type _ _ = false

type_same : (o : Option W) → same_type o o ≡ true
type_same None = refl
type_same (Some a) = word_is a

-- words of two types differ
differs : (t : Seen) (a b : W) (o p : Option W) → type_of t a ≡ o → type_of t b ≡ p → same_type o p ≡ false → same_word a b ≡ false
differs t a b o p h i e = by (same_word a b) refl
  where
    by : (x : Bool) → same_word a b ≡ x → x ≡ false
    by false g = refl
    by true g =
        let k : o ≡ p = sym h ∙ (ap (λ w. type_of t w) (word_same a b g) ∙ i) in
        let l : same_type o p ≡ true = subst (λ p. same_type o p ≡ true) k (type_same o) in
        absurd (true≢false (sym l ∙ e))

both_are : (v w x y : W) → v ≡ x → w ≡ y → same_word v w ≡ same_word x y
both_are v w x y h i = ap (λ v. same_word v w) h ∙ ap (λ w. same_word x w) i

-- two answers are the same where each follows from the other
same_answer : (x y : Bool) → (x ≡ true → y ≡ true) → (y ≡ true → x ≡ true) → x ≡ y
same_answer true y f g = sym (f refl)
same_answer false true f g = g refl
same_answer false false f g = refl

some_is : {v w : W} → Some v ≡ Some w → v ≡ w
some_is h = cc

-- an atom is no pair, no function and no block
pub atom_no_pair : (a : Atom) → is_type (atom_type a) pair_t ≡ false
atom_no_pair Undefined = refl
atom_no_pair Nil = refl
atom_no_pair (Truth b) = refl
atom_no_pair (Number n) = refl
atom_no_pair (Symbol name) = refl
atom_no_pair (Actor n) = refl

pub atom_no_function : (a : Atom) → is_type (atom_type a) func_t ≡ false
atom_no_function Undefined = refl
atom_no_function Nil = refl
atom_no_function (Truth b) = refl
atom_no_function (Number n) = refl
atom_no_function (Symbol name) = refl
atom_no_function (Actor n) = refl

pub atom_no_block : (a : Atom) → is_type (atom_type a) block_t ≡ false
atom_no_block Undefined = refl
atom_no_block Nil = refl
atom_no_block (Truth b) = refl
atom_no_block (Number n) = refl
atom_no_block (Symbol name) = refl
atom_no_block (Actor n) = refl

module _ (base : Seen) (lay : Layout) (cells : DataStand lay base) (t : Seen) (roll : List W) (above : Grows base t) where
  apart : (a b : CoreValue) (wv ww : W) → Stands lay t roll wv a → Stands lay t roll ww b → same_type (type_for a) (type_for b) ≡ false
      → same_word wv ww ≡ false
  apart a b wv ww hv hw e = differs t wv ww _ _ (type_is base lay cells t roll above wv a hv) (type_is base lay cells t roll above ww b hw) e

  same_actor : Distinct roll → (x y : ℕ) (wv ww : W) → slice_get roll x ≡ Some wv → slice_get roll y ≡ Some ww → same_word wv ww ≡ x == y
  same_actor distinct x y wv ww h i = same_answer (same_word wv ww) (x == y)
      (λ e. (Decides-eqb x y).1 (distinct.once x y wv h (i ∙ ap Some (sym (word_same wv ww e)))))
      (λ e. let k : x ≡ y = (Decides-eqb x y).0 e in
      let j : wv ≡ ww = some_is (sym h ∙ (ap (λ n. slice_get roll n) k ∙ i)) in subst (λ u. same_word wv u ≡ true) j (word_is wv))

  -- a value that has parts, and an atom
  pub parts_differ : (v : CoreValue) (b : Atom) (wv ww : W) (u : W) → type_for v ≡ Some u → is_type (atom_type b) u ≡ false
      → Stands lay t roll wv v → Stands lay t roll ww (Plain b) → same_word wv ww ≡ false
  parts_differ v b wv ww u e f hv hw = by (atom_type b) refl
    where
      by : (o : Option W) → atom_type b ≡ o → same_word wv ww ≡ false
      by None g = differs t wv ww (Some u) None (type_is base lay cells t roll above wv v hv ∙ e) (type_is base lay cells t roll above ww
          (Plain b) hw ∙ g) refl
      by (Some x) g = by_word x g (same_word wv ww) refl
        where
          by_word : (x : W) → atom_type b ≡ Some x → (s : Bool) → same_word wv ww ≡ s → s ≡ false
          by_word x g false k = refl
          by_word x g true k =
              let i : type_of t wv ≡ type_of t ww = ap (λ w. type_of t w) (word_same wv ww k) in
              let j : Some u ≡ Some x = sym (type_is base lay cells t roll above wv v hv ∙ e) ∙ (i ∙ (type_is base lay cells t roll above ww
              (Plain b) hw ∙ g)) in
              let l : is_type (Some u) u ≡ true = word_is u in
              let n : is_type (Some u) u ≡ false = ap (λ o. is_type o u) (j ∙ sym g) ∙ f in
              absurd (true≢false (sym l ∙ n))

  pub atoms_alike : Distinct roll → (a b : Atom) (wv ww : W) → AtomStands lay t roll wv a → AtomStands lay t roll ww b
      → same_word wv ww ≡ same_atom a b
  unfolding Stands
  atoms_alike distinct Undefined Undefined wv ww hv hw = both_are wv ww (undef) (undef) hv hw
  atoms_alike distinct Undefined Nil wv ww hv hw = both_are wv ww (undef) (nil) hv hw
  atoms_alike distinct Undefined (Truth true) wv ww hv hw = both_are wv ww (undef) (truth true) hv hw
  atoms_alike distinct Undefined (Truth false) wv ww hv hw = both_are wv ww (undef) (truth false) hv hw
  atoms_alike distinct Undefined (Number y) wv ww hv hw = apart (Plain Undefined) (Plain (Number y)) wv ww hv hw refl
  atoms_alike distinct Undefined (Symbol y) wv ww hv hw = apart (Plain Undefined) (Plain (Symbol y)) wv ww hv hw refl
  atoms_alike distinct Undefined (Actor y) wv ww hv hw = apart (Plain Undefined) (Plain (Actor y)) wv ww hv hw refl
  atoms_alike distinct Nil Undefined wv ww hv hw = both_are wv ww (nil) (undef) hv hw
  atoms_alike distinct Nil Nil wv ww hv hw = both_are wv ww (nil) (nil) hv hw
  atoms_alike distinct Nil (Truth true) wv ww hv hw = both_are wv ww (nil) (truth true) hv hw
  atoms_alike distinct Nil (Truth false) wv ww hv hw = both_are wv ww (nil) (truth false) hv hw
  atoms_alike distinct Nil (Number y) wv ww hv hw = apart (Plain Nil) (Plain (Number y)) wv ww hv hw refl
  atoms_alike distinct Nil (Symbol y) wv ww hv hw = apart (Plain Nil) (Plain (Symbol y)) wv ww hv hw refl
  atoms_alike distinct Nil (Actor y) wv ww hv hw = apart (Plain Nil) (Plain (Actor y)) wv ww hv hw refl
  atoms_alike distinct (Truth true) Undefined wv ww hv hw = both_are wv ww (truth true) (undef) hv hw
  atoms_alike distinct (Truth true) Nil wv ww hv hw = both_are wv ww (truth true) (nil) hv hw
  atoms_alike distinct (Truth true) (Truth true) wv ww hv hw = both_are wv ww (truth true) (truth true) hv hw
  atoms_alike distinct (Truth true) (Truth false) wv ww hv hw = both_are wv ww (truth true) (truth false) hv hw
  atoms_alike distinct (Truth true) (Number y) wv ww hv hw = apart (Plain (Truth true)) (Plain (Number y)) wv ww hv hw refl
  atoms_alike distinct (Truth true) (Symbol y) wv ww hv hw = apart (Plain (Truth true)) (Plain (Symbol y)) wv ww hv hw refl
  atoms_alike distinct (Truth true) (Actor y) wv ww hv hw = apart (Plain (Truth true)) (Plain (Actor y)) wv ww hv hw refl
  atoms_alike distinct (Truth false) Undefined wv ww hv hw = both_are wv ww (truth false) (undef) hv hw
  atoms_alike distinct (Truth false) Nil wv ww hv hw = both_are wv ww (truth false) (nil) hv hw
  atoms_alike distinct (Truth false) (Truth true) wv ww hv hw = both_are wv ww (truth false) (truth true) hv hw
  atoms_alike distinct (Truth false) (Truth false) wv ww hv hw = both_are wv ww (truth false) (truth false) hv hw
  atoms_alike distinct (Truth false) (Number y) wv ww hv hw = apart (Plain (Truth false)) (Plain (Number y)) wv ww hv hw refl
  atoms_alike distinct (Truth false) (Symbol y) wv ww hv hw = apart (Plain (Truth false)) (Plain (Symbol y)) wv ww hv hw refl
  atoms_alike distinct (Truth false) (Actor y) wv ww hv hw = apart (Plain (Truth false)) (Plain (Actor y)) wv ww hv hw refl
  atoms_alike distinct (Number x) Undefined wv ww hv hw = apart (Plain (Number x)) (Plain Undefined) wv ww hv hw refl
  atoms_alike distinct (Number x) Nil wv ww hv hw = apart (Plain (Number x)) (Plain Nil) wv ww hv hw refl
  atoms_alike distinct (Number x) (Truth true) wv ww hv hw = apart (Plain (Number x)) (Plain (Truth true)) wv ww hv hw refl
  atoms_alike distinct (Number x) (Truth false) wv ww hv hw = apart (Plain (Number x)) (Plain (Truth false)) wv ww hv hw refl
  atoms_alike distinct (Number x) (Number y) wv ww hv hw = both_are wv ww (Fix x) (Fix y) hv hw
  atoms_alike distinct (Number x) (Symbol y) wv ww hv hw = apart (Plain (Number x)) (Plain (Symbol y)) wv ww hv hw refl
  atoms_alike distinct (Number x) (Actor y) wv ww hv hw = apart (Plain (Number x)) (Plain (Actor y)) wv ww hv hw refl
  atoms_alike distinct (Symbol x) Undefined wv ww hv hw = apart (Plain (Symbol x)) (Plain Undefined) wv ww hv hw refl
  atoms_alike distinct (Symbol x) Nil wv ww hv hw = apart (Plain (Symbol x)) (Plain Nil) wv ww hv hw refl
  atoms_alike distinct (Symbol x) (Truth true) wv ww hv hw = apart (Plain (Symbol x)) (Plain (Truth true)) wv ww hv hw refl
  atoms_alike distinct (Symbol x) (Truth false) wv ww hv hw = apart (Plain (Symbol x)) (Plain (Truth false)) wv ww hv hw refl
  atoms_alike distinct (Symbol x) (Number y) wv ww hv hw = apart (Plain (Symbol x)) (Plain (Number y)) wv ww hv hw refl
  atoms_alike distinct (Symbol x) (Symbol y) wv ww hv hw = cells.names x y wv ww hv hw
  atoms_alike distinct (Symbol x) (Actor y) wv ww hv hw = apart (Plain (Symbol x)) (Plain (Actor y)) wv ww hv hw refl
  atoms_alike distinct (Actor x) Undefined wv ww hv hw = apart (Plain (Actor x)) (Plain Undefined) wv ww hv hw refl
  atoms_alike distinct (Actor x) Nil wv ww hv hw = apart (Plain (Actor x)) (Plain Nil) wv ww hv hw refl
  atoms_alike distinct (Actor x) (Truth true) wv ww hv hw = apart (Plain (Actor x)) (Plain (Truth true)) wv ww hv hw refl
  atoms_alike distinct (Actor x) (Truth false) wv ww hv hw = apart (Plain (Actor x)) (Plain (Truth false)) wv ww hv hw refl
  atoms_alike distinct (Actor x) (Number y) wv ww hv hw = apart (Plain (Actor x)) (Plain (Number y)) wv ww hv hw refl
  atoms_alike distinct (Actor x) (Symbol y) wv ww hv hw = apart (Plain (Actor x)) (Plain (Symbol y)) wv ww hv hw refl
  atoms_alike distinct (Actor x) (Actor y) wv ww hv hw = same_actor distinct x y wv ww hv.0 hw.0
