-- Names that stand before.
use Rattle.std.proofs.Common.{◌≡◌, Bool, true, false, List, [], ◌∷◌, Some, None, refl, sym, ap, ◌∙◌}
use Rattle.std.specs.Prelude.{◌||◌, cond}
use Rattle.std.specs.Str.{bytes_eq}
use Rattle.std.proofs.lemmas.Bool.{cond-true, cond-false}
use Rattle.std.proofs.lemmas.Cmp.{nat_list_eq_equiv}
use Rattle.uasm_read.specs.Texts.{Name, has_name}
use Rattle.uasm_read.specs.Links.{first_twice}

-- no name before these stands twice, and these are the ones that a set has
pub record Before (stands : Name → Bool) (rest names : List Name) : Type 0 where
  pub before : List Name
  pub same : first_twice [] names ≡ first_twice before rest
  pub seen : (name : Name) → stands name ≡ has_name before name

pub before_begun : (stands : Name → Bool) (names : List Name) → ((name : Name) → stands name ≡ false) → Before stands names names
before_begun stands names none = record { before = []; same = refl; seen = none }

pub before_ended : (stands : Name → Bool) (names : List Name) → Before stands [] names → first_twice [] names ≡ None
unfolding first_twice
before_ended stands names b = b.same

pub before_here : (stands : Name → Bool) (name : Name) (rest names : List Name) → Before stands (name ∷ rest) names → stands name ≡ true → first_twice [] names ≡ Some name
unfolding first_twice
before_here stands name rest names b here = b.same ∙ cond-true (has_name b.before name) _ _ (sym (b.seen name) ∙ here)

put_seen : (asked found b : Bool) → asked ≡ found → cond asked true b ≡ (found || b)
put_seen true found b e = rw (← e) refl
put_seen false found b e = rw (← e) refl

pub before_on : (stands others : Name → Bool) (name : Name) (rest names : List Name) → Before stands (name ∷ rest) names → stands name ≡ false
    → ((other : Name) → others other ≡ cond (bytes_eq name other) true (stands other)) → Before others rest names
unfolding first_twice
before_on stands others name rest names b here put = record {
  before = name ∷ b.before;
  same = b.same ∙ cond-false (has_name b.before name) _ _ (sym (b.seen name) ∙ here);
  seen = λ other. put other ∙ put_seen (bytes_eq name other) (bytes_eq other name) (stands other) (nat_list_eq_equiv.symm name other) ∙ ap (λ x. bytes_eq other name || x) (b.seen other);
}

or_moved : (asked found b more : Bool) → asked ≡ found → (cond asked true b || more) ≡ (b || (found || more))
or_moved true found true more e = refl
or_moved true found false more e = rw (← e) refl
or_moved false found b more e = rw (← e) refl

-- a name more in a set that is filled from a list
pub set_on : (stands others : Name → Bool) (name : Name) (rest : List Name) → ((other : Name) → others other ≡ cond (bytes_eq name other) true (stands other))
    → (other : Name) → (others other || has_name rest other) ≡ (stands other || has_name (name ∷ rest) other)
set_on stands others name rest put other = rw (put other) (or_moved (bytes_eq name other) (bytes_eq other name) (stands other) (has_name rest other) (nat_list_eq_equiv.symm name other))
