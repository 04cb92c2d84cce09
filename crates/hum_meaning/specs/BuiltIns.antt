-- The built-in functions.
use Rattle.std.specs.Prelude.{ℤ, ◌+ℤ◌, ◌-ℤ◌, ◌*ℤ◌, int_lt, Bool, not, ◌&&◌, ◌||◌}
use Rattle.cap_words.specs.Fixnums.{wrap, comparison}
use Rattle.hum_meaning.specs.Value.{Parts, Truth, Number, BuiltIn, Add, Sub, Mul, Compare, Less, LessEqual, Greater, GreaterEqual, Equal, And, Or, Not, Value, Plain, Pair}
use Rattle.hum_meaning.specs.Action.{Action, ◌>>=◌, pure, fail, no_match, not_a_number, not_a_truth_value}
use Rattle.hum_meaning.specs.Same.{same}

module _ {L : Parts} where
  abbrev pub on_pair : (Value L → Value L → Action L (Value L)) → Value L → Action L (Value L)
  on_pair f (Pair a b) = f a b
  on_pair f _ = fail no_match

  abbrev pub on_numbers : (ℤ → ℤ → Value L) → Value L → Value L → Action L (Value L)
  on_numbers f (Plain (Number a)) (Plain (Number b)) = pure (f a b)
  on_numbers f _ _ = fail not_a_number

  abbrev pub on_truths : (Bool → Bool → Bool) → Value L → Value L → Action L (Value L)
  on_truths f (Plain (Truth a)) (Plain (Truth b)) = pure (Plain (Truth (f a b)))
  on_truths f _ _ = fail not_a_truth_value

  -- from two numbers a number, reduced modulo 2^31 into the range of numbers
  abbrev pub arithmetic : (ℤ → ℤ → ℤ) → Value L → Action L (Value L)
  arithmetic f = on_pair (on_numbers (λ a b. Plain (Number (wrap (f a b)))))

  -- from two numbers a truth value
  abbrev pub order : (ℤ → ℤ → Bool) → Value L → Action L (Value L)
  order f = on_pair (on_numbers (λ a b. Plain (Truth (f a b))))

  abbrev pub equality : Value L → Value L → Action L (Value L)
  equality a b = do pure (Plain (Truth (← same a b)))

  abbrev pub negation : Value L → Action L (Value L)
  negation (Plain (Truth a)) = pure (Plain (Truth (not a)))
  negation _ = fail not_a_truth_value

  -- a built-in function applied to a value; all but `not` take a pair
  unfoldable pub built_in : BuiltIn → Value L → Action L (Value L)
  built_in Add v = arithmetic (λ a b. a +ℤ b) v
  built_in Sub v = arithmetic (λ a b. a -ℤ b) v
  built_in Mul v = arithmetic (λ a b. a *ℤ b) v
  built_in Compare v = on_pair (on_numbers (λ a b. Plain (Number (comparison a b)))) v
  built_in Less v = order (λ a b. int_lt a b) v
  built_in LessEqual v = order (λ a b. not (int_lt b a)) v
  built_in Greater v = order (λ a b. int_lt b a) v
  built_in GreaterEqual v = order (λ a b. not (int_lt a b)) v
  built_in Equal v = on_pair equality v
  built_in And v = on_pair (on_truths (λ a b. a && b)) v
  built_in Or v = on_pair (on_truths (λ a b. a || b)) v
  built_in Not v = negation v
