-- Instructions that spell the operations of programs.
use Rattle.std.proofs.Common.{◌≡◌, refl, ap, sym, subst, ◌∙◌, ℕ, ℤ, pos, negsuc, nat_eq, nat_lt, Bool, true, false, Option, Some, None}
use Rattle.std.specs.Prelude.{if◌then◌else◌, ◌||◌, option_map}
use Rattle.std.specs.Ordering.{int_eq}
use Rattle.std.proofs.lemmas.Bool.{eqb-true}
use Rattle.cap_words.specs.Words.{W, Fix, Rom, same_word, number_of, undef}
use Rattle.instr_table.specs.declared.op.Op.{Op}
use Rattle.instr_table.specs.declared.op.Op.TheVariants.{Dup, Drop, Pick, Roll, Depth, Pair, Part, Nth, Get, Cmp, Jump, Msg, State, My, End, Debug}
use Rattle.instr_table.specs.Code.{within, passing, numbered, bare, quad_operation, alu_operation, actor_operation, named, operation}
use Rattle.uasm_read.specs.Texts.{Name}
use Rattle.uasm_read.specs.Links.{linked_word}
use Rattle.hum_code.specs.Program.{IsProgramOp}
use Rattle.hum_emit.specs.declared.instruction.Field.{Field}
use Rattle.hum_emit.specs.declared.instruction.Field.TheVariants.{Number, Constant, Place, Unit as UnitField, Data}
use Rattle.hum_emit.specs.Module.{operand_of}

-- ---- by numbers

-- the word is that number
abbrev pub is_number : ℕ → Field → Bool
is_number n (Number (pos m)) = nat_eq m n
is_number n _ = false

-- of the operations on actors, one that sends, creates or becomes
abbrev pub is_actors : Field → Bool
is_actors field = is_number 0 field || is_number 2 field || is_number 4 field

-- none of dictionaries, deques or sponsors
abbrev pub is_others : ℕ → Bool
is_others operation = nat_lt operation 22 || nat_lt 24 operation

-- the operation and the word are used in programs
abbrev pub is_used : (operation : ℕ) → Field → Bool
is_used operation field = if nat_eq operation 20 then is_actors field else is_others operation

-- ---- what they spell

-- the operation, if there is one, is one of programs
abbrev AllPlain : Option Op → Type 0
AllPlain None = Unit {0}
AllPlain (Some op) = IsProgramOp op

one_of : (b : Bool) (x y : Option Op) → AllPlain x → AllPlain y → AllPlain (if b then x else y)
one_of true x y p q = p
one_of false x y p q = q

other_of : (b : Bool) (x y : Option Op) → b ≡ false → AllPlain y → AllPlain (if b then x else y)
other_of true x y e q = cc
other_of false x y e q = q

mapped : (f : ℤ → Op) (o : Option ℤ) → ((z : ℤ) → IsProgramOp (f z)) → AllPlain (option_map f o)
mapped f None p = tt
mapped f (Some z) p = p z

numbered_plain : (test : ℤ → Bool) (f : ℤ → Op) (n : Option ℤ) → ((z : ℤ) → IsProgramOp (f z)) → AllPlain (numbered test f n)
numbered_plain test f n p = mapped f (passing test n) p

bare_plain : (op : Op) (v : W) → IsProgramOp op → AllPlain (bare op v)
bare_plain op v p = one_of (same_word v undef) _ _ p tt

quad_plain : (o : Option ℤ) → AllPlain (quad_operation o)
quad_plain None = tt
quad_plain (Some n) = one_of (within (pos 1) (pos 4) n) _ _ tt (one_of (within (negsuc 3) (negsuc 0) n) _ _ tt tt)

alu_plain : (o : Option ℤ) → AllPlain (alu_operation o)
alu_plain None = tt
alu_plain (Some n) = one_of (int_eq n (pos 0)) _ _ tt (one_of (within (pos 1) (pos 6) n) _ _ tt tt)

-- an operation on actors has the number 0, 2 or 4
numbers_plain : (m : ℕ) → (nat_eq m 0 || nat_eq m 2 || nat_eq m 4) ≡ true → AllPlain (actor_operation (Some (pos m)))
numbers_plain m h = by_first (nat_eq m 0) (nat_eq m 2) (nat_eq m 4) refl refl refl h
  where
    is : (n : ℕ) → AllPlain (actor_operation (Some (pos n))) → nat_eq m n ≡ true → AllPlain (actor_operation (Some (pos m)))
    is n p e = subst (λ k. AllPlain (actor_operation (Some (pos k)))) (sym (eqb-true m n e)) p

    by_first : (a b c : Bool) → nat_eq m 0 ≡ a → nat_eq m 2 ≡ b → nat_eq m 4 ≡ c → (a || b || c) ≡ true → AllPlain (actor_operation (Some (pos m)))
    by_first true b c i j k e = is 0 tt i
    by_first false true c i j k e = is 2 tt j
    by_first false false true i j k e = is 4 tt k
    by_first false false false i j k e = cc

actors_plain : (words : Name → W) (at : ℕ) (field : Field) → is_actors field ≡ true
    → AllPlain (actor_operation (number_of (linked_word words at (operand_of field))))
actors_plain words at (Number (pos m)) h = numbers_plain m h
actors_plain words at (Number (negsuc m)) h = cc
actors_plain words at (Constant c) h = cc
actors_plain words at (Place i) h = cc
actors_plain words at (UnitField k) h = cc
actors_plain words at (Data j) h = cc

-- another operation has a number that is none of three
other_number : (k n : ℕ) → is_others n ≡ false → is_others k ≡ true → nat_eq k n ≡ false
other_number k n excluded h = by (nat_eq k n) refl
  where
    by : (b : Bool) → nat_eq k n ≡ b → b ≡ false
    by true e = let same : is_others k ≡ is_others n = ap is_others (eqb-true k n e) in
        absurd (let bad : true ≡ false = sym h ∙ (same ∙ excluded) in cc)
    by false e = refl

-- one with a number that is not 20
others_plain : (k : ℕ) (v : W) → nat_eq k 20 ≡ false → is_others k ≡ true → AllPlain (named k v)
others_plain k v e h =
    one_of (nat_eq k 0) _ _ tt
    (one_of (nat_eq k 1) _ _ (numbered_plain _ Dup (number_of v) (λ z. tt))
    (one_of (nat_eq k 2) _ _ (numbered_plain _ Drop (number_of v) (λ z. tt))
    (one_of (nat_eq k 3) _ _ (numbered_plain _ Pick (number_of v) (λ z. tt))
    (one_of (nat_eq k 4) _ _ (numbered_plain _ Roll (number_of v) (λ z. tt))
    (one_of (nat_eq k 5) _ _ (bare_plain Depth v tt)
    (one_of (nat_eq k 6) _ _ (numbered_plain _ Pair (number_of v) (λ z. tt))
    (one_of (nat_eq k 7) _ _ (numbered_plain _ Part (number_of v) (λ z. tt))
    (one_of (nat_eq k 8) _ _ (numbered_plain _ Nth (number_of v) (λ z. tt))
    (one_of (nat_eq k 9) _ _ (quad_plain (number_of v))
    (one_of (nat_eq k 10) _ _ (numbered_plain _ Get (number_of v) (λ z. tt))
    (one_of (nat_eq k 11) _ _ tt
    (one_of (nat_eq k 12) _ _ tt
    (one_of (nat_eq k 13) _ _ (numbered_plain _ Cmp (number_of v) (λ z. tt))
    (one_of (nat_eq k 14) _ _ (alu_plain (number_of v))
    (one_of (nat_eq k 15) _ _ tt
    (one_of (nat_eq k 16) _ _ (bare_plain Jump v tt)
    (one_of (nat_eq k 17) _ _ (numbered_plain _ Msg (number_of v) (λ z. tt))
    (one_of (nat_eq k 18) _ _ (numbered_plain _ State (number_of v) (λ z. tt))
    (one_of (nat_eq k 19) _ _ (numbered_plain _ My (number_of v) (λ z. tt))
    (other_of (nat_eq k 20) _ _ e
    (one_of (nat_eq k 21) _ _ (numbered_plain _ End (number_of v) (λ z. tt))
    (other_of (nat_eq k 22) _ _ (other_number k 22 refl h)
    (other_of (nat_eq k 23) _ _ (other_number k 23 refl h)
    (other_of (nat_eq k 24) _ _ (other_number k 24 refl h)
    (one_of (nat_eq k 25) _ _ tt
    (one_of (nat_eq k 26) _ _ (bare_plain Debug v tt) tt))))))))))))))))))))))))))

named_plain : (words : Name → W) (at k : ℕ) (field : Field) → is_used k field ≡ true → AllPlain (named k (linked_word words at (operand_of field)))
named_plain words at k field h = by (nat_eq k 20) refl h
  where
    by : (b : Bool) → nat_eq k 20 ≡ b → (if b then is_actors field else is_others k) ≡ true → AllPlain (named k (linked_word words at (operand_of field)))
    by true e g =
        subst (λ n. AllPlain (named n (linked_word words at (operand_of field)))) (sym (eqb-true k 20 e)) (actors_plain words at field g)
    by false e g = others_plain k (linked_word words at (operand_of field)) e g

-- the operation that the quad of such an instruction spells, if any
pub instruction_plain : (words : Name → W) (at k : ℕ) (field : Field) (z : W) → is_used k field ≡ true → (op : Op)
    → operation (record { t = Rom 9; x = Fix (pos k); y = linked_word words at (operand_of field); z = z }) ≡ Some op → IsProgramOp op
instruction_plain words at k field z h op is = subst AllPlain is (named_plain words at k field h)

-- a quad of another type spells none
pub other_quad : (k : ℕ) (x y z : W) → nat_eq k 9 ≡ false → operation (record { t = Rom k; x = x; y = y; z = z }) ≡ None
other_quad k x y z e = rw e refl
