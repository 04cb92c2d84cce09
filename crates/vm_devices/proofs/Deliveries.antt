-- What a device writes, by the texts that are written.
use Rattle.std.proofs.Common.{◌≡◌, ℕ, zero, suc, ◌<◌, true, false, List, [], ◌∷◌, ◌++◌, Option, Some, None, is_some, option_map, refl, ap, ◌∙◌, arith}
use Rattle.std.specs.Option.{unwrap_or}
use Rattle.std.specs.Prelude.{Result, Ok, Err, IsErr}
use Rattle.hum_outside.specs.Outside.{appended, AppendsFront}
use Rattle.hum_outside.proofs.Fronts.{all_after, front_after, front_left}
use Rattle.cap_words.specs.Words.{W}
use Rattle.cap_words.specs.Seen.{Seen}
use Rattle.vm_turn.specs.Piece.{tree, speech, line, printed, said, piece}
use Rattle.vm_devices.specs.declared.delivery.Done.{Done}
use Rattle.vm_devices.specs.declared.delivery.Done.TheVariants.{Committed, Refused}
use Rattle.vm_devices.specs.declared.delivery.WriteFault.{WriteFault}
use Rattle.vm_devices.specs.Texts.{IsSmall, tree_of, text_of, speech_of, speech_text}
use Rattle.vm_devices.specs.Delivery.{Delivers}

pub printed_small : (s : Seen) (w : W) → IsSmall s w → printed s (tree s w) ≡ Some (text_of s w ++ 10 ∷ [])
unfolding text_of
printed_small s w is = ap (printed s) is.tree_is

pub said_small : (s : Seen) (w : W) → IsSmall s w → is_some (speech_of s w) ≡ true → said (tree s w) ≡ Some (speech_text s w ++ 10 ∷ [])
unfolding speech_of speech_text
said_small s w is some = ap said is.tree_is ∙ there (speech (tree_of s w)) some
  where
    there : (o : Option (List ℕ)) → is_some o ≡ true → option_map line o ≡ Some (unwrap_or o [] ++ 10 ∷ [])
    there None e = cc
    there (Some bytes) e = refl

pub said_none : (s : Seen) (w : W) → IsSmall s w → is_some (speech_of s w) ≡ false → said (tree s w) ≡ None
unfolding speech_of
said_none s w is none = ap said is.tree_is ∙ there (speech (tree_of s w)) none
  where
    there : (o : Option (List ℕ)) → is_some o ≡ false → option_map line o ≡ None
    there None e = refl
    there (Some bytes) e = cc

-- a line that was written
pub committed : (p : Option (List ℕ)) (bytes : List ℕ) (old new : Option (List ℕ)) → p ≡ Some bytes → new ≡ appended old bytes → Delivers p (Ok Committed) old new
committed p bytes old new is written = rw is written

-- a message that is refused
pub refused : (p : Option (List ℕ)) (old : Option (List ℕ)) → p ≡ None → Delivers p (Ok Refused) old old
refused p old is = rw is refl

-- a line that was not written whole
pub broken : (p : Option (List ℕ)) (bytes : List ℕ) (result : Result Done WriteFault) (old new : Option (List ℕ)) → p ≡ Some bytes → IsErr result → AppendsFront old new bytes → Delivers p result old new
broken p bytes (Ok done) old new is err front = cc
broken p bytes (Err fault) old new is err front = rw is front

-- the line feed could not be written
pub broken_end : (p : Option (List ℕ)) (bytes : List ℕ) (result : Result Done WriteFault) (old mid new : Option (List ℕ)) → p ≡ Some (bytes ++ 10 ∷ []) → IsErr result → mid ≡ appended old bytes → AppendsFront mid new (10 ∷ []) → Delivers p result old new
broken_end p bytes result old mid new is err first front = broken p (bytes ++ 10 ∷ []) result old new is err (front_after old mid new bytes (10 ∷ []) first front)

-- the line could not be written
pub broken_line : (p : Option (List ℕ)) (bytes : List ℕ) (result : Result Done WriteFault) (old new : Option (List ℕ)) → p ≡ Some (bytes ++ 10 ∷ []) → IsErr result → AppendsFront old new bytes → Delivers p result old new
broken_line p bytes result old new is err front = broken p (bytes ++ 10 ∷ []) result old new is err (front_left old new bytes (10 ∷ []) front)

-- the whole line was written
pub committed_line : (p : Option (List ℕ)) (bytes : List ℕ) (old mid new : Option (List ℕ)) → p ≡ Some (bytes ++ 10 ∷ []) → mid ≡ appended old bytes → new ≡ appended mid (10 ∷ []) → Delivers p (Ok Committed) old new
committed_line p bytes old mid new is first end = committed p (bytes ++ 10 ∷ []) old new is (all_after old mid new bytes (10 ∷ []) first end)

-- ---- the devices

pub piece_printed : (device : ℕ) (s : Seen) (w : W) → device ≡ 0 → piece device s w ≡ printed s (tree s w)
unfolding piece
piece_printed zero s w e = refl
piece_printed (suc n) s w e = absurd (omega arith)

pub piece_said : (device : ℕ) (s : Seen) (w : W) → (device ≡ 0 → ⊥) → device < 2 → piece device s w ≡ said (tree s w)
unfolding piece
piece_said zero s w other few = absurd (other refl)
piece_said (suc zero) s w other few = refl
piece_said (suc (suc n)) s w other few = absurd (omega (arith, few))
