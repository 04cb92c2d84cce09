-- Turns that write nothing.
use Rattle.std.proofs.Common.{◌≡◌, ℕ, suc, zero, false, List, [], ◌∷◌, ◌++◌, Option, Some, None, Result, Ok, Err, ap, sym, ◌∙◌, refl}
use Rattle.std.specs.Prelude.{IsOk, option_map}
use Rattle.cap_words.specs.Words.{W}
use Rattle.cap_words.specs.Seen.{Seen}
use Rattle.vm_devices.specs.declared.delivery.Done.{Done}
use Rattle.vm_devices.specs.declared.delivery.Done.TheVariants.{Committed, Refused}
use Rattle.vm_devices.specs.declared.delivery.WriteFault.{WriteFault}
use Rattle.vm_devices.specs.Delivery.{Delivers}
use Rattle.vm_turn.specs.declared.journal.Turn.{Turn as Answer}
use Rattle.vm_turn.specs.State.{State}
use Rattle.vm_turn.specs.Piece.{Tree, tree, tree_text, speech, line, printed, said, piece}
use Rattle.vm_turn.specs.Turn.{deliver}
use Rattle.vm_machine.specs.Turns.{Quiet}

-- ---- a device that writes anything writes a line feed

line-some : (bytes : List ℕ) → line bytes ≡ [] → ⊥
line-some [] h = cc
line-some (b ∷ bs) h = cc

line-of : (o : Option (List ℕ)) → option_map line o ≡ Some [] → ⊥
line-of None h = cc
line-of (Some bytes) h = let e : line bytes ≡ [] = cc in line-some bytes e

printed-some : (s : Seen) (t : Option Tree) → printed s t ≡ Some [] → ⊥
printed-some s None h = cc
printed-some s (Some t) h = line-of (Some (tree_text s false t)) h

said-some : (t : Option Tree) → said t ≡ Some [] → ⊥
said-some None h = cc
said-some (Some t) h = line-of (speech t) h

pub piece-some : (device : ℕ) (s : Seen) (w : W) → piece device s w ≡ Some [] → ⊥
unfolding piece
piece-some zero s w h = printed-some s (tree s w) h
piece-some (suc zero) s w h = said-some (tree s w) h
piece-some (suc (suc n)) s w h = cc

-- so a delivery that adds nothing to the output is a refusal
pub quiet-told : (s : State) (number : ℕ) (o : Option (List ℕ)) (done : Result Done WriteFault) (r : Result Answer WriteFault) (before after : Option (List ℕ)) (m n : ℕ) → s.output ≡ [] → (o ≡ Some [] → ⊥)
    → Delivers o done before after → (done ≡ Ok Refused → n ≡ m) → (IsOk done → IsOk r) → Quiet (deliver s number o) r before after m n
quiet-told s number None (Ok Committed) r before after m n out some told count same = absurd told
quiet-told s number None (Ok Refused) r before after m n out some told count same = λ h. (same refl, told, count refl)
quiet-told s number None (Err fault) r before after m n out some told count same = absurd told
quiet-told s number (Some bytes) done r before after m n out some told count same = λ h. absurd (some (ap (λ (x : List ℕ). Some x) (ap (λ (x : List ℕ). x ++ bytes) (sym out) ∙ h)))
