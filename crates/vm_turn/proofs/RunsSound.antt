-- Boot begins with what every turn keeps, so every run keeps it.
use Rattle.std.proofs.Common.{◌≡◌, inl, ℕ, zero, suc, ◌+◌, ◌<◌, ◌≤◌, List, [], ◌∷◌, Bool, true, false, Some, refl, sym, subst, inr, arith}
use Rattle.std.specs.Prelude.{slice_get}
use Rattle.std.proofs.lemmas.List.Sums.{sum_by-cons}
use Rattle.cap_words.specs.Words.{W, Cap, same_word}
use Rattle.cap_words.specs.Seen.{SponsorSlot}
use Rattle.cap_words.specs.Frame.{Among}
use Rattle.cap_words.proofs.Same.{word_same}
use Rattle.quad_memory.specs.Image.{RomImage}
use Rattle.instr_table.specs.declared.charge.Quota.{Quota}
use Rattle.instr_table.specs.declared.charge.Quota.TheVariants.{Memory, Events, Cycles}
use Rattle.instr_table.specs.Sheet.{Account}
use Rattle.vm_sponsor.specs.declared.amounts.Amounts.{Amounts}
use Rattle.vm_sponsor.specs.Totals.{kept, total, IsBalanced}
use Rattle.vm_sponsor.specs.Sheets.{root_account}
use Rattle.vm_sponsor.specs.Ledger.{of_kind}
use Rattle.vm_turn.specs.State.{root}
use Rattle.vm_turn.specs.Boot.{boot_slots, booted}
use Rattle.vm_turn.specs.Sound.{Sound, spent_of, held_of, spent_by_all, held_by_all, NamesOne, times}
use Rattle.vm_turn.specs.Laws.{TurnsEnd, AccountsAddUp, GrantsAreConserved, EventsStandOnce}
use Rattle.vm_turn.specs.Run.{run}
use Rattle.vm_turn.proofs.Events.{times-one, times-none}
use Rattle.vm_turn.proofs.Bound.{run-good, mass-under}

-- ---- boot

root-total : (grant : Amounts) (kind : Quota) → kept kind (root_account root grant) ≡ of_kind kind grant
root-total grant Memory = omega arith
root-total grant Events = omega arith
root-total grant Cycles = omega arith

root-balanced : (grant : Amounts) → IsBalanced (root_account root grant)
root-balanced grant Memory = omega arith
root-balanced grant Events = omega arith
root-balanced grant Cycles = omega arith

-- the root is the only sponsor
root-listed : (code : W) (n : ℕ) → slice_get (boot_slots code) n ≡ Some SponsorSlot → Among (Cap n) (root ∷ [])
root-listed code zero h = inl refl
root-listed code (suc zero) h = cc
root-listed code (suc (suc zero)) h = cc
root-listed code (suc (suc (suc zero))) h = cc
root-listed code (suc (suc (suc (suc zero)))) h = cc
root-listed code (suc (suc (suc (suc (suc zero))))) h = cc
root-listed code (suc (suc (suc (suc (suc (suc zero)))))) h = cc
root-listed code (suc (suc (suc (suc (suc (suc (suc zero))))))) h = cc
root-listed code (suc (suc (suc (suc (suc (suc (suc (suc n)))))))) h = cc

root-taken : (w : W) → Among w (root ∷ []) → NamesOne 8 w
root-taken w (inl e) = let k : 0 < 8 = omega arith in subst (NamesOne 8) (sym e) k
root-taken w (inr a) = absurd a

-- message 0 is the only event
first-taken : (w : W) → 1 ≤ times w (Cap 7 ∷ []) → (b : Bool) → same_word (Cap 7) w ≡ b → NamesOne 8 w
first-taken w h true e = let k : 7 < 8 = omega arith in subst (NamesOne 8) (word_same (Cap 7) w e) k
first-taken w h false e = let z = times-none (Cap 7) w e in absurd (omega (arith, h, z))

pub boot-sound : (image : RomImage) (grant : Amounts) (lanes : ℕ) → Sound grant (booted image grant lanes)
boot-sound image grant lanes = record {
  conserved = λ kind. let e = root-total grant kind in omega (arith, e);
  balanced = (root-balanced grant, tt);
  quads = omega arith;
  ended = omega arith;
  paid_for = omega arith;
  rising = (omega arith, omega arith);
  apart = tt;
  pending = tt;
  listed = root-listed image.boot;
  sponsors_apart = ((λ h. h), tt);
  sponsors_taken = root-taken;
  once = λ w. let o = times-one (Cap 7) w in omega (arith, o);
  events_taken = λ w h. first-taken w (omega (arith, h)) (same_word (Cap 7) w) refl;
}

-- every run keeps it
pub run-sound : (image : RomImage) (grant : Amounts) (lanes : ℕ) (picks : List ℕ) → Sound grant (run image grant lanes picks)
run-sound image grant lanes picks = (run-good grant (booted image grant lanes) picks (boot-sound image grant lanes)).sound

-- ---- laws

-- the bound on completed turns
pub turns-end : TurnsEnd
turns-end image grant lanes picks =
    let g = run-good grant (booted image grant lanes) picks (boot-sound image grant lanes) in
    let u = mass-under grant _ g.sound in
    omega (arith, g.rises, u)

pub accounts-add_up : AccountsAddUp
accounts-add_up image grant lanes picks = (run-sound image grant lanes picks).balanced

-- what is spent and what is held is what is spent and held
total-parts : (kind : Quota) (rows : List Account) → total kind rows ≡ spent_by_all kind rows + held_by_all kind rows
total-parts kind [] = omega arith
total-parts kind (a ∷ rows) = omega (arith, total-parts kind rows, sum_by-cons (kept kind) a rows, sum_by-cons (spent_of kind) a rows, sum_by-cons (held_of kind) a rows)

pub grants-are_conserved : GrantsAreConserved
grants-are_conserved image grant lanes picks =
    let s = run image grant lanes picks in
    let ok = run-sound image grant lanes picks in
    let m = ok.conserved Memory in
    let p = total-parts Memory s.sheet in
    record { amounts = ok.conserved; room = omega (arith, m, p, ok.quads) }

pub events-stand_once : EventsStandOnce
events-stand_once image grant lanes picks = (run-sound image grant lanes picks).once
