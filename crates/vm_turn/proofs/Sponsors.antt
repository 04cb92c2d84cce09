-- Each sponsor in the store has an account of its own.
use Rattle.std.proofs.Common.{◌≡◌, ◌⊎◌, inl, inr, ℕ, ◌+◌, ◌<◌, ◌≤◌, List, [], ◌∷◌, ◌++◌, length, Some, refl, ap, ◌∙◌, sym, subst, arith, append-nil}
use Rattle.std.specs.Prelude.{slice_get}
use Rattle.cap_words.specs.Words.{W, Cap}
use Rattle.cap_words.specs.Seen.{Seen, Slot, SponsorSlot}
use Rattle.cap_words.specs.Frame.{Among}
use Rattle.instr_table.specs.Event.{Effect, Nothing, Sends, Creates, Assigns, Becomes, Sponsors, Grants, Reclaims, Starts, Stops}
use Rattle.instr_table.specs.Sheet.{Account}
use Rattle.instr_table.specs.Making.{MadeWith}
use Rattle.vm_sponsor.specs.Sheets.{Apart}
use Rattle.vm_sponsor.specs.Totals.{sponsors}
use Rattle.vm_turn.specs.Sound.{NamesOne}
use Rattle.vm_turn.proofs.Sheets.{Allowed, makes}
use Rattle.vm_turn.proofs.Grants.{IsHeld}
use Rattle.vm_turn.proofs.Slots.{Alike, SponsorAt, sponsor-among}
use Rattle.vm_turn.proofs.Events.{IsNext, names-more}

-- each sponsor in the store is among these words; no two of them are the same, and each names a quad that is taken
pub record Listed (s : Seen) (ws : List W) : Type 0 where
  pub listed : (n : ℕ) → slice_get s.slots n ≡ Some SponsorSlot → Among (Cap n) ws
  pub apart : Apart ws
  pub taken : (w : W) → Among w ws → NamesOne (length s.slots) w

pub among-left : (w : W) (vs ws : List W) → Among w vs → Among w (vs ++ ws)
among-left w [] ws a = absurd a
among-left w (v ∷ vs) ws (inl e) = inl e
among-left w (v ∷ vs) ws (inr a) = inr (among-left w vs ws a)

pub among-right : (w : W) (vs ws : List W) → Among w ws → Among w (vs ++ ws)
among-right w [] ws a = a
among-right w (v ∷ vs) ws a = inr (among-right w vs ws a)

pub among-of : (w : W) (vs ws : List W) → Among w (vs ++ ws) → Among w vs ⊎ Among w ws
among-of w [] ws a = inr a
among-of w (v ∷ vs) ws (inl e) = inl (inl e)
among-of w (v ∷ vs) ws (inr a) = by (among-of w vs ws a)
  where
    by : Among w vs ⊎ Among w ws → Among w (v ∷ vs) ⊎ Among w ws
    by (inl b) = inl (inr b)
    by (inr b) = inr b

apart-end : (v : W) (ws : List W) → Apart ws → (Among v ws → ⊥) → Apart (ws ++ v ∷ [])
apart-end v [] a f = ((λ h. h), tt)
apart-end v (w ∷ ws) a f = (outside, apart-end v ws a.1 (λ h. f (inr h)))
  where
    by : Among w ws ⊎ Among w (v ∷ []) → ⊥
    by (inl h) = a.0 h
    by (inr (inl e)) = f (inl (sym e))
    by (inr (inr h)) = h

    outside : Among w (ws ++ v ∷ []) → ⊥
    outside h = by (among-of w ws (v ∷ []) h)

-- the store changes, and no sponsor comes
pub listed-alike : (s t : Seen) (ws vs : List W) → Alike s t → vs ≡ ws ++ [] → Listed s ws → Listed t vs
listed-alike s t ws vs a e h =
    let same : ws ≡ vs = sym (append-nil ws) ∙ sym e in
    let n : length s.slots ≤ length t.slots = let l = a.as_many in omega (arith, l) in
    subst (λ (us : List W). Listed t us) same (record {
      listed = λ k is. h.listed k (a.sponsors_of k is);
      apart = h.apart;
      taken = λ w i. names-more (length s.slots) (length t.slots) w n (h.taken w i);
    })

-- the sponsor that an effect makes is the quad that is taken next
pub makes-next : (payer controller : W) (s : Seen) (made : List Slot) (x : Effect) → MadeWith payer controller s made x → IsNext s made (makes x)
makes-next payer controller s made Nothing h = inl refl
makes-next payer controller s made (Sends m) h = inl refl
makes-next payer controller s made (Creates m) h = inl refl
makes-next payer controller s made (Assigns m) h = inl refl
makes-next payer controller s made (Becomes b) h = inl refl
makes-next payer controller s made (Sponsors w) h = let e : length made ≡ 2 = ap (λ (xs : List Slot). length xs) h.1 in inr (ap (λ (w : W). w ∷ []) h.0, omega (arith, e))
makes-next payer controller s made (Grants w kind n) h = inl refl
makes-next payer controller s made (Reclaims w) h = inl refl
makes-next payer controller s made (Starts w signal) h = inl refl
makes-next payer controller s made (Stops w) h = inl refl

module _ (s t : Seen) (ws : List W) (h : Listed s ws) where
  pub listed-going : (x : Effect) (made : List Slot) (vs : List W) → length s.slots + length made ≤ length t.slots → ((n : ℕ) → slice_get t.slots n ≡ Some SponsorSlot → SponsorAt s x n) → IsNext s made (makes x) → vs ≡ ws ++ makes x → Listed t vs
  listed-going x made vs up at next e = subst (λ (us : List W). Listed t us) (sym e) (record {
    listed = λ n is. there n (at n is);
    apart = apart (makes x) next;
    taken = λ w a. taken w (makes x) next (among-of w ws (makes x) a);
  })
    where
      there : (n : ℕ) → SponsorAt s x n → Among (Cap n) (ws ++ makes x)
      there n (inl is) = among-left (Cap n) ws (makes x) (h.listed n is)
      there n (inr a) = among-right (Cap n) ws (makes x) a

      new : Among (Cap (length s.slots)) ws → ⊥
      new a = let k : NamesOne (length s.slots) (Cap (length s.slots)) = h.taken (Cap (length s.slots)) a in absurd (omega (arith, k))

      apart : (us : List W) → IsNext s made us → Apart (ws ++ us)
      apart us (inl e) = subst (λ (vs : List W). Apart (ws ++ vs)) (sym e) (subst (λ (vs : List W). Apart vs) (sym (append-nil ws)) h.apart)
      apart us (inr e) = subst (λ (vs : List W). Apart (ws ++ vs)) (sym e.0) (apart-end (Cap (length s.slots)) ws h.apart new)

      one : (w : W) → 1 ≤ length made → Among w (Cap (length s.slots) ∷ []) → NamesOne (length t.slots) w
      one w k (inl e) = let at : length s.slots < length t.slots = omega (arith, k, up) in subst (NamesOne (length t.slots)) (sym e) at
      one w k (inr a) = absurd a

      taken : (w : W) (us : List W) → IsNext s made us → Among w ws ⊎ Among w us → NamesOne (length t.slots) w
      taken w us n (inl a) = names-more (length s.slots) (length t.slots) w (omega (arith, up)) (h.taken w a)
      taken w us (inl e) (inr a) = absurd (subst (λ (vs : List W). Among w vs) e a)
      taken w us (inr e) (inr a) = one w e.1 (subst (λ (vs : List W). Among w vs) e.0 a)

-- what is granted goes to a sponsor that has an account, and what is taken back to the one that paid
pub allowed : (s : Seen) (rows : List Account) (who : W) (x : Effect) → ((n : ℕ) → slice_get s.slots n ≡ Some SponsorSlot → Among (Cap n) (sponsors rows)) → Among who (sponsors rows) → IsHeld s rows who x → Allowed rows who x
allowed s rows who Nothing f a h = tt
allowed s rows who (Sends m) f a h = tt
allowed s rows who (Creates m) f a h = tt
allowed s rows who (Assigns m) f a h = tt
allowed s rows who (Becomes b) f a h = tt
allowed s rows who (Sponsors w) f a h = tt
allowed s rows who (Grants w kind n) f a h = (h.0, sponsor-among s (sponsors rows) w f h.1)
allowed s rows who (Reclaims w) f a h = a
allowed s rows who (Starts w signal) f a h = tt
allowed s rows who (Stops w) f a h = tt
