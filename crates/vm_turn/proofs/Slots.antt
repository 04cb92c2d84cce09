-- What a turn leaves of the store: how many quads there are, and which of them are sponsors.
use Rattle.std.proofs.Common.{◌≡◌, ◌⊎◌, inl, inr, ℕ, zero, suc, ◌+◌, List, [], ◌∷◌, ◌++◌, length, Option, Some, None, true, refl, ap, ◌∙◌, sym, subst, arith, option_map, drop, length-append}
use Rattle.std.specs.Prelude.{slice_get, slice_set}
use Rattle.cap_words.specs.declared.word.Quad.{Quad}
use Rattle.cap_words.specs.Words.{W, Fix, Rom, Ram, Cap, undef}
use Rattle.cap_words.specs.Store.{cap_place}
use Rattle.cap_words.specs.Seen.{Seen, Slot, OpenSlot, ActorSlot, UnbornSlot, EventSlot, SponsorSlot, SpentSlot, cell_seen, open_in, slot_seen, altered, grown}
use Rattle.cap_words.specs.Frame.{Among}
use Rattle.instr_table.specs.Types.{Readable, opaque_in, look_up, shows_sponsor, is_sponsor}
use Rattle.instr_table.specs.Lists.{pair_quad}
use Rattle.instr_table.specs.Event.{Made, Behaviour, Effects, Effect, Nothing, Sends, Creates, Assigns, Becomes, Sponsors, Grants, Reclaims, Starts, Stops}
use Rattle.instr_table.specs.Outcome.{Going}
use Rattle.instr_table.specs.Lane.{Item, top_at, push_one, push_all, after_going}
use Rattle.instr_table.specs.Reach.{Every}
use Rattle.instr_table.specs.Making.{IsOrdinaryCell, MadeWith}
use Rattle.vm_effects.specs.Actors.{all_idle}
use Rattle.vm_turn.specs.Actors.{at_actor, remade, refilled, with_content, busy, resting, settled}
use Rattle.vm_turn.proofs.Sums.{length-set}
use Rattle.vm_turn.proofs.Sheets.{makes}

-- ---- the store with as many quads, and no sponsor or readable cell more

abbrev pub IsNoSponsor : Slot → Type 0
IsNoSponsor x = x ≡ SponsorSlot → ⊥

-- neither a sponsor nor a readable cell
abbrev pub IsInner : Slot → Type 0
IsInner x = IsNoSponsor x × (open_in (Some x) ≡ None)

-- each sponsor of the second list was one of the first, under that number
abbrev pub SponsorsOf : List Slot → List Slot → Type 0
SponsorsOf xs ys = (n : ℕ) → slice_get ys n ≡ Some SponsorSlot → slice_get xs n ≡ Some SponsorSlot

-- and so was each readable cell
abbrev pub CellsOf : List Slot → List Slot → Type 0
CellsOf xs ys = (n : ℕ) (q : Quad) → open_in (slice_get ys n) ≡ Some q → open_in (slice_get xs n) ≡ Some q

pub record Alike (s t : Seen) : Type 0 where
  pub rom_is : t.rom ≡ s.rom
  pub as_many : length t.slots ≡ length s.slots
  pub sponsors_of : SponsorsOf s.slots t.slots
  pub cells_of : CellsOf s.slots t.slots

some_is : {x y : Slot} → Some x ≡ Some y → x ≡ y
some_is h = cc

pub alike-refl : (s : Seen) → Alike s s
alike-refl s = record { rom_is = refl; as_many = refl; sponsors_of = λ n h. h; cells_of = λ n q h. h }

pub alike-then : (s t u : Seen) → Alike s t → Alike t u → Alike s u
alike-then s t u a b = record {
  rom_is = b.rom_is ∙ a.rom_is;
  as_many = b.as_many ∙ a.as_many;
  sponsors_of = λ n h. a.sponsors_of n (b.sponsors_of n h);
  cells_of = λ n q h. a.cells_of n q (b.cells_of n q h);
}

set-sponsors : (xs : List Slot) (k : ℕ) (x : Slot) → IsNoSponsor x → SponsorsOf xs (slice_set xs k x)
set-sponsors [] k x isnt n h = h
set-sponsors (y ∷ xs) zero x isnt zero h = absurd (isnt (some_is h))
set-sponsors (y ∷ xs) zero x isnt (suc n) h = h
set-sponsors (y ∷ xs) (suc k) x isnt zero h = h
set-sponsors (y ∷ xs) (suc k) x isnt (suc n) h = set-sponsors xs k x isnt n h

set-cells : (xs : List Slot) (k : ℕ) (x : Slot) → open_in (Some x) ≡ None → CellsOf xs (slice_set xs k x)
set-cells [] k x closed n q h = h
set-cells (y ∷ xs) zero x closed zero q h = cc
set-cells (y ∷ xs) zero x closed (suc n) q h = h
set-cells (y ∷ xs) (suc k) x closed zero q h = h
set-cells (y ∷ xs) (suc k) x closed (suc n) q h = set-cells xs k x closed n q h

pub alike-altered : (s : Seen) (k : ℕ) (x : Slot) → IsInner x → Alike s (altered s k x)
alike-altered s k x i = record { rom_is = refl; as_many = length-set s.slots k x; sponsors_of = set-sponsors s.slots k x i.0; cells_of = set-cells s.slots k x i.1 }

pub alike-actor : (s : Seen) (w : W) (change : W → W → Slot) → ((code state : W) → IsInner (change code state)) → Alike s (at_actor s w change)
alike-actor s w change inner = by (slot_seen s w)
  where
    by : (o : Option Slot) → Alike s (remade o change w s)
    by None = alike-refl s
    by (Some (OpenSlot q)) = alike-refl s
    by (Some (ActorSlot code state mark)) = alike-altered s (cap_place w) (change code state) (inner code state)
    by (Some UnbornSlot) = alike-refl s
    by (Some (EventSlot a b m)) = alike-refl s
    by (Some SponsorSlot) = alike-refl s
    by (Some SpentSlot) = alike-refl s

busy-inner : (number : ℕ) (code state : W) → IsInner (busy number code state)
busy-inner number code state = ((λ h. cc), refl)

resting-inner : (next : Option Behaviour) (code state : W) → IsInner (resting next code state)
resting-inner None code state = ((λ h. cc), refl)
resting-inner (Some b) code state = ((λ h. cc), refl)

pub alike-busy : (s : Seen) (w : W) (number : ℕ) → Alike s (at_actor s w (busy number))
alike-busy s w number = alike-actor s w (busy number) (busy-inner number)

pub alike-content : (s : Seen) (w content : W) → Alike s (with_content s w content)
alike-content s w content = by (slot_seen s w)
  where
    by : (o : Option Slot) → Alike s (refilled o w content s)
    by None = alike-refl s
    by (Some (OpenSlot q)) = alike-refl s
    by (Some (ActorSlot code state mark)) = alike-refl s
    by (Some UnbornSlot) = alike-refl s
    by (Some (EventSlot a b m)) = alike-altered s (cap_place w) (EventSlot a b content) ((λ h. cc), refl)
    by (Some SponsorSlot) = alike-refl s
    by (Some SpentSlot) = alike-refl s

alike-idle : (s : Seen) (ms : List Made) → Alike s (all_idle s ms)
alike-idle s [] = alike-refl s
alike-idle s (m ∷ ms) =
    let t = altered s (cap_place m.actor) (ActorSlot m.code m.state undef) in
    alike-then s t (all_idle t ms) (alike-altered s (cap_place m.actor) (ActorSlot m.code m.state undef) ((λ h. cc), refl)) (alike-idle t ms)

pub alike-settled : (s : Seen) (actor : W) (x : Effects) → Alike s (settled s actor x)
alike-settled s actor x =
    let t = at_actor s actor (resting x.next) in
    alike-then s t (all_idle t x.created) (alike-actor s actor (resting x.next) (resting-inner x.next)) (alike-idle t x.created)

-- ---- more quads

length-pushed : (p : Seen × List Item) (vs : List W) → length (push_all p vs).0.slots ≡ length p.0.slots + length vs
length-pushed p [] = omega arith
length-pushed p (v ∷ vs) =
    let h = length-pushed (push_one p v) vs in
    let a = length-append p.0.slots (OpenSlot (pair_quad v (top_at p.1)) ∷ []) in
    omega (arith, h, a)

pub length-going : (s : Seen) (is : List Item) (g : Going) → length (after_going s is g).0.slots ≡ length s.slots + (length g.made + length g.pushed)
length-going s is g =
    let h = length-pushed (grown s g.made, drop g.pops is) g.pushed in
    let a = length-append s.slots g.made in
    omega (arith, h, a)

append-sponsors : (xs ys : List Slot) → Every IsNoSponsor ys → SponsorsOf xs (xs ++ ys)
append-sponsors [] [] isnt n h = h
append-sponsors [] (y ∷ ys) isnt zero h = absurd (isnt.0 (some_is h))
append-sponsors [] (y ∷ ys) isnt (suc n) h = let e = append-sponsors [] ys isnt.1 n h in absurd (none e)
  where
    none : None ≡ Some SponsorSlot → ⊥
    none e = cc
append-sponsors (x ∷ xs) ys isnt zero h = h
append-sponsors (x ∷ xs) ys isnt (suc n) h = append-sponsors xs ys isnt n h

pushed-sponsors : (p : Seen × List Item) (vs : List W) → SponsorsOf p.0.slots (push_all p vs).0.slots
pushed-sponsors p [] n h = h
pushed-sponsors p (v ∷ vs) n h = append-sponsors p.0.slots (OpenSlot (pair_quad v (top_at p.1)) ∷ []) ((λ e. cc), tt) n (pushed-sponsors (push_one p v) vs n h)

-- a new sponsor is the quad that is taken next
new-sponsor : (xs : List Slot) (n : ℕ) → slice_get (xs ++ SponsorSlot ∷ SpentSlot ∷ []) n ≡ Some SponsorSlot → (n ≡ length xs) ⊎ (slice_get xs n ≡ Some SponsorSlot)
new-sponsor [] zero h = inl refl
new-sponsor [] (suc zero) h = cc
new-sponsor [] (suc (suc n)) h = cc
new-sponsor (x ∷ xs) zero h = inr h
new-sponsor (x ∷ xs) (suc n) h = by (new-sponsor xs n h)
  where
    by : (n ≡ length xs) ⊎ (slice_get xs n ≡ Some SponsorSlot) → (suc n ≡ suc (length xs)) ⊎ (slice_get xs n ≡ Some SponsorSlot)
    by (inl e) = inl (ap suc e)
    by (inr e) = inr e

ordinary-no : (s : Seen) (x : Slot) → IsOrdinaryCell s x → IsNoSponsor x
ordinary-no s (OpenSlot q) h e = cc
ordinary-no s (ActorSlot a b c) h e = absurd h
ordinary-no s UnbornSlot h e = absurd h
ordinary-no s (EventSlot a b c) h e = absurd h
ordinary-no s SponsorSlot h e = absurd h
ordinary-no s SpentSlot h e = absurd h

ordinary-none : (s : Seen) (xs : List Slot) → Every (IsOrdinaryCell s) xs → Every IsNoSponsor xs
ordinary-none s [] h = tt
ordinary-none s (x ∷ xs) h = (ordinary-no s x h.0, ordinary-none s xs h.1)

-- each sponsor after an instruction was one before, or is the one that it made
abbrev pub SponsorAt : Seen → Effect → ℕ → Type 0
SponsorAt s x n = (slice_get s.slots n ≡ Some SponsorSlot) ⊎ Among (Cap n) (makes x)

module _ (payer controller : W) (s : Seen) (made : List Slot) where
  abbrev MadeSponsors : Effect → Type 0
  MadeSponsors x = (n : ℕ) → slice_get (s.slots ++ made) n ≡ Some SponsorSlot → SponsorAt s x n

  ordinary-made : (x : Effect) → Every (IsOrdinaryCell s) made → MadeSponsors x
  ordinary-made x h n e = inl (append-sponsors s.slots made (ordinary-none s made h) n e)

  one-made : (x : Effect) (y : Slot) → IsNoSponsor y → made ≡ y ∷ [] → MadeSponsors x
  one-made x y isnt m n e = inl (append-sponsors s.slots (y ∷ []) (isnt, tt) n (subst (λ (xs : List Slot). slice_get (s.slots ++ xs) n ≡ Some SponsorSlot) m e))

  made-sponsors : (x : Effect) → MadeWith payer controller s made x → MadeSponsors x
  made-sponsors Nothing h = ordinary-made Nothing h
  made-sponsors (Sends m) h = one-made (Sends m) _ (λ e. cc) h.1
  made-sponsors (Creates m) h = one-made (Creates m) _ (λ e. cc) h.1
  made-sponsors (Assigns m) h = ordinary-made (Assigns m) h
  made-sponsors (Becomes b) h = ordinary-made (Becomes b) h
  made-sponsors (Sponsors w) h = λ n e. by n (new-sponsor s.slots n (subst (λ (xs : List Slot). slice_get (s.slots ++ xs) n ≡ Some SponsorSlot) h.1 e))
    where
      by : (n : ℕ) → (n ≡ length s.slots) ⊎ (slice_get s.slots n ≡ Some SponsorSlot) → SponsorAt s (Sponsors w) n
      by n (inl e) = inr (inl (ap Cap e ∙ sym h.0))
      by n (inr e) = inl e
  made-sponsors (Grants w kind n) h = ordinary-made (Grants w kind n) h
  made-sponsors (Reclaims w) h = ordinary-made (Reclaims w) h
  made-sponsors (Starts w signal) h = one-made (Starts w signal) _ (λ e. cc) h.1
  made-sponsors (Stops w) h = ordinary-made (Stops w) h

pub going-sponsors : (payer controller : W) (s : Seen) (is : List Item) (g : Going) → MadeWith payer controller s g.made g.effect → (n : ℕ) → slice_get (after_going s is g).0.slots n ≡ Some SponsorSlot → SponsorAt s g.effect n
going-sponsors payer controller s is g h n e = made-sponsors payer controller s g.made g.effect h n (pushed-sponsors (grown s g.made, drop g.pops is) g.pushed n e)

-- ---- a word that names a sponsor

cell-no : (o : Option Quad) → shows_sponsor (option_map Readable o) ≡ true → ⊥
cell-no None h = cc
cell-no (Some q) h = cc

slot-sponsor : (o : Option Slot) → shows_sponsor (opaque_in o) ≡ true → o ≡ Some SponsorSlot
slot-sponsor None h = cc
slot-sponsor (Some (OpenSlot q)) h = cc
slot-sponsor (Some (ActorSlot a b c)) h = cc
slot-sponsor (Some UnbornSlot) h = cc
slot-sponsor (Some (EventSlot a b c)) h = cc
slot-sponsor (Some SponsorSlot) h = refl
slot-sponsor (Some SpentSlot) h = cc

-- where each sponsor in the store is among these words, so is a word that names one
pub sponsor-among : (s : Seen) (ws : List W) (w : W) → ((n : ℕ) → slice_get s.slots n ≡ Some SponsorSlot → Among (Cap n) ws) → is_sponsor s w ≡ true → Among w ws
unfolding look_up
sponsor-among s ws (Fix n) f h = cc
sponsor-among s ws (Rom n) f h = absurd (cell-no (cell_seen s (Rom n)) h)
sponsor-among s ws (Ram n) f h = absurd (cell-no (cell_seen s (Ram n)) h)
sponsor-among s ws (Cap n) f h = f n (slot-sponsor (slice_get s.slots n) h)
