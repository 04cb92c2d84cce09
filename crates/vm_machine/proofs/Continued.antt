-- A run goes on by one turn.
use Rattle.std.proofs.Common.{◌≡◌, ℕ, ◌+◌, suc, List, [], ◌∷◌, ◌++◌, Bool, true, false, if◌then◌else◌, ap, refl, sym, ◌∙◌, subst, arith, ◌≤◌, Option, Some, None, Result, Ok, Err}
use Rattle.std.specs.Prelude.{IsTrue}
use Rattle.cap_words.specs.Words.{W}
use Rattle.cap_words.specs.declared.word.Quad.{Quad}
use Rattle.quad_memory.specs.Image.{RomImage, is_image}
use Rattle.instr_table.specs.declared.charge.Quota.{Quota}
use Rattle.vm_sponsor.specs.declared.amounts.Amounts.{Amounts}
use Rattle.vm_devices.specs.declared.delivery.WriteFault.{WriteFault}
use Rattle.vm_turn.specs.declared.journal.Turn.{Turn as Answer}
use Rattle.vm_turn.specs.declared.journal.Turn.TheVariants.{Dispatched, Stepped, Finished, Rest, Spent}
use Rattle.vm_turn.specs.State.{State}
use Rattle.vm_turn.specs.Turn.{turn, unless_spent}
use Rattle.vm_turn.specs.Boot.{booted}
use Rattle.vm_turn.specs.Run.{after, run, picks, pick_of, drawn, drawn_after, completes, completed, not_rest, unless_out}
use Rattle.vm_turn.specs.Changes.{Changes}
use Rattle.vm_turn.proofs.Changed.{turns-change}
use Rattle.vm_turn.proofs.RunsSound.{turns-end}
use Rattle.vm_turn.proofs.Images.{turn-rom, turn-lanes}
use Rattle.vm_turn.proofs.Runs.{after-append, picks-next, drawn-next}
use Rattle.vm_machine.specs.declared.parts.Parts.{Parts}
use Rattle.vm_machine.specs.View.{state_of, unwritten}
use Rattle.vm_machine.specs.Turns.{Takes}
use Rattle.vm_machine.specs.Whole.{Kept}
use Rattle.vm_machine.specs.Machine.{drawn_run, image_of, Follows}
use Rattle.vm_machine.proofs.Unwritten.{turn-unwritten}
use Rattle.vm_machine.proofs.Instructed.{few-cycles}
use Rattle.vm_machine.proofs.Beginning.{few-events}

-- one turn more is the turn after the run
pub run-next : (image : RomImage) (grant : Amounts) (lanes seed n : ℕ) → run image grant lanes (picks seed (suc n)) ≡ (turn (run image grant lanes (picks seed n)) (pick_of (drawn (drawn_after seed n)))).0
run-next image grant lanes seed n = ap (after (booted image grant lanes)) (picks-next seed n) ∙ after-append (booted image grant lanes) (picks seed n) (pick_of (drawn (drawn_after seed n)) ∷ [])

pub drawn-run-next : (image : RomImage) (grant : Amounts) (lanes seed n : ℕ) (s t : State) → s ≡ drawn_run image grant lanes seed n → t ≡ unwritten (turn s (pick_of (drawn (drawn_after seed n)))).0 → t ≡ drawn_run image grant lanes seed (suc n)
drawn-run-next image grant lanes seed n s t h e =
    let p = pick_of (drawn (drawn_after seed n)) in
    let r = run image grant lanes (picks seed n) in
    e ∙ ap (λ (x : State). unwritten (turn x p).0) h ∙ sym (turn-unwritten r p).0 ∙ sym (ap unwritten (run-next image grant lanes seed n))

completed-append : (s : State) (ps : List ℕ) (p : ℕ) → completed s (ps ++ p ∷ []) ≡ completed s ps + (if completes (after s ps) p then 1 else 0)
completed-append s [] p = omega arith
completed-append s (q ∷ ps) p = let e = completed-append (turn s q).0 ps p in omega (arith, e)

abbrev number_of : Bool → ℕ
number_of b = if b then 1 else 0

-- a turn that is completed is one more
pub completed-next : (image : RomImage) (grant : Amounts) (lanes seed n : ℕ) (s : State) → s ≡ drawn_run image grant lanes seed n → unless_out s.out_of (not_rest (turn s (pick_of (drawn (drawn_after seed n)))).1) ≡ true
    → completed (booted image grant lanes) (picks seed n) ≡ n → completed (booted image grant lanes) (picks seed (suc n)) ≡ suc n
completed-next image grant lanes seed n s h done before =
    let p = pick_of (drawn (drawn_after seed n)) in
    let r = run image grant lanes (picks seed n) in
    let now : completes r p ≡ true = ap (λ a. unless_out r.out_of (not_rest a)) (turn-unwritten r p).1 ∙ subst (λ (x : State). unless_out x.out_of (not_rest (turn x p).1) ≡ true) h done in
    let e = ap (completed (booted image grant lanes)) (picks-next seed n) ∙ completed-append (booted image grant lanes) (picks seed n) p in
    let one : (if completes r p then 1 else 0) ≡ 1 = ap number_of now in
    omega (arith, e, one, before)

-- ---- the parts of a machine

-- where nothing changed but whether it waits, the parts stand for the same run
pub follows-still : (p q : Parts) (boot : W) (seed d n : ℕ) → state_of q ≡ state_of p → q.grant ≡ p.grant → Follows p boot seed d n → Follows q boot seed d n
follows-still p q boot seed d n same grant h =
    let image : image_of q boot ≡ image_of p boot = ap (λ (s : State). record { boot = boot; cells = s.store.rom }) same in
    let lanes : q.lanes ≡ p.lanes = ap (λ (s : State). s.lanes) same in
    record {
      image_is = subst (λ (x : RomImage). IsTrue (is_image x.boot x.cells)) (sym image) h.image_is;
      run_is = same ∙ h.run_is ∙ sym (λ i. drawn_run (image i) (grant i) (lanes i) seed n);
      turns_are = (λ i. completed (booted (image i) (grant i) (lanes i)) (picks seed n)) ∙ h.turns_are;
      drawn_is = h.drawn_is;
    }

-- after a completed turn over the next pick they stand for the run that is one turn longer
pub follows-on : (p q : Parts) (boot : W) (seed d n next : ℕ) (a : Answer) (before after : Option (List ℕ)) → next ≡ drawn d → q.grant ≡ p.grant → Takes (turn (state_of p) (pick_of next)) (Ok a) (state_of p) (state_of q) before after
    → unless_out p.out_of (not_rest a) ≡ true → Follows p boot seed d n → Follows q boot seed next (n + 1)
follows-on p q boot seed d n next a before after e grant t done h = subst (Follows q boot seed next) more (record {
  image_is = subst (λ (x : RomImage). IsTrue (is_image x.boot x.cells)) (sym image) h.image_is;
  run_is = longer ∙ sym (λ i. drawn_run (image i) (grant i) (lanes i) seed (suc n));
  turns_are = (λ i. completed (booted (image i) (grant i) (lanes i)) (picks seed (suc n))) ∙ counted;
  drawn_is = generator ∙ sym (drawn-next seed n);
})
  where
    more : suc n ≡ n + 1
    more = omega arith

    generator : next ≡ drawn (drawn_after seed n)
    generator = e ∙ ap drawn h.drawn_is

    image : image_of q boot ≡ image_of p boot
    image = ap (λ (x : List Quad). record { boot = boot; cells = x }) (ap (λ (s : State). s.store.rom) t.0 ∙ turn-rom (state_of p) (pick_of next))

    lanes : q.lanes ≡ p.lanes
    lanes = ap (λ (s : State). s.lanes) t.0 ∙ turn-lanes (state_of p) (pick_of next)

    longer : state_of q ≡ drawn_run (image_of p boot) p.grant p.lanes seed (suc n)
    longer = drawn-run-next (image_of p boot) p.grant p.lanes seed n (state_of p) (state_of q) h.run_is (t.0 ∙ ap (λ (x : ℕ). unwritten (turn (state_of p) (pick_of x)).0) generator)

    counted : completed (booted (image_of p boot) p.grant p.lanes) (picks seed (suc n)) ≡ suc n
    counted = completed-next (image_of p boot) p.grant p.lanes seed n (state_of p) h.run_is
        (ap (λ (x : ℕ). unless_out p.out_of (not_rest (turn (state_of p) (pick_of x)).1)) (sym generator) ∙ ap (λ (x : Answer). unless_out p.out_of (not_rest x)) (sym t.1) ∙ done)
        h.turns_are

-- a turn that is not completed changes nothing
resting : (s : State) (pick : ℕ) (o : Option Quota) (a : Answer) (t : State) → s.out_of ≡ o → unless_out o (not_rest a) ≡ false → a ≡ (turn s pick).1 → Changes s pick a t → t ≡ (turn s pick).0 → t ≡ s
resting s pick (Some kind) a t out idle e c f = f ∙ ap (λ (x : Option Quota). (unless_spent s pick x).0) out
resting s pick None Dispatched t out idle e c f = cc
resting s pick None Stepped t out idle e c f = cc
resting s pick None (Finished x) t out idle e c f = cc
resting s pick None Rest t out idle e c f = c.0
resting s pick None (Spent w kind) t out idle e c f = cc

pub turn-rests : (s : State) (pick : ℕ) → unless_out s.out_of (not_rest (turn s pick).1) ≡ false → (turn s pick).0 ≡ s
turn-rests s pick idle = resting s pick s.out_of (turn s pick).1 (turn s pick).0 refl idle refl (turns-change s pick) refl

-- so the parts stand for the same run
pub follows-resting : (p q : Parts) (boot : W) (seed d n pick : ℕ) (a : Answer) (before after : Option (List ℕ)) → q.grant ≡ p.grant → Takes (turn (state_of p) pick) (Ok a) (state_of p) (state_of q) before after
    → unless_out p.out_of (not_rest a) ≡ false → Follows p boot seed d n → Follows q boot seed d n
follows-resting p q boot seed d n pick a before after grant t idle h =
    follows-still p q boot seed d n
    (t.0 ∙ ap unwritten (turn-rests (state_of p) pick (ap (λ (x : Answer). unless_out p.out_of (not_rest x)) (sym t.1) ∙ idle)))
    grant h

-- no turn changes the image
pub image-same : (p q : Parts) (boot : W) (pick : ℕ) (r : Result Answer WriteFault) (before after : Option (List ℕ)) → Takes (turn (state_of p) pick) r (state_of p) (state_of q) before after → image_of q boot ≡ image_of p boot
image-same p q boot pick (Ok a) before after t = ap (λ (x : List Quad). record { boot = boot; cells = x }) (ap (λ (s : State). s.store.rom) t.0 ∙ turn-rom (state_of p) pick)
image-same p q boot pick (Err f) before after t = ap (λ (x : List Quad). record { boot = boot; cells = x }) (ap (λ (s : State). s.store.rom) t.0)

pub lanes-same : (p q : Parts) (pick : ℕ) (r : Result Answer WriteFault) (before after : Option (List ℕ)) → Takes (turn (state_of p) pick) r (state_of p) (state_of q) before after → q.lanes ≡ p.lanes
lanes-same p q pick (Ok a) before after t = ap (λ (s : State). s.lanes) t.0 ∙ turn-lanes (state_of p) pick
lanes-same p q pick (Err f) before after t = ap (λ (s : State). s.lanes) t.0

-- the count of turns is small
pub few-turns : (p : Parts) (boot : W) (seed d n : ℕ) → Kept p → Follows p boot seed d n → n ≤ 1082130433
few-turns p boot seed d n k h =
    let b = turns-end (image_of p boot) p.grant p.lanes (picks seed n) in
    let c = few-cycles p.grant.memory p.grant.events p.grant.cycles k.granted in
    let e = few-events p.grant.memory p.grant.events p.grant.cycles k.granted in
    let t = h.turns_are in
    omega (arith, b, c, e, t)
