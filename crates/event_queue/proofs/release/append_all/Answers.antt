use Rattle.std.proofs.Common.{arith, ◌≡◌, ℕ, suc, ◌+◌, ◌-◌, ◌≤◌, ◌∷◌, [], length, refl, sym, ◌∙◌, ap, subst, length-append}
use Rattle.cap_words.specs.declared.word.Tag.TheVariants.{Event}
use Rattle.cap_words.specs.Words.{W}
use Rattle.cap_words.specs.Store.{opaque_cell}
use Rattle.vm_effects.specs.Links.{walk}
use Rattle.vm_effects.proofs.Records.{sent_words-read}
use Rattle.event_queue.specs.Pending.{Pending, appended}
use Rattle.event_queue.proofs.Appending.{appended-none, appended-more}
use Rattle.event_queue.proofs.release.append_all.Goals as goal

pub loop-init : goal.loop-init
loop-init c = (c.args.count, omega arith, refl, c.requires)

pub loop-preserved : goal.loop-preserved
loop-preserved c =
    let look = opaque_cell c.args.quads.now.store Event in
    let v = c.loop.invariant in
    let k = v.0 - 1 in
    let more : v.0 ≡ suc k = omega (arith, v.1, c.loop-test.true) in
    let whole = appended c.args.queue.now (walk look c.args.count c.args.first) in
    let before = subst (λ (n : ℕ). appended c.loop.queue (walk look n c.loop.event) ≡ whole) more v.2 in
    let after = subst (λ (w : W). appended c.loop.queue (c.loop.event ∷ walk look k w) ≡ whole) (sym c.link_of-event.ensures) before in
    let room : length c.append.new.self.given + k ≤ c.append.new.self.room = subst (λ (q : Pending). length q.given + k ≤ q.room) (sym c.append.ensures.after) (omega (arith, length-append c.loop.queue.given (c.loop.event ∷ []), v.3, more)) in
    (k, omega (arith, v.1, c.loop-test.true), ap (λ (q : Pending). appended q (walk look k c.link_of-event.result)) c.append.ensures.after ∙ appended-more c.loop.queue c.loop.event (walk look k c.link_of-event.result) ∙ after, room)

pub returns : goal.returns
returns c =
    let s = c.args.quads.now.store in
    let look = opaque_cell s Event in
    let v = c.loop.invariant in
    let none : v.0 ≡ 0 = omega (arith, v.1, c.loop-test.false) in
    let ws = walk look c.args.count c.args.first in
    let e = subst (λ (n : ℕ). appended c.loop.queue (walk look n c.loop.event) ≡ appended c.args.queue.now ws) none v.2 in
    sym (appended-none c.loop.queue) ∙ e ∙ ap (appended c.args.queue.now) (sym (sent_words-read s ws))
