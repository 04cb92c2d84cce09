use Rattle.std.proofs.Common.{◌≡◌, ◌∙◌, ap, sym, refl, true, false, Bool}
use Rattle.std.specs.Prelude.{is_none, not, ◌&&◌}
use Rattle.cap_words.specs.Seen.{seen}
use Rattle.event_queue.specs.Starts.{first_ready as first_of}
use Rattle.quad_debug.proofs.AtRest.{at-rest, sound-at}
use Rattle.quad_debug.specs.Obeys.{is_empty as none_in}
use Rattle.quad_debug.proofs.rest.is_at_rest.Goals as goal

not-not : (b : Bool) → not (not b) ≡ b
not-not true = refl
not-not false = refl

pub returns-then-is_flight_empty : goal.returns-then-is_flight_empty
returns-then-is_flight_empty c =
    let m = c.args.machine.now in
    let q = c.queue.ensures in
    let ready = is_none (first_of m.quads.store c.queue.result.now.given c.queue.result.now.ready) in
    let empty : none_in m.state.flight ≡ true = sym c.is_flight_empty.ensures ∙ c.if-is_flight_empty.true in
    let first : c.is_none.result ≡ ready = sym (ap not c.is_none.ensures ∙ not-not c.is_none.result) ∙ ap is_none (c.first_ready.ensures.value ∙ ap (λ x. first_of x.store c.queue.result.now.given c.queue.result.now.ready) c.quads.ensures.value) in
    first ∙ ap (λ (b : Bool). b && ready) (sym empty)
    ∙ at-rest m.grant m.quads c.sheet-sheet.result.now c.queue.result.now m.state (sound-at m c.turns-turns.result c.turns-turns.ensures.run)
    (record {
      store = ap (λ x. seen x.store) (sym c.quads.ensures.value) ∙ c.quads.ensures.seen;
      sheet_is = c.sheet-sheet.ensures.sheet;
      belongs = c.sheet-sheet.ensures.belongs;
    })
    (record { messages = q.messages; ready = q.ready; ascending = q.ascending })
