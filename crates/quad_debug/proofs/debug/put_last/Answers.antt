use Rattle.std.proofs.Common.{◌≡◌, ◌∙◌, ◌++◌, ◌+◌, ◌-◌, ap, sym, subst, length, drop, List}
use Rattle.std.proofs.lemmas.List.Concat.{flat_map-append}
use Rattle.circular_buffer.specs.Buffer.{keep_last}
use Rattle.hum_outside.specs.Outside.{AppendsFront, appended}
use Rattle.hum_outside.proofs.Fronts.{front_after}
use Rattle.vm_turn.specs.declared.journal.Entry.{Entry}
use Rattle.failure_lines.proofs.Results.{on_ok-map, on_err-map}
use Rattle.quad_debug.specs.Texts.{event_line, event_lines}
use Rattle.quad_debug.proofs.Keeping.{last-later, last-both}
use Rattle.quad_debug.proofs.debug.put_last.Goals as goal

pub returns-then-left_out-earlier-clause-all : goal.returns-then-left_out-earlier-clause-all
returns-then-left_out-earlier-clause-all g c =
    let w = g.K.Sink.written in
    let left = c.saturating_sub-left_out.result in
    let earlier = c.as_slices.result.0.now in
    let later = c.as_slices.result.1.now in
    let is : left ≡ length earlier + length later - c.args.count = c.saturating_sub-left_out.ensures in
    let last = last-later earlier later c.args.entries.now.items c.args.count left c.as_slices.ensures is c.if-left_out-earlier.true in
    on_ok-map c.put_events.result c.put_events.ensures.all (λ h. h ∙ ap (λ (es : List Entry). appended (w c.args.out.now) (event_lines es)) (c.entries_from-last.ensures ∙ last))

pub returns-then-left_out-earlier-clause-front : goal.returns-then-left_out-earlier-clause-front
returns-then-left_out-earlier-clause-front g c =
    let w = g.K.Sink.written in
    let left = c.saturating_sub-left_out.result in
    let earlier = c.as_slices.result.0.now in
    let later = c.as_slices.result.1.now in
    let is : left ≡ length earlier + length later - c.args.count = c.saturating_sub-left_out.ensures in
    let last = last-later earlier later c.args.entries.now.items c.args.count left c.as_slices.ensures is c.if-left_out-earlier.true in
    on_err-map c.put_events.result c.put_events.ensures.front c.put_events.ensures.cause.failed
    (λ front rose. subst (λ (es : List Entry). AppendsFront (w c.args.out.now) (w c.put_events.new.out) (event_lines es)) (c.entries_from-last.ensures ∙ last) front)

pub returns-clause-front : goal.returns-clause-front
returns-clause-front g c =
    let w = g.K.Sink.written in
    let left = c.saturating_sub-left_out.result in
    let earlier = c.as_slices.result.0.now in
    let later = c.as_slices.result.1.now in
    let is : left ≡ length earlier + length later - c.args.count = c.saturating_sub-left_out.ensures in
    let both = last-both earlier later c.args.entries.now.items c.args.count left c.as_slices.ensures is c.if-left_out-earlier.false in
    let text : event_lines (drop left earlier) ++ event_lines later ≡ event_lines (keep_last c.args.count c.args.entries.now.items) = sym (flat_map-append event_line (drop left earlier) later) ∙ ap event_lines both in
    let first = c.in_ok-put_events.ensures.all ∙ ap (λ (es : List Entry). appended (w c.args.out.now) (event_lines es)) c.entries_from.ensures in
    on_err-map c.put_events-3.result c.put_events-3.ensures.front c.put_events-3.ensures.cause.failed
    (λ front rose. subst (AppendsFront (w c.args.out.now) (w c.put_events-3.new.out)) text
    (front_after (w c.args.out.now) (w c.put_events-2.new.out) (w c.put_events-3.new.out) (event_lines (drop left earlier)) (event_lines later) first front))
