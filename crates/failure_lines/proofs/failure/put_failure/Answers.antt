use Rattle.std.proofs.Common.{ap, subst, ◌∙◌, List, ℕ}
use Rattle.hum_outside.specs.Outside.{appended, AppendsFront}
use Rattle.cap_words.proofs.Ranges.{in_range-cast}
use Rattle.failure_lines.specs.Failure.{name_of, code_text, line_with}
use Rattle.failure_lines.proofs.Results.{on_ok-map, on_err-map}
use Rattle.failure_lines.proofs.Failures.{named, coded}
use Rattle.failure_lines.proofs.failure.put_failure.Goals as goal

pub returns-in-Some-name_of-clause-all : goal.returns-in-Some-name_of-clause-all
returns-in-Some-name_of-clause-all g c =
    let cast = in_range-cast c.in-Some.number c.in-Some.ensures.in_range in
    let text = named c.args.reason c.in-Some.number c.in-Some.ensures.value c.in-Some-name_of.name.now (c.in-Some-name_of.ensures ∙ ap name_of cast) in
    on_ok-map c.put_named-in-Some-name_of.result c.put_named-in-Some-name_of.ensures.all (λ h. h ∙ ap (λ (t : List ℕ). appended (g.K.Sink.written c.args.err.now) (line_with c.args.message t)) text)

pub returns-in-Some-name_of-clause-front : goal.returns-in-Some-name_of-clause-front
returns-in-Some-name_of-clause-front g c =
    let w = g.K.Sink.written in
    let cast = in_range-cast c.in-Some.number c.in-Some.ensures.in_range in
    let text = named c.args.reason c.in-Some.number c.in-Some.ensures.value c.in-Some-name_of.name.now (c.in-Some-name_of.ensures ∙ ap name_of cast) in
    on_err-map c.put_named-in-Some-name_of.result c.put_named-in-Some-name_of.ensures.front c.put_named-in-Some-name_of.ensures.cause.failed
    (λ front rose. subst (λ (t : List ℕ). AppendsFront (w c.args.err.now) (w c.put_named-in-Some-name_of.new.err) (line_with c.args.message t)) text front)

pub returns-in-None-clause-all : goal.returns-in-None-clause-all
returns-in-None-clause-all g c =
    let cast = in_range-cast c.in-Some.number c.in-Some.ensures.in_range in
    let text = coded c.args.reason c.in-Some.number c.in-Some.ensures.value (c.in-None.ensures ∙ ap name_of cast) in
    on_ok-map c.put_coded.result c.put_coded.ensures.all (λ h. h ∙ ap (λ (t : List ℕ). appended (g.K.Sink.written c.args.err.now) (line_with c.args.message t)) (ap code_text cast ∙ text))

pub returns-in-None-clause-front : goal.returns-in-None-clause-front
returns-in-None-clause-front g c =
    let w = g.K.Sink.written in
    let cast = in_range-cast c.in-Some.number c.in-Some.ensures.in_range in
    let text = coded c.args.reason c.in-Some.number c.in-Some.ensures.value (c.in-None.ensures ∙ ap name_of cast) in
    on_err-map c.put_coded.result c.put_coded.ensures.front c.put_coded.ensures.cause.failed
    (λ front rose. subst (λ (t : List ℕ). AppendsFront (w c.args.err.now) (w c.put_coded.new.err) (line_with c.args.message t)) (ap code_text cast ∙ text) front)
