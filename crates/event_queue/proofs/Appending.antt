-- A queue after events were appended, one by one or all at once.
use Rattle.std.proofs.Common.{◌≡◌, ℕ, suc, List, [], ◌∷◌, ◌++◌, length, ap, ◌∙◌, arith, append_assoc, length-append}
use Rattle.std.proofs.lemmas.List.{append-nil}
use Rattle.cap_words.specs.Words.{W}
use Rattle.event_queue.specs.Pending.{Pending, numbers_from, appended}

pub appended-none : (q : Pending) → appended q [] ≡ q
appended-none q = λ i. record { given = append-nil q.given i; ready = append-nil q.ready i; room = q.room }

pub appended-more : (q : Pending) (w : W) (ws : List W) → appended (appended q (w ∷ [])) ws ≡ appended q (w ∷ ws)
appended-more q w ws =
    let l : length (q.given ++ w ∷ []) ≡ suc (length q.given) = omega (arith, length-append q.given (w ∷ [])) in
    let n = length q.given in
    λ i. record {
      given = append_assoc q.given (w ∷ []) ws i;
      ready = (ap (λ (k : ℕ). (q.ready ++ n ∷ []) ++ numbers_from k ws) l ∙ append_assoc q.ready (n ∷ []) (numbers_from (suc n) ws)) i;
      room = q.room;
    }
