use Rattle.cap_words.proofs.Stores.{cell-taken}
use Rattle.cap_words.specs.declared.word.Tag.TheVariants.{Actor, Event}
use Rattle.quad_memory.specs.Cells.{actor_in, actor_words, event_in, event_words, sponsor_at}
use Rattle.quad_memory.proofs.Typed.{cell-changed_at, cell-sponsor_changed, some}
use Rattle.quad_memory.proofs.quads.ordinary_cells_stand.Goals as goal

pub returns : goal.returns
returns c = record {
  taken = cell-taken;
  actor = λ s w v c h. cell-changed_at actor_in s v w Actor (actor_words c) h (λ e. cc);
  event = λ s w v c h. cell-changed_at event_in s v w Event (event_words c) h (λ e. cc);
  sponsor = λ s w v c h. let k = some (sponsor_at s v) h in cell-sponsor_changed s v w k.0 c k.1;
}
