-- Sponsors that are seen.
use Rattle.std.specs.Prelude.{◌≡◌, true, IsSome}
use Rattle.cap_words.specs.Words.{W}
use Rattle.cap_words.specs.Store.{Store}
use Rattle.cap_words.specs.Seen.{seen}
use Rattle.quad_memory.specs.Cells.{sponsor_at}
use Rattle.instr_table.specs.Types.{is_sponsor}

-- each sponsor that is seen has both its quads
abbrev pub AreWhole : Store → Type 0
AreWhole s = (w : W) → is_sponsor (seen s) w ≡ true → IsSome (sponsor_at s w)
