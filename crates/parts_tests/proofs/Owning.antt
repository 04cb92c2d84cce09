-- An event's own words, for charges that do not look at them.
use Rattle.cap_words.specs.Words.{undef}
use Rattle.instr_table.specs.Event.{Own}

abbrev pub any_own : Own
any_own = record { sponsor = undef; actor = undef; code = undef; state = undef; message = undef }
