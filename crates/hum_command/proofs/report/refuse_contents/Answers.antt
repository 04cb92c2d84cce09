use Rattle.hum_command.proofs.report.refuse_contents.Goals as goal

pub returns-in-Twice-clause-said : goal.returns-in-Twice-clause-said
returns-in-Twice-clause-said g c = rw (c.in-Twice.is, ← c.bytes.ensures.value) c.say-in-Twice.ensures.said

pub returns-in-NoSuch-clause-said : goal.returns-in-NoSuch-clause-said
returns-in-NoSuch-clause-said g c = rw (c.in-NoSuch.is, ← c.bytes-in-NoSuch.ensures.value) c.say-in-NoSuch.ensures.said

pub returns-in-NoBoot-clause-said : goal.returns-in-NoBoot-clause-said
returns-in-NoBoot-clause-said g c = rw c.in-NoBoot.is c.say-in-NoBoot.ensures.said

pub returns-in-TooLarge-clause-said : goal.returns-in-TooLarge-clause-said
returns-in-TooLarge-clause-said g c = rw c.in-TooLarge.is c.say-in-TooLarge.ensures.said
