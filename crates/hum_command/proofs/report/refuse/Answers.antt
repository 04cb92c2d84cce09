use Rattle.hum_command.proofs.report.refuse.Goals as goal

pub returns-in-Unread-clause-said : goal.returns-in-Unread-clause-said
returns-in-Unread-clause-said g c = rw (c.in-Unread.is, ← c.as_bytes-name.ensures.value) c.say-in-Unread.ensures.said
