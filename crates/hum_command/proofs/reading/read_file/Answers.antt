use Rattle.std.proofs.Common.{rules}
use Rattle.hum_outside.specs.Outside.{told}
use Rattle.hum_command.proofs.Texts.{told_longer, not_absent}
use Rattle.hum_command.proofs.reading.read_file.Goals as goal

pub returns-in-Err-TooLong-clause-read : goal.returns-in-Err-TooLong-clause-read
returns-in-Err-TooLong-clause-read g c =
    told_longer c.args.limit (told (g.F.Folder.files c.args.files.now) c.args.name.now)
    (λ bytes is. c.in-Err-TooLong.ensures.too_long bytes is (search rules))
    (λ none. not_absent c.in-Err-TooLong.field-0 c.in-Err-TooLong.field-0-is (c.in-Err-TooLong.ensures.absent none))
