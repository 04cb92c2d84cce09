-- What the units of a formed tree become keeps their meaning.
use Rattle.std.proofs.Common.{◌≡◌, true, List}
use Rattle.hum_core.specs.declared.resolved.CoreUnit.{CoreUnit}
use Rattle.hum_core.specs.Formed.{are_formed}
use Rattle.hum_core.specs.Lists.{tested}
use Rattle.hum_core.proofs.Meant.{lowered_means}
use Rattle.hum_core.proofs.Standing.{formed-trees-stand}
use Rattle.hum_match.specs.Keeps.{KeepsMeaning}

pub kept : (units : List CoreUnit) → are_formed units ≡ true → KeepsMeaning units (tested units)
kept units formed =
    let stands = formed-trees-stand units formed in
    record { bodies = stands.bodies; abstractions = stands.abstractions; meaning = lowered_means units (tested units) }
