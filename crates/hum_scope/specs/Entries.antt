-- What an entry binds.
use Rattle.std.specs.Prelude.{map}
use Rattle.hum_meaning.specs.Named.{Name}
use Rattle.hum_core.specs.Alike.{Marked, One, Many}
use Rattle.hum_scope.specs.declared.entry.Entry.{Entry}
use Rattle.hum_scope.specs.declared.entry.Entry.TheVariants as entry

-- an entry, without where its names lie in memory
abbrev pub marked : Entry → Marked Name
marked (entry.One name) = One name.now
marked (entry.Many names) = Many (map (λ n. n.now) names.items)
