use Rattle.std.proofs.Common.{◌∙◌, refl, ap, arith, map, string_bytes, Global}
use Rattle.hum_outside.specs.Outside.{told}
use Rattle.uasm_read.proofs.Fronts.{behind, front_item, no_item}
use Rattle.hum_command.specs.LinkParts.{gathered}
use Rattle.hum_command.proofs.Gathers.{gathers-none, gathers-step, gathers-last}
use Rattle.hum_command.proofs.link.read_files.Goals as goal

pub loop-rest-init : goal.loop-rest-init
loop-rest-init g c = record {
  gathers = gathers-none (g.F.Folder.files c.args.files.now) (map (string_bytes {Z = Global}) c.args.names.now) c.new.result.items c.new.ensures.items;
  files = refl;
  later = omega arith;
}

pub loop-rest-preserved : goal.loop-rest-preserved
loop-rest-preserved g c =
    let files = g.F.Folder.files c.args.files.now in
    let rest = c.loop-rest.rest.now in
    let split = front_item rest c.name-item.result c.in-len1-up.len_at_least c.name-item.is in
    record {
      gathers =
          gathers-step files (map (string_bytes {Z = Global}) c.args.names.now) (map (string_bytes {Z = Global}) rest) (map (string_bytes {Z = Global}) (behind rest))
          (gathered c.loop-rest.all) (gathered c.gather.new.so_far) (string_bytes c.name-item.result) c.as_str-in-len1-up.result.now
          (told (g.F.Folder.files c.loop-rest.files) c.as_str.result.now) c.in-Ok.read
          (ap (map (string_bytes {Z = Global})) split) c.loop-rest.invariant.gathers c.in-Ok.ensures.read
          (ap (told (g.F.Folder.files c.loop-rest.files)) c.as_str.ensures.value ∙ ap (λ f. told f (string_bytes c.name-item.result)) c.loop-rest.invariant.files)
          c.as_str-in-len1-up.ensures.value c.in-Ok-gather.ensures;
      files = c.in-Ok.ensures.files ∙ c.loop-rest.invariant.files;
      later = omega (arith, c.in-Ok.ensures.later, c.loop-rest.invariant.later);
    }

pub returns-clause-read : goal.returns-clause-read
returns-clause-read g c =
    gathers-last (g.F.Folder.files c.args.files.now) (map (string_bytes {Z = Global}) c.args.names.now) (map (string_bytes {Z = Global}) c.loop-rest.rest.now)
    (gathered c.loop-rest.all) (ap (map (string_bytes {Z = Global})) (no_item c.loop-rest.rest.now c.in_default.len_below)) c.loop-rest.invariant.gathers
