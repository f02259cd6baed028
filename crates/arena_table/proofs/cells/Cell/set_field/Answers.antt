use Rattle.std.proofs.Common.{List, Option, set, ap, ◌∙◌, map, take}
use Rattle.gz_names.specs.declared.numbers.Place.{Place}
use Rattle.arena_table.specs.Cells.{field_count, place_at, state_of}
use Rattle.arena_table.specs.declared.cells.Link.{Link}
use Rattle.arena_table.proofs.Fields.{map-take-set}
use Rattle.arena_table.proofs.cells.Cell.set_field.Goals as goal

pub returns : goal.returns
returns c =
    let old = c.args.self.now in
    let seen = λ (link : Link). place_at link.position in
    let fields = map-take-set seen (field_count old.kind) old.fields c.args.f c.to.result
    ∙ ap (set (map seen (take (field_count old.kind) old.fields)) c.args.f) c.to.ensures in
    ap (λ (fs : List (Option Place)). record (state_of old) { fields = fs }) fields
