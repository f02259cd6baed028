use Rattle.std.proofs.Common.{List, Option, ap, sym, ◌∙◌, map, replicate, take}
use Rattle.gz_names.specs.declared.names.Name.{Name}
use Rattle.gz_names.specs.declared.numbers.Place.{Place}
use Rattle.arena_table.specs.Cells.{CellState, field_count, name_of, place_at}
use Rattle.arena_table.specs.declared.cells.Link.{Link}
use Rattle.arena_table.proofs.Fields.{map-take-replicate}
use Rattle.arena_table.proofs.cells.Cell.new.Goals as goal

pub returns : goal.returns
returns c =
    let null : Link = record { position = 0 } in
    let seen = λ (link : Link). place_at link.position in
    let cell : Name → List (Option Place) → CellState = λ name fields. record {
      kind = c.args.kind;
      comp = c.args.comp;
      name = name;
      fields = fields;
    } in
    let count = field_count c.args.kind in
    ap (λ name. cell name (map seen (take count (replicate 8 null))))
    (ap (name_of c.args.kind c.args.comp) c.number_in.ensures ∙ sym c.requires.name)
    ∙ ap (cell c.args.name) (map-take-replicate seen count 8 null c.requires.fields)
