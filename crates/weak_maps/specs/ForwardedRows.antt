-- Rows anew, with the cells where they have gone.
use Rattle.std.specs.Prelude.{◌≡◌, List, map}
use Rattle.gz_names.specs.declared.moves.Move.{Move}
use Rattle.gz_names.specs.declared.numbers.Place.{Place}
use Rattle.weak_maps.specs.Delegates.{DelegatesState, rows_of}
use Rattle.weak_maps.specs.Heads.{head_of}
use Rattle.weak_maps.specs.Moving.{exchanged, row_forwarded}
use Rattle.weak_maps.specs.Sides.{number_of}
use Rattle.weak_maps.specs.declared.delegates.ForwardedRows.{ForwardedRows}

-- they are those of a table of rows after moves
pub record AreForwardedRows (old : DelegatesState) (moves : List Move) (gone : ForwardedRows) : Type 0 where
  pub rows : rows_of gone.rows ≡ map (row_forwarded moves) old.rows
  pub heads : (q : Place) → head_of gone.by_target q ≡ number_of old.by_target (exchanged moves q)
