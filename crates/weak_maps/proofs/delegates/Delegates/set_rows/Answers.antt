use Rattle.std.proofs.Common.{◌∙◌, List, sym, ap, subst}
use Rattle.gz_names.specs.Moves.{GoApart}
use Rattle.weak_maps.specs.Delegates.{AreRows, DelegateRow, DelegatesState, rows_of}
use Rattle.weak_maps.specs.ForwardedRows.{AreForwardedRows}
use Rattle.weak_maps.specs.Moving.{AreNamedByRows}
use Rattle.weak_maps.specs.Sides.{SideState, number_of}
use Rattle.weak_maps.proofs.Forwarding.{AreRows-gone}
use Rattle.weak_maps.proofs.delegates.Delegates.set_rows.Goals as goal

pub invariant_of-self : goal.invariant_of-self
invariant_of-self c =
    let inside = c.self.inside in
    let old : DelegatesState =
    record { rows = rows_of inside.rows; by_target = inside.by_target; by_zone = inside.by_zone } in
    let moves = c.requires.0 in
    let gone : AreForwardedRows old moves c.args.gone =
    subst (λ (d : DelegatesState). AreForwardedRows d moves c.args.gone) (sym c.self.view_is) c.requires.1 in
    let goes : GoApart (AreNamedByRows old.rows) moves =
    subst (λ (d : DelegatesState). GoApart (AreNamedByRows d.rows) moves) (sym c.self.view_is) c.requires.2 in
    let heads = c.set_heads.ensures.heads in
    subst (λ (rs : List DelegateRow). AreRows rs c.set_heads.new.self inside.by_zone) (sym gone.rows)
    (AreRows-gone moves old.rows inside.by_target inside.by_zone c.set_heads.new.self goes c.self.invariant (record {
      side = c.set_heads.ensures.side;
      owners = ap (λ (s : SideState). s.owners) heads;
      numbers = λ q. ap (λ (s : SideState). number_of s q) heads ∙ gone.heads q;
    }))

pub returns-clause-sound : goal.returns-clause-sound
returns-clause-sound c =
    let inside = c.self.inside in
    let old : DelegatesState =
    record { rows = rows_of inside.rows; by_target = inside.by_target; by_zone = inside.by_zone } in
    let moves = c.requires.0 in
    let gone : AreForwardedRows old moves c.args.gone =
    subst (λ (d : DelegatesState). AreForwardedRows d moves c.args.gone) (sym c.self.view_is) c.requires.1 in
    let goes : GoApart (AreNamedByRows old.rows) moves =
    subst (λ (d : DelegatesState). GoApart (AreNamedByRows d.rows) moves) (sym c.self.view_is) c.requires.2 in
    let heads = c.set_heads.ensures.heads in
    subst (λ (rs : List DelegateRow). AreRows rs c.set_heads.new.self inside.by_zone) (sym gone.rows)
    (AreRows-gone moves old.rows inside.by_target inside.by_zone c.set_heads.new.self goes c.self.invariant (record {
      side = c.set_heads.ensures.side;
      owners = ap (λ (s : SideState). s.owners) heads;
      numbers = λ q. ap (λ (s : SideState). number_of s q) heads ∙ gone.heads q;
    }))
