use Rattle.std.proofs.Common.{◌∷◌, [], sym, subst, ◌∙◌, ap}
use Rattle.std.proofs.lemmas.Bool.{false≢true}
use Rattle.mark_words.specs.declared.marks.Seat.{Seat}
use Rattle.mark_words.specs.declared.view.MarkView.{MarkView}
use Rattle.mark_words.specs.Seats.{view_of}
use Rattle.mark_words.specs.Steps.{HasTried}
use Rattle.par_mark.specs.Scans.{Tries}
use Rattle.par_mark.proofs.Scanned.{scanned_find}
use Rattle.par_mark.proofs.scans.find.Goals as goal
use Rattle.par_mark.proofs.scans.find.Goals.{then-is_marking, else-is_marking}

pub returns-clause-scanned : goal.returns-clause-scanned
returns-clause-scanned g c =
    let m = g.H.Graph.marking c.args.heap.now in
    let q = c.args.target in
    let s : Tries = (c.args.found.now, view_of c.args.seat.now) in
    let t : Tries = (c.push_if.new.self, view_of c.if-is_marking.seat) in
    let black = c.if-is_marking.is_black in
    elim c.if-is_marking.branch [
      | then-is_marking w ↦
          let view_is = ap (λ (x : Seat). view_of x) w.seat-is in
          scanned_find m q s t black c.push_if.ensures.yes c.push_if.ensures.no
          (λ white. view_is ∙ w.is_black-is_black.ensures.same (sym w.is_black-is ∙ white))
          (λ is. (
            c.is_marking.ensures q.1 ∙ w.if-is_marking.true,
            subst (λ (v : MarkView). HasTried s.1 (q ∷ []) [] v) (sym view_is)
                (w.is_black-is_black.ensures.tried (sym w.is_black-is ∙ is)),
          ))
      | else-is_marking w ↦ scanned_find m q s t black c.push_if.ensures.yes c.push_if.ensures.no
          (λ white. ap (λ (x : Seat). view_of x) w.seat-is)
          (λ is. absurd (false≢true (sym w.if-is_marking.false ∙ sym w.is_black-is ∙ is)))
    ]
