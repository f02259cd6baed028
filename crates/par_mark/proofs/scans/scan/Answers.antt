use Rattle.std.proofs.Common.{rules, ◌≡◌, ◌<◌, ℕ, List, [], ◌∷◌, Option, Some, None, sym, ap, subst, ◌∙◌}
use Rattle.std.proofs.Common.{arith, length}
use Rattle.mark_words.specs.Seats.{view_of}
use Rattle.mark_ahead.specs.Edges.{first_targets, targets}
use Rattle.mark_ahead.proofs.Members.{from_times}
use Rattle.par_mark.specs.Scans.{HasScanned, Tries}
use Rattle.par_mark.proofs.Cells.{few_targets}
use Rattle.par_mark.proofs.Reaching.{edge_counts}
use Rattle.par_mark.proofs.Scanned.{scanned_few, scanned_field, scanned_none, scanned_parts}
use Rattle.par_mark.proofs.Scanning.{all_fields, nothing}
use Rattle.par_mark.proofs.scans.scan.Goals as goal
use Rattle.par_mark.proofs.scans.scan.Goals.{in-Some, in_default}

pub loop-i-init : goal.loop-i-init
loop-i-init g c = (
  c.requires.seat.0,
  c.requires.seat.1,
  scanned_none (g.H.Graph.marking c.args.heap.now) (c.args.found.now, view_of c.args.seat.now),
)

pub find-requires-clause-listed : goal.find-requires-clause-listed
find-requires-clause-listed g c =
    let edge = g.H.Graph.edge c.args.heap.now in
    let p = c.args.place in
    let q = c.in-Some.target in
    from_times g.L.PlaceList.places (targets edge p) q c.requires.listed (edge_counts (edge p) q 8 c.loop-i.i
    (omega arith) (sym c.edge_at.ensures ∙ c.in-Some.is))

pub find-requires-clause-room : goal.find-requires-clause-room
find-requires-clause-room g c =
    let field = g.H.Graph.edge c.args.heap.now c.args.place in
    let few = scanned_few (g.H.Graph.marking c.args.heap.now) (first_targets field c.loop-i.i)
    (c.args.found.now, view_of c.args.seat.now) (c.loop-i.found, view_of c.loop-i.seat) c.loop-i.invariant.2 in
    let most = few_targets field c.loop-i.i in
    let m = c.requires.room in
    let goal_is : length c.loop-i.found < 64 = omega arith in goal_is

pub loop-i-preserved : goal.loop-i-preserved
loop-i-preserved g c =
    let m = g.H.Graph.marking c.args.heap.now in
    let field = g.H.Graph.edge c.args.heap.now c.args.place in
    let i = c.loop-i.invariant in
    let s : Tries = (c.args.found.now, view_of c.args.seat.now) in
    let t : Tries = (c.loop-i.found, view_of c.loop-i.seat) in
    elim c.match-edge_at.branch [
      | in-Some w ↦ rw (w.seat-is) (rw (w.found-is) (
          let u : Tries = (w.find.new.found, view_of w.find.new.seat) in
          let scanned = w.find.ensures.scanned in (
            w.find.ensures.seat,
            (let p = scanned_parts m (w.in-Some.target ∷ []) t u scanned in let k = i.1 in omega (arith, p, k)),
            scanned_field m field c.loop-i.i (Some w.in-Some.target) s t u (sym c.edge_at.ensures ∙ w.in-Some.is) i.2
                scanned,
          )))
      | in_default w ↦ rw (w.seat-is) (rw (w.found-is) (
        i.0,
        i.1,
        scanned_field m field c.loop-i.i None s t t
            (sym c.edge_at.ensures ∙ nothing c.edge_at.result w.in_default.not-Some) i.2 (scanned_none m t),
      ))
    ]

pub returns-clause-scanned : goal.returns-clause-scanned
returns-clause-scanned g c =
    let field : ℕ → Option (ℕ × ℕ) = g.H.Graph.edge c.args.heap.now c.args.place in
    let end : c.loop-i.i ≡ c.edge_count-i-end.result = search rules in
    subst (λ (l : List (ℕ × ℕ)). HasScanned (g.H.Graph.marking c.args.heap.now) l
    (c.args.found.now, view_of c.args.seat.now) (c.loop-i.found, view_of c.loop-i.seat))
    (ap (first_targets field) end
    ∙ all_fields field c.edge_count-i-end.result 8 c.edge_count-i-end.ensures.most c.edge_count-i-end.ensures.past)
    c.loop-i.invariant.2
