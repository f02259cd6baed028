use Rattle.std.proofs.Common.{◌≡◌, ℕ, Bool, Some, ap, length, get_or, sym, refl, ◌∙◌, arith}
use Rattle.std.proofs.lemmas.Option.{slice_get_read, slice_get_within}
use Rattle.heap_core.specs.Shape.{is_marking}
use Rattle.par_mark.proofs.HeapCells.{inside}
use Rattle.par_mark.proofs.heap.MarkedHeapGraph.is_marking.Goals as goal

pub index-requires : goal.index-requires
index-requires c =
    let m = c.args.self.now in
    let made = (inside m.heap.now c.args.place c.requires).0 in
    let within = slice_get_within m.marking.items c.args.place.0 _ (m.known c.args.place.0 c.args.place.1 made) in
    omega (arith, m.marking.ok.0, c.arena.ensures)

pub returns : goal.returns
returns c = λ slot.
    let m = c.args.self.now in
    let a : ℕ = c.args.place.0 in
    let r : Bool = c.index.result.now in
    let known = m.known a slot (inside m.heap.now c.args.place c.requires).0 in
    let within = slice_get_within m.marking.items a _ known in
    let at : r ≡ get_or m.marking.items a r = c.index.ensures
    ∙ ap (λ (k : ℕ). get_or m.marking.items k r) c.arena.ensures in
    let read = slice_get_read m.marking.items (length m.marking.items) a r refl within at in
    let same : Some (is_marking m.heap.now.shape (a, slot)) ≡ Some r = sym known ∙ read in
    cc same
