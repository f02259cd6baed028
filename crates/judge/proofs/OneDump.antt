-- A world has one dump.
use Rattle.std.proofs.Common.{◌≡◌, ◌∙◌, List, [], ◌∷◌, ◌++◌, map, sym}
use Rattle.std.specs.Cmp.{IsTotalOrder}
use Rattle.std.specs.List.{flat_map}
use Rattle.std.specs.Ordering.{ordering_then}
use Rattle.std.specs.declared.cmp.Ordering.{Ordering}
use Rattle.std.proofs.lemmas.Cmp.{on_total, then_total}
use Rattle.gz_names.specs.declared.names.Name.TheVariants.{Cell}
use Rattle.gz_names.specs.declared.dumps.DumpLine.{DumpLine}
use Rattle.gz_names.specs.declared.dumps.DumpLine.TheVariants as line
use Rattle.gz_names.specs.Order.{name_cmp, names_total}
use Rattle.colour_defs.specs.Dumps.{IsAscendingWeak, IsDump, WeakLine, cell_line, edge_lines, weak_line}
use Rattle.colour_defs.specs.World.{IsPresent, World}
use Rattle.judge.proofs.OneList.{one_list}
use Rattle.judge.proofs.OneOrder.{Ascends, one_order}

abbrev weak_cmp : WeakLine → WeakLine → Ordering
weak_cmp e d = ordering_then (name_cmp (Cell e.map) (Cell d.map)) (name_cmp e.key d.key)

weaks_total : IsTotalOrder weak_cmp
weaks_total = then_total (on_total (λ (e : WeakLine). Cell e.map) names_total)
    (on_total (λ (e : WeakLine). e.key) names_total)

ascends : (es : List WeakLine) → IsAscendingWeak es → Ascends weak_cmp es
ascends [] up = tt
ascends (e ∷ es) up = (up.0, ascends es up.1)

pub one_dump : (w : World) (xs ys : List DumpLine) → IsDump w xs → IsDump w ys → xs ≡ ys
one_dump w xs ys a b =
    let cells : a.cells ≡ b.cells = one_list (IsPresent w) a.cells b.cells a.cells_are b.cells_are in
    let weaks : a.weaks ≡ b.weaks = one_order weak_cmp weaks_total a.weaks b.weaks (ascends a.weaks a.weaks_ascend)
    (ascends b.weaks b.weaks_ascend)
    (λ e. (λ c. (b.weaks_are e).1 ((a.weaks_are e).0 c), λ c. (a.weaks_are e).1 ((b.weaks_are e).0 c))) in
    a.lines_are
    ∙ (λ i. map (cell_line w) (cells i)
    ++ (flat_map (edge_lines w.graph) (cells i) ++ (map weak_line (weaks i) ++ line.End ∷ [])))
    ∙ sym b.lines_are
