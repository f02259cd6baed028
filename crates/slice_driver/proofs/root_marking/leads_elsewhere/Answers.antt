use Rattle.std.proofs.Common.{◌≡◌, Bool, not, Option, None, Some, IfNone, IsTrue, is_some, ap}
use Rattle.zone_edges.proofs.Looking.{stands_in}
use Rattle.slice_driver.proofs.root_marking.leads_elsewhere.Goals as goal

none_is : {T P : Type 0} (o : Option T) (b : Bool) → is_some o ≡ not b → IsTrue b → IfNone o P → P
none_is None b e is p = p
none_is (Some x) b e is p = absurd (cc (e, ap not is))

pub returns : goal.returns
returns c = λ is i u x at to within.
    let s = c.args.heap.now.shape in
    let w = stands_in s c.args.zone i u c.requires c.target_zones.ensures.apart at in
    let hit = c.target_zones.ensures.targets u x
    (record { index = i; listed = at; kind_is = w.kind_is; zone_is = w.zone_is; target_is = to }) in
    none_is c.first.result c.is_none.result c.is_none.ensures is c.first.ensures.none _
    ((c.intersection.ensures _).1 (hit, within))
