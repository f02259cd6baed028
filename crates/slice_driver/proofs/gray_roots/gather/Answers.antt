use Rattle.std.proofs.Common.{sym, subst}
use Rattle.gz_names.specs.Zones.{HasZone}
use Rattle.slice_driver.specs.GrayRoots.{Gathers, IsFor}
use Rattle.slice_driver.proofs.beginning.GatheredRoots.{gathers_for, gathers_out}
use Rattle.slice_driver.proofs.gray_roots.gather.Goals as goal

pub returns-in_ok-push-clause-gathered : goal.returns-in_ok-push-clause-gathered
returns-in_ok-push-clause-gathered c =
    let h = c.args.heap.now.shape in
    let old = c.args.found.now.items in
    subst (λ new. Gathers (IsFor h c.args.zones c.args.cell c.args.place) old new) (sym c.in_ok-push.ensures.items)
    (gathers_for h c.args.zones c.args.cell c.args.place c.zone_at-zone.result old c.zone_at-zone.ensures
    (c.contains.ensures.0 c.if-contains.true))

pub returns-else-contains-clause-gathered : goal.returns-else-contains-clause-gathered
returns-else-contains-clause-gathered c = gathers_out c.args.heap.now.shape c.args.zones c.args.cell c.args.place
    c.args.found.now.items
    (λ has. absurd (let yes =
    c.contains.ensures.1 (subst (λ z. HasZone c.args.zones.bits z) (sym c.zone_at-zone.ensures) has) in
    let no = c.if-contains.false in cc (yes, no)))
