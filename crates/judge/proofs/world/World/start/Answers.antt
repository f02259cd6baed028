use Rattle.std.proofs.Common.{◌≡◌, ◌∙◌, None, Option, Some, ap, subst, sym}
use Rattle.std.specs.BTreeSet.{BTreeSet}
use Rattle.gz_names.specs.Zones.{zones_in}
use Rattle.gz_names.specs.declared.names.Name.{Name}
use Rattle.gz_names.specs.declared.zone_sets.ZoneSet.{ZoneSet}
use Rattle.judge.specs.Bounds.{IsFirstTally, marking_tally, tally_of}
use Rattle.judge.specs.Former.{Keeps}
use Rattle.judge.specs.Starts.{IsBegun}
use Rattle.judge.specs.Stages.{collecting, preparing, shown, stage_in, stage_of}
use Rattle.judge.specs.Walks.{left_out_of, walks_in}
use Rattle.judge.specs.declared.former.Former.{Former}
use Rattle.judge.specs.declared.world.World.{World}
use Rattle.judge.proofs.Stages.{not_preparing, started_is}
use Rattle.judge.proofs.world.World.start.Goals as goal

pub returns-in_default : goal.returns-in_default
returns-in_default c = λ zones e.
    absurd (not_preparing c.args.self.now.phase zones (λ q is. c.in_default.not-Preparing q is) e)

pub returns : goal.returns
returns c = λ zones e.
    let before = c.args.self.now in
    let after = c.enter.new.self in
    let collection = c.in_ok-collection.collection in
    let first = c.in-Preparing.preparation.zones in
    let same : preparing first ≡ preparing zones = sym (ap stage_of c.in-Preparing.is) ∙ e in
    let zones_are : first ≡ zones = cc same in
    let stage : stage_in collection ≡ collecting zones zones None =
    c.in_ok-collection.ensures.stage ∙ ap (λ (z : ZoneSet). collecting z z None) zones_are in
    let tally : tally_of after.tally ≡ tally_of c.in_ok-self.field-0 =
    ap (λ (w : World). tally_of w.tally) c.enter.ensures in
    let counted = c.in_ok-self.ensures.is
    ∙ ap (λ (z : ZoneSet). marking_tally c.args.graph.now (zones_in z) before.places (tally_of before.tally))
    zones_are in
    let counts = subst (λ (z : ZoneSet). IsFirstTally c.args.graph.now z before.places (tally_of before.tally)
    (tally_of c.in_ok-self.field-0)) zones_are c.in_ok-self.ensures.first in record {
      walks = walks_in collection;
      begun = subst (λ (o : Option (BTreeSet Name)). IsBegun c.args.graph.now (zones_in zones) before.places o
          (walks_in collection)) (sym (ap left_out_of c.in-Preparing.is)) (subst (λ (z : ZoneSet). IsBegun
          c.args.graph.now (zones_in z) before.places (Some c.in-Preparing.preparation.black)
          (walks_in collection)) zones_are c.in_ok-collection.ensures.begun);
      keeps = subst (λ (f : Former). Keeps before.former f) (sym (ap (λ (w : World). w.former) c.enter.ensures))
          c.keep.ensures;
      counted = λ w p stands. tally ∙ counts w p stands;
      new_is = started_is (shown before) (shown after) zones (stage_in collection) (walks_in collection)
          (ap shown c.enter.ensures) stage counted;
    }
