use Rattle.std.proofs.Common.{ℕ, subst, sym}
use Rattle.gz_names.specs.Zones.{HasZone}
use Rattle.gz_names.specs.declared.zone_sets.ZoneSet.{ZoneSet}
use Rattle.gz_names.proofs.ZoneCounts.{fewer_zones}
use Rattle.judge.specs.Edges.{IsNoted}
use Rattle.judge.proofs.edges.edge_into.Goals as goal

pub zones-init : goal.zones-init
zones-init c = record { within = λ z h. h; none = λ a b ha hb e. ha }

pub zones-smaller : goal.zones-smaller
zones-smaller c = fewer_zones c.zones.rest.bits c.remove.new.self.bits c.in-Some.zone c.remove.ensures
    c.in-Some.ensures.some

pub zones-preserved : goal.zones-preserved
zones-preserved c = record {
  within = λ z h. c.zones.invariant.within z ((c.remove.ensures z).0 h).0;
  none = λ a b ha hb e. (c.remove.ensures a).1 (
    c.zones.invariant.none a b ha hb e,
    λ same. c.in_default-first.ensures.none b ((c.intersection.ensures b).1 (
      subst (λ (s : ZoneSet). HasZone s.bits b) (sym c.targets_of.ensures)
          (subst (λ (z : ℕ). IsNoted c.args.edges.now z b) same e),
      hb,
    )),
  );
}

pub returns-in-Some-first-clause-some : goal.returns-in-Some-first-clause-some
returns-in-Some-first-clause-some c =
    let both = (c.intersection.ensures c.in-Some-first.target).0 c.in-Some-first.ensures.some in (
      c.zones.invariant.within c.in-Some.zone c.in-Some.ensures.some,
      both.1,
      subst (λ (s : ZoneSet). HasZone s.bits c.in-Some-first.target) c.targets_of.ensures both.0,
    )

pub returns-clause-none : goal.returns-clause-none
returns-clause-none c = λ a b ha hb e. c.in_default.ensures.none a (c.zones.invariant.none a b ha hb e)
