use Rattle.gz_names.proofs.ZoneCounts.{fewer_zones}
use Rattle.judge.specs.Edges.{IsNoted}
use Rattle.judge.proofs.Parts.{within_of}
use Rattle.judge.proofs.Results.{none_there}
use Rattle.judge.proofs.ZoneEdges.{leads_more}
use Rattle.judge.proofs.edges.zone_apart.Goals as goal

pub zones-smaller : goal.zones-smaller
zones-smaller c = fewer_zones c.zones.rest.bits c.remove.new.self.bits c.in-Some.zone c.remove.ensures
    c.in-Some.ensures.some

pub zones-preserved : goal.zones-preserved
zones-preserved c =
    let none = none_there c.first-in-Some.result (cc (c.is_some.ensures, c.if-is_some.false))
    c.first-in-Some.ensures.none in record {
      within = λ z h. c.zones.invariant.within z ((c.remove.ensures z).0 h).0;
      so = leads_more (IsNoted c.args.edges.now) c.args.group c.zones.rest c.remove.new.self c.in-Some.zone
          (λ b h. (c.reached_in.ensures b).0
          (within_of c.reached_in.result c.args.group c.without.result none c.without.ensures b h))
          c.remove.ensures c.zones.invariant.so;
    }
