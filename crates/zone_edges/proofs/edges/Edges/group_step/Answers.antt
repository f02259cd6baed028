use Rattle.std.proofs.Common.{subst, sym, refl, inl, inr}
use Rattle.gz_names.specs.Zones.{HasZone}
use Rattle.gz_names.proofs.Words.{HasZone-none}
use Rattle.zone_edges.proofs.edges.Edges.group_step.Goals as goal

pub invariant_of-self : goal.invariant_of-self
invariant_of-self c = record {
  search = c.visit.ensures.search;
  idle = c.visit.ensures.idle;
  stepped_seen = λ z h. elim ((c.union-self-inside.ensures z).0 h) [
    | inl old ↦ c.visit.ensures.follows.seen z (c.self.invariant.stepped_seen z old)
    | inr new ↦ subst (λ y. HasZone c.visit.new.self.seen.bits y) (sym ((c.only.ensures z).0 new)) c.visit.ensures.seen
  ];
  fresh = λ e. absurd (HasZone-none c.args.zone
      (subst (λ s. HasZone s c.args.zone) e
      ((c.union-self-inside.ensures c.args.zone).1 (inr ((c.only.ensures c.args.zone).1 refl)))));
  sized = c.self.invariant.sized;
}
