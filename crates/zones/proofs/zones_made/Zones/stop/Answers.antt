use Rattle.std.proofs.Common.{◌≡◌, ◌<◌, ◌∙◌, inl, inr, Some, length, length-set, refl, sym, ap, subst, arith}
use Rattle.std.proofs.Common.{slice_get, slice_set}
use Rattle.std.proofs.lemmas.Bool.{cases_eq}
use Rattle.gz_names.specs.Zones.{HasZone}
use Rattle.gz_names.proofs.ZoneCounts.{fewer_zones}
use Rattle.zones.specs.declared.states.State.TheVariants.{NoGC}
use Rattle.zones.proofs.Stopping.{set_here, set_there}
use Rattle.zones.proofs.zones_made.Zones.stop.Goals as goal

pub loop-zone-smaller : goal.loop-zone-smaller
loop-zone-smaller c = fewer_zones c.loop-zone.left.bits c.remove.new.self.bits c.in-Some.zone c.remove.ensures
    c.in-Some.ensures.some

pub loop-zone-preserved : goal.loop-zone-preserved
loop-zone-preserved c =
    let zone = c.in-Some.zone in
    let old = c.loop-zone.self.states in
    let inside : HasZone c.args.zones.bits zone = c.loop-zone.invariant.left zone c.in-Some.ensures.some in
    let made : zone < length old = omega (arith, c.requires zone inside, c.loop-zone.invariant.count) in
    let now : c.put_into.new.self.states ≡ slice_set old zone NoGC = ap (λ s. s.states) c.put_into.ensures in
    record {
      left = λ z h. c.loop-zone.invariant.left z ((c.remove.ensures z).0 h).0;
      stopped = λ z h gone. elim (cases_eq z zone) [
        | inl e ↦ subst (λ k. slice_get c.put_into.new.self.states k ≡ Some NoGC) (sym e)
            (ap (λ xs. slice_get xs zone) now ∙ set_here old zone NoGC made)
        | inr n ↦ ap (λ xs. slice_get xs z) now ∙ (set_there old zone z NoGC n
            ∙ c.loop-zone.invariant.stopped z h (λ l. gone ((c.remove.ensures z).1 (l, n))))
      ];
      others = λ z out. ap (λ xs. slice_get xs z) now
          ∙ (set_there old zone z NoGC (λ e. out (subst (λ k. HasZone c.args.zones.bits k) (sym e) inside))
          ∙ c.loop-zone.invariant.others z out);
      count = ap (λ xs. length xs) now ∙ (length-set old zone NoGC ∙ c.loop-zone.invariant.count);
      comps = ap (λ s. s.comps) c.put_into.ensures ∙ c.loop-zone.invariant.comps;
    }
