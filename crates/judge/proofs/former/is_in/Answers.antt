use Rattle.std.proofs.Common.{◌≡◌, ◌↔◌, ◌∙◌, ℕ, Bool, false, Option, Some, None, IsTrue, subst, sym}
use Rattle.gz_names.specs.Zones.{HasZone, zones_in}
use Rattle.gz_names.specs.declared.zone_sets.ZoneSet.{ZoneSet}
use Rattle.colour_defs.specs.Graph.{is_among, zone_of}
use Rattle.colour_defs.proofs.Membership.{among_from, among_to}
use Rattle.colour_defs.proofs.ZoneSets.{zones_in-has}
use Rattle.judge.proofs.former.is_in.Goals as goal

of_zone : (zones : ZoneSet) (o : Option ℕ) (z : ℕ) (r : Bool) → o ≡ Some z → (IsTrue r ↔ HasZone zones.bits z)
    → IsTrue r ↔ IsTrue (is_among (zones_in zones) o)
of_zone zones o z r e has =
    subst (λ p. IsTrue r ↔ IsTrue (is_among (zones_in zones) p)) (sym e) (
      λ t. among_from z (zones_in zones) ((zones_in-has zones z).1 (has.0 t)),
      λ t. has.1 ((zones_in-has zones z).0 (among_to z (zones_in zones) t)),
    )

of_none : (zones : ZoneSet) (o : Option ℕ) → o ≡ None → IsTrue false ↔ IsTrue (is_among (zones_in zones) o)
of_none zones o e = subst (λ p. IsTrue false ↔ IsTrue (is_among (zones_in zones) p)) (sym e) (λ t. t, λ t. t)

pub returns-in-None : goal.returns-in-None
returns-in-None c =
    of_none c.args.zones (zone_of c.args.graph.now c.args.name) (sym c.zone_of.ensures ∙ c.in-None.is)

pub returns-in-Some : goal.returns-in-Some
returns-in-Some c =
    of_zone c.args.zones (zone_of c.args.graph.now c.args.name) c.in-Some.zone c.contains.result
    (sym c.zone_of.ensures ∙ c.in-Some.is) c.contains.ensures
