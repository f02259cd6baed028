use Rattle.std.proofs.Common.{◌∙◌, refl, sym}
use Rattle.colour_defs.proofs.Lists.{contains_at}
use Rattle.judge.proofs.LeftOut.{goes_first, goes_last, goes_more}
use Rattle.judge.proofs.preparation.Preparation.blacken.Goals as goal

pub loop-place-init : goal.loop-place-init
loop-place-init c =
    goes_first c.args.graph.now c.args.name c.args.self.now _ c.add.new.self refl refl c.clear.ensures.items
    c.in_ok-add.ensures

pub visit-requires : goal.visit-requires
visit-requires c =
    c.loop-place.invariant.there c.in-Some.name (contains_at c.loop-place.self.found.items c.loop-place.place
    c.in-Some.name (sym c.found_at.ensures ∙ c.in-Some.is))

pub loop-place-preserved : goal.loop-place-preserved
loop-place-preserved c =
    goes_more c.args.graph.now c.args.name c.args.self.now c.loop-place.self c.visit.new.self c.loop-place.place
    c.in-Some.name (sym c.found_at.ensures ∙ c.in-Some.is) c.loop-place.invariant c.in_ok-visit.ensures

pub returns-in_default-clause-zones : goal.returns-in_default-clause-zones
returns-in_default-clause-zones c = c.loop-place.invariant.zones_are

pub returns-in_default-clause-black : goal.returns-in_default-clause-black
returns-in_default-clause-black c =
    goes_last c.args.graph.now c.args.name c.args.self.now c.loop-place.self c.loop-place.place
    (sym c.found_at.ensures ∙ c.in_default.is) c.loop-place.invariant
