use Rattle.std.proofs.Common.{◌∙◌, ◌↔◌, ℕ, ◌≤◌, List, length, take, ap, arith, not, subst}
use Rattle.std.proofs.lemmas.List.{take_all}
use Rattle.gz_names.specs.Zones.{HasZone}
use Rattle.gz_names.specs.declared.zone_sets.ZoneSet.{ZoneSet}
use Rattle.judge.specs.Parts.{AreParts, ArePartsSoFar}
use Rattle.judge.proofs.Parts.{parts_more, parts_none, parts_not, parts_of}
use Rattle.judge.proofs.Results.{none_there, not_there}
use Rattle.judge.proofs.checks.are_parts.Goals as goal

parts_left : (zones seen rest : ZoneSet) (groups : List ZoneSet) (i : ℕ) → length groups ≤ i
    → ArePartsSoFar zones seen (take i groups)
    → ((z : ℕ) → HasZone rest.bits z ↔ (HasZone zones.bits z × ¬ HasZone seen.bits z)) → AreParts zones groups → (z : ℕ)
    → HasZone rest.bits z → ⊥
parts_left zones seen rest groups i le so without parts z h =
    let left = (without z).0 h in
    let all : ArePartsSoFar zones seen groups = subst (λ gs. ArePartsSoFar zones seen gs) (take_all i groups le) so in
    left.1 ((all.seen_are z).1 (parts.all z left.0))

pub loop-group-init : goal.loop-group-init
loop-group-init c = parts_none c.args.zones _ c.new-seen.ensures.none

pub loop-group-preserved : goal.loop-group-preserved
loop-group-preserved c =
    parts_more c.args.zones c.loop-group.seen _ c.args.groups.now c.loop-group.group-index _ c.loop-group-test.true
    c.loop-group.invariant (c.fits.ensures.0 c.if-not-fits.false) c.union-seen.ensures

pub returns-then-not-fits : goal.returns-then-not-fits
returns-then-not-fits c = (
  λ t. absurd (cc t),
  λ parts. absurd (parts_not c.args.zones c.loop-group.seen c.args.groups.now c.loop-group.group-index _
      c.loop-group-test.true c.loop-group.invariant
      (λ f. let t = c.fits.ensures.1 f in cc (t, c.if-not-fits.true)) parts),
)

pub returns : goal.returns
returns c = (
  λ t. parts_of c.args.zones c.loop-group.seen c.without.result c.args.groups.now c.loop-group.group-index (omega arith)
      c.loop-group.invariant (none_there c.first.result (c.is_none.ensures ∙ ap not t) c.first.ensures.none)
      c.without.ensures,
  λ parts. not_there c.first.result c.is_none.result c.is_none.ensures c.first.ensures.some
      (parts_left c.args.zones c.loop-group.seen c.without.result c.args.groups.now c.loop-group.group-index
      (omega arith) c.loop-group.invariant c.without.ensures parts),
)
