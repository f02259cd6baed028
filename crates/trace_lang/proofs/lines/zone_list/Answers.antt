use Rattle.std.proofs.Common.{◌≡◌, ◌≢◌, arith, refl, ap, sym, ◌∙◌, length, Bool, false, List, ℕ, [], ◌∷◌, Some}
use Rattle.std.specs.Prelude.{◌==◌}
use Rattle.std.proofs.lemmas.Bool.{eqb-true, eqb-false}
use Rattle.gz_names.specs.Zones.{zones_in}
use Rattle.gz_names.specs.declared.zone_sets.ZoneSet.{ZoneSet}
use Rattle.gz_names.proofs.Words.{HasZone-none}
use Rattle.trace_lang.proofs.ZoneLists.{listed_first, follows_first, listed_more, follows_more, begins, follows_all}
use Rattle.trace_lang.proofs.ZoneLists.{listed_all, number_words-break}
use Rattle.trace_lang.proofs.lines.zone_list.Goals as goal

not_empty : (text : List ℕ) (t : Bool) → t ≡ (length text == 0) → t ≡ false → text ≢ []
not_empty text t e f = λ n. (let other : length text ≢ 0 = eqb-false (length text) 0 (sym e ∙ f) in other (ap length n))

no_bytes : (text : List ℕ) → length text ≡ 0 → text ≡ []
no_bytes [] e = refl
no_bytes (b ∷ text) e = absurd (omega (arith, e))

pub loop-rest-init : goal.loop-rest-init
unfolding zones_in
loop-rest-init c =
    (omega arith, listed_first 0 _ refl HasZone-none, λ other s. follows_first 0 other.bits _ HasZone-none s.2)

pub returns-in_default-clause-exact : goal.returns-in_default-clause-exact
returns-in_default-clause-exact c = λ zones s.
    let b =
    begins c.loop-rest.bits zones.bits c.loop-rest.lowest c.loop-rest.rest.now (c.loop-rest.invariant.2 zones s)
    c.loop-rest.invariant.0 (not_empty _ _ c.is_empty.ensures c.loop-rest-test.true) in
    absurd (c.in_default.ensures.exact b.zone _ b.is_next.from (omega (arith, b.is_next.below)) (number_words-break _)
    b.rest_is)

pub loop-rest-preserved : goal.loop-rest-preserved
loop-rest-preserved c =
    let h = c.in-Some.ensures.some in
    let more = c.with_zone-bits.ensures in
    let some = not_empty _ _ c.is_empty.ensures c.loop-rest-test.true in (
      omega (arith, h.1),
      listed_more _ _ _ c.in-Some.zone c.with_zone-bits.result _ _ c.loop-rest.invariant.1 h.0 h.1 h.2
          c.with_zone-bits.type_inv more,
      λ other s. follows_more _ _ _ _ c.in-Some.zone c.with_zone-bits.result _ _ c.loop-rest.invariant.1
          (c.loop-rest.invariant.2 other s) h.0 h.1 some c.in-Some.ensures.exact more,
    )

pub returns-then-bits-eq0-clause-exact : goal.returns-then-bits-eq0-clause-exact
returns-then-bits-eq0-clause-exact c = λ zones s.
    let none = no_bytes c.loop-rest.rest.now (eqb-true _ _ (sym c.is_empty.ensures ∙ c.loop-rest-test.false)) in
    let same =
    follows_all _ _ zones.bits _ _ c.loop-rest.invariant.1 (c.loop-rest.invariant.2 zones s) c.loop-rest.invariant.0
    none s.1 in
    absurd (omega (arith, s.0, same, c.if-bits-eq0.true))

pub returns-else-bits-eq0-clause-some : goal.returns-else-bits-eq0-clause-some
unfolding zones_in
returns-else-bits-eq0-clause-some c =
    let none = no_bytes c.loop-rest.rest.now (eqb-true _ _ (sym c.is_empty.ensures ∙ c.loop-rest-test.false)) in
    (omega arith, c.loop-rest.invariant.1.fits, listed_all _ _ _ _ c.loop-rest.invariant.1 c.loop-rest.invariant.0 none)

pub returns-else-bits-eq0-clause-exact : goal.returns-else-bits-eq0-clause-exact
returns-else-bits-eq0-clause-exact c = λ zones s.
    let none = no_bytes c.loop-rest.rest.now (eqb-true _ _ (sym c.is_empty.ensures ∙ c.loop-rest-test.false)) in
    let same =
    follows_all _ _ zones.bits _ _ c.loop-rest.invariant.1 (c.loop-rest.invariant.2 zones s) c.loop-rest.invariant.0
    none s.1 in
    let some : ℕ → ZoneSet = λ b. record { bits = b } in
    ap (λ b. Some (some b)) same
